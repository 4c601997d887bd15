use Rattle.std.proofs.Common.{◌≡◌, ◌++◌, take}
use Rattle.std.specs.Prelude.{string_bytes}
use Rattle.std.specs.List.{flat_map}
use Rattle.report_text.specs.ReportText.{report_line}
use Rattle.report_text.proofs.lines.write_reports.Given as goal

abbrev pub invariant-loop-report : goal.invariant-loop-report
invariant-loop-report l = string_bytes l.out ≡ string_bytes l.initial.out ++ flat_map report_line (take l.report-index l.reports)
