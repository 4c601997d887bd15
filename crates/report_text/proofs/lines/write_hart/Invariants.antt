use Rattle.std.proofs.Common.{◌≡◌, ◌++◌, drop}
use Rattle.std.specs.Prelude.{string_bytes}
use Rattle.std.specs.List.{enumerate_from, flat_map}
use Rattle.report_text.specs.ReportText.{hart_lines, marked_line}
use Rattle.report_text.proofs.lines.write_hart.Given as goal

abbrev pub invariant-loop-register : goal.invariant-loop-register
invariant-loop-register l = string_bytes l.out ++ flat_map (λ entry. marked_line l.fn.hart entry.0 entry.1) (enumerate_from l.register (drop l.register l.masks)) ≡ string_bytes l.initial.out ++ hart_lines l.fn.hart l.masks
