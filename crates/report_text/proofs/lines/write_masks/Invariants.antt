use Rattle.std.proofs.Common.{◌≡◌, ◌++◌, drop}
use Rattle.std.specs.Prelude.{string_bytes}
use Rattle.std.specs.List.{enumerate_from, flat_map}
use Rattle.report_text.specs.ReportText.{hart_lines, mask_lines}
use Rattle.report_text.proofs.lines.write_masks.Given as goal

abbrev pub invariant-loop-hart : goal.invariant-loop-hart
invariant-loop-hart l = string_bytes l.out ++ flat_map (λ entry. hart_lines entry.0 entry.1) (enumerate_from l.hart (drop l.hart l.masks)) ≡ string_bytes l.initial.out ++ mask_lines l.masks
