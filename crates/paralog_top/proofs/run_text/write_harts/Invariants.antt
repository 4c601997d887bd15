use Rattle.std.proofs.Common.{◌≡◌, ◌++◌, drop}
use Rattle.std.specs.Prelude.{string_bytes}
use Rattle.std.specs.List.{enumerate_from, flat_map}
use Rattle.paralog_top.specs.RunText.{hart_line, hart_lines}
use Rattle.paralog_top.proofs.run_text.write_harts.Given as goal

abbrev pub invariant-loop-hart : goal.invariant-loop-hart
invariant-loop-hart l =
    string_bytes l.out
    ++ flat_map (λ entry. hart_line entry.0 entry.1) (enumerate_from l.hart (drop l.hart l.ends))
    ≡ string_bytes l.initial.out ++ hart_lines l.ends
