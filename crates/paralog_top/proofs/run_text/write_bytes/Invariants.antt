use Rattle.std.proofs.Common.{◌≡◌, ◌++◌, length, drop}
use Rattle.std.specs.Prelude.{string_bytes}
use Rattle.std.specs.List.{enumerate_from, flat_map}
use Rattle.paralog_top.specs.RunText.{byte_text, byte_lines}
use Rattle.paralog_top.proofs.run_text.write_bytes.Given as goal

abbrev pub invariant-loop-number : goal.invariant-loop-number
invariant-loop-number l =
    string_bytes l.out
    ++ flat_map (λ entry. byte_text (length l.bytes) entry.0 entry.1) (enumerate_from l.number (drop l.number l.bytes))
    ≡ string_bytes l.initial.out ++ byte_lines l.bytes
