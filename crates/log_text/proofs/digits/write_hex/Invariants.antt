use Rattle.std.proofs.Common.{◌≡◌, ◌≤◌, false, drop, length}
use Rattle.std.specs.Prelude.{IsAscii}
use Rattle.std.specs.Fmt.{digits_onto}
use Rattle.log_grammar.specs.Spelling.{hex}
use Rattle.log_text.proofs.digits.write_hex.Given as goal

-- what is left of the number comes before the digits that are written
abbrev pub invariant-digits : goal.invariant-digits
invariant-digits l = (l.at ≤ 64) × (length l.buffer ≡ 64)
    × (digits_onto l.at 16 false l.rest (drop l.at l.buffer) ≡ hex l.n) × IsAscii (drop l.at l.buffer)

abbrev pub decreases-digits : goal.decreases-digits
decreases-digits l = l.at
