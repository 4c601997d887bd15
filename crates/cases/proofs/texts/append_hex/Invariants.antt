use Rattle.std.proofs.Common.{◌≡◌, take, vec_len, ◌≤◌}
use Rattle.cases.proofs.texts.append_hex.Given as goal

abbrev pub invariant-loop-digits : goal.invariant-loop-digits
invariant-loop-digits l = (vec_len l.fn.into ≤ vec_len l.into) × (take (vec_len l.fn.into) l.into.items ≡ l.fn.into.items)
