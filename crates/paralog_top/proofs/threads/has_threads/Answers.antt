use Rattle.std.proofs.Common.{ℕ, ◌≤◌, map, string_bytes, subst, arith}
use Rattle.std.proofs.lemmas.Bool.{false≢true}
use Rattle.paralog_top.proofs.Threading.{asking}
use Rattle.paralog_top.proofs.threads.has_threads.Goals as goal

pub returns-in-1 : goal.returns-in-1
returns-in-1 c = (
  (λ yes. absurd (false≢true yes)),
  λ asks.
      let more : 2 ≤ c.in-Some.threads =
      asking (map string_bytes c.args.operands.now) c.in-Some.field-0-0 c.in-Some.threads c.in-Some.ensures.0
      c.in-Some.ensures.1 asks in
      let few : 2 ≤ 1 = subst (λ (n : ℕ). 2 ≤ n) c.in-1.is more in
      absurd (omega (arith, few)),
)
