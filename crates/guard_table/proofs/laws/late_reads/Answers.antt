use Rattle.std.proofs.Common.{◌≤◌, ℕ, zero, suc, List, [], ◌∷◌, get_or, set, arith}
use Rattle.order_core.proofs.Progress.{read_after_see, read_after_write}
use Rattle.guard_table.proofs.StepLemmas as steps
use Rattle.guard_table.proofs.laws.late_reads.Goals as goal

-- a number set in a list to one that is not below it
raised : (l : List ℕ) (i n u : ℕ) → get_or l i 0 ≤ n → get_or l u 0 ≤ get_or (set l i n) u 0
raised [] i n u le = omega arith
raised (x ∷ xs) zero n zero le = le
raised (x ∷ xs) zero n (suc u) le = omega arith
raised (x ∷ xs) (suc i) n zero le = omega arith
raised (x ∷ xs) (suc i) n (suc u) le = raised xs i n u le

pub returns-clause-value : goal.returns-clause-value
returns-clause-value _ c s id p v a holds at may = steps.read_finds c holds.lawful s holds.core holds.represented id v at.0 at.1 p a may

pub returns-clause-looks : goal.returns-clause-looks
returns-clause-looks _ c p u n v a may le = read_after_see c v.hart p a v.written v.progress (λ x. get_or v.seen x 0) (λ x. get_or (set v.seen u n) x 0) (λ x. raised v.seen u n x le) may

pub returns-clause-advertises : goal.returns-clause-advertises
returns-clause-advertises _ c p upto v a may low = (may.0, may.1, may.2, may.3, low, may.5)

pub returns-clause-writes : goal.returns-clause-writes
returns-clause-writes _ c p q v a b may next apart = read_after_write c v.hart p q a b v.written v.progress (λ x. get_or v.seen x 0) may next.0 next.1 next.2 next.3 apart
