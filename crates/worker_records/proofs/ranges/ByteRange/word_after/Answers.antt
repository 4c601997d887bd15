use Rattle.std.proofs.Common.{ℕ, ◌+◌, ◌%◌, ◌<◌, ◌≤◌, ◌⊎◌, inl, inr, arith}
use Rattle.worker_records.proofs.WordLemmas.{changed_by}
use Rattle.worker_records.proofs.ranges.ByteRange.word_after.Goals as goal

further : (a k i len : ℕ) → i ≤ len → (k < a) ⊎ (a + len ≤ k) → (k < a) ⊎ (a + i ≤ k)
further a k i len le (inl lt) = inl lt
further a k i len le (inr past) = inr (omega arith)

pub returns : goal.returns
returns g c =
    let inv = c.loop-i.invariant in
    let end = c.loop-i-test.false in
    let upto = c.loop-i.auto.i-end in
    changed_by (λ i old. (g.L.Lifeguard.rules c.args.guard).range_state c.args.kind old) c.args.self.addr c.args.self.len c.args.word c.loop-i.after c.requires.narrow inv.wide
    (λ k lt. inv.done k (let n = c.requires.narrow in omega (arith, end, lt, n)))
    (λ k lt beside. inv.rest k lt (further (c.args.self.addr % 16) k c.loop-i.i c.args.self.len (omega (arith, upto)) beside))
