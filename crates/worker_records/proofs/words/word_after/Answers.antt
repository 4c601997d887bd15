use Rattle.std.proofs.Common.{◌≡◌, ℕ, ◌+◌, ◌%◌, ◌<◌, ◌≤◌, ◌⊎◌, inl, inr, arith}
use Rattle.pl_base.specs.Widths.{store_bytes}
use Rattle.worker_records.proofs.WordLemmas.{stored_is}
use Rattle.worker_records.proofs.words.word_after.Goals as goal

further : (a k i len : ℕ) → i ≤ len → (k < a) ⊎ (a + len ≤ k) → (k < a) ⊎ (a + i ≤ k)
further a k i len le (inl lt) = inl lt
further a k i len le (inr past) = inr (omega arith)

pub returns : goal.returns
returns g c =
    let inv = c.loop-i.invariant in
    let all : c.bytes-i-end.result ≡ store_bytes c.args.width = c.bytes-i-end.ensures in
    let end : c.bytes-i-end.result ≤ c.loop-i.i = c.loop-i-test.false in
    let upto : c.loop-i.i ≤ c.bytes-i-end.result = c.loop-i.auto.i-end in
    stored_is (g.L.Lifeguard.rules c.args.guard) c.args.mask c.args.width c.args.addr c.args.word c.loop-i.after c.requires.narrow inv.wide
    (λ k lt. inv.done k (omega arith))
    (λ k lt beside. inv.rest k lt (further (c.args.addr % 16) k c.loop-i.i (store_bytes c.args.width) (omega arith) beside))
