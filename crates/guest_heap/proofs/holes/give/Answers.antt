use Rattle.std.proofs.Common.{ℕ, ◌<◌, ◌≤◌, length, subst, sym, List}
use Rattle.guest_heap.specs.declared.holes.Hole.{Hole}
use Rattle.guest_heap.specs.Holes.{Gains, start_of, end_of}
use Rattle.guest_heap.proofs.Edits.{gain_alone}
use Rattle.guest_heap.proofs.holes.give.Goals as goal

pub returns-clause-gains : goal.returns-clause-gains
returns-clause-gains c =
    let holes = c.args.holes.now.items in
    let i = c.first_reaching-index.result in
    subst (λ (new : List Hole). Gains holes new c.args.start c.args.end) (sym c.in_ok-insert.ensures.items)
    (gain_alone holes i c.args.start c.args.end c.requires.apart
    (subst (λ (xs : List Hole). i ≤ length xs) c.deref.ensures.value c.first_reaching-index.ensures.within)
    (subst (λ (xs : List Hole). (k : ℕ) → k < i → end_of xs k < c.args.start) c.deref.ensures.value c.first_reaching-index.ensures.below)
    c.requires.some
    (subst (λ (xs : List Hole). i < length xs → c.args.end < start_of xs i) c.deref-2.ensures.value c.if-starts_by.ensures))
