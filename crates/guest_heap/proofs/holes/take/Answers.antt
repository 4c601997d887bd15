use Rattle.std.proofs.Common.{ℕ, ◌<◌, ◌≤◌, length, arith, subst, sym, List}
use Rattle.guest_heap.specs.declared.holes.Hole.{Hole}
use Rattle.guest_heap.specs.Holes.{Loses, room}
use Rattle.guest_heap.proofs.Edits.{lose_whole, lose_front, lowest_place, no_place, in_at, read_start, read_end}
use Rattle.guest_heap.proofs.holes.take.Goals as goal

pub returns-in_err-index-clause-none : goal.returns-in_err-index-clause-none
returns-in_err-index-clause-none c =
    rw c.from_residual.ensures (λ unit. no_place c.args.holes.now.items c.args.need unit c.requires.apart c.requires.some
    (subst (λ (xs : List Hole). (k : ℕ) → k < length xs → room xs k < c.args.need) c.deref.ensures.value c.in_err-index.ensures.none))

pub returns-then-hole-need-clause-all : goal.returns-then-hole-need-clause-all
returns-then-hole-need-clause-all c =
    let holes = c.args.holes.now.items in
    let i = c.in_ok-index.index in
    let within : i < length holes = subst (λ (xs : List Hole). i < length xs) c.deref.ensures.value c.in_ok-index.ensures.within in
    let fits : c.args.need ≤ room holes i = subst (λ (xs : List Hole). c.args.need ≤ room xs i) c.deref.ensures.value c.in_ok-index.ensures.fits in
    let start = read_start holes i c.index-hole.result.now c.index-hole.ensures within in
    λ unit from before. in_at holes i unit within (omega (arith, start, from)) (omega (arith, start, fits, before))

pub returns-then-hole-need-clause-lowest : goal.returns-then-hole-need-clause-lowest
returns-then-hole-need-clause-lowest c =
    let holes = c.args.holes.now.items in
    let i = c.in_ok-index.index in
    let within : i < length holes = subst (λ (xs : List Hole). i < length xs) c.deref.ensures.value c.in_ok-index.ensures.within in
    let shorts : (k : ℕ) → k < i → room holes k < c.args.need = subst (λ (xs : List Hole). (k : ℕ) → k < i → room xs k < c.args.need) c.deref.ensures.value c.in_ok-index.ensures.first in
    let start = read_start holes i c.index-hole.result.now c.index-hole.ensures within in
    λ unit all. omega (arith, start, lowest_place holes i c.args.need unit c.requires.apart within c.requires.some shorts all)

pub returns-then-hole-need-clause-loses : goal.returns-then-hole-need-clause-loses
returns-then-hole-need-clause-loses c =
    let holes = c.args.holes.now.items in
    let i = c.in_ok-index.index in
    let within : i < length holes = subst (λ (xs : List Hole). i < length xs) c.deref.ensures.value c.in_ok-index.ensures.within in
    subst (λ (new : List Hole). Loses holes new c.index-hole.result.now.start c.args.need) (sym c.remove.ensures.items)
    (lose_whole holes i c.args.need c.index-hole.result.now c.requires.apart within c.index-hole.ensures c.if-hole-need.true)

pub returns-else-hole-need-clause-all : goal.returns-else-hole-need-clause-all
returns-else-hole-need-clause-all c =
    let holes = c.args.holes.now.items in
    let i = c.in_ok-index.index in
    let within : i < length holes = subst (λ (xs : List Hole). i < length xs) c.deref.ensures.value c.in_ok-index.ensures.within in
    let fits : c.args.need ≤ room holes i = subst (λ (xs : List Hole). c.args.need ≤ room xs i) c.deref.ensures.value c.in_ok-index.ensures.fits in
    let start = read_start holes i c.index-hole.result.now c.index-hole.ensures within in
    λ unit from before. in_at holes i unit within (omega (arith, start, from)) (omega (arith, start, fits, before))

pub returns-else-hole-need-clause-lowest : goal.returns-else-hole-need-clause-lowest
returns-else-hole-need-clause-lowest c =
    let holes = c.args.holes.now.items in
    let i = c.in_ok-index.index in
    let within : i < length holes = subst (λ (xs : List Hole). i < length xs) c.deref.ensures.value c.in_ok-index.ensures.within in
    let shorts : (k : ℕ) → k < i → room holes k < c.args.need = subst (λ (xs : List Hole). (k : ℕ) → k < i → room xs k < c.args.need) c.deref.ensures.value c.in_ok-index.ensures.first in
    let start = read_start holes i c.index-hole.result.now c.index-hole.ensures within in
    λ unit all. omega (arith, start, lowest_place holes i c.args.need unit c.requires.apart within c.requires.some shorts all)

pub returns-else-hole-need-clause-loses : goal.returns-else-hole-need-clause-loses
returns-else-hole-need-clause-loses c =
    let holes = c.args.holes.now.items in
    let i = c.in_ok-index.index in
    let within : i < length holes = subst (λ (xs : List Hole). i < length xs) c.deref.ensures.value c.in_ok-index.ensures.within in
    let fits : c.args.need ≤ room holes i = subst (λ (xs : List Hole). c.args.need ≤ room xs i) c.deref.ensures.value c.in_ok-index.ensures.fits in
    let start = read_start holes i c.index-hole.result.now c.index-hole.ensures within in
    let end = read_end holes i c.index-hole.result.now c.index-hole.ensures within in
    lose_front holes i c.args.need c.index-hole.result.now c.requires.apart within c.index-hole.ensures (omega (arith, fits, start, end, c.if-hole-need.false, c.requires.some))
