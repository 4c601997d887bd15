use Rattle.std.proofs.Common.{◌≡◌, ◌+◌, ◌<◌, ◌≤◌, length, arith, subst, sym, ◌∙◌, List}
use Rattle.guest_heap.specs.declared.holes.Hole.{Hole}
use Rattle.guest_heap.specs.Holes.{Gains, start_of, end_of}
use Rattle.guest_heap.proofs.Edits.{gain_low, gain_high, gain_both, touch, behind, read_start, read_end}
use Rattle.guest_heap.proofs.holes.join.Goals as goal

pub returns-then-low-end : goal.returns-then-low-end
returns-then-low-end c =
    let within : c.args.index < length c.args.holes.now.items = omega (arith, c.args.holes.now.ok.0, c.requires.within) in
    gain_low _ _ _ _ c.index-low.result.now c.requires.apart within c.index-low.ensures c.requires.below c.requires.some c.if-low-end.true

pub returns-then-starts_by : goal.returns-then-starts_by
returns-then-starts_by c =
    let holes = c.args.holes.now.items in
    let within : c.args.index < length holes = omega (arith, c.args.holes.now.ok.0, c.requires.within) in
    let seen : (c.args.index + 1 < length holes) × (start_of holes (c.args.index + 1) ≤ c.args.end) =
    subst (λ (xs : List Hole). (c.args.index + 1 < length xs) × (start_of xs (c.args.index + 1) ≤ c.args.end)) c.deref.ensures.value c.if-starts_by.ensures in
    let low_start = read_start holes c.args.index c.index-low.result.now c.index-low.ensures within in
    let low_end = read_end holes c.args.index c.index-low.result.now c.index-low.ensures within in
    let touches : end_of holes c.args.index ≡ c.args.start =
    touch holes c.args.index c.args.start c.args.end c.requires.apart within c.requires.some c.requires.reaches (omega (arith, c.requires.reached, low_start, c.if-low-end.false)) c.requires.taken in
    let touched = behind holes c.args.index (c.args.index + 1) c.args.start c.args.end c.requires.apart (omega arith) seen.0 touches seen.1 c.requires.taken in
    let high_start = read_start holes (c.args.index + 1) c.index-high.result.now c.index-high.ensures seen.0 in
    subst (λ (new : List Hole). Gains holes new c.args.start c.args.end) (sym c.remove.ensures.items)
    (gain_both holes c.args.index (c.args.index + 1) c.args.start c.args.end c.index-low.result.now c.index-high.result.now c.requires.apart (omega arith) seen.0
    c.index-low.ensures c.index-high.ensures c.requires.some (sym low_end ∙ touches) (sym high_start ∙ touched))

pub returns : goal.returns
returns c =
    let holes = c.args.holes.now.items in
    let within : c.args.index < length holes = omega (arith, c.args.holes.now.ok.0, c.requires.within) in
    let low_start = read_start holes c.args.index c.index-low.result.now c.index-low.ensures within in
    let low_end = read_end holes c.args.index c.index-low.result.now c.index-low.ensures within in
    let touches : end_of holes c.args.index ≡ c.args.start =
    touch holes c.args.index c.args.start c.args.end c.requires.apart within c.requires.some c.requires.reaches (omega (arith, c.requires.reached, low_start, c.if-low-end.false)) c.requires.taken in
    gain_high holes c.args.index c.args.start c.args.end c.index-low.result.now c.requires.apart within c.index-low.ensures c.requires.some (sym low_end ∙ touches)
    (subst (λ (xs : List Hole). c.args.index + 1 < length xs → c.args.end < start_of xs (c.args.index + 1)) c.deref.ensures.value c.if-starts_by.ensures)
