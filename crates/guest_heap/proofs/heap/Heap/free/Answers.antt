use Rattle.std.proofs.Common.{◌≡◌, ℕ, ◌+◌, ◌<◌, List, length, get_or, arith, sym, ap, subst, ◌∙◌, Some, None}
use Rattle.std.proofs.lemmas.List.{get_or_read}
use Rattle.guest_heap.specs.Blocks.{asked, changed}
use Rattle.guest_heap.specs.Tiled.{units}
use Rattle.guest_heap.proofs.Blocks.{asked_at, asked_set, size_of_some}
use Rattle.guest_heap.proofs.Tiling.{tiled_give}
use Rattle.guest_heap.proofs.heap.Heap.free.Goals as goal

pub invariant_of-self-2 : goal.invariant_of-self-2
invariant_of-self-2 c =
    let sizes = c.self.inside.sizes.items in
    let unit = c.in-Some.unit in
    let within : unit < length sizes = omega (arith, c.in-Some.ensures.within, c.self.invariant.all_units) in
    let live : 0 < get_or sizes unit 0 = subst (λ (xs : List ℕ). 0 < get_or xs unit 0) c.deref.ensures.value c.in-Some.ensures.live in
    let read : c.index-size.result.now ≡ get_or sizes unit 0 = get_or_read sizes unit c.index-size.result.now within c.index-size.ensures 0 in
    let many : c.div_ceil.result ≡ units c.index-size.result.now = omega arith in
    tiled_give sizes c.self.inside.holes.items _ unit (unit + c.div_ceil.result) c.self.invariant live (ap (λ (n : ℕ). unit + n) (many ∙ ap units read)) c.in_ok-give.ensures.gains

pub returns-clause-size : goal.returns-clause-size
returns-clause-size c =
    let sizes = c.self.inside.sizes.items in
    let unit = c.in-Some.unit in
    let within : unit < length sizes = omega (arith, c.in-Some.ensures.within, c.self.invariant.all_units) in
    let live : 0 < get_or sizes unit 0 = subst (λ (xs : List ℕ). 0 < get_or xs unit 0) c.deref.ensures.value c.in-Some.ensures.live in
    let read : c.index-size.result.now ≡ get_or sizes unit 0 = get_or_read sizes unit c.index-size.result.now within c.index-size.ensures 0 in
    ap (λ (size : ℕ). Some size) read ∙ sym (size_of_some _ live) ∙ sym (asked_at sizes unit) ∙ ap (asked sizes) (sym c.in-Some.ensures.place)
    ∙ ap (λ (xs : List ℕ). asked xs c.args.a) c.self.view_is

pub returns-clause-live : goal.returns-clause-live
returns-clause-live c =
    let sizes = c.self.inside.sizes.items in
    let unit = c.in-Some.unit in
    let within : unit < length sizes = omega (arith, c.in-Some.ensures.within, c.self.invariant.all_units) in
    asked_set sizes unit 0 c.args.a within c.in-Some.ensures.place ∙ ap (λ (xs : List ℕ). changed (asked xs) c.args.a None) c.self.view_is
