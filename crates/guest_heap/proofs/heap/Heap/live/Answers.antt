use Rattle.std.proofs.Common.{◌≡◌, ℕ, ◌<◌, List, length, arith, sym, ap, subst, ◌∙◌, Some, get_or}
use Rattle.std.proofs.lemmas.List.{get_or_read}
use Rattle.guest_heap.specs.Blocks.{asked}
use Rattle.guest_heap.proofs.Blocks.{asked_at, size_of_some}
use Rattle.guest_heap.proofs.heap.Heap.live.Goals as goal

pub returns : goal.returns
returns c =
    let sizes = c.self.inside.sizes.items in
    let unit = c.in_ok-unit.unit in
    let within : unit < length sizes = omega (arith, c.in_ok-unit.ensures.within, c.self.invariant.all_units) in
    let live : 0 < get_or sizes unit 0 = subst (λ (xs : List ℕ). 0 < get_or xs unit 0) c.deref.ensures.value c.in_ok-unit.ensures.live in
    let read : c.index.result.now ≡ get_or sizes unit 0 = get_or_read sizes unit c.index.result.now within c.index.ensures 0 in
    ap (λ (size : ℕ). Some size) read ∙ sym (size_of_some _ live) ∙ sym (asked_at sizes unit) ∙ ap (asked sizes) (sym c.in_ok-unit.ensures.place)
    ∙ ap (λ (xs : List ℕ). asked xs c.args.a) c.self.view_is
