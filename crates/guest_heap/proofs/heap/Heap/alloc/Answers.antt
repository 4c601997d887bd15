use Rattle.std.proofs.Common.{◌≡◌, ℕ, ◌+◌, ◌-◌, ◌*◌, ◌/◌, ◌<◌, inr, List, length, arith, subst, sym, ap, ◌∙◌}
use Rattle.guest_heap.specs.Blocks.{asked, IsLive, changed, size_of}
use Rattle.guest_heap.specs.FirstFit.{IsPlace, IsFirstFit}
use Rattle.guest_heap.specs.Holes.{AllIn}
use Rattle.guest_heap.specs.Tiled.{units}
use Rattle.guest_heap.proofs.Blocks.{asked_set, size_of_some}
use Rattle.guest_heap.proofs.Tiling.{tiled_take, place_units, first_place}
use Rattle.guest_heap.proofs.heap.Heap.alloc.Goals as goal

pub returns-in_default-clause-refused : goal.returns-in_default-clause-refused
returns-in_default-clause-refused c = inr (inr (λ at place.
    let need : units c.args.n ≡ c.div_ceil.result = omega arith in
    c.in_default.ensures.none ((at - 4194304) / 16)
    (subst (λ n. AllIn c.self.inside.holes.items ((at - 4194304) / 16) n) need
    (place_units c.self.inside.sizes.items c.self.inside.holes.items c.args.n at c.self.invariant
    (subst (λ (xs : List ℕ). IsPlace (IsLive xs) c.args.n at) (sym c.self.view_is) place)))))

pub invariant_of-self-2 : goal.invariant_of-self-2
invariant_of-self-2 c =
    tiled_take c.self.inside.sizes.items c.self.inside.holes.items _ c.in-Some.unit c.args.n c.div_ceil.result c.self.invariant (omega arith) (omega arith)
    c.in-Some.ensures.all c.in-Some.ensures.loses

pub returns-clause-first : goal.returns-clause-first
returns-clause-first c =
    subst (λ (xs : List ℕ). IsFirstFit (IsLive xs) c.args.n (4194304 + 16 * c.in-Some.unit)) c.self.view_is
    (first_place c.self.inside.sizes.items c.self.inside.holes.items c.args.n c.in-Some.unit c.div_ceil.result _ c.self.invariant (omega arith) (omega arith) (omega arith)
    c.in-Some.ensures.all c.in-Some.ensures.lowest)

pub returns-clause-live : goal.returns-clause-live
returns-clause-live c =
    let within : c.in-Some.unit < length c.self.inside.sizes.items =
    omega (arith, c.self.invariant.all_units, c.self.invariant.in_heap c.in-Some.unit (c.in-Some.ensures.all c.in-Some.unit (omega arith) (omega arith))) in
    asked_set c.self.inside.sizes.items c.in-Some.unit c.args.n (4194304 + 16 * c.in-Some.unit) within (omega arith)
    ∙ ap (λ (xs : List ℕ). changed (asked xs) (4194304 + 16 * c.in-Some.unit) (size_of c.args.n)) c.self.view_is
    ∙ ap (changed (asked c.args.self.now) (4194304 + 16 * c.in-Some.unit)) (size_of_some c.args.n (omega arith))
