use Rattle.std.proofs.Common.{◌∙◌, ap, ◌++◌, ◌∷◌, [], List, refl}
use Rattle.guest_heap.specs.declared.holes.Hole.{Hole}
use Rattle.guest_heap.proofs.Blocks.{asked_none}
use Rattle.guest_heap.proofs.Tiling.{tiled_new}
use Rattle.guest_heap.proofs.heap.Heap.new.Goals as goal

pub invariant_of-result : goal.invariant_of-result
invariant_of-result c =
    tiled_new _ _ 65536 (c.in_ok-sizes.ensures.items_if_clones_equal (λ y h. h)) refl
    (c.in_ok-push.ensures.items ∙ ap (λ (xs : List Hole). xs ++ (record { start = 0; end = 65536 }) ∷ []) c.new-holes.ensures.items)

pub returns : goal.returns
returns c = asked_none _ 65536 (c.in_ok-sizes.ensures.items_if_clones_equal (λ y h. h))
