use Rattle.std.proofs.Common.{ℕ, List, [], ◌∷◌, ◌++◌, ap, sym, ◌∙◌}
use Rattle.guest_asm.proofs.Generating.{range-more}
use Rattle.guest_asm.proofs.generator.counting.Goals as goal

pub bytes-preserved : goal.bytes-preserved
bytes-preserved c = c.in_ok-push.ensures.items ∙ ap (λ (l : List ℕ). l ++ c.bytes.byte ∷ []) c.bytes.invariant ∙ sym (range-more c.bytes.byte)
