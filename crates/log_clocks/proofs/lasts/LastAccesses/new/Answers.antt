use Rattle.std.proofs.Common.{◌≡◌, ℕ, List, [], ◌∷◌, ◌++◌, get_or, refl, ap, ◌∙◌}
use Rattle.log_clocks.specs.declared.lasts.Row.{Row}
use Rattle.log_clocks.specs.inner.Rows.{in_row, zero_row}
use Rattle.log_clocks.proofs.RowLists.{zeros_at, in_zero_row, empty_indexed, empty_row}
use Rattle.log_clocks.proofs.Accesses.{nothing_last}
use Rattle.log_clocks.proofs.lasts.LastAccesses.new.Goals as goal

pub returns : goal.returns
returns c lines = nothing_last _ c.args.size lines refl (empty_indexed c.in_ok-index.index.items c.push.new.self.items zeros only)
    (λ b s u. ap (λ (z : Row). in_row z s u) (empty_row c.in_ok-index.index.items c.push.new.self.items zeros only b) ∙ in_zero_row s u)
  where
    zeros : (b : ℕ) → get_or c.in_ok-index.index.items b 0 ≡ 0
    zeros b = ap (λ (z : List ℕ). get_or z b 0) (c.in_ok-index.ensures.items_if_clones_equal (λ y h. h)) ∙ zeros_at _ b

    only : c.push.new.self.items ≡ zero_row ∷ []
    only = c.in_ok-push.ensures.items ∙ (ap (λ (xs : List Row). xs ++ c.zero.result ∷ []) c.new-rows.ensures.items ∙ ap (λ (z : Row). z ∷ []) c.zero.ensures)
