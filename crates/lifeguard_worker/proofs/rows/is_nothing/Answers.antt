use Rattle.std.proofs.Common.{◌≡◌, ◌∙◌, ℕ, Bool, Option, Some, None, ◌==◌, refl, ap}
use Rattle.std.specs.Bool.{Decides}
use Rattle.std.specs.Option.{option_eq}
use Rattle.std.proofs.lemmas.Bool.{false≢true}
use Rattle.std.proofs.lemmas.Bool.Decides.{Decides-eqb}
use Rattle.std.proofs.lemmas.Slice.Eq.{slice_eq-Decides}
use Rattle.lifeguard_worker.proofs.rows.is_nothing.Goals as goal

abbrev equal : ℕ → ℕ → Bool
equal x y = x == y

number_decides : (a b : Option ℕ) → Decides (option_eq equal a b) (a ≡ b)
number_decides None None = ((λ e. refl), (λ e. refl))
number_decides None (Some y) = ((λ e. absurd (false≢true e)), (λ e. absurd cc))
number_decides (Some x) None = ((λ e. absurd (false≢true e)), (λ e. absurd cc))
number_decides (Some x) (Some y) = ((λ e. ap (λ (z : ℕ). Some z) ((Decides-eqb x y).0 e)), (λ e. (Decides-eqb x y).1 (let same : x ≡ y = cc in same)))

pub returns : goal.returns
returns c = λ is. (slice_eq-Decides number_decides c.args.needs.now c.none.result c.eq.result c.eq.ensures).0 is ∙ c.none.ensures
