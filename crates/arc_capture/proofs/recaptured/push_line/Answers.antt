use Rattle.std.proofs.Common.{◌≡◌, ◌∷◌, ◌++◌, ◌∙◌, ℕ, [], Bool, Option, Some, None, ◌==◌, refl, sym, ap, subst}
use Rattle.std.specs.Prelude.{OnOk}
use Rattle.std.specs.Bool.{Decides}
use Rattle.std.specs.Option.{option_eq}
use Rattle.std.proofs.lemmas.Bool.{false≢true}
use Rattle.std.proofs.lemmas.Bool.Decides.{Decides-eqb}
use Rattle.std.proofs.lemmas.Slice.Eq.{slice_eq-Decides}
use Rattle.pl_event.specs.declared.log.Line.{Line}
use Rattle.pl_event.specs.Edges.{no_arcs}
use Rattle.arc_capture.proofs.recaptured.push_line.Goals as goal

abbrev equal : ℕ → ℕ → Bool
equal x y = x == y

number_decides : (a b : Option ℕ) → Decides (option_eq equal a b) (a ≡ b)
number_decides None None = ((λ e. refl), (λ e. refl))
number_decides None (Some y) = ((λ e. absurd (false≢true e)), (λ e. absurd cc))
number_decides (Some x) None = ((λ e. absurd (false≢true e)), (λ e. absurd cc))
number_decides (Some x) (Some y) = ((λ e. ap (λ (z : ℕ). Some z) ((Decides-eqb x y).0 e)), (λ e. (Decides-eqb x y).1 (let same : x ≡ y = cc in same)))

pub returns-then-eq : goal.returns-then-eq
returns-then-eq c =
    let line = c.args.line in
    let none : line.arcs ≡ no_arcs = (slice_eq-Decides number_decides line.arcs c.none.result c.eq.result c.eq.ensures).0 c.if-eq.true ∙ c.none.ensures in
    subst (λ (l : Line). OnOk c.push_record.result (c.push_record.new.self ≡ c.args.lines.now ++ l ∷ [])) (ap (λ arcs. record { what = line.what; arcs = arcs }) (sym none)) c.push_record.ensures.ok
