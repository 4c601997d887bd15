use Rattle.std.proofs.Common.{◌≡◌, ◌∙◌, ℕ, Bool, List, Option, Some, None, ◌==◌, refl, sym, ap, subst}
use Rattle.std.specs.Bool.{Decides}
use Rattle.std.specs.Option.{option_eq}
use Rattle.std.proofs.lemmas.Bool.{false≢true}
use Rattle.std.proofs.lemmas.Bool.Decides.{Decides-eqb}
use Rattle.std.proofs.lemmas.Slice.Eq.{slice_eq-Decides}
use Rattle.pl_event.specs.declared.log.Line.{Line}
use Rattle.pl_event.specs.Edges.{no_arcs}
use Rattle.pl_event.specs.Numbers.{hart_of}
use Rattle.pl_event.proofs.Before.{eight}
use Rattle.arc_reduce.specs.Reduction.{AreChosen, IsChosen}
use Rattle.arc_reduce.specs.Taken.{HasTaken, MayTake, next_number, with_line}
use Rattle.arc_reduce.proofs.reducer.Reducer.keep.Goals as goal

abbrev equal : ℕ → ℕ → Bool
equal x y = x == y

number_decides : (a b : Option ℕ) → Decides (option_eq equal a b) (a ≡ b)
number_decides None None = ((λ e. refl), (λ e. refl))
number_decides None (Some y) = ((λ e. absurd (false≢true e)), (λ e. absurd cc))
number_decides (Some x) None = ((λ e. absurd (false≢true e)), (λ e. absurd cc))
number_decides (Some x) (Some y) = ((λ e. ap (λ (z : ℕ). Some z) ((Decides-eqb x y).0 e)), (λ e. (Decides-eqb x y).1 (let same : x ≡ y = cc in same)))

pub pass_bare-requires-clause-taken : goal.pass_bare-requires-clause-taken
pass_bare-requires-clause-taken c =
    let none : c.args.candidates.now ≡ no_arcs = (slice_eq-Decides number_decides c.args.candidates.now c.none-none.result c.eq.result c.eq.ensures).0 c.if-eq.true ∙ c.none-none.ensures in
    (c.requires.0, subst (MayTake c.args.self.now c.requires.0 c.args.line.now) none c.requires.1)

-- of no candidates none is kept
none_chosen : (full : List Line) (h m : ℕ) → AreChosen full h m no_arcs no_arcs
none_chosen full h m u = subst (λ (z : Option ℕ). IsChosen full u h m z z) (sym (eight None u)) refl

pub returns-then-eq-clause-ok : goal.returns-then-eq-clause-ok
returns-then-eq-clause-ok c full may =
    let line = c.args.line.now in
    let none : c.args.candidates.now ≡ no_arcs = (slice_eq-Decides number_decides c.args.candidates.now c.none-none.result c.eq.result c.eq.ensures).0 c.if-eq.true ∙ c.none-none.ensures in (
      subst (λ (z : List (Option ℕ) × List (Option ℕ)). AreChosen (with_line full line z.0) (hart_of line.what) (next_number full line) z.0 z.1) (λ d. (sym none d, sym c.none-none.ensures d))
          (none_chosen (with_line full line no_arcs) (hart_of line.what) (next_number full line)),
      subst (λ (z : List (Option ℕ)). HasTaken c.pass_bare.new.self (with_line full line z)) (sym none)
          (c.in_ok-pass_bare.ensures.ok full (subst (MayTake c.args.self.now full line) none may)),
    )
