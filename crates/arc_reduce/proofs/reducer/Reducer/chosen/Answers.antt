use Rattle.std.proofs.Common.{◌≡◌, ℕ, ◌+◌, ◌<◌, ◌≤◌, List, length, length-set, set, get_or-set_same, get_or-set_other, Option, None, slice_index_or, sym, ap, ◌∙◌, subst, arith, lt_of_not-le}
use mathlib.Core.Logic.{dite}
use native.Mathlib.Decide.{ℕ_discrete, dec_le}
use Rattle.arc_reduce.specs.Reduction.{IsChosen}
use Rattle.arc_reduce.specs.Taken.{next_number, with_line}
use Rattle.arc_reduce.proofs.Deciding.{past_chosen}
use Rattle.arc_reduce.proofs.reducer.Reducer.chosen.Goals as goal

pub loop-u-preserved : goal.loop-u-preserved
loop-u-preserved c = (
  ap (λ (z : List (Option ℕ)). length z) c.set.ensures ∙ (length-set c.loop-u.kept c.loop-u.u c.choice.result ∙ c.loop-u.invariant.0),
  λ v le. ap (λ (z : List (Option ℕ)). slice_index_or z v None) c.set.ensures ∙ (get_or-set_other c.loop-u.kept c.loop-u.u v c.choice.result None (λ e. (let b : c.loop-u.u + 1 ≤ v = le in absurd (omega arith))) ∙ c.loop-u.invariant.1 v (let b : c.loop-u.u + 1 ≤ v = le in omega arith)),
  λ full may v low. dite (ℕ_discrete v c.loop-u.u)
      (λ e. subst (λ (z : ℕ × Option ℕ). IsChosen (with_line full c.args.line.now c.args.candidates.now) z.0 c.args.hart (next_number full c.args.line.now) (slice_index_or c.args.candidates.now z.0 None) z.1)
      (λ d. (sym e d, sym (ap (λ (z : List (Option ℕ)). slice_index_or z v None) c.set.ensures ∙ (ap (λ (z : ℕ). slice_index_or (set c.loop-u.kept c.loop-u.u c.choice.result) z None) e ∙ get_or-set_same c.loop-u.kept c.loop-u.u c.choice.result None (let l : length c.loop-u.kept ≡ 8 = c.loop-u.invariant.0 in let b : c.loop-u.u < 8 = omega (arith, c.requires.taken.1.harts) in omega arith))) d))
      (c.choice.ensures full may))
      (λ ne. subst (λ (z : Option ℕ). IsChosen (with_line full c.args.line.now c.args.candidates.now) v c.args.hart (next_number full c.args.line.now) (slice_index_or c.args.candidates.now v None) z)
      (sym (ap (λ (z : List (Option ℕ)). slice_index_or z v None) c.set.ensures ∙ get_or-set_other c.loop-u.kept c.loop-u.u v c.choice.result None ne))
      (c.loop-u.invariant.2 full may v (let b : v < c.loop-u.u + 1 = low in let o : v ≡ c.loop-u.u → ⊥ = ne in omega arith))),
)

pub returns : goal.returns
returns c full may v = dite (dec_le c.loop-u.u v)
    (λ le. past_chosen c.args.self.now full c.args.line.now c.args.candidates.now may c.args.hart (next_number full c.args.line.now) v (slice_index_or c.loop-u.kept v None) (let z : c.args.self.now.harts ≤ c.loop-u.u = c.loop-u-test.false in omega arith) (c.loop-u.invariant.1 v le))
    (λ no. c.loop-u.invariant.2 full may v (lt_of_not-le no))
