use Rattle.std.proofs.Common.{◌≡◌, ℕ, ◌+◌, ◌<◌, ◌≤◌, List, length, slice_index_or, set, get_or, None, Option, arith, sym, ap, subst, get_or-set_same, get_or-set_other, length-set, ◌∙◌}
use mathlib.Core.Logic.{dite}
use native.Mathlib.Decide.{ℕ_discrete}
use Rattle.pl_event.specs.Records.{records_before}
use Rattle.pl_event.specs.Needs.{need_of}
use Rattle.pl_event.proofs.Needed.{eight_of}
use Rattle.pl_event.proofs.heads.Heads.needs_of_all.Goals as goal

pub loop-u-preserved : goal.loop-u-preserved
loop-u-preserved c = (
  ap (λ (z : List (Option ℕ)). length z) c.set.ensures ∙ (length-set c.loop-u.needs c.loop-u.u c.need.result ∙ c.loop-u.invariant.0),
  λ harts g i flow st next u l.
      let h = c.args.hart in
      let P : ℕ → Option ℕ → Type 0 = λ u o. o ≡ need_of g u h (records_before h g i + 1) in
      let low : c.loop-u.u < 8 = c.loop-u-test.true in
      let long : length c.loop-u.needs ≡ 8 = c.loop-u.invariant.0 in
      ap (λ (z : List (Option ℕ)). get_or z u None) c.set.ensures ∙ dite (ℕ_discrete u c.loop-u.u)
      (λ e. subst (λ (z : ℕ). P z (slice_index_or (set c.loop-u.needs c.loop-u.u c.need.result) z None)) (sym e)
      (subst (P c.loop-u.u) (sym (get_or-set_same c.loop-u.needs c.loop-u.u c.need.result None (omega arith))) (c.need.ensures harts g i flow st next)))
      (λ ne. subst (P u) (sym (get_or-set_other c.loop-u.needs c.loop-u.u u c.need.result None ne)) (c.loop-u.invariant.1 harts g i flow st next u (omega arith))),
)

pub returns : goal.returns
returns c harts g i flow st next = eight_of (λ u. need_of g u c.args.hart (records_before c.args.hart g i + 1)) c.loop-u.needs c.loop-u.invariant.0 (λ u l. c.loop-u.invariant.1 harts g i flow st next u (let z : 8 ≤ c.loop-u.u = c.loop-u-test.false in omega arith))
