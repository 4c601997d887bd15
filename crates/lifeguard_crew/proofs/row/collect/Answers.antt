use Rattle.std.proofs.Common.{◌≡◌, ◌<◌, ◌+◌, ℕ, [], ◌∷◌, ◌++◌, List, length, get_or, ap, sym, ◌∙◌, subst, rules, arith, length-append}
use Rattle.std.proofs.lemmas.List.{get_or-set_other}
use Rattle.guard_table.specs.declared.seats.GuardSeat.{GuardSeat}
use Rattle.turn_worker.specs.declared.worker.HartResult.{HartResult}
use Rattle.lifeguard_crew.specs.declared.slot.Slot.TheVariants.{Idle, Ended}
use Rattle.lifeguard_crew.specs.inner.Slots.{slot_at}
use Rattle.lifeguard_crew.proofs.RowSteps.{any_default, collect_step}
use Rattle.lifeguard_crew.proofs.row.collect.Goals as goal

pub loop-h-preserved : goal.loop-h-preserved
loop-h-preserved g c =
    let from = c.loop-h.from in
    let all = c.as_mut_slice-from.result.now in
    let h = c.loop-h.h in
    let r0 = c.in-Ended.result in
    let s0 = c.in-Ended.seat in
    let results = c.loop-h.results.items in
    let seats = c.loop-h.seats.items in
    let push : c.push.new.self.items ≡ results ++ r0 ∷ [] = c.in_ok-push-in-Ended.ensures.items in
    let push' : c.push-in-Ended.new.self.items ≡ seats ++ s0 ∷ [] = c.in_ok-push-in-Ended-2.ensures.items in
    let low : h < length from = omega arith in
    let here : c.index-from-h.result ≡ slot_at from h = c.index-from-h.is ∙ any_default from h c.index-from-h.result Idle low in
    let is : slot_at all h ≡ Ended r0 s0 = sym (c.loop-h.invariant.kept h (omega arith)) ∙ sym here ∙ (search rules) in
    let step = collect_step all results seats h r0 s0 c.loop-h.invariant.results c.loop-h.invariant.seats c.loop-h.invariant.done is in
    let Done : List HartResult × List GuardSeat → Type 0 = λ p. (k : ℕ) (r : HartResult) (s : GuardSeat) → k < h + 1 → slot_at all k ≡ Ended (get_or p.0 k r) (get_or p.1 k s) in
    record {
      results = omega (arith, ap length push, length-append results (r0 ∷ []));
      seats = omega (arith, ap length push', length-append seats (s0 ∷ []));
      done = subst Done (λ i. (sym push i, sym push' i)) step;
      kept = λ k le. get_or-set_other from h k c.replace.new.dest Idle (λ e. omega arith) ∙ c.loop-h.invariant.kept k (omega arith);
    }
