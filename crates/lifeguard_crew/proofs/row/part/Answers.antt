use Rattle.std.proofs.Common.{◌≡◌, ◌<◌, ℕ, [], ◌∷◌, ◌++◌, List, length, set, get_or, ap, sym, subst, arith, length-append}
use Rattle.lifeguard_crew.specs.declared.slot.Slot.{Slot}
use Rattle.lifeguard_crew.specs.declared.slot.Slot.TheVariants.{Idle}
use Rattle.lifeguard_crew.specs.inner.Slots.{slot_at, IsSplit}
use Rattle.lifeguard_crew.proofs.RowSteps.{any_default, split_step}
use Rattle.lifeguard_crew.proofs.row.part.Goals as goal

pub loop-h-preserved : goal.loop-h-preserved
loop-h-preserved g c =
    let own = c.loop-h.own in
    let h = c.loop-h.h in
    let row = c.loop-h.row.items in
    let x = c.move_slot-slot.result in
    let push : c.push.new.self.items ≡ row ++ x ∷ [] = c.in_ok-push.ensures.items in
    let low : h < length own = omega arith in
    let here : get_or own h c.index-own-h.result ≡ slot_at own h = any_default own h c.index-own-h.result Idle low in
    let step : IsSplit (slot_at own h) c.move_slot-slot.new.own x = subst (λ o. IsSplit o c.move_slot-slot.new.own x) here c.move_slot-slot.ensures in
    let Split : List (Slot _) → Type 0 = λ r. (k : ℕ) → IsSplit (slot_at c.args.own.now k) (slot_at (set own h c.move_slot-slot.new.own) k) (slot_at r k) in
    record {
      len = omega (arith, ap length push, length-append row (x ∷ []));
      split = subst Split (sym push) (split_step c.args.own.now own row h c.move_slot-slot.new.own x c.loop-h.invariant.len low c.loop-h.invariant.split step);
    }
