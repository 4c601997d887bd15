use Rattle.std.proofs.Common.{ℕ, subst}
use Rattle.std.proofs.Math.Logic.{∥∥₁_elim}
use denote.Struct.Props.{props}
use Rattle.pl_event.specs.declared.event.Event.{Event}
use Rattle.pl_event.specs.Valid.{HasValidEvent, HasValidFields, IsValidEvent}
use Rattle.list_plan.proofs.RoomLemmas.{valid_prop}
use Rattle.list_plan.proofs.listing.apply_record.Goals as goal

event_prop : (event : Event) (harts : ℕ) → IsProp (IsValidEvent event harts)
event_prop event harts = let fields : IsProp (HasValidFields event.kind) = valid_prop event.kind in hlevel (props, fields)

pub apply-requires-clause-valid : goal.apply-requires-clause-valid
apply-requires-clause-valid g c = ∥∥₁_elim c.requires.valid (event_prop c.in-Event.event c.args.monitor.now.harts) (λ (s : HasValidEvent c.args.monitor.now.harts c.args.what.now). subst (HasValidEvent c.args.monitor.now.harts) c.in-Event.is s)
