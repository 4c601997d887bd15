use Rattle.std.proofs.Common.{◌≡◌, ℕ, ◌<◌}
use Rattle.guard_table.specs.Seats.{seat_view}
use Rattle.inherit_track.specs.declared.state.RegState.TheVariants as reg
use Rattle.inherit_track.specs.States.{state_in}
use Rattle.worker_records.specs.Places.{IsAt}
use Rattle.worker_records.specs.Registers.{KeepsKnown}
use Rattle.worker_records.specs.States.{IsKept}
use Rattle.worker_records.proofs.state.State.resolve_all.Given as goal

abbrev pub invariant-loop-r : goal.invariant-loop-r
invariant-loop-r g l = record {
  at : IsAt g.P.Plan.planned l.monitor (g.L.Lifeguard.rules l.guard) l.seat;
  view : seat_view l.seat ≡ seat_view l.initial.seat;
  kept : IsKept (g.L.Lifeguard.rules l.guard) (seat_view l.initial.seat) l.self;
  keeps : KeepsKnown (state_in l.initial.self.tracker) (state_in l.self.tracker);
  known : (q : ℕ) → q < l.r → (mask : ℕ) × (state_in l.self.tracker q ≡ reg.Known mask);
  others : l.self ≡ record l.initial.self { tracker = l.self.tracker };
}
