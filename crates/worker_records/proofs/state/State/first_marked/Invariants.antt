use Rattle.std.proofs.Common.{◌≡◌, ℕ, ◌+◌, not, drop}
use Rattle.std.specs.Prelude.{find, ◌==◌}
use Rattle.guard_table.specs.Seats.{seat_view}
use Rattle.worker_laws.specs.Runs.{masks_before}
use Rattle.worker_records.specs.Places.{IsAt, run_at}
use Rattle.worker_records.specs.States.{IsKept}
use Rattle.worker_records.proofs.state.State.first_marked.Given as goal

abbrev pub invariant-loop-reg : goal.invariant-loop-reg
invariant-loop-reg g l = record {
  at : IsAt g.P.Plan.planned l.monitor (g.L.Lifeguard.rules l.guard) l.seat;
  view : seat_view l.seat ≡ seat_view l.initial.seat;
  kept : IsKept (g.L.Lifeguard.rules l.guard) (seat_view l.initial.seat) l.self;
  found : (let v = seat_view l.initial.seat in
      find (λ register. not (masks_before (run_at (g.L.Lifeguard.rules l.guard) v) v.hart (l.initial.self.taken + 1) register == 0)) (drop l.reg-index l.regs)
      ≡ find (λ register. not (masks_before (run_at (g.L.Lifeguard.rules l.guard) v) v.hart (l.initial.self.taken + 1) register == 0)) l.regs);
  others : l.self ≡ record l.initial.self { tracker = l.self.tracker };
}
