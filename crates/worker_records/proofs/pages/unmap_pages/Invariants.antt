use Rattle.std.proofs.Common.{◌≡◌}
use Rattle.guard_table.specs.declared.view.View.{View}
use Rattle.guard_table.specs.Seats.{seat_view}
use Rattle.shadow_frames.specs.Frames.{unmap_page, pages_from}
use Rattle.worker_laws.specs.Runs.{before}
use Rattle.worker_records.specs.Shapes.{made}
use Rattle.worker_records.specs.Places.{IsAt, run_at}
use Rattle.worker_records.proofs.pages.unmap_pages.Given as goal

abbrev pub invariant-loop-i : goal.invariant-loop-i
invariant-loop-i g l =
    let v : View = seat_view l.initial.seat in
    record {
      at : IsAt g.P.Plan.planned l.monitor (g.L.Lifeguard.rules l.fn.guard) l.seat;
      view : seat_view l.seat ≡ made (pages_from unmap_page (before (run_at (g.L.Lifeguard.rules l.fn.guard) v) v.hart l.number).words l.page l.i) v;
    }
