use Rattle.std.proofs.Common.{◌≡◌}
use Rattle.pl_event.specs.declared.log.PageKind.TheVariants.{Data}
use Rattle.guard_table.specs.declared.view.View.{View}
use Rattle.guard_table.specs.Seats.{seat_view}
use Rattle.shadow_frames.specs.Frames.{map_page, pages_from}
use Rattle.shadow_frames.specs.Words.{all_nibbles}
use Rattle.worker_laws.specs.Runs.{before}
use Rattle.worker_records.specs.Shapes.{made}
use Rattle.worker_records.specs.Places.{IsAt, run_at}
use Rattle.worker_records.proofs.pages.map_pages.Given as goal

abbrev pub invariant-loop-i : goal.invariant-loop-i
invariant-loop-i g l =
    let v : View = seat_view l.initial.seat in
    record {
      at : IsAt g.P.Plan.planned l.monitor (g.L.Lifeguard.rules l.fn.guard) l.seat;
      view : seat_view l.seat ≡ made (pages_from (map_page (all_nibbles ((g.L.Lifeguard.rules l.fn.guard).page_state Data))) (before (run_at (g.L.Lifeguard.rules l.fn.guard) v) v.hart l.number).words l.page l.i) v;
    }
