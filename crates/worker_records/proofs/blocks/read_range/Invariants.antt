use Rattle.std.proofs.Common.{◌≡◌, ◌/◌, List, length, find}
use Rattle.lifeguard.specs.State.{nibble_at, span}
use Rattle.order_core.specs.Shapes.{Shape}
use Rattle.guard_table.specs.declared.view.View.{View}
use Rattle.guard_table.specs.Seats.{seat_view}
use Rattle.shadow_frames.specs.Frames.{pages_from}
use Rattle.shadow_layout.specs.Operations.{read_block}
use Rattle.worker_laws.specs.Runs.{Moment, before}
use Rattle.worker_records.specs.Shapes.{made}
use Rattle.worker_records.specs.Places.{IsAt, run_at}
use Rattle.worker_records.proofs.BlockLemmas.{bytes_in}
use Rattle.worker_records.proofs.blocks.read_range.Given as goal

abbrev pub invariant-loop-i : goal.invariant-loop-i
invariant-loop-i g l =
    let v : View = seat_view l.initial.seat in
    let q : Moment = before (run_at (g.L.Lifeguard.rules l.guard) v) v.hart l.number in
    let done : List Shape = pages_from read_block q.words (l.range.addr / 16) l.i in
    record {
      at : IsAt g.P.Plan.planned l.monitor (g.L.Lifeguard.rules l.guard) l.seat;
      view : seat_view l.seat ≡ made done v;
      op : l.op ≡ length done;
      touched : l.touched ≡ find (λ a. (g.L.Lifeguard.rules l.guard).bad_access (nibble_at q.state.bytes a)) (span l.range.addr (bytes_in l.range.addr l.range.len l.i));
      sent : l.sent ≡ find (λ a. (g.L.Lifeguard.rules l.guard).bad_value (nibble_at q.state.bytes a)) (span l.range.addr (bytes_in l.range.addr l.range.len l.i));
    }
