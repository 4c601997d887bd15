use Rattle.std.proofs.Common.{◌≡◌}
use Rattle.guard_table.specs.Seats.{IsSeatOf, seat_view}
use Rattle.shadow_frames.specs.Frames.{fills}
use Rattle.shadow_frames.specs.Words.{frame_word}
use Rattle.worker_records.specs.Shapes.{made}
use Rattle.worker_records.proofs.pages.fill_frame.Given as goal

abbrev pub invariant-loop-i : goal.invariant-loop-i
invariant-loop-i g l = record {
  of : IsSeatOf g.P.Plan.planned l.monitor l.seat;
  view : seat_view l.seat ≡ made (fills (frame_word l.fn.frame) l.filling l.i) (seat_view l.initial.seat);
}
