use Rattle.std.proofs.Common.{◌≡◌, ◌+◌, length, slice_index}
use Rattle.order_core.specs.Shapes.{after_shapes}
use Rattle.shadow_frames.specs.Words.{AreFirstFrames}
use Rattle.shadow_frames.specs.Frames.{map_page, pages_from}
use Rattle.shadow_frames.proofs.opening.map_run.Given as goal

abbrev pub invariant-loop-i : goal.invariant-loop-i
invariant-loop-i l = record {
  size : length l.words ≡ 135185;
  words : slice_index l.words ≡ after_shapes (slice_index l.initial.words) (pages_from (map_page l.filling) (slice_index l.initial.words) l.run.first l.i);
  frames : AreFirstFrames (slice_index l.words) (l.used + l.i);
}
