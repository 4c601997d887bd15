use Rattle.std.proofs.Common.{◌≡◌, fold, length, slice_index, take}
use Rattle.pl_event.specs.OpeningPages.{pages_in}
use Rattle.shadow_frames.specs.Words.{AreFirstFrames}
use Rattle.shadow_frames.specs.Opening.{map_run, state_in}
use Rattle.shadow_frames.proofs.opening.map_runs.Given as goal

abbrev pub invariant-loop-run : goal.invariant-loop-run
invariant-loop-run l = record {
  size : length l.words ≡ 135185;
  used : l.used ≡ pages_in (take l.run-index l.pages);
  words : slice_index l.words ≡ fold (map_run (state_in l.states)) (slice_index l.initial.words) (take l.run-index l.pages);
  frames : AreFirstFrames (slice_index l.words) l.used;
}
