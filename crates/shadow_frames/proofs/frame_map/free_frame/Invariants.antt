use Rattle.std.proofs.Common.{◌≡◌, ℕ, ◌/◌, ◌%◌, ◌<◌, true, slice_index}
use Rattle.shadow_frames.specs.Words.{bit}
use Rattle.shadow_frames.proofs.frame_map.free_frame.Given as goal

abbrev pub invariant-loop-frame : goal.invariant-loop-frame
invariant-loop-frame l = (f : ℕ) → f < l.frame → bit (slice_index l.map (f / 64)) (f % 64) ≡ true
