use Rattle.std.proofs.Common.{◌≡◌, ℕ, ◌<◌, length, slice_index}
use Rattle.inherit_track.specs.declared.state.RegState.TheVariants as reg
use Rattle.inherit_track.specs.States.{state_in}
use Rattle.worker_records.proofs.state.State.masks.Given as goal

abbrev pub invariant-loop-r : goal.invariant-loop-r
invariant-loop-r l = record {
  size : length l.masks ≡ 34;
  known : (r : ℕ) → r < l.r → state_in l.self.tracker r ≡ reg.Known (slice_index l.masks r);
}
