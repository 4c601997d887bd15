use Rattle.std.proofs.Common.{◌≡◌, ℕ, ◌<◌, ◌^◌}
use Rattle.std.specs.Int.{bit_at}
use Rattle.inherit_track.specs.declared.state.Held.{Held}
use Rattle.inherit_track.specs.declared.state.RegState.TheVariants as reg
use Rattle.inherit_track.specs.States.{state_in, LiesIn}
use Rattle.inherit_track.proofs.states.hold_in.Given as goal

-- no register outside the set is held in the block
abbrev pub invariant-loop-left : goal.invariant-loop-left
invariant-loop-left l =
    (l.left < 2 ^ 34)
    × ((k : ℕ) (from : Held) → bit_at l.left k ≡ 0 → state_in l.states k ≡ reg.Held from → LiesIn l.block_start l.block from → ⊥)

abbrev pub decreases-loop-left : goal.decreases-loop-left
decreases-loop-left l = l.left
