use Rattle.std.proofs.Common.{◌≡◌, ◌<◌, ◌≤◌, ℕ, length}
use Rattle.lifeguard_crew.specs.declared.round_end.RoundEnd.TheVariants.{Ended}
use Rattle.lifeguard_crew.specs.inner.Slots.{slot_at, IsAtRest, KeepsRow}
use Rattle.lifeguard_crew.proofs.turns.turn_all.Given as goal

abbrev pub invariant-loop-h : goal.invariant-loop-h
invariant-loop-h g l = record {
  few : length l.row ≤ 8;
  keeps : KeepsRow g.P.Plan.planned g.W.TurnWorker.view l.monitor l.initial.row l.row;
  rests : l.end ≡ Ended → (k : ℕ) → k < l.h → IsAtRest (slot_at l.row k);
}
