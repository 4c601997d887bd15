-- Rounds of turns, by what contracts see of the workers before and after.
use Rattle.std.specs.Prelude.{◌≡◌, ◌≢◌, ℕ, ◌+◌, ◌-◌, ◌<◌, ◌≤◌, ◌⊎◌, Bool, true, false, List, [], ◌∷◌, length, slice_index}
use mathlib.Core.Option.{some}
use lib.ListN.{get_elem?}
use Rattle.guard_table.specs.declared.seats.GuardSeat.{GuardSeat}
use Rattle.guard_table.specs.Seats.{seat_view}
use Rattle.guard_table.specs.Views.{told_by, learnt_from}
use Rattle.turn_worker.specs.declared.worker.HartResult.{HartResult}
use Rattle.turn_worker.specs.Workers.{WorkerView, IsOfTable, size}
use Rattle.turn_worker.specs.Results.{IsResult}
use Rattle.turn_worker.specs.Turns.{IsWaiting, HasEnded}
use Rattle.lifeguard_crew.specs.declared.finished.Finished.{Finished}
use Rattle.lifeguard_crew.specs.declared.round_end.RoundEnd.{RoundEnd}
use Rattle.lifeguard_crew.specs.declared.round_end.RoundEnd.TheVariants.{Moved, Waited, Ended}

-- how many records the workers have not taken
abbrev pub left : List WorkerView → ℕ
left [] = 0
left (v ∷ vs) = (size v - v.taken) + left vs

-- what of a worker no turn and no note changes
abbrev pub lasting : WorkerView → WorkerView
lasting v = record v {
  seat = record v.seat { written = 0; progress = 0; seen = []; learnt = []; looks = [] };
  taken = 0;
  spare = 0;
}

-- they are the workers that were there, by number
pub record AreSame (vs ws : List WorkerView) : Type 0 where
  pub size : length ws ≡ length vs
  pub each : (k : ℕ) (v w : WorkerView) → get_elem? vs k ≡ some v → get_elem? ws k ≡ some w → lasting w ≡ lasting v

abbrev pub IsAtWait : WorkerView → Type 0
IsAtWait v = (u : ℕ) × (need : ℕ) × (seen : ℕ) × IsWaiting v u need seen

-- how a turn ended
abbrev pub IsTurnEnd : WorkerView → WorkerView → RoundEnd → Type 0
IsTurnEnd v w Moved = v.taken < w.taken
IsTurnEnd v w Waited = IsAtWait w
IsTurnEnd v w Ended = HasEnded w

-- a turn led from v to w, and ended so
pub record IsTurn (v w : WorkerView) (how : RoundEnd) : Type 0 where
  pub same : lasting w ≡ lasting v
  pub learnt : w.seat.learnt ≡ v.seat.learnt
  pub taken : v.taken ≤ w.taken
  pub within : w.taken ≤ size w
  pub end : IsTurnEnd v w how

-- the end of two turns, or of more: one that moved stands out, then one that waited
abbrev pub both : RoundEnd → RoundEnd → RoundEnd
both Moved b = Moved
both Waited Moved = Moved
both Waited Waited = Waited
both Waited Ended = Waited
both Ended b = b

-- after a turn of each of the first n: some worker moved; or each has ended or waits, and one waits; or all have ended
abbrev pub IsRoundEnd : ℕ → List WorkerView → List WorkerView → RoundEnd → Type 0
IsRoundEnd n vs ws Moved = left ws < left vs
IsRoundEnd n vs ws Waited = ((k : ℕ) (w : WorkerView) → k < n → get_elem? ws k ≡ some w → HasEnded w ⊎ IsAtWait w)
    × ((k : ℕ) × (w : WorkerView) × (k < n) × (get_elem? ws k ≡ some w) × IsAtWait w)
IsRoundEnd n vs ws Ended = (k : ℕ) (w : WorkerView) → k < n → get_elem? ws k ≡ some w → HasEnded w

-- a turn of each of the first n led from vs to ws, and they ended so
pub record IsRound (n : ℕ) (vs ws : List WorkerView) (how : RoundEnd) : Type 0 where
  pub same : AreSame vs ws
  pub learnt : (k : ℕ) (v w : WorkerView) → get_elem? vs k ≡ some v → get_elem? ws k ≡ some w
      → w.seat.learnt ≡ v.seat.learnt
  pub taken : (k : ℕ) (v w : WorkerView) → get_elem? vs k ≡ some v → get_elem? ws k ≡ some w → v.taken ≤ w.taken
  pub fewer : left ws ≤ left vs
  pub rest : (k : ℕ) → n ≤ k → get_elem? ws k ≡ get_elem? vs k
  pub end : IsRoundEnd n vs ws how

-- a worker after it learnt something
abbrev pub taught : List ℕ → WorkerView → WorkerView
taught learnt v = record v { seat = record v.seat { learnt = learnt } }

-- worker i has learnt how far the workers before number n are, and no other worker has learnt anything
pub record HasHeard (i n : ℕ) (vs ws : List WorkerView) : Type 0 where
  pub size : length ws ≡ length vs
  pub same : (k : ℕ) (v w : WorkerView) → get_elem? vs k ≡ some v → get_elem? ws k ≡ some w
      → w ≡ taught w.seat.learnt v
  pub others : (k : ℕ) → k ≢ i → get_elem? ws k ≡ get_elem? vs k
  pub heard : (j : ℕ) (v w : WorkerView) → j < n → j ≢ i → get_elem? vs j ≡ some v → get_elem? ws i ≡ some w
      → v.seat.progress ≤ slice_index w.seat.learnt j

-- the first n workers have learnt how far each other one is
pub record HaveHeardAll (n : ℕ) (vs ws : List WorkerView) : Type 0 where
  pub size : length ws ≡ length vs
  pub same : (k : ℕ) (v w : WorkerView) → get_elem? vs k ≡ some v → get_elem? ws k ≡ some w
      → w ≡ taught w.seat.learnt v
  pub heard : (i j : ℕ) (v w : WorkerView) → i < n → j ≢ i → get_elem? vs j ≡ some v → get_elem? ws i ≡ some w
      → v.seat.progress ≤ slice_index w.seat.learnt j

-- a worker after it took in a note of another
abbrev pub heard_from : WorkerView → WorkerView → WorkerView
heard_from teller v = record v { seat = learnt_from (told_by teller.seat) v.seat }

-- all have ended; or fewer records are left
abbrev pub IsAdvanceEnd : List WorkerView → List WorkerView → Bool → Type 0
IsAdvanceEnd vs ws true = (k : ℕ) (w : WorkerView) → get_elem? ws k ≡ some w → HasEnded w
IsAdvanceEnd vs ws false = left ws < left vs

pub record IsAdvance (vs ws : List WorkerView) (all : Bool) : Type 0 where
  pub same : AreSame vs ws
  pub end : IsAdvanceEnd vs ws all

-- by number, for each worker its result, and its seat
pub record HaveFound (vs : List WorkerView) (f : Finished) : Type 0 where
  pub results : length f.results.items ≡ length vs
  pub seats : length f.seats.items ≡ length vs
  pub result : (k : ℕ) (v : WorkerView) (r : HartResult) → get_elem? vs k ≡ some v
      → get_elem? f.results.items k ≡ some r → IsResult v r
  pub seat : (k : ℕ) (v : WorkerView) (s : GuardSeat) → get_elem? vs k ≡ some v
      → get_elem? f.seats.items k ≡ some s → (seat_view s ≡ v.seat) × IsOfTable v.table s
