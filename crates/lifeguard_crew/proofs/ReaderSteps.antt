-- What a reader takes from its ring, and what of it a turn keeps.
use Rattle.std.proofs.Common.{◌≡◌, ℕ, ◌+◌, ◌<◌, ◌≤◌, List, ◌++◌, length, [], ◌∷◌, take, get_or, length-append, refl, sym, ap, ◌∙◌, subst, arith}
use Rattle.std.proofs.Math.Seq.{take-append_seam}
use mathlib.Core.Option.{some, some-injective}
use lib.ListN.{get_elem?}
use Rattle.pl_event.specs.declared.fed.Fed.{Fed}
use Rattle.pl_event.specs.declared.log.Log.{Log}
use Rattle.stream_ring.specs.declared.ends.Ring.{Ring}
use Rattle.stream_ring.specs.Flow.{IsNext, stream_of}
use Rattle.stream_ring.specs.Passes.{IsTakeOf, taken}
use Rattle.order_core.specs.Course.{Planned}
use Rattle.guard_table.specs.declared.seats.Monitor.{Monitor}
use Rattle.turn_worker.specs.Workers.{WorkerView}
use Rattle.turn_worker.specs.Workers as worker
use Rattle.lifeguard_crew.specs.declared.reader.Reader.{Reader}
use Rattle.lifeguard_crew.specs.declared.slot.Slot.{Slot}
use Rattle.lifeguard_crew.specs.declared.slot.Slot.TheVariants.{Idle, Works, Ended}
use Rattle.lifeguard_crew.specs.Drivers.{IsReady}
use Rattle.lifeguard_crew.specs.inner.Online.{IsSameWorker}
use Rattle.lifeguard_crew.specs.inner.Readers.{AreDrained, IsReader, IsReaderOf, IsSameReader, KeepsReaders, MayRead, Reads}
use Rattle.ring_feed.proofs.Outlets.{stream_short}
use Rattle.lifeguard_crew.proofs.Led.{run_same}
use Rattle.ring_feed.proofs.Pairs.{at_here, pairs_more}
use Rattle.lifeguard_crew.proofs.SlotLemmas.{rows_then}

-- what was taken and the next piece are no more than the lines of the run
pub next_short : (log : Log) (k : ℕ) (xs ys : List Fed) → IsNext (stream_of log k) xs ys → length xs + length ys ≤ length log.lines
next_short log k xs ys next =
    omega (arith, ap length next.1, length-append (xs ++ ys) next.0, length-append xs ys, stream_short log k)

-- they begin the stream
pub next_fed : (stream xs ys : List Fed) → IsNext stream xs ys → take (length xs + length ys) stream ≡ xs ++ ys
next_fed stream xs ys next =
    ap (λ (n : ℕ). take n stream) (sym (length-append xs ys)) ∙ (ap (λ (z : List Fed). take (length (xs ++ ys)) z) next.1 ∙ take-append_seam (xs ++ ys) next.0)

-- what was found at a place
pub found_at : {A : Type 0} (xs : List A) (h n : ℕ) (x : A) → n ≡ h → h < length xs → x ≡ get_or xs n x → get_elem? xs h ≡ some x
found_at xs h n x at low is = at_here xs h x low (subst (λ (z : ℕ). x ≡ get_or xs z x) at is)

module _ {P N W : Type 0} (planned : P → Planned) (view : W → WorkerView) (m : Monitor P) (log : Log) (rings : List (Ring N)) where
  -- the worker is the same, and was fed what was taken
  pub reader_still : (r s : Reader N W) (ring : Ring N) → IsReader planned view m log rings r → IsSameReader view r s
      → get_elem? rings (view r.worker).seat.hart ≡ some ring → IsTakeOf ring s.pass → (view s.worker).fed ≡ taken s.pass
      → s.count ≡ length (taken s.pass) → IsReader planned view m log rings s
  reader_still r s ring is same here of fed count =
      let hart : (view s.worker).seat.hart ≡ (view r.worker).seat.hart = ap (λ (z : WorkerView). z.seat.hart) same in
      record {
        run = run_same planned m (view r.worker) (view s.worker) is.run same;
        inside = subst (λ (h : ℕ). h < length rings) (sym hart) is.inside;
        of = λ other at.
            let at' : get_elem? rings (view r.worker).seat.hart ≡ some other = subst (λ (h : ℕ). get_elem? rings h ≡ some other) hart at in
            let one : ring ≡ other = some-injective ring other (sym here ∙ at') in (
              subst (λ (z : Ring N). IsTakeOf z s.pass) one of,
              (is.of other at').1 ∙ sym hart,
            );
        stream = ap (stream_of log) hart ∙ (is.stream ∙ sym (ap worker.stream_of same));
        few = is.few;
        fed = fed;
        count = count;
      }

  pub readers_then : (a b c : List (Slot (Reader N W))) → KeepsReaders planned view m log rings a b → KeepsReaders planned view m log rings b c
      → KeepsReaders planned view m log rings a c
  readers_then a b c p q = rows_then (MayRead planned view m log rings) (Reads view) a b c p q

  -- only a slot with a reader is of a hart
  pub is_works : (h : ℕ) (s : Slot (Reader N W)) → IsReaderOf planned view m log rings h s
      → ((r : Reader N W) (n : ℕ) → s ≡ Works r n → ⊥) → ⊥
  is_works h Idle is other = is
  is_works h (Works r n) is other = other r n refl
  is_works h (Ended r e) is other = is

-- one worker more was fed its whole stream
pub drained_push : {P N W : Type 0} (planned : P → Planned) (view : W → WorkerView) (m : Monitor P) (row : List (Slot (Reader N W))) (ws : List W)
    (s : Slot (Reader N W)) (r : Reader N W) (n : ℕ) (w : W) → AreDrained planned view m row ws → s ≡ Works r n → IsReady planned m (view w)
    → IsSameWorker (view r.worker) (view w) → AreDrained planned view m (row ++ s ∷ []) (ws ++ w ∷ [])
drained_push planned view m row ws s r n w are is ready same = record {
  size = let size : length ws ≡ length row = are.size in omega (arith, length-append row (s ∷ []), length-append ws (w ∷ []));
  each = pairs_more (λ (t : Slot (Reader _ _)) (u : _). IsReady planned m (view u) × Reads view (view u) t) row ws s w are.size are.each
      (ready, subst (Reads view (view w)) (sym is) (sym same));
}
