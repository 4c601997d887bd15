-- The readers of a run after their threads have ended, and their workers after they were fed the rest.
use Rattle.std.proofs.Common.{◌≡◌, ◌<◌, ℕ, List, [], ◌∷◌, length, Result, Ok, Err, IfOk, sym, ap, ◌∙◌, subst, inl, ⊎_elim, arith}
use mathlib.Core.Option.{some}
use lib.ListN.{get_elem?}
use Rattle.pl_event.specs.declared.log.Log.{Log}
use Rattle.order_core.proofs.Flatten.{inside}
use Rattle.order_core.specs.Course.{Planned}
use Rattle.guard_table.specs.declared.seats.Monitor.{Monitor}
use Rattle.stream_ring.specs.declared.ends.Ring.{Ring}
use Rattle.turn_worker.specs.Workers.{WorkerView}
use Rattle.lifeguard_crew.specs.declared.reader.Reader.{Reader}
use Rattle.lifeguard_crew.specs.declared.slot.Slot.{Slot}
use Rattle.lifeguard_crew.specs.declared.slot.Slot.TheVariants.{Idle, Works, Ended}
use Rattle.lifeguard_crew.specs.Drivers.{IsFreshCrew, IsReadyCrew}
use Rattle.lifeguard_crew.specs.inner.Online.{EachLed, IsSameWorker}
use Rattle.lifeguard_crew.specs.inner.Readers.{AllMayRead, AllRead, AreDrained, AreReaders, IsReaderOf, MayRead, Reads, ReadersPass}
use Rattle.lifeguard_crew.specs.inner.Rows.{SomeOf}
use Rattle.lifeguard_crew.specs.inner.Slots.{IsManned, slot_at}
use Rattle.lifeguard_crew.proofs.Finish.{get_at}
use Rattle.lifeguard_crew.proofs.Same.{at_place}

pub ok_then : {X E : Type 0} (A B : X → Type 0) (o : Result X E) → ((x : X) → A x → B x) → IfOk o A → IfOk o B
ok_then A B (Ok x) keeps is = keeps x is
ok_then A B (Err e) keeps is = is

-- a slot that has what was v and what was w
same_slot : {N W : Type 0} (view : W → WorkerView) (v w : WorkerView) (s : Slot (Reader N W)) → IsManned s → Reads view v s → Reads view w s
    → IsSameWorker v w
same_slot view v w Idle on a b = absurd on
same_slot view v w (Works r n) on a b = sym b ∙ a
same_slot view v w (Ended r e) on a b = absurd a

module _ {P N W : Type 0} (planned : P → Planned) (view : W → WorkerView) (m : Monitor P) (log : Log) (rings : List (Ring N)) where
  reader_of_slot : (v : WorkerView) (h : ℕ) (s : Slot (Reader N W)) → IsManned s → Reads view v s → MayRead planned view m log rings s → v.seat.hart ≡ h
      → IsReaderOf planned view m log rings h s
  reader_of_slot v h Idle on reads may hart = on
  reader_of_slot v h (Works r n) on reads may hart = (may, ap (λ (z : WorkerView). z.seat.hart) reads ∙ hart)
  reader_of_slot v h (Ended r e) on reads may hart = reads

  module _ (ws : List W) (first row : List (Slot (Reader N W))) (all : AllRead view ws first) (long : length row ≡ length ws)
      (passes : ReadersPass planned view m log rings (first ∷ []) (row ∷ [])) where
    still_manned : (k : ℕ) (w : W) → get_elem? ws k ≡ some w → IsManned (slot_at row k)
    still_manned k w at = ⊎_elim (λ (a : IsManned (slot_at row k)). a)
        (λ (b : SomeOf (λ (r : List (Slot (Reader N W))). IsManned (slot_at r k)) []). absurd b) (passes.manned k (inl (all k w at).0))

    still_reads : (k : ℕ) (w : W) → get_elem? ws k ≡ some w → Reads view (view w) (slot_at row k)
    still_reads k w at = (passes.fits k (view w) ((all k w at).1, tt)).0

    pub still_readers : IsFreshCrew planned view m ws → AllMayRead planned view m log rings first → AreReaders planned view m log rings row
    still_readers crew may k s at =
        let low : k < length row = inside row k s at in
        let w = at_place ws k (omega arith) in
        subst (IsReaderOf planned view m log rings k) (get_at row k s Idle at)
        (reader_of_slot (view w.0) k (slot_at row k) (still_manned k w.0 w.1) (still_reads k w.0 w.1) ((passes.may (may, tt)).0 k)
        (crew.crew.hart k w.0 w.1))

    pub drained_same : (us : List W) → AreDrained planned view m row us → EachLed IsSameWorker view ws us
    drained_same us drained = record {
      size = drained.size ∙ long;
      each = λ k w u was now.
          let low : k < length ws = inside ws k w was in
          let s = at_place row k (omega arith) in
          let is = get_at row k s.0 Idle s.1 in
          same_slot view (view w) (view u) s.0 (subst (λ (z : Slot (Reader N W)). IsManned z) is (still_manned k w was))
          (subst (Reads view (view w)) is (still_reads k w was)) (drained.each k s.0 u s.1 now).1;
    }

    pub drained_ready : (us : List W) → IsFreshCrew planned view m ws → AreDrained planned view m row us → IsReadyCrew planned view m us
    drained_ready us crew drained =
        let same = drained_same us drained in
        let sizes : length us ≡ length row = drained.size in
        record {
          crew = record {
            size = same.size ∙ crew.crew.size;
            course = λ k u at.
                let low : k < length us = inside us k u at in
                let w = at_place ws k (omega arith) in
                ap (λ (z : WorkerView). z.seat.course) (same.each k w.0 u w.1 at) ∙ crew.crew.course k w.0 w.1;
            hart = λ k u at.
                let low : k < length us = inside us k u at in
                let w = at_place ws k (omega arith) in
                ap (λ (z : WorkerView). z.seat.hart) (same.each k w.0 u w.1 at) ∙ crew.crew.hart k w.0 w.1;
          };
          ready = λ k u at.
              let low : k < length us = inside us k u at in
              let s = at_place row k (omega arith) in
              (drained.each k s.0 u s.1 at).0;
        }
