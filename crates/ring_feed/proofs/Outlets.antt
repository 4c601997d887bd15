-- The outlets of a run, from the first record to the last.
use Rattle.std.proofs.Common.{◌≡◌, ◌≢◌, ℕ, zero, suc, ◌+◌, ◌<◌, ◌≤◌, Bool, true, false, true≢false, ne_eqb, List, [], ◌∷◌, ◌++◌, append-nil, length, length-append, length-set, map, set, refl, sym, ap, ◌∙◌, subst, ⊎_elim, arith}
use Rattle.std.proofs.Math.Logic.{∥∥₁_elim}
use Rattle.std.proofs.Props.{props}
use Rattle.std.proofs.lemmas.List.{map-set}
use Rattle.std.specs.List.{filter}
use mathlib.Core.Bool.{cond, ◌&&◌}
use mathlib.Core.Logic.{dite}
use native.Mathlib.Decide.{ℕ_discrete}
use mathlib.Core.Option.{some, some-injective, some-ne-none}
use lib.ListN.{get_elem?}
use Rattle.atomic_table.proofs.Lists.{at_map, at_set, set_again, set_else, set_here}
use Rattle.order_core.proofs.Flatten.{inside}
use Rattle.pl_base.specs.declared.layout.TheConstants.{CHUNK_RECORDS}
use Rattle.pl_event.specs.declared.fed.Fed.{Fed}
use Rattle.pl_event.specs.declared.log.Line.{Line}
use Rattle.pl_event.specs.declared.log.Log.{Log}
use Rattle.pl_event.specs.Feeds.{feds, feds_from}
use Rattle.pl_event.specs.Numbers.{hart_of, is_of}
use Rattle.pl_event.specs.Records.{records_before}
use Rattle.order_core.specs.declared.course.Course.{Course}
use Rattle.order_core.specs.Lawful.{IsLawful}
use Rattle.stream_ring.specs.Flow.{stream_of}
use Rattle.stream_ring.specs.Passes.{IsSendOf, offered}
use Rattle.ring_feed.specs.declared.outlet.Outlet.{Outlet}
use Rattle.ring_feed.specs.Streams.{records_on}
use Rattle.ring_feed.specs.Outlets.{AreBehind, AreEmpty, AreFirstTried, AreOutlets, AreWhole, CanBeFed, HaveRoom, IsOutlet, IsTried, Keeps, ring_of, rings_of}
use Rattle.ring_feed.proofs.Ends.{at_end}

-- the line of a record
line_at : (lines : List Line) (from : ℕ) (rest : List Line) (i : ℕ) (fed : Fed) → get_elem? (feds_from lines from rest) i ≡ some fed
    → get_elem? rest i ≡ some fed.line
line_at lines from [] i fed at = absurd (some-ne-none fed (sym at))
line_at lines from (line ∷ rest) zero fed at = ap (λ (z : Fed). some z.line) (some-injective _ fed at)
line_at lines from (line ∷ rest) (suc i) fed at = line_at lines (suc from) rest i fed at

pub feds_within : (log : Log) → CanBeFed log → (i : ℕ) (fed : Fed) → get_elem? (feds log.lines) i ≡ some fed
    → hart_of fed.line.what < log.harts
feds_within log can i fed at = can.within i fed.line (line_at log.lines 0 log.lines i fed at)

-- the log of a lawful run may be fed
pub can_be_fed : (c : Course) → ∥ IsLawful c ∥₁ → CanBeFed c.log
can_be_fed c lawful = record {
  few = let p : IsProp (length c.log.lines < 4294967296) = hlevel props in
      ∥∥₁_elim lawful p (λ law. let few : length c.log.lines < 4294967295 = law.few in omega arith);
  harts = let p : IsProp (c.log.harts ≤ 8) = hlevel props in ∥∥₁_elim lawful p (λ law. law.log.opening.few);
  within = λ i line at. let p : IsProp (hart_of line.what < c.log.harts) = hlevel props in
      ∥∥₁_elim lawful p (λ law. law.log.flow.within i (hart_of line.what) (records_before (hart_of line.what) c.log.lines i + 1) line
      (record { at = at; hart = refl; number = refl }));
}

filter_short : {A : Type 0} (test : A → Bool) (xs : List A) → length (filter test xs) ≤ length xs
filter_short test [] = omega arith
filter_short test (x ∷ xs) = by (test x) (filter_short test xs)
  where
    by : (b : Bool) → length (filter test xs) ≤ length xs → length (cond b (x ∷ filter test xs) (filter test xs)) ≤ suc (length xs)
    by true le = omega arith
    by false le = omega arith

length_feds : (lines : List Line) (from : ℕ) (rest : List Line) → length (feds_from lines from rest) ≡ length rest
length_feds lines from [] = refl
length_feds lines from (line ∷ rest) = ap suc (length_feds lines (suc from) rest)

pub stream_short : (log : Log) (k : ℕ) → length (stream_of log k) ≤ length log.lines
stream_short log k = omega (arith, filter_short (λ fed. is_of k fed.line) (feds log.lines), length_feds log.lines 0 log.lines)

module _ {N : Type 0} (log : Log) where
  -- at the start
  pub is_new : (o : Outlet N) (k : ℕ) → IsSendOf o.ring.now o.pass → offered o.pass ≡ [] → o.ring.now.hart ≡ k → o.part.items ≡ [] → o.count ≡ 0
      → IsOutlet log (feds log.lines) k o
  is_new o k of fresh hart empty none = record {
    of = of;
    hart = hart;
    stream = ap (λ (z : List Fed × List Fed). (z.0 ++ z.1) ++ records_on k (feds log.lines)) (λ i. (fresh i, empty i));
    part = let none : length o.part.items ≡ 0 = ap length empty in omega arith;
    count = none ∙ sym (ap length fresh);
  }

  -- one outlet more
  pub outlet_push : (rest : List Fed) (os : List (Outlet N)) (o : Outlet N)
      → ((k : ℕ) (p : Outlet N) → get_elem? os k ≡ some p → IsOutlet log rest k p) → IsOutlet log rest (length os) o
      → (k : ℕ) (p : Outlet N) → get_elem? (os ++ o ∷ []) k ≡ some p → IsOutlet log rest k p
  outlet_push rest os o each last k p at = ⊎_elim (λ (u : get_elem? os k ≡ some p). each k p u)
      (λ (u : (k ≡ length os) × (o ≡ p)). subst (λ (z : ℕ × Outlet N). IsOutlet log rest z.0 z.1) (λ i. (sym u.0 i, u.1 i)) last)
      (at_end os o p k at)

  -- what was offered and what is in the part are no more than the lines of the run
  pub outlet_short : (rest : List Fed) (k : ℕ) (o : Outlet N) → IsOutlet log rest k o → o.count + length o.part.items ≤ length log.lines
  outlet_short rest k o is =
      let held : List Fed = offered o.pass ++ o.part.items in
      omega (arith, is.count, length-append (offered o.pass) o.part.items, length-append held (records_on k rest), ap length is.stream, stream_short log k)

  -- an outlet that says what the one before it said
  pub kept_set : (rest : List Fed) (os : List (Outlet N)) (i : ℕ) (o p : Outlet N) → get_elem? os i ≡ some o → Keeps log o p
      → AreOutlets log rest os → AreOutlets log rest (set os i p)
  kept_set rest os i o p at keeps are = record {
    few = are.few;
    within = are.within;
    size = length-set os i p ∙ are.size;
    each = λ k q now. ⊎_elim
        (λ (u : (k ≡ i) × (p ≡ q)). subst (λ (z : ℕ × Outlet N). IsOutlet log rest z.0 z.1) (λ j. (sym u.0 j, u.1 j)) (keeps rest i (are.each i o at)))
        (λ (u : (k ≢ i) × (get_elem? os k ≡ some q)). are.each k q u.1)
        (at_set os i k p q now);
  }

  -- a record of another hart
  other_hart : (fed : Fed) (rest : List Fed) (k : ℕ) (o : Outlet N) → k ≢ hart_of fed.line.what → IsOutlet log (fed ∷ rest) k o → IsOutlet log rest k o
  other_hart fed rest k o other is =
      let none : is_of k fed.line ≡ false = ne_eqb (hart_of fed.line.what) k (λ e. other (sym e)) in
      record {
        of = is.of;
        hart = is.hart;
        stream = ap (λ (b : Bool). (offered o.pass ++ o.part.items) ++ cond b (fed ∷ records_on k rest) (records_on k rest)) (sym none) ∙ is.stream;
        part = is.part;
        count = is.count;
      }

  -- the record is taken from the feed, and the outlet of its hart has it
  pub taken_set : (fed : Fed) (rest : List Fed) (os : List (Outlet N)) (i : ℕ) (o p : Outlet N) → i ≡ hart_of fed.line.what → get_elem? os i ≡ some o
      → (IsOutlet log (fed ∷ rest) (hart_of fed.line.what) o → IsOutlet log rest (hart_of fed.line.what) p)
      → AreOutlets log (fed ∷ rest) os → AreOutlets log rest (set os i p)
  taken_set fed rest os i o p own at step are =
      let here : IsOutlet log (fed ∷ rest) (hart_of fed.line.what) o = subst (λ (z : ℕ). IsOutlet log (fed ∷ rest) z o) own (are.each i o at) in
      record {
        few = are.few;
        within = λ j f there. are.within (suc j) f there;
        size = length-set os i p ∙ are.size;
        each = λ k q now. ⊎_elim
            (λ (u : (k ≡ i) × (p ≡ q)). subst (λ (z : ℕ × Outlet N). IsOutlet log rest z.0 z.1) (λ j. ((sym own ∙ sym u.0) j, u.1 j)) (step here))
            (λ (u : (k ≢ i) × (get_elem? os k ≡ some q)). let n : k ≢ i = u.0 in
            other_hart fed rest k q (λ e. n (e ∙ sym own)) (are.each k q u.1))
            (at_set os i k p q now);
      }

module _ {N : Type 0} where
  pub rings_set : (os : List (Outlet N)) (i : ℕ) (o p : Outlet N) → get_elem? os i ≡ some o → p.ring.now ≡ o.ring.now → rings_of (set os i p) ≡ rings_of os
  rings_set os i o p at same =
      map-set ring_of os i p ∙ set_again (map ring_of os) i (ring_of p) (at_map ring_of os i o at ∙ ap some (sym same))

  -- one outlet more has room
  pub room_more : (os : List (Outlet N)) (i : ℕ) (x : Outlet N) → get_elem? os i ≡ some x → length x.part.items < CHUNK_RECORDS
      → ((k : ℕ) (o : Outlet N) → k < i → get_elem? os k ≡ some o → length o.part.items < CHUNK_RECORDS)
      → (k : ℕ) (o : Outlet N) → k < i + 1 → get_elem? os k ≡ some o → length o.part.items < CHUNK_RECORDS
  room_more os i x at here each k o low now = dite (ℕ_discrete k i)
      (λ (e : k ≡ i). subst (λ (z : Outlet N). length z.part.items < CHUNK_RECORDS)
      (some-injective x o (sym at ∙ subst (λ (z : ℕ). get_elem? os z ≡ some o) e now)) here)
      (λ (other : k ≢ i). each k o (omega arith) now)

  pub room_all : (n : ℕ) (os : List (Outlet N)) → length os ≤ n
      → ((k : ℕ) (o : Outlet N) → k < n → get_elem? os k ≡ some o → length o.part.items < CHUNK_RECORDS) → HaveRoom os
  room_all n os all each k o at = each k o (let low : k < length os = inside os k o at in omega arith) at

  pub room_empty : (os : List (Outlet N)) → AreEmpty os → HaveRoom os
  room_empty os empty k o at = let none : length o.part.items ≡ 0 = ap length (empty k o at) in omega arith

  -- each stream was offered whole, where no record is to come and no part has any
  pub all_whole : (log : Log) (os : List (Outlet N)) → AreOutlets log [] os → AreEmpty os → AreWhole log os
  all_whole log os are empty k o at =
      let is = are.each k o at in
      sym (append-nil (offered o.pass))
      ∙ (sym (append-nil (offered o.pass ++ []))
      ∙ (ap (λ (z : List Fed). (offered o.pass ++ z) ++ []) (sym (empty k o at)) ∙ is.stream))

  pub room_set : (os : List (Outlet N)) (i : ℕ) (p : Outlet N) → HaveRoom os → length p.part.items < CHUNK_RECORDS → HaveRoom (set os i p)
  room_set os i p room here k q now = ⊎_elim
      (λ (u : (k ≡ i) × (p ≡ q)). subst (λ (z : Outlet N). length z.part.items < CHUNK_RECORDS) u.1 here)
      (λ (u : (k ≢ i) × (get_elem? os k ≡ some q)). room k q u.1)
      (at_set os i k p q now)

  -- what holds of the first ones and of one more
  first_set : (F : Outlet N → Type 0) (i : ℕ) (os : List (Outlet N)) (p : Outlet N) → ((k : ℕ) (o : Outlet N) → k < i → get_elem? os k ≡ some o → F o)
      → F p → (k : ℕ) (o : Outlet N) → k < i + 1 → get_elem? (set os i p) k ≡ some o → F o
  first_set F i os p each here k o low now = ⊎_elim
      (λ (u : (k ≡ i) × (p ≡ o)). subst F u.1 here)
      (λ (u : (k ≢ i) × (get_elem? os k ≡ some o)). let n : k ≢ i = u.0 in each k o (omega arith) u.1)
      (at_set os i k p o now)

  -- one outlet more was tried
  pub one_tried : (i : ℕ) (os : List (Outlet N)) (p : Outlet N) (none b : Bool) → i < length os → AreFirstTried i os none → IsTried p
      → (b ≡ true → p.part.items ≡ []) → (b ≡ false → 1 ≤ length p.part.items) → AreFirstTried (i + 1) (set os i p) (none && b)
  one_tried i os p none b inside are tried empty left = record {
    tried = first_set IsTried i os p are.tried tried;
    empty = by_empty none b are.empty empty;
    left = by_left none b are.left left;
  }
    where
      by_empty : (none b : Bool) → (none ≡ true → (k : ℕ) (o : Outlet N) → k < i → get_elem? os k ≡ some o → o.part.items ≡ [])
          → (b ≡ true → p.part.items ≡ []) → none && b ≡ true
          → (k : ℕ) (o : Outlet N) → k < i + 1 → get_elem? (set os i p) k ≡ some o → o.part.items ≡ []
      by_empty true true old new e = first_set (λ o. o.part.items ≡ []) i os p (old refl) (new refl)
      by_empty true false old new e = absurd (true≢false (sym e))
      by_empty false b old new e = absurd (true≢false (sym e))

      there : (k : ℕ) (o : Outlet N) → k < i → get_elem? os k ≡ some o → get_elem? (set os i p) k ≡ some o
      there k o low at = set_else os i k p (λ e. omega arith) ∙ at

      by_left : (none b : Bool) → (none ≡ false → (k : ℕ) × (o : Outlet N) × (k < i) × (get_elem? os k ≡ some o) × (1 ≤ length o.part.items))
          → (b ≡ false → 1 ≤ length p.part.items) → none && b ≡ false
          → (k : ℕ) × (o : Outlet N) × (k < i + 1) × (get_elem? (set os i p) k ≡ some o) × (1 ≤ length o.part.items)
      by_left true true old new e = absurd (true≢false e)
      by_left true false old new e = (i, p, omega arith, set_here os i p inside, new refl)
      by_left false b old new e =
          let h = old refl in
          let low : h.0 < i = h.2 in
          (h.0, h.1, omega arith, there h.0 h.1 h.2 h.3, h.4)

  pub all_empty : (n : ℕ) (os : List (Outlet N)) (none : Bool) → length os ≤ n → AreFirstTried n os none → none ≡ true → AreEmpty os
  all_empty n os none all are e k o at = are.empty e k o (let low : k < length os = inside os k o at in omega arith) at

  pub all_tried : (n : ℕ) (os : List (Outlet N)) (none : Bool) → length os ≤ n → AreFirstTried n os none → none ≡ false → AreBehind os
  all_tried n os none all are e = record {
    tried = λ k o at. are.tried k o (let low : k < length os = inside os k o at in omega arith) at;
    left = let h = are.left e in (h.0, h.1, h.3, h.4);
  }
