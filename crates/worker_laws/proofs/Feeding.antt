-- What was fed: the records of the hart, in order.
use Rattle.std.proofs.Common.{◌≡◌, ℕ, zero, suc, ◌+◌, ◌<◌, ◌≤◌, Bool, true, false, cond, filter, List, [], ◌∷◌, length, take, Option, Some, None, refl, sym, ap, ◌∙◌, subst, arith, eq-eqb}
use Rattle.std.specs.Prelude.{slice_get}
use mathlib.Core.Option.{some}
use lib.ListN.{get_elem?}
use Rattle.pl_event.specs.declared.fed.Fed.{Fed}
use Rattle.pl_event.specs.declared.log.Line.{Line}
use Rattle.pl_event.specs.Feeds.{fed_at, feds_from, feds_of}
use Rattle.pl_event.specs.Numbers.{hart_of, is_of}
use Rattle.pl_event.specs.Records.{records_before, IsRecord}
use Rattle.pl_event.proofs.Places.{before_none, before_other, before_own, before_up, eqb_is, inside}
use Rattle.worker_laws.specs.Runs.{Run, size}
use Rattle.worker_laws.specs.Kept.{HasFed}

abbrev some_fed : Fed → Option Fed
some_fed f = Some f

same_fed : (f g : Fed) → some_fed f ≡ some_fed g → f ≡ g
same_fed f g e = cc

no_fed : (P : Type 0) (f : Fed) → None ≡ some_fed f → P
no_fed P f e = absurd (cc)

get_there : (xs : List Fed) (k : ℕ) → k < length xs → (f : Fed) × (slice_get xs k ≡ some_fed f)
get_there [] k lt = absurd (omega arith)
get_there (x ∷ xs) zero lt = (x, refl)
get_there (x ∷ xs) (suc k) lt = get_there xs k (omega arith)

get_taken : (xs : List Fed) (n k : ℕ) (f : Fed) → slice_get (take n xs) k ≡ some_fed f → slice_get xs k ≡ some_fed f
get_taken [] zero k f e = e
get_taken [] (suc n) k f e = e
get_taken (x ∷ xs) zero k f e = no_fed _ f e
get_taken (x ∷ xs) (suc n) zero f e = e
get_taken (x ∷ xs) (suc n) (suc k) f e = get_taken xs n k f e

module _ (lines : List Line) (h : ℕ) where
  abbrev own : Fed → Bool
  own f = is_of h f.line

  record_from : (i k : ℕ) (rest : List Line) (f : Fed) → ((j : ℕ) → get_elem? rest j ≡ get_elem? lines (i + j)) → slice_get (filter own (feds_from lines i rest)) k ≡ some_fed f
      → (j : ℕ) × (line : Line) × IsRecord lines j h (records_before h lines i + k + 1) line × (f ≡ fed_at lines j line)
  record_from i k [] f same e = no_fed _ f e
  record_from i k (l ∷ rest) f same e = by (λ k e. record_from (suc i) k rest f further e) (is_of h l) refl e
    where
      here : get_elem? lines i ≡ some l
      here = ap (get_elem? lines) (omega arith) ∙ sym (same zero)

      further : (j : ℕ) → get_elem? rest j ≡ get_elem? lines (suc i + j)
      further j = same (suc j) ∙ ap (get_elem? lines) (omega arith)

      -- from the next line on
      later : (n m : ℕ) → n ≡ m → (j : ℕ) × (line : Line) × IsRecord lines j h n line × (f ≡ fed_at lines j line) → (j : ℕ) × (line : Line) × IsRecord lines j h m line × (f ≡ fed_at lines j line)
      later n m e t = (t.0, t.1, subst (λ (z : ℕ). IsRecord lines t.0 h z t.1) e t.2, t.3)

      mine : ((k : ℕ) → slice_get (filter own (feds_from lines (suc i) rest)) k ≡ some_fed f → (j : ℕ) × (line : Line) × IsRecord lines j h (records_before h lines (suc i) + k + 1) line × (f ≡ fed_at lines j line)) → is_of h l ≡ true → (k : ℕ) → slice_get (fed_at lines i l ∷ filter own (feds_from lines (suc i) rest)) k ≡ some_fed f → (j : ℕ) × (line : Line) × IsRecord lines j h (records_before h lines i + k + 1) line × (f ≡ fed_at lines j line)
      mine deep is zero e = (i, l, record { at = here; hart = eqb_is (hart_of l.what) h is; number = omega arith }, sym (same_fed (fed_at lines i l) f e))
      mine deep is (suc k) e =
          let more : records_before h lines (i + 1) ≡ records_before h lines i + 1 = before_own lines i h l here (eqb_is (hart_of l.what) h is) in
          let next : i + 1 ≡ suc i = omega arith in
          let count : records_before h lines (suc i) ≡ records_before h lines i + 1 = ap (records_before h lines) (sym next) ∙ more in
          later (records_before h lines (suc i) + k + 1) (records_before h lines i + suc k + 1) (omega arith) (deep k e)

      not_mine : ((k : ℕ) → slice_get (filter own (feds_from lines (suc i) rest)) k ≡ some_fed f → (j : ℕ) × (line : Line) × IsRecord lines j h (records_before h lines (suc i) + k + 1) line × (f ≡ fed_at lines j line)) → is_of h l ≡ false → (k : ℕ) → slice_get (filter own (feds_from lines (suc i) rest)) k ≡ some_fed f → (j : ℕ) × (line : Line) × IsRecord lines j h (records_before h lines i + k + 1) line × (f ≡ fed_at lines j line)
      not_mine deep no_one k e =
          let more : records_before h lines (i + 1) ≡ records_before h lines i = before_other lines i h l here (λ s. (let t : is_of h l ≡ true = eq-eqb (hart_of l.what) h s in let f : false ≡ true = sym no_one ∙ t in cc)) in
          let next : i + 1 ≡ suc i = omega arith in
          let count : records_before h lines (suc i) ≡ records_before h lines i = ap (records_before h lines) (sym next) ∙ more in
          later (records_before h lines (suc i) + k + 1) (records_before h lines i + k + 1) (omega arith) (deep k e)

      by : ((k : ℕ) → slice_get (filter own (feds_from lines (suc i) rest)) k ≡ some_fed f → (j : ℕ) × (line : Line) × IsRecord lines j h (records_before h lines (suc i) + k + 1) line × (f ≡ fed_at lines j line)) → (b : Bool) → is_of h l ≡ b → slice_get (cond b (fed_at lines i l ∷ filter own (feds_from lines (suc i) rest)) (filter own (feds_from lines (suc i) rest))) k ≡ some_fed f
          → (j : ℕ) × (line : Line) × IsRecord lines j h (records_before h lines i + k + 1) line × (f ≡ fed_at lines j line)
      by deep true is e = mine deep is k e
      by deep false is e = not_mine deep is k e

module _ (p : Run) (h : ℕ) (fed : List Fed) (has : HasFed p h fed) (k : ℕ) (lt : k < length fed) where
  -- a fed record is a record of the hart
  pub fed_record : (j : ℕ) × (line : Line) × IsRecord p.plan.log.lines j h (k + 1) line × (slice_get fed k ≡ Some (fed_at p.plan.log.lines j line))
  fed_record =
      let t = get_there fed k lt in
      let s = record_from p.plan.log.lines h 0 k p.plan.log.lines t.0 (λ j. ap (get_elem? p.plan.log.lines) (omega arith))
      (get_taken (feds_of h p.plan.log.lines) (length fed) k t.0 (ap (λ (z : List Fed). slice_get z k) has ∙ t.1)) in
      let none : records_before h p.plan.log.lines 0 ≡ 0 = before_none p.plan.log.lines h in
      let e : records_before h p.plan.log.lines 0 + k + 1 ≡ k + 1 = omega arith in
      (s.0, s.1, subst (λ (z : ℕ). IsRecord p.plan.log.lines s.0 h z s.1) e s.2, t.1 ∙ ap some_fed s.3)

  pub fed_within : k + 1 ≤ size p h
  fed_within =
      let t = fed_record in
      let one : records_before h p.plan.log.lines t.0 + 1 ≡ k + 1 = t.2.number in
      let more : records_before h p.plan.log.lines (t.0 + 1) ≡ records_before h p.plan.log.lines t.0 + 1 = before_own p.plan.log.lines t.0 h t.1 t.2.at t.2.hart in
      let low : t.0 < length p.plan.log.lines = inside p.plan.log.lines t.0 t.1 t.2.at in
      let up : records_before h p.plan.log.lines (t.0 + 1) ≤ records_before h p.plan.log.lines (length p.plan.log.lines) = before_up p.plan.log.lines (t.0 + 1) (length p.plan.log.lines) h (omega arith) in
      omega arith
