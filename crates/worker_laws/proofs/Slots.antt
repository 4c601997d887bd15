-- A check that the filter holds passes, and what the filter holds after one more record.
use Rattle.std.proofs.Common.{◌≡◌, ℕ, zero, suc, ◌+◌, ◌≤◌, ◌⊎◌, inl, inr, Bool, true, false, eqb, ◌&&◌, [], ◌∷◌, replicate, Option, Some, None, find, refl, sym, ap, ◌∙◌, subst, arith, add-one, if◌then◌else◌}
use Rattle.std.specs.Prelude.{slice_index_or, slice_set}
use mathlib.Core.Path.{fun_ext}
use Rattle.pl_event.specs.declared.log.Line.{Line}
use Rattle.pl_event.specs.Records.{record_of}
use Rattle.pl_event.proofs.Places.{eqb_is}
use Rattle.lifeguard.specs.State.{span}
use Rattle.idem_filter.specs.declared.filter.Check.{Check}
use Rattle.idem_filter.specs.Filter as filter
use Rattle.worker_laws.specs.Runs.{Run, IsFlush, IsReach, IsRun, Lasts, before, flushes_in, size}
use Rattle.worker_laws.specs.Folds.{check_in, checked, entered_if, failed, slots_after, slots_at}
use Rattle.worker_laws.proofs.Keeping.{lasts_next, lasts_now, some_is}
use Rattle.worker_laws.proofs.Steady.{access_lasts}

-- ---- slots

abbrev entry : Check → Option Check
entry c = Some c

abbrev no_entry : Option Check
no_entry = None

both : (a b : Bool) → (a && b) ≡ true → (a ≡ true) × (b ≡ true)
both true true e = (refl, refl)
both true false e = absurd (let g : false ≡ true = e in cc)
both false b e = absurd (let g : false ≡ true = e in cc)

-- a check hits where its slot holds it
entry_is : (c : Check) (o : Option Check) → filter.is_check o c.addr c.width ≡ true → o ≡ entry c
entry_is c None i = absurd (let g : false ≡ true = i in cc)
entry_is c (Some e) i = λ d. Some (record {
  addr = eqb_is e.addr c.addr (both (eqb e.addr c.addr) (eqb e.width c.width) i).0 d;
  width = eqb_is e.width c.width (both (eqb e.addr c.addr) (eqb e.width c.width) i).1 d;
})

abbrev at_slot : filter.Slots → ℕ → Option Check
at_slot slots i = slice_index_or slots i None

replicated : (n i : ℕ) → slice_index_or (replicate n no_entry) i None ≡ no_entry
replicated zero i = refl
replicated (suc n) zero = refl
replicated (suc n) (suc i) = replicated n i

-- what is set in a slot, and what is left in another one
set_slot : (slots : filter.Slots) (i j : ℕ) (c d : Check) → at_slot (slice_set slots i (Some c)) j ≡ entry d → (c ≡ d) ⊎ (at_slot slots j ≡ entry d)
set_slot [] i j c d e = inr e
set_slot (x ∷ xs) zero zero c d e = inl (some_is c d e)
set_slot (x ∷ xs) zero (suc j) c d e = inr e
set_slot (x ∷ xs) (suc i) zero c d e = inr e
set_slot (x ∷ xs) (suc i) (suc j) c d e = set_slot xs i j c d e

-- what a slot holds already changes nothing
set_again : (slots : filter.Slots) (i : ℕ) (c : Check) → at_slot slots i ≡ entry c → slice_set slots i (Some c) ≡ slots
set_again [] i c e = refl
set_again (x ∷ xs) zero c e = ap (λ (z : Option Check). z ∷ xs) (sym e)
set_again (x ∷ xs) (suc i) c e = ap (λ (z : filter.Slots). x ∷ z) (set_again xs i c e)

-- ---- each entry passes until something is flushed

module _ (p : Run) (run : IsRun p) (h : ℕ) where
  abbrev Stays : ℕ → Check → Type 0
  Stays m c = Lasts p h m (λ z. failed p.rules z c ≡ None)

  pass_lasts : (m : ℕ) (c : Check) → 1 ≤ m → m ≤ size p h → (IsFlush p h m → ⊥) → failed p.rules (before p h m) c ≡ None → Stays m c
  pass_lasts m c from low calm pass n u less le quiet reach =
      ap (λ (f : ℕ → Bool). find f (span c.addr c.width)) (fun_ext (λ a. access_lasts p run h m from low calm a n u less le quiet reach)) ∙ pass

  one_more : (k i : ℕ) (c : Check) → suc k ≤ size p h → (at_slot (slots_at p h k) i ≡ entry c → Stays k c) → at_slot (slots_at p h (suc k)) i ≡ entry c → Stays (suc k) c
  one_more k i c le held e = by (flushes_in (record_of p.plan.log.lines h (suc k))) refl e
    where
      older : flushes_in (record_of p.plan.log.lines h (suc k)) ≡ false → at_slot (slots_at p h k) i ≡ entry c → Stays (suc k) c
      older calm o = subst (λ (x : ℕ). Stays x c) (add-one k)
          (lasts_next p h k (λ z. failed p.rules z c ≡ None) (held o)
          (λ g. (let y : flushes_in (record_of p.plan.log.lines h (suc k)) ≡ true = subst (λ (x : ℕ). IsFlush p h x) (add-one k) g in let b : false ≡ true = sym calm ∙ y in cc)))

      entered : flushes_in (record_of p.plan.log.lines h (suc k)) ≡ false → (u : Check) (r : Option ℕ) → failed p.rules (before p h (suc k)) u ≡ r → at_slot (entered_if r u (slots_at p h k)) i ≡ entry c → Stays (suc k) c
      entered calm u None r o = which (set_slot (slots_at p h k) (filter.slot_of u.addr) i u c o)
        where
          which : (u ≡ c) ⊎ (at_slot (slots_at p h k) i ≡ entry c) → Stays (suc k) c
          which (inl same) = pass_lasts (suc k) c (omega arith) le (λ g. (let b : false ≡ true = sym calm ∙ g in cc)) (subst (λ (x : Check). failed p.rules (before p h (suc k)) x ≡ None) same r)
          which (inr old) = older calm old
      entered calm u (Some a) r o = older calm o

      reached : flushes_in (record_of p.plan.log.lines h (suc k)) ≡ false → (u : Option Check) → at_slot (checked p.rules (before p h (suc k)) u (slots_at p h k)) i ≡ entry c → Stays (suc k) c
      reached calm None o = older calm o
      reached calm (Some u) o = entered calm u (failed p.rules (before p h (suc k)) u) refl o

      by : (b : Bool) → flushes_in (record_of p.plan.log.lines h (suc k)) ≡ b
          → at_slot (if b then filter.empty else checked p.rules (before p h (suc k)) (check_in p.rules (record_of p.plan.log.lines h (suc k))) (slots_at p h k)) i ≡ entry c → Stays (suc k) c
      by true calm o = absurd (let g : no_entry ≡ entry c = sym (replicated 32 i) ∙ o in cc)
      by false calm o = reached calm (check_in p.rules (record_of p.plan.log.lines h (suc k))) o

  entries_stay : (k i : ℕ) (c : Check) → k ≤ size p h → at_slot (slots_at p h k) i ≡ entry c → Stays k c
  entries_stay zero i c le e = absurd (let g : no_entry ≡ entry c = sym (replicated 32 i) ∙ e in cc)
  entries_stay (suc k) i c le e = one_more k i c le (λ o. entries_stay k i c (omega arith) o) e

  -- a check that the filter holds passes
  pub hit_passes : (n : ℕ) (c : Check) → n + 1 ≤ size p h → IsReach p h (n + 1) c → filter.hits (slots_at p h n) c.addr c.width ≡ true → failed p.rules (before p h (n + 1)) c ≡ None
  hit_passes n c le reach hit = lasts_now p h n c (λ z. failed p.rules z c ≡ None)
      (entries_stay n (filter.slot_of c.addr) c (omega arith) (entry_is c (at_slot (slots_at p h n) (filter.slot_of c.addr)) hit)) le reach

  -- and is there already
  pub hit_again : (n : ℕ) (c : Check) → filter.hits (slots_at p h n) c.addr c.width ≡ true → filter.entered (slots_at p h n) c.addr c.width ≡ slots_at p h n
  hit_again n c hit = set_again (slots_at p h n) (filter.slot_of c.addr) c (entry_is c (at_slot (slots_at p h n) (filter.slot_of c.addr)) hit)

-- ---- after one more record

pub not_true : (b : Bool) → (b ≡ true → ⊥) → b ≡ false
not_true true f = absurd (f refl)
not_true false f = refl

module _ (p : Run) (h n : ℕ) where
  abbrev line_next : Option Line
  line_next = record_of p.plan.log.lines h (n + 1)

  slots_next : slots_at p h (n + 1) ≡ slots_after p.rules (before p h (n + 1)) (record_of p.plan.log.lines h (n + 1)) (slots_at p h n)
  slots_next = ap (slots_at p h) (add-one n) ∙ ap (λ (z : ℕ). slots_after p.rules (before p h z) (record_of p.plan.log.lines h z) (slots_at p h n)) (sym (add-one n))

  pub slots_flushed : IsFlush p h (n + 1) → slots_at p h (n + 1) ≡ filter.empty
  slots_flushed flush = slots_next ∙ ap (λ (b : Bool). if b then filter.empty else checked p.rules (before p h (n + 1)) (check_in p.rules (record_of p.plan.log.lines h (n + 1))) (slots_at p h n)) flush

  module _ (calm : IsFlush p h (n + 1) → ⊥) where
    slots_calm : slots_at p h (n + 1) ≡ checked p.rules (before p h (n + 1)) (check_in p.rules (record_of p.plan.log.lines h (n + 1))) (slots_at p h n)
    slots_calm = slots_next ∙ ap (λ (b : Bool). if b then filter.empty else checked p.rules (before p h (n + 1)) (check_in p.rules (record_of p.plan.log.lines h (n + 1))) (slots_at p h n))
        (not_true (flushes_in (record_of p.plan.log.lines h (n + 1))) calm)

    -- a record without a check leaves the slots
    pub slots_plain : check_in p.rules (record_of p.plan.log.lines h (n + 1)) ≡ None → slots_at p h (n + 1) ≡ slots_at p h n
    slots_plain none = slots_calm ∙ ap (λ (o : Option Check). checked p.rules (before p h (n + 1)) o (slots_at p h n)) none

    module _ (c : Check) (is : check_in p.rules (record_of p.plan.log.lines h (n + 1)) ≡ Some c) where
      slots_check : slots_at p h (n + 1) ≡ entered_if (failed p.rules (before p h (n + 1)) c) c (slots_at p h n)
      slots_check = slots_calm ∙ ap (λ (o : Option Check). checked p.rules (before p h (n + 1)) o (slots_at p h n)) is

      -- a check that passes is entered
      pub slots_pass : failed p.rules (before p h (n + 1)) c ≡ None → slots_at p h (n + 1) ≡ filter.entered (slots_at p h n) c.addr c.width
      slots_pass pass = slots_check ∙ ap (λ (o : Option ℕ). entered_if o c (slots_at p h n)) pass

      -- one that fails is not
      pub slots_fail : (a : ℕ) → failed p.rules (before p h (n + 1)) c ≡ Some a → slots_at p h (n + 1) ≡ slots_at p h n
      slots_fail a bad = slots_check ∙ ap (λ (o : Option ℕ). entered_if o c (slots_at p h n)) bad
