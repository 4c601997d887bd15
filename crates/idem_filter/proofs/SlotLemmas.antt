-- Slot by slot, what calls leave.
use Rattle.std.proofs.Common.{◌≡◌, ℕ, ◌<◌, ◌==◌, true, false, inl, inr, List, [], ◌∷◌, length, slice_index_or, Option, Some, None, refl, arith, sym, ap, ◌∙◌, subst}
use Rattle.std.proofs.lemmas.Bool.{cases_eq, eq-eqb, ne_eqb}
use Rattle.std.proofs.lemmas.List.{get_or-set_same, get_or-set_other, get_or-replicate, length-set}
use Rattle.idem_filter.specs.declared.filter.Check.{Check}
use Rattle.idem_filter.specs.Filter.{hits, slot_of, is_check, empty, entered}
use Rattle.idem_filter.specs.Calls.{Call, Enter, Flush, after, last_check}

slot_count : (calls : List Call) → length (after calls) ≡ 32
slot_count [] = refl
slot_count (Enter addr width ∷ calls) = length-set (after calls) (slot_of addr) (Some (record { addr = addr; width = width })) ∙ slot_count calls
slot_count (Flush ∷ calls) = refl

slot_is : (calls : List Call) (slot : ℕ) → slot < 32 → slice_index_or (after calls) slot None ≡ last_check calls slot
slot_is [] slot lt = get_or-replicate 32 slot None None lt
slot_is (Enter addr width ∷ calls) slot lt = elim (cases_eq (slot_of addr) slot) [
  | inl same ↦
      let test : (slot_of addr == slot) ≡ true = eq-eqb (slot_of addr) slot same in
      rw test (subst (λ (s : ℕ). slice_index_or (entered (after calls) addr width) s None ≡ Some (record { addr = addr; width = width })) same
      (get_or-set_same (after calls) (slot_of addr) (Some (record { addr = addr; width = width })) None (let all = slot_count calls in omega arith)))
  | inr other ↦
      let test : (slot_of addr == slot) ≡ false = ne_eqb (slot_of addr) slot other in
      rw test (get_or-set_other (after calls) (slot_of addr) slot (Some (record { addr = addr; width = width })) None (λ e. other (sym e)) ∙ slot_is calls slot lt)
]
slot_is (Flush ∷ calls) slot lt = get_or-replicate 32 slot None None lt

pub last_hits : (calls : List Call) (addr width : ℕ) → hits (after calls) addr width ≡ is_check (last_check calls (slot_of addr)) addr width
last_hits calls addr width = ap (λ (c : Option Check). is_check c addr width) (slot_is calls (slot_of addr) (omega arith))

pub none_hits : (addr width : ℕ) → hits empty addr width ≡ false
none_hits addr width = ap (λ (c : Option Check). is_check c addr width) (get_or-replicate 32 (slot_of addr) None None (omega arith))
