-- Slot by slot, what calls leave.
use Rattle.std.proofs.Common.{◌≡◌, ℕ, ◌<◌, ◌==◌, true, false, inl, inr, List, [], ◌∷◌, length, slice_index_or, Option, Some, None, refl, arith, sym, ap, ◌∙◌, subst}
use Rattle.std.proofs.lemmas.Bool.{cases_eq, eq-eqb, ne_eqb}
use Rattle.std.proofs.lemmas.List.{get_or-set_same, get_or-set_other, get_or-replicate, length-set}
use Rattle.meta_lookaside.specs.declared.look_aside.Entry.{Entry}
use Rattle.meta_lookaside.specs.LookAside.{found, slot_of, frame_in, entered}
use Rattle.meta_lookaside.specs.Calls.{Call, Enter, Flush, after, last_entry}

sixteen : (calls : List Call) → length (after calls) ≡ 16
sixteen [] = refl
sixteen (Enter page frame ∷ calls) = length-set (after calls) (slot_of page) (Some (record { page = page; frame = frame })) ∙ sixteen calls
sixteen (Flush ∷ calls) = refl

slot_is : (calls : List Call) (slot : ℕ) → slot < 16 → slice_index_or (after calls) slot None ≡ last_entry calls slot
slot_is [] slot lt = get_or-replicate 16 slot None None lt
slot_is (Enter page frame ∷ calls) slot lt = elim (cases_eq (slot_of page) slot) [
  | inl same ↦
      let test : (slot_of page == slot) ≡ true = eq-eqb (slot_of page) slot same in
      rw test (subst (λ (s : ℕ). slice_index_or (entered (after calls) page frame) s None ≡ Some (record { page = page; frame = frame })) same
      (get_or-set_same (after calls) (slot_of page) (Some (record { page = page; frame = frame })) None (let all = sixteen calls in omega arith)))
  | inr other ↦
      let test : (slot_of page == slot) ≡ false = ne_eqb (slot_of page) slot other in
      rw test (get_or-set_other (after calls) (slot_of page) slot (Some (record { page = page; frame = frame })) None (λ e. other (sym e)) ∙ slot_is calls slot lt)
]
slot_is (Flush ∷ calls) slot lt = get_or-replicate 16 slot None None lt

pub last_is_found : (calls : List Call) (page : ℕ) → found (after calls) page ≡ frame_in (last_entry calls (slot_of page)) page
last_is_found calls page = ap (λ (e : Option Entry). frame_in e page) (slot_is calls (slot_of page) (omega arith))
