-- A source that is held was loaded, call by call.
use Rattle.std.proofs.Common.{◌≡◌, ◌≢◌, ◌⊎◌, ℕ, ◌==◌, true, false, inl, inr, List, [], ◌∷◌, refl, sym, ap, ◌∙◌}
use Rattle.std.proofs.lemmas.Bool.{cases_eq, eq-eqb, ne_eqb}
use Rattle.inherit_track.specs.declared.state.Held.{Held}
use Rattle.inherit_track.specs.declared.state.RegState.{RegState}
use Rattle.inherit_track.specs.declared.state.RegState.TheVariants as reg
use Rattle.inherit_track.specs.States.{with_state}
use Rattle.inherit_track.specs.Calls.{Call, Load, Copy, Set, Resolve, LeadTo, IsLoaded}
use Rattle.inherit_track.proofs.RegisterLemmas.{known-ne-held, held_same}

-- what a register holds after a write is what was written, or what it held
written_or : (states : ℕ → RegState) (rd : ℕ) (state : RegState) (r : ℕ) → (with_state states rd state r ≡ state) ⊎ (with_state states rd state r ≡ states r)
written_or states rd state r = elim (cases_eq rd 0) [
  | inl zero_is ↦ let test : (rd == 0) ≡ true = eq-eqb rd 0 zero_is in rw test (inr refl)
  | inr some ↦
      let test : (rd == 0) ≡ false = ne_eqb rd 0 some in
      elim (cases_eq r rd) [
        | inl same ↦ let here : (r == rd) ≡ true = eq-eqb r rd same in rw test (rw here (inl refl))
        | inr other ↦ let there : (r == rd) ≡ false = ne_eqb r rd other in rw test (rw there (inr refl))
      ]
]

pub held_was_loaded : (calls : List Call) (states : ℕ → RegState) → LeadTo calls states → (r : ℕ) (from : Held) → states r ≡ reg.Held from → IsLoaded from calls
held_was_loaded [] states clear r from is = known-ne-held 0 from (sym (clear r) ∙ is)
held_was_loaded (Load rd source ∷ calls) states lead r from is = elim (written_or lead.0 rd (reg.Held source) r) [
  | inl written ↦ inl (held_same source from (sym written ∙ (sym (lead.2 r) ∙ is)))
  | inr kept ↦ inr (held_was_loaded calls lead.0 lead.1 r from (sym kept ∙ (sym (lead.2 r) ∙ is)))
]
held_was_loaded (Copy rd rs ∷ calls) states lead r from is = elim (written_or lead.0 rd (lead.0 rs) r) [
  | inl written ↦ held_was_loaded calls lead.0 lead.1 rs from (sym written ∙ (sym (lead.2 r) ∙ is))
  | inr kept ↦ held_was_loaded calls lead.0 lead.1 r from (sym kept ∙ (sym (lead.2 r) ∙ is))
]
held_was_loaded (Set rd mask ∷ calls) states lead r from is = elim (written_or lead.0 rd (reg.Known mask) r) [
  | inl written ↦ absurd (known-ne-held mask from (sym written ∙ (sym (lead.2 r) ∙ is)))
  | inr kept ↦ held_was_loaded calls lead.0 lead.1 r from (sym kept ∙ (sym (lead.2 r) ∙ is))
]
held_was_loaded (Resolve source mask ∷ calls) states lead r from is =
    let open_still : lead.0 r ≢ reg.Held source = λ e. known-ne-held mask from (sym (lead.2.known r e) ∙ is) in
    let before : lead.0 r ≡ reg.Held from = sym (lead.2.others r open_still) ∙ is in
    ((λ same. open_still (before ∙ ap (λ (h : Held). reg.Held h) (sym same))), held_was_loaded calls lead.0 lead.1 r from before)
