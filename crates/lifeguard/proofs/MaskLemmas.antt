-- Masks by hart and register.
use Rattle.std.proofs.Common.{◌≡◌, ◌≢◌, ℕ, ◌<◌, Bool, true, false, ◌&&◌, List, [], length, get_or, inl, inr, refl, ap, ◌∙◌, arith, eq-eqb}
use Rattle.std.specs.Prelude.{replicate}
use Rattle.std.proofs.lemmas.Bool.{cases_lt, cases_eq, ne_eqb}
use Rattle.std.proofs.Math.ListN.{set}
use Rattle.std.proofs.lemmas.List.{get_or-set_same, get_or-set_other, get_or-replicate, get_or_past, length-replicate}
use mathlib.Core.Path.{fun_ext}
use Rattle.lifeguard.specs.State.{Masks, with_mask, clear}
use Rattle.lifeguard.specs.Shadow.{masks_of}

-- a written mask
pub masks_of-set : (masks : List (List ℕ)) (hart register mask : ℕ) → hart < length masks → register < length (get_or masks hart []) → register ≢ 0
    → masks_of (set masks hart (set (get_or masks hart []) register mask)) ≡ with_mask hart register mask (masks_of masks)
unfolding masks_of with_mask
masks_of-set masks hart register mask here inside ne = fun_ext (λ h. fun_ext (λ r.
    elim (cases_eq h hart) [
      | inl e ↦ elim (cases_eq r register) [
        | inl f ↦ rw (e, f, get_or-set_same masks hart (set (get_or masks hart []) register mask) [] here, get_or-set_same (get_or masks hart []) register mask 0 inside, eq-eqb hart hart refl, eq-eqb register register refl, ne_eqb register 0 ne) refl
        | inr f ↦ rw (e, get_or-set_same masks hart (set (get_or masks hart []) register mask) [] here, get_or-set_other (get_or masks hart []) register r mask 0 f, eq-eqb hart hart refl, ne_eqb r register f) refl
      ]
      | inr e ↦ rw (get_or-set_other masks hart h (set (get_or masks hart []) register mask) [] e, ne_eqb h hart e) refl
    ]))

and_never : (x : Bool) → (x && false) ≡ false
and_never true = refl
and_never false = refl

-- register 0 keeps its mask
pub with_mask_zero : (hart register mask : ℕ) (masks : Masks) → register ≡ 0 → with_mask hart register mask masks ≡ masks
unfolding with_mask
with_mask_zero hart register mask masks e = fun_ext (λ h. fun_ext (λ r. rw (e, and_never) refl))

abbrev pub rows : ℕ → ℕ → List (List ℕ)
rows harts registers = replicate harts (replicate registers 0)

abbrev pub zeros : ℕ → List ℕ
zeros registers = replicate registers 0

zero_at : (registers r : ℕ) → get_or (zeros registers) r 0 ≡ 0
zero_at registers r = elim (cases_lt r registers) [
  | inl lt ↦ get_or-replicate registers r 0 0 lt
  | inr le ↦ get_or_past (zeros registers) r 0 (omega (arith, length-replicate {A = ℕ}))
]

-- rows of zeros
pub masks_of-rows : (harts registers : ℕ) → masks_of (rows harts registers) ≡ clear
unfolding masks_of
masks_of-rows harts registers = fun_ext (λ h. fun_ext (λ r.
    elim (cases_lt h harts) [
      | inl lt ↦ ap (λ (row : List ℕ). get_or row r 0) (get_or-replicate harts h (zeros registers) [] lt) ∙ zero_at registers r
      | inr le ↦ ap (λ (row : List ℕ). get_or row r 0) (get_or_past (rows harts registers) h [] (omega (arith, length-replicate {A = List ℕ})))
    ]))
