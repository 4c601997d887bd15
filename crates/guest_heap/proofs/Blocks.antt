-- The live blocks that a table of sizes says.
use Rattle.std.proofs.Common.{◌≡◌, ◌≢◌, ◌==◌, ℕ, zero, suc, ◌+◌, ◌-◌, ◌*◌, ◌/◌, ◌%◌, ◌<◌, ◌≤◌, ◌&&◌, inl, inr, Bool, true, false, List, length, get_or, set, Option, Some, None, replicate, nat_le, if◌then◌else◌, arith, refl, sym, ap, ◌∙◌}
use Rattle.std.proofs.Math.Path.{fun_ext}
use Rattle.std.proofs.lemmas.Bool.{le-leb, lt-leb, eq-eqb, ne_eqb, and_from, and_left, and_right, cases_lt, cases_eq}
use Rattle.std.proofs.lemmas.List.{get_or-replicate, get_or_past, length-replicate, get_or-set_same, get_or-set_other}
use Rattle.guest_heap.specs.Blocks.{size_of, asked, changed}

pub size_of_some : (size : ℕ) → 0 < size → size_of size ≡ Some size
size_of_some zero some = absurd (omega arith)
size_of_some (suc size) some = refl

pub some_size : (size told : ℕ) → size_of size ≡ Some told → (size ≡ told) × (0 < told)
some_size zero told is = absurd (cc)
some_size (suc size) told is = let same : suc size ≡ told = cc in (same, omega arith)

pub asked_at : (sizes : List ℕ) (unit : ℕ) → asked sizes (4194304 + 16 * unit) ≡ size_of (get_or sizes unit 0)
unfolding asked
asked_at sizes unit =
    let test : (nat_le 4194304 (4194304 + 16 * unit) && ((4194304 + 16 * unit) % 16 == 0)) ≡ true = and_from _ _ (le-leb 4194304 (4194304 + 16 * unit) (omega arith)) (eq-eqb ((4194304 + 16 * unit) % 16) 0 (omega arith)) in
    let place : (4194304 + 16 * unit - 4194304) / 16 ≡ unit = omega arith in
    rw (test, place) refl

pub asked_low : (sizes : List ℕ) (a : ℕ) → a < 4194304 → asked sizes a ≡ None
unfolding asked
asked_low sizes a low =
    let test : (nat_le 4194304 a && (a % 16 == 0)) ≡ false = and_left _ _ (lt-leb _ _ low) in
    rw test refl

pub asked_odd : (sizes : List ℕ) (a : ℕ) → (a % 16 ≡ 0 → ⊥) → asked sizes a ≡ None
unfolding asked
asked_odd sizes a odd =
    let test : (nat_le 4194304 a && (a % 16 == 0)) ≡ false = and_right _ _ (ne_eqb _ _ odd) in
    rw test refl

either_none : (test : Bool) (told : Option ℕ) → told ≡ None → (if test then told else None) ≡ None
either_none true told none = none
either_none false told none = refl

pub asked_zero : (sizes : List ℕ) (a : ℕ) → get_or sizes ((a - 4194304) / 16) 0 ≡ 0 → asked sizes a ≡ None
unfolding asked
asked_zero sizes a none = either_none (nat_le 4194304 a && (a % 16 == 0)) (size_of (get_or sizes ((a - 4194304) / 16) 0)) (ap size_of none)

pub asked_live : (sizes : List ℕ) (a size : ℕ) → asked sizes a ≡ Some size →
    (4194304 ≤ a) × (a % 16 ≡ 0) × (get_or sizes ((a - 4194304) / 16) 0 ≡ size) × (0 < size)
asked_live sizes a size live =
    elim (cases_lt a 4194304) [
      | inl low ↦ let none = asked_low sizes a low in absurd (cc)
      | inr from ↦
          elim (cases_eq (a % 16) 0) [
            | inl even ↦
                let place : a ≡ 4194304 + 16 * ((a - 4194304) / 16) = omega arith in
                let is : size_of (get_or sizes ((a - 4194304) / 16) 0) ≡ Some size = sym (asked_at sizes ((a - 4194304) / 16)) ∙ ap (asked sizes) (sym place) ∙ live in
                let known = some_size (get_or sizes ((a - 4194304) / 16) 0) size is in
                (from, even, known.0, known.1)
            | inr odd ↦ let none = asked_odd sizes a odd in absurd (cc)
          ]
    ]

-- the live blocks after the entry of a unit changed
pub asked_set : (sizes : List ℕ) (unit size at : ℕ) → unit < length sizes → at ≡ 4194304 + 16 * unit → asked (set sizes unit size) ≡ changed (asked sizes) at (size_of size)
asked_set sizes unit size at within is = fun_ext (λ a.
    elim (cases_eq a at) [
      | inl same ↦
          let test : (a == at) ≡ true = eq-eqb _ _ same in
          rw test (ap (asked (set sizes unit size)) (same ∙ is) ∙ asked_at (set sizes unit size) unit ∙ ap size_of (get_or-set_same sizes unit size 0 within))
      | inr other ↦
          let test : (a == at) ≡ false = ne_eqb _ _ other in
          rw test
          (elim (cases_lt a 4194304) [
            | inl low ↦ asked_low (set sizes unit size) a low ∙ sym (asked_low sizes a low)
            | inr from ↦
                elim (cases_eq (a % 16) 0) [
                  | inl even ↦
                      let place : a ≡ 4194304 + 16 * ((a - 4194304) / 16) = omega arith in
                      let apart : (a - 4194304) / 16 ≢ unit = λ same. other (omega arith) in
                      ap (asked (set sizes unit size)) place ∙ asked_at (set sizes unit size) ((a - 4194304) / 16)
                      ∙ ap size_of (get_or-set_other sizes unit ((a - 4194304) / 16) size 0 apart)
                      ∙ sym (asked_at sizes ((a - 4194304) / 16)) ∙ ap (asked sizes) (sym place)
                  | inr odd ↦ asked_odd (set sizes unit size) a odd ∙ sym (asked_odd sizes a odd)
                ]
          ])
    ])

pub zero_everywhere : (sizes : List ℕ) (n k : ℕ) → sizes ≡ replicate n 0 → get_or sizes k 0 ≡ 0
zero_everywhere sizes n k is =
    rw is (elim (cases_lt k n) [
      | inl within ↦ get_or-replicate n k 0 0 within
      | inr past ↦ let short : length (replicate {A = ℕ} n 0) ≤ k = rw length-replicate past in get_or_past (replicate n 0) k 0 short
    ])

pub asked_none : (sizes : List ℕ) (n : ℕ) → sizes ≡ replicate n 0 → asked sizes ≡ (λ a. None)
asked_none sizes n is = fun_ext (λ a. asked_zero sizes a (zero_everywhere sizes n ((a - 4194304) / 16) is))
