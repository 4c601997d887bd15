-- Names, and the probes that they mean.
use Rattle.std.specs.Prelude.{◌≡◌, ◌⊎◌, ℕ, ◌+◌, ◌<◌, ◌≤◌, Bool, true, false, All, IsTrue, MatchOption, bytes_eq}
use Rattle.std.proofs.Common.{Option, Some, None, zero, suc, List, [], ◌∷◌, ◌++◌, cond, length, map, take, get_or}
use Rattle.std.proofs.Common.{inl, inr, refl, sym, ap, ◌∙◌, subst, arith}
use Rattle.std.specs.List.{position_from}
use Rattle.std.proofs.lemmas.List.{length-map, map-append, map_more}
use Rattle.std.proofs.lemmas.List.Elements.{All-head, All-push, All-tail}
use Rattle.std.proofs.lemmas.Slice.Eq.{bytes_eq-Decides}
use Rattle.replay_probes.specs.Meaning.{Meaning}
use Rattle.paralog_top.specs.ProbeNames.{AreChosen, IsFirst, are_different, name_at, names_at, place_named}

-- ---- the place that a name means

either : (b : Bool) (i k : ℕ) (rest : Option ℕ) → cond b (Some i) rest ≡ Some k
    → ((b ≡ true) × (i ≡ k)) ⊎ (rest ≡ Some k)
either true i k rest e = inl (refl, cc)
either false i k rest e = inr e

abbrev names : List Meaning → List (List ℕ)
names meanings = map (λ meaning. meaning.name) meanings

found_from : (meanings : List Meaning) (name : List ℕ) (i k : ℕ)
    → position_from (λ meaning. bytes_eq meaning.name name) i meanings ≡ Some k
    → (j : ℕ) × (k ≡ i + j) × (get_or (names meanings) j [] ≡ name)
found_from [] name i k e = absurd (cc)
found_from (m ∷ meanings) name i k e =
    let later = position_from (λ meaning. bytes_eq meaning.name name) (i + 1) meanings in
    elim (either (bytes_eq m.name name) i k later e) [
      | inl here ↦ (0, omega (arith, here.1), (bytes_eq-Decides m.name name).0 here.0)
      | inr later ↦
          let found = found_from meanings name (i + 1) k later in (suc found.0, omega (arith, found.1), found.2)
    ]

-- the name of the probe that a name means is that name
pub named_at : (meanings : List Meaning) (name : List ℕ) (k : ℕ) → place_named meanings name ≡ Some k
    → name_at meanings k ≡ name
named_at meanings name k e =
    let found = found_from meanings name 0 k e in
    let same : k ≡ found.0 = omega (arith, found.1) in
    ap (λ (j : ℕ). get_or (names meanings) j []) same ∙ found.2

pub first_named : (meanings : List Meaning) (name : List ℕ) (k : ℕ) → place_named meanings name ≡ Some k
    → IsFirst meanings k
first_named meanings name k e = ap (place_named meanings) (named_at meanings name k e) ∙ e

-- ---- names that mean no probes

-- a name that no probe has
pub unknown : (meanings : List Meaning) (words : List (List ℕ)) (places : List ℕ) (k : ℕ) (d : List ℕ)
    → k < length words → place_named meanings (get_or words k d) ≡ None → All (IsFirst meanings) places
    → words ≡ names_at meanings places → ⊥
unknown meanings [] places k d lt none first e = absurd (omega (arith, lt))
unknown meanings (word ∷ words) [] k d lt none first e = absurd (cc)
unknown meanings (word ∷ words) (place ∷ places) zero d lt none first e =
    let here = All-head (IsFirst meanings) place places first in
    let same : word ≡ name_at meanings place = cc in
    let named : place_named meanings word ≡ Some place = ap (place_named meanings) same ∙ here in
    absurd (cc)
unknown meanings (word ∷ words) (place ∷ places) (suc k) d lt none first e =
    let same : words ≡ names_at meanings places = cc in
    unknown meanings words places k d (omega (arith, lt)) none (All-tail (IsFirst meanings) place places first) same

-- one more name, and the place that it means
pub named_more : {X : Type 0} (meanings : List Meaning) (f : X → List ℕ) (xs : List X) (k : ℕ) (x : X) (place : ℕ)
    (places more : List ℕ) → k < length xs → x ≡ get_or xs k x → place_named meanings (f x) ≡ Some place
    → more ≡ places ++ place ∷ [] → names_at meanings places ≡ map f (take k xs)
    → names_at meanings more ≡ map f (take (k + 1) xs)
named_more meanings f xs k x place places more lt at e grown so_far =
    ap (names_at meanings) grown ∙ (map-append (name_at meanings) places (place ∷ [])
    ∙ (ap (λ (names : List (List ℕ)). names ++ name_at meanings place ∷ []) so_far
    ∙ (ap (λ (name : List ℕ). map f (take k xs) ++ name ∷ []) (named_at meanings (f x) place e ∙ ap f at)
    ∙ sym (map_more f xs k x lt))))

pub first_more : (meanings : List Meaning) (name : List ℕ) (place : ℕ) (places more : List ℕ)
    → place_named meanings name ≡ Some place → more ≡ places ++ place ∷ [] → All (IsFirst meanings) places
    → All (IsFirst meanings) more
first_more meanings name place places more e grown all =
    subst (All (IsFirst meanings)) (sym grown)
    (All-push (IsFirst meanings) places place all (first_named meanings name place e))

abbrev AreFirst : List Meaning → List (List ℕ) → Option (List ℕ) → Type 0
AreFirst meanings words found = MatchOption found
    ((places : List ℕ) → All (IsFirst meanings) places → words ≡ names_at meanings places → ⊥)
    (λ places. All (IsFirst meanings) places × (words ≡ names_at meanings places))

-- 1 to 8 different names of probes
pub choose : (meanings : List Meaning) (words : List (List ℕ)) → 1 ≤ length words → length words ≤ 8
    → IsTrue (are_different words) → (found : Option (List ℕ)) → AreFirst meanings words found → MatchOption found
    ((places : List ℕ) → AreChosen meanings places → words ≡ names_at meanings places → ⊥)
    (λ places. AreChosen meanings places × (words ≡ names_at meanings places))
choose meanings words one few differ None none = λ places chosen e. none places chosen.first e
choose meanings words one few differ (Some places) found =
    let many : length words ≡ length places =
    ap (λ (ws : List (List ℕ)). length ws) found.1 ∙ length-map places (name_at meanings) in (
      record {
        some = omega (arith, many, one);
        few = omega (arith, many, few);
        different = subst (λ (ws : List (List ℕ)). IsTrue (are_different ws)) found.1 differ;
        first = found.0;
      },
      found.1,
    )
