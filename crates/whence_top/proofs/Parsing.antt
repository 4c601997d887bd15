-- Words that name events, one pair after the other.
use Rattle.std.specs.Prelude.{◌≡◌, ◌↔◌, ℕ, ◌*◌, ◌<◌, ◌≤◌, Bool, true, false, List, [], ◌∷◌, ◌++◌, All, MatchOption}
use Rattle.std.specs.Prelude.{IsTrue, Option, Some, None, length, map, drop, take, get_or, ◌-◌}
use Rattle.std.specs.Fmt.{decimal}
use Rattle.std.proofs.Common.{refl, ap, sym, subst, ◌∙◌, append_assoc, arith}
use Rattle.std.proofs.lemmas.List.{length-drop, length-map, take_all}
use Rattle.std.proofs.lemmas.List.Elements.{All-cons, All-head, All-tail}
use Rattle.whence_trail.specs.declared.trail.Pair.{Pair}
use Rattle.whence_top.specs.Asking.{AsksForNone, MayAsk, words_of}

-- two words spell a pair
abbrev IsSpelled : List ℕ → List ℕ → Pair → Type 0
IsSpelled hart number pair = MayAsk pair × (hart ≡ decimal pair.hart) × (number ≡ decimal pair.number)

-- these pairs, and after them those that the words spell
abbrev Spells : List Pair → List (List ℕ) → Option (List Pair) → Type 0
Spells before words found = MatchOption found
    ((pairs : List Pair) → All MayAsk pairs → words ≡ words_of pairs → ⊥)
    (λ all. (pairs : List Pair) × (all ≡ before ++ pairs) × All MayAsk pairs × (words ≡ words_of pairs))

no_pair : (hart number : List ℕ) (others : List (List ℕ))
    → ((pair : Pair) → MayAsk pair → hart ≡ decimal pair.hart → number ≡ decimal pair.number → ⊥)
    → (pairs : List Pair) → All MayAsk pairs → hart ∷ number ∷ others ≡ words_of pairs → ⊥
no_pair hart number others none [] all e = absurd (cc)
no_pair hart number others none (pair ∷ pairs) all e = none pair (All-head MayAsk pair pairs all) (cc) (cc)

no_more : (hart number : List ℕ) (others : List (List ℕ))
    → ((pairs : List Pair) → All MayAsk pairs → others ≡ words_of pairs → ⊥)
    → (pairs : List Pair) → All MayAsk pairs → hart ∷ number ∷ others ≡ words_of pairs → ⊥
no_more hart number others none [] all e = absurd (cc)
no_more hart number others none (pair ∷ pairs) all e = none pairs (All-tail MayAsk pair pairs all) (cc)

-- one more pair before those that the other words spell
one_more : (hart number : List ℕ) (others : List (List ℕ)) (pair : Pair) (before : List Pair)
    → IsSpelled hart number pair → (found : Option (List Pair)) → Spells (before ++ pair ∷ []) others found
    → Spells before (hart ∷ number ∷ others) found
one_more hart number others pair before is None none = no_more hart number others none
one_more hart number others pair before is (Some all) spells = (
  pair ∷ spells.0,
  spells.1 ∙ append_assoc before (pair ∷ []) spells.0,
  All-cons MayAsk pair spells.0 is.0 spells.2,
  ap (λ (w : List ℕ). w ∷ number ∷ others) is.1
      ∙ (ap (λ (w : List ℕ). decimal pair.hart ∷ w ∷ others) is.2
      ∙ ap (λ (ws : List (List ℕ)). decimal pair.hart ∷ decimal pair.number ∷ ws) spells.3),
)

-- ---- the words as they lie in a list

two_first : {X : Type 0} (xs : List X) (x y : X) → 2 ≤ length xs → x ≡ get_or xs 0 x → y ≡ get_or xs 1 y
    → xs ≡ x ∷ y ∷ drop 2 xs
two_first [] x y many e d = absurd (omega (arith, many))
two_first (u ∷ []) x y many e d = absurd (omega (arith, many))
two_first (u ∷ v ∷ xs) x y many e d = cc

-- those after the first two
abbrev others_of : {X : Type 0} → List X → List X
others_of xs = take (length xs - 2) (drop 2 xs)

all_others : {X : Type 0} (xs : List X) → others_of xs ≡ drop 2 xs
all_others xs = take_all (length xs - 2) (drop 2 xs) (omega (arith, length-drop 2 xs))

module _ {X : Type 0} (f : X → List ℕ) where
  -- one word alone spells no pair
  pub one_left : (xs : List X) → 1 ≤ length xs → length xs < 2 → (pairs : List Pair) → map f xs ≡ words_of pairs → ⊥
  one_left [] some few pairs e = absurd (omega (arith, some))
  one_left (x ∷ []) some few [] e = absurd (cc)
  one_left (x ∷ []) some few (pair ∷ pairs) e = absurd (cc)
  one_left (x ∷ y ∷ xs) some few pairs e = absurd (omega (arith, few))

  module _ (xs : List X) (x y : X) (many : 2 ≤ length xs) (first : x ≡ get_or xs 0 x) (second : y ≡ get_or xs 1 y)
      (hart number : List ℕ) (is_hart : hart ≡ f x) (is_number : number ≡ f y) where
    split : map f xs ≡ hart ∷ number ∷ map f (others_of xs)
    split =
        ap (map f) (two_first xs x y many first second ∙ ap (λ (rest : List X). x ∷ y ∷ rest) (sym (all_others xs)))
        ∙ (ap (λ (w : List ℕ). w ∷ f y ∷ map f (others_of xs)) (sym is_hart)
        ∙ ap (λ (w : List ℕ). hart ∷ w ∷ map f (others_of xs)) (sym is_number))

    -- the first two words spell no pair
    pub not_first : ((pair : Pair) → MayAsk pair → hart ≡ decimal pair.hart → number ≡ decimal pair.number → ⊥)
        → (pairs : List Pair) → All MayAsk pairs → map f xs ≡ words_of pairs → ⊥
    not_first none pairs all e = no_pair hart number (map f (others_of xs)) none pairs all (sym split ∙ e)

    -- they spell a pair, and the others what was found
    pub spells_more : (pair : Pair) → IsSpelled hart number pair → (before after : List Pair)
        → after ≡ before ++ pair ∷ [] → (found : Option (List Pair)) → Spells after (map f (others_of xs)) found
        → Spells before (map f xs) found
    spells_more pair is before after grown found spells =
        subst (λ (words : List (List ℕ)). Spells before words found) (sym split)
        (one_more hart number (map f (others_of xs)) pair before is found
        (subst (λ (so_far : List Pair). Spells so_far (map f (others_of xs)) found) grown spells))

-- ---- how many words there are

two_each : (pairs : List Pair) → length (words_of pairs) ≡ 2 * length pairs
two_each [] = refl
two_each (pair ∷ pairs) = omega (arith, two_each pairs)

-- too few or too many words spell no pairs
pub no_count : {X : Type 0} (f : X → List ℕ) (xs : List X) (b : Bool)
    → (IsTrue b ↔ ((1 ≤ length xs) × (length xs ≤ 16))) → b ≡ false → AsksForNone (map f xs)
no_count f xs b may is pairs asks =
    let count : length xs ≡ 2 * length pairs =
    sym (length-map xs f) ∙ (ap (λ (ws : List (List ℕ)). length ws) asks.spelled ∙ two_each pairs) in
    let so : b ≡ true = may.1 (omega (arith, asks.some), omega (arith, asks.few)) in
    absurd (cc)
