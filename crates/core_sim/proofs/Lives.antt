-- The live harts of a list.
use Rattle.std.proofs.Common.{◌≡◌, ◌≢◌, ◌==◌, ℕ, zero, suc, ◌+◌, ◌<◌, ◌≤◌, ◌&&◌, inl, inr, true, false, List, [], ◌∷◌, length, drop, find, get_or, nat_le, slice_get, count_by, Some, None, refl, arith, sym, ap, ◌∙◌, add-one}
use Rattle.std.proofs.Math.Seq.{drop-cons}
use Rattle.std.proofs.lemmas.Bool.{cases_Bool, cases_lt, both_ways, eq-eqb, ne_eqb, and_parts, and_cases, le-leb, or_left, or_from}
use Rattle.std.proofs.lemmas.List.Recursion.{is_count_by}
use Rattle.core_sim.specs.declared.hart.Standing.{Standing}
use Rattle.core_sim.specs.declared.job.Item.{Item}
use Rattle.core_sim.specs.Harts.{is_live, live_from, live_harts, is_among_live}
use Rattle.core_sim.specs.declared.turn.Place.TheVariants.{Listed}
use Rattle.core_sim.specs.Schedules.{listed_turn}

-- one hart first
pub live_more : (first : ℕ) (hart : Standing) (rest : List Standing) → is_live hart.end ≡ true → live_from first (hart ∷ rest) ≡ first ∷ live_from (first + 1) rest
live_more first hart rest live = rw live refl

pub live_less : (first : ℕ) (hart : Standing) (rest : List Standing) → is_live hart.end ≡ false → live_from first (hart ∷ rest) ≡ live_from (first + 1) rest
live_less first hart rest over = rw over refl

-- a number below the first is none
pub below_live : (harts : List Standing) (first number : ℕ) → number < first → is_among_live (live_from first harts) number ≡ false
below_live [] first number below = refl
below_live (hart ∷ rest) first number below =
    let deeper : is_among_live (live_from (first + 1) rest) number ≡ false = below_live rest (first + 1) number (omega arith) in
    let other : (first == number) ≡ false = ne_eqb first number (omega arith) in
    elim (cases_Bool (is_live hart.end)) [
      | inl live ↦ rw (live_more first hart rest live) (or_from _ _ other deeper)
      | inr over ↦ rw (live_less first hart rest over) deeper
    ]

-- a hart of the list is among the live ones where it is live
pub among_live : (harts : List Standing) (first place : ℕ) (d : Standing) → place < length harts → is_among_live (live_from first harts) (first + place) ≡ is_live (get_or harts place d).end
among_live [] first place d within = absurd (omega arith)
among_live (hart ∷ rest) first zero d within =
    let deeper : is_among_live (live_from (first + 1) rest) (first + 0) ≡ false = below_live rest (first + 1) (first + 0) (omega arith) in
    let here : (first == first + 0) ≡ true = eq-eqb first (first + 0) (omega arith) in
    elim (cases_Bool (is_live hart.end)) [
      | inl live ↦ rw (live_more first hart rest live) (or_left _ _ here ∙ sym live)
      | inr over ↦ rw (live_less first hart rest over) (deeper ∙ sym over)
    ]
among_live (hart ∷ rest) first (suc place) d within =
    let same : first + 1 + place ≡ first + suc place = omega arith in
    let deeper : is_among_live (live_from (first + 1) rest) (first + suc place) ≡ is_live (get_or rest place d).end = rw (← same) (among_live rest (first + 1) place d (omega arith)) in
    let other : (first == first + suc place) ≡ false = ne_eqb first (first + suc place) (omega arith) in
    elim (cases_Bool (is_live hart.end)) [
      | inl live ↦ rw (live_more first hart rest live) (rw other deeper)
      | inr over ↦ rw (live_less first hart rest over) deeper
    ]

-- a number past the last is none
pub past_live : (harts : List Standing) (first number : ℕ) → first + length harts ≤ number → is_among_live (live_from first harts) number ≡ false
past_live [] first number past = refl
past_live (hart ∷ rest) first number past =
    let deeper : is_among_live (live_from (first + 1) rest) number ≡ false = past_live rest (first + 1) number (omega arith) in
    let other : (first == number) ≡ false = ne_eqb first number (omega arith) in
    elim (cases_Bool (is_live hart.end)) [
      | inl live ↦ rw (live_more first hart rest live) (or_from _ _ other deeper)
      | inr over ↦ rw (live_less first hart rest over) deeper
    ]

-- so a live one is a hart of the list
pub within_live : (harts : List Standing) (number : ℕ) → is_among_live (live_harts harts) number ≡ true → number < length harts
within_live harts number live = elim (cases_lt number (length harts)) [ inl within ↦ within | inr past ↦ absurd (both_ways _ (past_live harts 0 number (omega arith)) live) ]

pub some_live : (live : List ℕ) (number : ℕ) → is_among_live live number ≡ true → live ≢ []
some_live [] number holds = λ _. absurd (both_ways _ refl holds)
some_live (x ∷ xs) number holds = λ none. cc

-- the search for a live hart from a number on, one hart further
pub find_here : (first from : ℕ) (hart : Standing) (rest : List Standing) → (nat_le from first && is_live hart.end) ≡ true →
    find (λ number. nat_le from number) (live_from first (hart ∷ rest)) ≡ Some first
find_here first from hart rest holds =
    let parts = and_parts (nat_le from first) (is_live hart.end) holds in
    rw (live_more first hart rest parts.1) (rw parts.0 refl)

pub find_over : (first from : ℕ) (hart : Standing) (rest : List Standing) → (nat_le from first && is_live hart.end) ≡ false →
    find (λ number. nat_le from number) (live_from first (hart ∷ rest)) ≡ find (λ number. nat_le from number) (live_from (first + 1) rest)
find_over first from hart rest fails =
    elim (cases_Bool (is_live hart.end)) [
      | inr over ↦ rw (live_less first hart rest over) refl
      | inl live ↦ elim (and_cases (nat_le from first) (is_live hart.end) fails) [
        | inl below ↦ rw (live_more first hart rest live) (rw below refl)
        | inr over ↦ absurd (both_ways _ over live)
      ]
    ]

-- how many are live, whatever the first number is
same_length : (harts : List Standing) (a b : ℕ) → length (live_from a harts) ≡ length (live_from b harts)
same_length [] a b = refl
same_length (hart ∷ rest) a b =
    let deeper = same_length rest (a + 1) (b + 1) in
    elim (cases_Bool (is_live hart.end)) [
      | inl live ↦ rw (live_more a hart rest live, live_more b hart rest live) (ap suc deeper)
      | inr over ↦ rw (live_less a hart rest over, live_less b hart rest over) deeper
    ]

pub length_live : (harts : List Standing) → length (live_harts harts) ≡ count_by (λ (hart : Standing). is_live hart.end) harts
length_live = is_count_by (λ (harts : List Standing). length (live_harts harts)) (λ (hart : Standing). is_live hart.end) refl (λ hart rest.
    elim (cases_Bool (is_live hart.end)) [
      | inl live ↦ rw (live_more 0 hart rest live, live) (let deeper = same_length rest 1 0 in omega arith)
      | inr over ↦ rw (live_less 0 hart rest over, over) (same_length rest 1 0)
    ])

-- the rest of a list from a place on
pub front_at : (harts : List Standing) (number : ℕ) (hart : Standing) → number < length harts → hart ≡ get_or harts number hart → drop number harts ≡ hart ∷ drop (number + 1) harts
front_at harts number hart within is = rw add-one (drop-cons harts number hart within ∙ ap (λ (h : Standing). h ∷ drop (suc number) harts) (sym is))

pub item_at : (items : List Item) (number : ℕ) (d : Item) → number < length items → drop number items ≡ get_or items number d ∷ drop (number + 1) items
item_at items number d within = rw add-one (drop-cons items number d within)

-- a hart by its number
pub among_at : (harts : List Standing) (number : ℕ) (hart : Standing) → number < length harts → hart ≡ get_or harts number hart → is_among_live (live_harts harts) number ≡ is_live hart.end
among_at harts number hart within is =
    let same : 0 + number ≡ number = omega arith in
    ap (is_among_live (live_harts harts)) (sym same) ∙ among_live harts 0 number hart within ∙ ap (λ (h : Standing). is_live h.end) (sym is)

-- the search at a place of the list
pub find_here_at : (harts : List Standing) (number from : ℕ) (hart : Standing) → number < length harts → hart ≡ get_or harts number hart → (nat_le from number && is_live hart.end) ≡ true →
    find (λ place. nat_le from place) (live_from number (drop number harts)) ≡ Some number
find_here_at harts number from hart within is holds = rw (front_at harts number hart within is) (find_here number from hart (drop (number + 1) harts) holds)

pub find_over_at : (harts : List Standing) (number from : ℕ) (hart : Standing) → number < length harts → hart ≡ get_or harts number hart → (nat_le from number && is_live hart.end) ≡ false →
    find (λ place. nat_le from place) (live_from number (drop number harts)) ≡ find (λ place. nat_le from place) (live_from (number + 1) (drop (number + 1) harts))
find_over_at harts number from hart within is fails = rw (front_at harts number hart within is) (find_over number from hart (drop (number + 1) harts) fails)

-- no hart at all is found
pub find_none : (live : List ℕ) → find (λ place. nat_le 0 place) live ≡ None → live ≡ []
find_none [] none = refl
find_none (x ∷ xs) none = let first : find (λ place. nat_le 0 place) (x ∷ xs) ≡ Some x = rw (le-leb 0 x (omega arith)) refl in absurd (cc)

-- the turn of an item
pub listed_here : (items : List Item) (next : ℕ) (d : Item) (live : List ℕ) → next < length items → is_among_live live (get_or items next d).hart ≡ true →
    listed_turn next (drop next items) live ≡ record { hart = (get_or items next d).hart; left = (get_or items next d).count; place = Listed (next + 1) }
listed_here items next d live within holds = rw (item_at items next d within) (rw holds refl)

-- a number at a place of a list
pub index_of_get : (xs : List ℕ) (n x : ℕ) → slice_get xs n ≡ Some x → (get_or xs n 0 ≡ x) × (xs ≢ [])
index_of_get [] n x is = absurd (cc)
index_of_get (y ∷ ys) zero x is = (let e : y ≡ x = cc in e, λ none. cc)
index_of_get (y ∷ ys) (suc n) x is = ((index_of_get ys n x is).0, λ none. cc)
