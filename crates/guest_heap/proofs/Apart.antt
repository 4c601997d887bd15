-- Holes that lie apart, cut into a prefix and the rest.
use Rattle.std.proofs.Common.{ℕ, zero, suc, ◌+◌, ◌<◌, ◌≤◌, ◌⊎◌, inl, inr, List, [], ◌∷◌, ◌++◌, length, arith}
use Rattle.std.proofs.lemmas.Bool.{cases_lt}
use Rattle.guest_heap.specs.declared.holes.Hole.{Hole}
use Rattle.guest_heap.specs.Holes.{IsApart, In, AllIn, start_of, end_of, room}

-- where the holes after a prefix may begin
abbrev pub after : ℕ → List Hole → ℕ
after from [] = from
after from (hole ∷ holes) = after (hole.end + 1) holes

pub apart_front : (from : ℕ) (front rest : List Hole) → IsApart from (front ++ rest) → IsApart from front
apart_front from [] rest apart = tt
apart_front from (hole ∷ front) rest apart = (apart.0, apart.1, apart_front (hole.end + 1) front rest apart.2)

pub apart_rest : (from : ℕ) (front rest : List Hole) → IsApart from (front ++ rest) → IsApart (after from front) rest
apart_rest from [] rest apart = apart
apart_rest from (hole ∷ front) rest apart = apart_rest (hole.end + 1) front rest apart.2

pub apart_join : (from : ℕ) (front rest : List Hole) → IsApart from front → IsApart (after from front) rest → IsApart from (front ++ rest)
apart_join from [] rest first then = then
apart_join from (hole ∷ front) rest first then = (first.0, first.1, apart_join (hole.end + 1) front rest first.2 then)

pub apart_lower : (from lower : ℕ) (holes : List Hole) → lower ≤ from → IsApart from holes → IsApart lower holes
apart_lower from lower [] below apart = tt
apart_lower from lower (hole ∷ holes) below apart = (omega (arith, apart.0, below), apart.1, apart.2)

pub in_front : (front rest : List Hole) (unit : ℕ) → In front unit → In (front ++ rest) unit
in_front [] rest unit no_one = elim no_one [ ]
in_front (hole ∷ front) rest unit (inl here) = inl here
in_front (hole ∷ front) rest unit (inr later) = inr (in_front front rest unit later)

pub in_rest : (front rest : List Hole) (unit : ℕ) → In rest unit → In (front ++ rest) unit
in_rest [] rest unit is_in = is_in
in_rest (hole ∷ front) rest unit is_in = inr (in_rest front rest unit is_in)

pub in_split : (front rest : List Hole) (unit : ℕ) → In (front ++ rest) unit → In front unit ⊎ In rest unit
in_split [] rest unit is_in = inr is_in
in_split (hole ∷ front) rest unit (inl here) = inl (inl here)
in_split (hole ∷ front) rest unit (inr later) = elim (in_split front rest unit later) [ inl first ↦ inl (inr first) | inr second ↦ inr second ]

-- the holes from somewhere on lie there
pub in_above : (from : ℕ) (holes : List Hole) (unit : ℕ) → IsApart from holes → In holes unit → from ≤ unit
in_above from [] unit apart no_one = elim no_one [ ]
in_above from (hole ∷ holes) unit apart (inl here) = omega (arith, apart.0, here.0)
in_above from (hole ∷ holes) unit apart (inr later) = omega (arith, apart.0, apart.1, in_above (hole.end + 1) holes unit apart.2 later)

-- a prefix lies before what may come after it
pub in_below : (from : ℕ) (holes : List Hole) (unit : ℕ) → IsApart from holes → In holes unit → unit < after from holes
in_below from [] unit apart no_one = elim no_one [ ]
in_below from (hole ∷ holes) unit apart (inr later) = in_below (hole.end + 1) holes unit apart.2 later
in_below from (hole ∷ holes) unit apart (inl here) = omega (arith, here.1, after_grows (hole.end + 1) holes apart.2)
  where
    after_grows : (from : ℕ) (holes : List Hole) → IsApart from holes → from ≤ after from holes
    after_grows from [] apart = omega arith
    after_grows from (hole ∷ holes) apart = omega (arith, apart.0, apart.1, after_grows (hole.end + 1) holes apart.2)

-- where each hole of a prefix ends below a unit, the rest may begin there
pub after_below : (from unit : ℕ) (holes : List Hole) → from ≤ unit → ((k : ℕ) → k < length holes → end_of holes k < unit) → after from holes ≤ unit
after_below from unit [] below ends = below
after_below from unit (hole ∷ holes) below ends = after_below (hole.end + 1) unit holes (omega (arith, ends 0 (omega arith))) (λ k within. ends (suc k) (omega arith))

pub starts_above : (from : ℕ) (holes : List Hole) (k : ℕ) → IsApart from holes → k < length holes → from ≤ start_of holes k
starts_above from [] k apart within = absurd (omega arith)
starts_above from (hole ∷ holes) zero apart within = apart.0
starts_above from (hole ∷ holes) (suc k) apart within = omega (arith, apart.0, apart.1, starts_above (hole.end + 1) holes k apart.2 (omega arith))

pub starts_rise : (from : ℕ) (holes : List Hole) (i k : ℕ) → IsApart from holes → i ≤ k → k < length holes → start_of holes i ≤ start_of holes k
starts_rise from [] i k apart below within = absurd (omega arith)
starts_rise from (hole ∷ holes) zero zero apart below within = omega arith
starts_rise from (hole ∷ holes) zero (suc k) apart below within = omega (arith, apart.1, starts_above (hole.end + 1) holes k apart.2 (omega arith))
starts_rise from (hole ∷ holes) (suc i) zero apart below within = absurd (omega arith)
starts_rise from (hole ∷ holes) (suc i) (suc k) apart below within = starts_rise (hole.end + 1) holes i k apart.2 (omega arith) (omega arith)

-- free units in a row lie in one hole, since no two holes touch
pub in_one : (from : ℕ) (holes : List Hole) (start count : ℕ) → IsApart from holes → 0 < count → AllIn holes start count →
    (k : ℕ) × (k < length holes) × (start_of holes k ≤ start) × (count ≤ room holes k)
in_one from [] start count apart some all = absurd (all start (omega arith) (omega arith))
in_one from (hole ∷ holes) start count apart some all =
    elim (all start (omega arith) (omega arith)) [
      | inl here ↦
          elim (cases_lt hole.end (start + count)) [
            | inl past ↦
                elim (all hole.end (omega (arith, here.1)) past) [
                  | inl past_it ↦ absurd (omega (arith, past_it.1))
                  | inr later ↦ absurd (omega (arith, in_above (hole.end + 1) holes hole.end apart.2 later))
                ]
            | inr within ↦ (0, omega arith, here.0, omega (arith, here.0, here.1, within))
          ]
      | inr later ↦
          let above = in_above (hole.end + 1) holes start apart.2 later in
          let found = in_one (hole.end + 1) holes start count apart.2 some (λ unit from below.
          elim (all unit from below) [
            | inl before_it ↦ absurd (omega (arith, before_it.1, above, from))
            | inr then ↦ then
          ]) in
          (suc found.0, omega (arith, found.1), found.2, found.3)
    ]
