-- A round in which no worker moved, notes, and another round: all have ended, or fewer records are left.
use Rattle.std.proofs.Common.{◌≡◌, ◌≢◌, ℕ, zero, suc, ◌+◌, ◌-◌, ◌<◌, ◌≤◌, ◌⊎◌, true, false, List, [], ◌∷◌, length, map, slice_index, refl, sym, ap, ◌∙◌, subst, arith, inl, inr, ⊎_elim}
use Rattle.std.proofs.lemmas.List.{length-map}
use mathlib.Core.Option.{some, some-injective}
use mathlib.Core.Logic.{dite}
use native.Mathlib.Decide.{dec_le}
use lib.ListN.{get_elem?}
use Rattle.atomic_table.proofs.Lists.{at_map}
use Rattle.order_core.proofs.Flatten.{inside}
use Rattle.order_core.specs.declared.course.Course.{Course}
use Rattle.turn_worker.specs.Workers.{WorkerView, IsSound, size}
use Rattle.turn_worker.specs.Turns.{HasEnded}
use Rattle.turn_worker.specs.Crews.{IsCrew, HaveHeard, IsStuck}
use Rattle.turn_worker.proofs.StuckLemmas.{all_through}
use Rattle.lifeguard_crew.specs.declared.round_end.RoundEnd.{RoundEnd}
use Rattle.lifeguard_crew.specs.declared.round_end.RoundEnd.TheVariants.{Moved, Waited, Ended}
use Rattle.lifeguard_crew.specs.inner.Rounds.{left, AreSame, IsAtWait, IsRound, IsAdvance, taught, HaveHeardAll}
use Rattle.lifeguard_crew.proofs.Same.{at_place, of_map}

abbrev AtMost : List WorkerView → List WorkerView → Type 0
AtMost vs ws = (k : ℕ) (v w : WorkerView) → get_elem? vs k ≡ some v → get_elem? ws k ≡ some w
    → (size w ≡ size v) × (v.taken ≤ w.taken)

left_least : (vs ws : List WorkerView) → length ws ≡ length vs → AtMost vs ws → left ws ≤ left vs
left_least [] [] e more = omega arith
left_least [] (w ∷ ws) e more = absurd (omega arith)
left_least (v ∷ vs) [] e more = absurd (omega arith)
left_least (v ∷ vs) (w ∷ ws) e more =
    let here = more 0 v w refl refl in
    let sizes : size w ≡ size v = here.0 in
    let taken : v.taken ≤ w.taken = here.1 in
    let rest : left ws ≤ left vs = left_least vs ws (omega arith) (λ k. more (suc k)) in
    omega arith

-- where no fewer records are left, each worker has taken as many as before
none_taken : (vs ws : List WorkerView) → length ws ≡ length vs → AtMost vs ws
    → ((k : ℕ) (w : WorkerView) → get_elem? ws k ≡ some w → w.taken ≤ size w) → left vs ≤ left ws
    → (k : ℕ) (v w : WorkerView) → get_elem? vs k ≡ some v → get_elem? ws k ≡ some w → w.taken ≡ v.taken
none_taken [] ws e more within same_left k v w was now = absurd (let lt : k < 0 = inside [] k v was in omega arith)
none_taken (a ∷ vs) [] e more within same_left k v w was now = absurd (omega arith)
none_taken (a ∷ vs) (b ∷ ws) e more within same_left zero v w was now =
    let here = more 0 v w was now in
    let sizes : size w ≡ size v = here.0 in
    let taken : v.taken ≤ w.taken = here.1 in
    let bound : w.taken ≤ size w = within 0 w now in
    let first : size v - v.taken ≡ size a - a.taken = ap (λ (z : WorkerView). size z - z.taken) (sym (some-injective a v was)) in
    let last : size w - w.taken ≡ size b - b.taken = ap (λ (z : WorkerView). size z - z.taken) (sym (some-injective b w now)) in
    let rest : left ws ≤ left vs = left_least vs ws (omega arith) (λ k. more (suc k)) in
    omega arith
none_taken (a ∷ vs) (b ∷ ws) e more within same_left (suc k) v w was now =
    let here = more 0 a b refl refl in
    let sizes : size b ≡ size a = here.0 in
    let taken : a.taken ≤ b.taken = here.1 in
    none_taken vs ws (omega arith) (λ k. more (suc k)) (λ k. within (suc k)) (omega arith) k v w was now

left_same : (vs ws : List WorkerView) → length ws ≡ length vs
    → ((k : ℕ) (v w : WorkerView) → get_elem? vs k ≡ some v → get_elem? ws k ≡ some w → w ≡ taught w.seat.learnt v)
    → left ws ≡ left vs
left_same [] [] e same = refl
left_same [] (w ∷ ws) e same = absurd (omega arith)
left_same (v ∷ vs) [] e same = absurd (omega arith)
left_same (v ∷ vs) (w ∷ ws) e same =
    let here : size w - w.taken ≡ size v - v.taken = ap (λ (z : WorkerView). size z - z.taken) (same 0 v w refl refl) in
    let rest : left ws ≡ left vs = left_same vs ws (omega arith) (λ k. same (suc k)) in
    omega arith

told_all : (v : WorkerView) → HasEnded v ⊎ IsAtWait v → v.seat.progress ≡ v.taken
told_all v rests = ⊎_elim (λ (e : HasEnded v). e.used.told) (λ (x : IsAtWait v). x.3.told) rests

-- after us one round led to vs, notes to ws, and another round to the workers xs
module _ {W : Type 0} (view : W → WorkerView) (sound : (w : W) → IsSound (view w)) (c : Course) (us vs ws : List WorkerView)
    (xs : List W) (n m : ℕ) (first : IsRound n us vs Waited) (notes : HaveHeardAll m vs ws) (some_n : length us ≤ n) (some_m : length us ≤ m)
    (crew : IsCrew view c xs) (ended : (k : ℕ) (w : W) → get_elem? xs k ≡ some w → (view w).ended ≡ true) where
  abbrev views : List WorkerView
  views = map view xs

  fewer_one : left vs ≤ left us
  fewer_one = first.fewer

  same_two : left ws ≡ left vs
  same_two = left_same vs ws notes.size notes.same

  pub moved_again : IsRound (length xs) ws views Moved → left views < left us
  moved_again second = let less : left views < left ws = second.end in omega (arith, fewer_one, same_two)

  whole : (w : W) (k : ℕ) → get_elem? xs k ≡ some w → length (view w).fed ≡ size (view w)
  whole w k here = (sound w).whole (ended k w here)

  stuck : (second : IsRound (length xs) ws views Waited) → (k : ℕ) (w : W) → get_elem? xs k ≡ some w → IsStuck (view w)
  stuck second k w here = ⊎_elim
      (λ (e : HasEnded (view w)). inl (e.used.all ∙ whole w k here))
      (λ (x : IsAtWait (view w)). inr x)
      (second.end.0 k (view w) (inside xs k w here) (at_map view xs k w here))

  module _ (second : IsRound (length xs) ws views Waited) (none : left ws ≤ left views) where
    more : AtMost ws views
    more k a b was now = (ap size (second.same.each k a b was now), second.taken k a b was now)

    within : (k : ℕ) (b : WorkerView) → get_elem? views k ≡ some b → b.taken ≤ size b
    within k b now = let x = of_map view xs k b now in subst (λ (z : WorkerView). z.taken ≤ size z) x.2 (sound x.0).within

    taken_same : (k : ℕ) (a b : WorkerView) → get_elem? ws k ≡ some a → get_elem? views k ≡ some b → b.taken ≡ a.taken
    taken_same = none_taken ws views second.same.size more within none

    sizes : (length views ≡ length xs) × (length ws ≡ length xs) × (length vs ≡ length xs) × (length us ≡ length xs)
    sizes =
        let a : length views ≡ length xs = length-map xs view in
        let b : length views ≡ length ws = second.same.size in
        let d : length ws ≡ length vs = notes.size in
        let e : length vs ≡ length us = first.same.size in
        (a, omega arith, omega arith, omega arith)

    heard : HaveHeard view xs
    heard j k v w at_j at_k ne =
        let all = sizes in
        let low_j : j < length xs = inside xs j v at_j in
        let low_k : k < length xs = inside xs k w at_k in
        let a = at_place vs j (omega (arith, all.2)) in
        let b = at_place ws j (omega (arith, all.1)) in
        let d = at_place ws k (omega (arith, all.1)) in
        let told : a.0.seat.progress ≡ a.0.taken = told_all a.0 (first.end.0 j a.0 (omega (arith, all.3, some_n)) a.1) in
        let kept : b.0.taken ≡ a.0.taken = ap (λ (z : WorkerView). z.taken) (notes.same j a.0 b.0 a.1 b.1) in
        let own : (view v).taken ≡ b.0.taken = taken_same j b.0 (view v) b.1 (at_map view xs j v at_j) in
        let hears : a.0.seat.progress ≤ slice_index d.0.seat.learnt j = notes.heard k j a.0 d.0 (omega (arith, all.3, some_m)) ne a.1 d.1 in
        let learnt : (view w).seat.learnt ≡ d.0.seat.learnt = second.learnt k d.0 (view w) d.1 (at_map view xs k w at_k) in
        let same : slice_index (view w).seat.learnt j ≡ slice_index d.0.seat.learnt j = ap (λ (z : List ℕ). slice_index z j) learnt in
        omega arith

    impossible : ⊥
    impossible =
        let x = second.end.1 in
        let w = of_map view xs x.0 x.1 x.3 in
        let waits : IsAtWait (view w.0) = subst IsAtWait (sym w.2) x.4 in
        let lt : (view w.0).taken < length (view w.0).fed = waits.3.left in
        let fed : length (view w.0).fed ≡ size (view w.0) = whole w.0 x.0 w.1 in
        let through : (view w.0).taken ≡ size (view w.0) = all_through view sound c xs crew heard (stuck second) x.0 w.0 w.1 in
        omega arith

  pub waited_again : IsRound (length xs) ws views Waited → left views < left us
  waited_again second = dite (dec_le (left views + 1) (left ws))
      (λ less. omega (arith, fewer_one, same_two))
      (λ none. absurd (impossible second (omega arith)))

pub all_ended : (n : ℕ) (us vs ws : List WorkerView) → length vs ≤ n → AreSame us ws → IsRound n vs ws Ended → IsAdvance us ws true
all_ended n us vs ws long same last = record {
  same = same;
  end = λ k w here.
      let lt : k < length ws = inside ws k w here in
      let sizes : length ws ≡ length vs = last.same.size in
      last.end k w (omega arith) here;
}

pub advanced : {W : Type 0} (view : W → WorkerView) (sound : (w : W) → IsSound (view w)) (c : Course) (us vs ws : List WorkerView)
    (xs : List W) (n m p : ℕ) → IsRound n us vs Waited → HaveHeardAll m vs ws → length us ≤ n → length us ≤ m → p ≡ length xs
    → IsCrew view c xs → ((k : ℕ) (w : W) → get_elem? xs k ≡ some w → (view w).ended ≡ true)
    → AreSame us (map view xs) → (how : RoundEnd) → IsRound p ws (map view xs) how → how ≢ Ended → IsAdvance us (map view xs) false
advanced view sound c us vs ws xs n m p first notes some_n some_m is crew ended same Moved last other = record {
  same = same;
  end = moved_again view sound c us vs ws xs n m first notes some_n some_m crew ended (subst (λ (z : ℕ). IsRound z ws (map view xs) Moved) is last);
}
advanced view sound c us vs ws xs n m p first notes some_n some_m is crew ended same Waited last other = record {
  same = same;
  end = waited_again view sound c us vs ws xs n m first notes some_n some_m crew ended (subst (λ (z : ℕ). IsRound z ws (map view xs) Waited) is last);
}
advanced view sound c us vs ws xs n m p first notes some_n some_m is crew ended same Ended last other = absurd (other refl)
