-- Counts and sums of one event more.
use Rattle.std.proofs.Common.{◌≡◌, ℕ, zero, suc, ◌+◌, ◌<◌, Bool, true, false, List, [], ◌∷◌, ◌++◌, length, get_or, Option, Some, inl, inr, refl, sym, ap, ◌∙◌, arith, append_assoc, eq-eqb, add-zero}
use Rattle.std.specs.Prelude.{◌==◌, sum_by, replicate, slice_set, slice_index, if◌then◌else◌}
use Rattle.std.proofs.lemmas.Bool.{cases_lt, cases_eq, ne_eqb}
use Rattle.std.proofs.lemmas.Grind.{common_steps}
use Rattle.std.proofs.lemmas.List.{get_or-set_same, get_or-set_other, get_or-replicate, get_or_past, length-replicate, append-nil}
use Rattle.std.proofs.lemmas.List.Concat.{flat_map-append}
use Rattle.std.specs.List.{flat_map}
use Rattle.lifeguard.specs.State.{span}
use Rattle.pl_event.specs.Alerts.{is_alert_kind}
use Rattle.replay_probes.specs.declared.probe.Shown.{Shown}
use Rattle.standard_probes.specs.Probes.{tally, Tallies, first_alert, first_alert_of}

-- one count rises
count_after : (counts : List ℕ) (at k : ℕ) → at < length counts
    → slice_index (slice_set counts at (slice_index counts at + 1)) k ≡ slice_index counts k + (if at == k then 1 else 0)
count_after counts at k inside =
    elim (cases_eq k at) [
      | inl e ↦ rw (e, get_or-set_same counts at (get_or counts at 0 + 1) 0 inside, eq-eqb at at refl) refl
      | inr ne ↦ rw (get_or-set_other counts at k (get_or counts at 0 + 1) 0 ne, ne_eqb at k (λ e. ne (sym e))) (sym (add-zero (get_or counts k 0)))
    ]

tally-last : (number : Shown → ℕ) (seen : List Shown) (shown : Shown) (k : ℕ) → tally number (seen ++ shown ∷ []) k ≡ tally number seen k + (if number shown == k then 1 else 0)
tally-last number seen shown k = grind (arith, common_steps)

-- the count of the event's number rises
pub tallies_next : (number : Shown → ℕ) (counts after : List ℕ) (seen : List Shown) (shown : Shown) → number shown < length counts
    → after ≡ slice_set counts (number shown) (slice_index counts (number shown) + 1) → Tallies number counts seen → Tallies number after (seen ++ shown ∷ [])
tallies_next number counts after seen shown inside e tallies k =
    ap (λ (row : List ℕ). slice_index row k) e ∙ count_after counts (number shown) k inside
    ∙ ap (λ n. n + (if number shown == k then 1 else 0)) (tallies k) ∙ sym (tally-last number seen shown k)

-- one more term
pub sum_by-last : (f : Shown → ℕ) (seen : List Shown) (shown : Shown) → sum_by f (seen ++ shown ∷ []) ≡ sum_by f seen + f shown
sum_by-last f seen shown = grind (arith, common_steps)

-- an event is the first alert only where there was none
first_alert-step : (alert : Bool) (first shown : Shown) (rest more : Option Shown) → more ≡ first_alert_of rest shown
    → (if alert then Some first else more) ≡ first_alert_of (if alert then Some first else rest) shown
first_alert-step true first shown rest more e = refl
first_alert-step false first shown rest more e = e

pub first_alert-last : (seen : List Shown) (shown : Shown) → first_alert (seen ++ shown ∷ []) ≡ first_alert_of (first_alert seen) shown
first_alert-last [] shown = refl
first_alert-last (first ∷ seen) shown =
    first_alert-step (is_alert_kind first.event.kind) first shown (first_alert seen) (first_alert (seen ++ shown ∷ [])) (first_alert-last seen shown)

-- ---- counts of nothing, and lines

-- no count of many is above 0
pub zero_at : (many k : ℕ) → slice_index (replicate many 0) k ≡ 0
zero_at many k = elim (cases_lt k many) [
  | inl lt ↦ get_or-replicate many k 0 0 lt
  | inr le ↦ get_or_past (replicate many 0) k 0 (omega (arith, length-replicate {A = ℕ}))
]

span-more : (a n : ℕ) → span a (n + 1) ≡ span a n ++ (a + n) ∷ []
span-more a zero = ap (λ (b : ℕ). b ∷ []) (sym (add-zero a))
span-more a (suc n) =
    let at : suc a + n ≡ a + suc n = omega arith in
    let one : suc n + 1 ≡ suc (n + 1) = omega arith in
    ap (span a) one ∙ ap (λ (xs : List ℕ). a ∷ xs) (span-more (suc a) n ∙ ap (λ (b : ℕ). span (suc a) n ++ b ∷ []) at)

-- one more piece of a line, after its head
pub pieces-more : (head : List ℕ) (f : ℕ → List ℕ) (n : ℕ) → head ++ flat_map f (span 0 (n + 1)) ≡ (head ++ flat_map f (span 0 n)) ++ f n
pieces-more head f n =
    let at : 0 + n ≡ n = omega arith in
    ap (λ (xs : List ℕ). head ++ flat_map f xs) (span-more 0 n ∙ ap (λ (b : ℕ). span 0 n ++ b ∷ []) at)
    ∙ ap (λ (ys : List ℕ). head ++ ys) (flat_map-append f (span 0 n) (n ∷ []) ∙ ap (λ (ys : List ℕ). flat_map f (span 0 n) ++ ys) (append-nil (f n)))
    ∙ sym (append_assoc head (flat_map f (span 0 n)) (f n))
