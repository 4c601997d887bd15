-- The hart that the schedule names is live.
use Rattle.std.proofs.Common.{◌≡◌, ◌≢◌, ℕ, zero, suc, ◌+◌, ◌/◌, ◌%◌, ◌<◌, ◌⊎◌, inl, inr, Bool, true, List, [], ◌∷◌, length, find, nat_lt, Option, Some, None, IfSome, slice_index, unwrap_or, refl, arith, sym, subst}
use Rattle.std.proofs.lemmas.Bool.{cases_Bool, both_ways, and_parts, eq-eqb, or_left, or_right}
use Rattle.core_sim.specs.declared.job.Item.{Item}
use Rattle.core_sim.specs.declared.job.Job.{Job}
use Rattle.core_sim.specs.declared.job.Schedule.{Schedule}
use Rattle.core_sim.specs.declared.job.Schedule.TheVariants as schedule
use Rattle.core_sim.specs.Draws.{drawn_after}
use Rattle.core_sim.specs.Entries.{Entry, harts_after, turns_of, scheduled}
use Rattle.core_sim.specs.Harts.{live_harts, is_among_live}
use Rattle.core_sim.specs.Runs.{IsLive}
use Rattle.core_sim.specs.Turns.{Turned, round_hart, behind_list, items_left, next_item, listed, next_begun, goes_on, harts_of, with_current, latest_hart}

-- a number that was found is in the list
abbrev InOr : List ℕ → ℕ → Option ℕ → Type 0
InOr ks d o = (is_among_live ks (unwrap_or o d) ≡ true) ⊎ (unwrap_or o d ≡ d)

in_find : (p : ℕ → Bool) (ks : List ℕ) (d : ℕ) → InOr ks d (find p ks)
in_find p [] d = inr refl
in_find p (k ∷ ks) d = elim (cases_Bool (p k)) [
  | inl holds ↦
      let here : find p (k ∷ ks) ≡ Some k = rw holds refl in
      subst (InOr (k ∷ ks) d) (sym here) (inl (or_left _ _ (eq-eqb k k refl)))
  | inr fails ↦
      let over : find p (k ∷ ks) ≡ find p ks = rw fails refl in
      subst (InOr (k ∷ ks) d) (sym over) (elim (in_find p ks d) [ inl there ↦ inl (or_right _ _ there) | inr same ↦ inr same ])
]

index_in : (place : ℕ) (ks : List ℕ) → place < length ks → is_among_live ks (slice_index ks place) ≡ true
index_in place [] within = absurd (omega arith)
index_in zero (k ∷ ks) within = or_left _ _ (eq-eqb k k refl)
index_in (suc place) (k ∷ ks) within = or_right _ _ (index_in place ks (omega arith))

some_length : (ks : List ℕ) → ks ≢ [] → 0 < length ks
some_length [] some = absurd (some refl)
some_length (k ∷ ks) some = omega arith

round_live : (past live : List ℕ) → live ≢ [] → is_among_live live (round_hart past live) ≡ true
round_live [] live some = index_in 0 live (some_length live some)
round_live (latest ∷ past) live some = elim (in_find (λ hart. nat_lt latest hart) live (slice_index live 0)) [
  | inl there ↦ there
  | inr same ↦ rw same (index_in 0 live (some_length live some))
]

found_holds : (p : Item → Bool) (items : List Item) → IfSome (find p items) (λ item. p item ≡ true)
found_holds p [] = tt
found_holds p (item ∷ items) = elim (cases_Bool (p item)) [ inl holds ↦ rw holds holds | inr fails ↦ rw fails (found_holds p items) ]

listed_live : (o : Option Item) (behind live : List ℕ) → live ≢ [] → IfSome o (λ item. is_among_live live item.hart ≡ true) → is_among_live live (listed o behind live).hart ≡ true
listed_live (Some item) behind live some holds = holds
listed_live None behind live some holds = round_live behind live some

begun_live : (s : Schedule) (past live : List ℕ) → live ≢ [] → is_among_live live (next_begun s past live).hart ≡ true
begun_live (schedule.Rr q) past live some = round_live past live some
begun_live (schedule.List items) past live some = listed_live (next_item items past live) (behind_list items past) live some (found_holds (λ item. is_among_live live item.hart) (items_left items past))
begun_live (schedule.Seed n q) past live some = index_in (drawn_after n (length past + 1) / 65536 % length live) live (let long = some_length live some in omega arith)

goes_live : (turns : List Turned) (live : List ℕ) → goes_on turns live ≡ true → is_among_live live (latest_hart turns) ≡ true
goes_live [] live holds = absurd (both_ways _ refl holds)
goes_live (turn ∷ before) live holds = (and_parts _ _ holds).1

current_live : (s : Schedule) (turns : List Turned) (live : List ℕ) → live ≢ [] → is_among_live live (latest_hart (with_current s turns live)) ≡ true
current_live s turns live some = elim (cases_Bool (goes_on turns live)) [
  | inl holds ↦ rw holds (goes_live turns live holds)
  | inr over ↦ rw over (begun_live s (harts_of turns) live some)
]

pub scheduled_live : (job : Job) (entries : List Entry) → IsLive job entries → is_among_live (live_harts (harts_after job entries)) (scheduled job entries) ≡ true
scheduled_live job entries live = current_live job.schedule (turns_of job entries) (live_harts (harts_after job entries)) live
