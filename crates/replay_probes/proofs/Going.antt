-- One event more.
use Rattle.std.proofs.Common.{◌≡◌, ℕ, ◌+◌, ◌<◌, List, [], ◌∷◌, ◌++◌, length, map, get_or, inl, inr, refl, sym, ap, subst, ◌∙◌, arith, eq-eqb, add-zero}
use Rattle.std.specs.Prelude.{◌==◌, All, slice_set, slice_index, if◌then◌else◌}
use Rattle.std.proofs.lemmas.Bool.{cases_eq, ne_eqb}
use Rattle.std.proofs.lemmas.Grind.{common_steps}
use Rattle.std.proofs.lemmas.List.{get_or-set_same, get_or-set_other, length_push, length-map}
use Rattle.pl_event.specs.declared.event.Event.{Event}
use Rattle.pl_event.specs.Numbers.{events_on}
use Rattle.replay_probes.specs.declared.audience.Audience.{Audience}
use Rattle.replay_probes.specs.declared.probe.Shown.{Shown}
use Rattle.replay_probes.specs.declared.watch.Watch.{Watch}
use Rattle.replay_probes.specs.declared.watch.Watch.TheVariants.{On}
use Rattle.replay_probes.specs.Meaning.{Meaning, shown_behind}
use Rattle.replay_probes.specs.Watches.{WillTell, IsShown}
use Rattle.replay_probes.specs.Watched.{Watched, telling_behind}
use Rattle.replay_probes.proofs.Telling.{telling_behind-last, telling_first}

-- one hart's count rises
count_after : (counts : List ℕ) (hart h : ℕ) → hart < length counts
    → slice_index (slice_set counts hart (slice_index counts hart + 1)) h ≡ slice_index counts h + (if hart == h then 1 else 0)
count_after counts hart h inside =
    elim (cases_eq h hart) [
      | inl e ↦ rw (e, get_or-set_same counts hart (get_or counts hart 0 + 1) 0 inside, eq-eqb hart hart refl) refl
      | inr ne ↦ rw (get_or-set_other counts hart h (get_or counts hart 0 + 1) 0 ne, ne_eqb hart h (λ e. ne (sym e))) (sym (add-zero (get_or counts h 0)))
    ]

events_on-last : (h : ℕ) (events : List Event) (event : Event) → events_on h (events ++ event ∷ []) ≡ events_on h events + (if event.hart == h then 1 else 0)
events_on-last h events event = grind (arith, common_steps)

-- the event that an audience is shown next
abbrev pub next_shown : {B : Type 0} → Audience B → Event → Shown
next_shown audience event = record { place = audience.place + 1; number = slice_index audience.counts event.hart + 1; event = event }

module _ {B : Type 0} (meaning : B → Meaning) (has_seen : B → List Shown → Type 0) where
  next_is_behind : (meanings : List Meaning) (events : List Event) (event : Event) (audience : Audience B) → event.hart < 8
      → Watched meaning has_seen meanings events audience → next_shown audience event ≡ shown_behind events event
  next_is_behind meanings events event audience inside watched = rw (watched.place, watched.counts event.hart inside) refl

  -- every probe was shown the event
  pub watched_next : (meanings : List Meaning) (events : List Event) (event : Event) (old new : Audience B) → event.hart < 8 → event.hart < length old.counts
      → new.place ≡ old.place + 1 → new.counts ≡ slice_set old.counts event.hart (slice_index old.counts event.hart + 1)
      → length new.watches.items ≡ length old.watches.items
      → ((k : ℕ) (watch : Watch B) → k < length old.watches.items
      → IsShown meaning has_seen (next_shown old event) (get_or old.watches.items k watch) (get_or new.watches.items k watch))
      → Watched meaning has_seen meanings events old → Watched meaning has_seen meanings (events ++ event ∷ []) new
  watched_next meanings events event old new inside row place counts long shown watched = record {
    place = place ∙ ap (λ n. n + 1) watched.place ∙ sym (length_push events event);
    counts = λ h lt. ap (λ (row : List ℕ). slice_index row h) counts ∙ count_after old.counts event.hart h row
        ∙ ap (λ n. n + (if event.hart == h then 1 else 0)) (watched.counts h lt) ∙ sym (events_on-last h events event);
    many = long ∙ watched.many;
    telling = λ k watch other lt.
        let behind = telling_behind (get_or meanings k other) events in
        let next : IsShown meaning has_seen (shown_behind events event) (get_or old.watches.items k watch) (get_or new.watches.items k watch) =
        subst (λ s. IsShown meaning has_seen s (get_or old.watches.items k watch) (get_or new.watches.items k watch))
        (next_is_behind meanings events event old inside watched) (shown k watch (omega (arith, watched.many))) in
        subst (λ tells. WillTell meaning has_seen tells (get_or new.watches.items k watch))
        (sym (telling_behind-last (get_or meanings k other) events event)) (next behind (watched.telling k watch other lt));
  }

  -- no event was shown yet
  pub watched_first : (probes : List B) (audience : Audience B) → All (λ probe. has_seen probe []) probes
      → audience.place ≡ 0 → audience.watches.items ≡ map On probes
      → Watched meaning has_seen (map meaning probes) [] audience
  watched_first probes audience fresh place on = record {
    place = place;
    counts = λ h lt. omega (arith, audience.counted h, place);
    many = ap length on ∙ length-map probes On ∙ sym (length-map probes meaning);
    telling = λ k watch other lt. subst (λ (watches : List (Watch B)). WillTell meaning has_seen (telling_behind (get_or (map meaning probes) k other) []) (get_or watches k watch))
        (sym on) (telling_first meaning has_seen probes fresh k watch other lt);
  }
