-- One more event, and one more step, of a run that a trail follows.
use Rattle.std.proofs.Common.{◌≡◌, ℕ, ◌+◌, ◌<◌, ◌≤◌, List, [], ◌∷◌, length, drop, Some, slice_get, refl, ap, sym, subst, ◌∙◌, arith}
use Rattle.std.specs.Prelude.{All, slice_index}
use Rattle.std.proofs.lemmas.List.{drop_all, drop_more}
use Rattle.std.proofs.lemmas.Option.{get_or_from_slice_get, slice_get_within}
use Rattle.std.proofs.lemmas.List.Elements.{All-cons, All-nil}
use Rattle.core_sim.specs.declared.hart.Standing.{Standing}
use Rattle.core_sim.specs.declared.job.Job.{Job}
use Rattle.core_sim.specs.Entries.{Entry}
use Rattle.core_sim.specs.Image.{MachineImage}
use Rattle.core_sim.specs.RunEvents.{AllFollow, events_of_entry, events_of_run}
use Rattle.core_sim.specs.Runs.{state_of_hart}
use Rattle.core_sim.specs.Stands.{GoesOn, Stands}
use Rattle.pl_event.specs.declared.event.Event.{Event}
use Rattle.whence_trail.specs.declared.happening.Happening.{Happening}
use Rattle.whence_trail.specs.declared.trail.Pair.{Pair}
use Rattle.whence_trail.specs.declared.trail.Trail.{Trail}
use Rattle.whence_trail.specs.Answers.{Keeps}
use Rattle.whence_trail.specs.Happenings.{next_happening, with_events}
use Rattle.whence_text.specs.Following.{IsFollowed, pc_in}
use Rattle.whence_text.specs.Happened.{happened}

-- each entry has one event
length_happened : (job : Job) (entries : List Entry) → length (happened job entries) ≡ length entries
length_happened job [] = refl
length_happened job (e ∷ before) = omega (arith, length_happened job before)

module _ (job : Job) (before : List Entry) (old new : MachineImage) (events : List Event) (stands : Stands job before old) (goes : GoesOn job before events new) (follows : AllFollow job (events_of_run before) (events_of_entry goes.entry)) where
  hart_in_eight : goes.entry.hart < 8
  hart_in_eight = omega (arith, follows.0.valid.0, goes.stands.valid.few_harts)

  pub all_in_eight : All (λ (event : Event). event.hart < 8) events
  all_in_eight =
      subst (All (λ (event : Event). event.hart < 8)) (sym goes.events_are)
      (All-cons (λ (event : Event). event.hart < 8) (record { hart = goes.entry.hart; kind = goes.entry.act.kind }) [] hart_in_eight (All-nil (λ (event : Event). event.hart < 8)))

  -- there are few events
  pub few_happened : length (happened job before) + length events < 4294967296
  few_happened =
      let steps : length (goes.entry ∷ before) ≡ new.steps = sym goes.stands.steps in
      omega (arith, length_happened job before, ap length goes.events_are, stands.steps, few_before)
    where
      few_before : length before ≤ 250000
      few_before = omega (arith, goes.stands.prefix.1.within, goes.stands.valid.few_steps)

  pub followed : (pcs : List ℕ) → ((hart : ℕ) → hart < 8 → slice_index pcs hart ≡ pc_in old.harts hart) → (pairs : List Pair) (trail : Trail)
      → Keeps pairs (with_events (slice_index pcs) (happened job before) events) trail → IsFollowed pairs job new trail
  followed pcs are pairs trail keeps =
      let event : Event = record { hart = goes.entry.hart; kind = goes.entry.act.kind } in
      let pc : slice_index pcs goes.entry.hart ≡ (state_of_hart job before goes.entry.hart).pc =
      are goes.entry.hart hart_in_eight ∙ ap (λ (harts : List Standing). pc_in harts goes.entry.hart) stands.harts in
      record {
        entries = goes.entry ∷ before;
        stands = goes.stands;
        keeps =
            subst (λ (k : ℕ). Keeps pairs (next_happening (happened job before) event k ∷ happened job before) trail) pc
            (subst (λ (es : List Event). Keeps pairs (with_events (slice_index pcs) (happened job before) es) trail) goes.events_are keeps);
      }

-- ---- the events of one step, one by one

-- a trail has taken so many of the events
abbrev pub Taken : (ℕ → ℕ) → List Event → Trail → ℕ → Trail → Type 0
Taken pcs events first place trail = (pairs : List Pair) (before : List Happening) → length before + length events < 4294967296 → Keeps pairs before first
    → (now : List Happening) × Keeps pairs now trail × (length now ≡ length before + place)
    × (with_events pcs now (drop place events) ≡ with_events pcs before events)

pub take_none : (pcs : ℕ → ℕ) (events : List Event) (first : Trail) → Taken pcs events first 0 first
take_none pcs events first = λ pairs before few kept. (before, kept, omega arith, refl)

drop_event : (events : List Event) (place : ℕ) (event : Event) → slice_get events place ≡ Some event → drop place events ≡ event ∷ drop (place + 1) events
drop_event events place event is =
    drop_more events place event (slice_get_within events place event is)
    ∙ ap (λ (e : Event). e ∷ drop (place + 1) events) (get_or_from_slice_get events place event event is)

pub take_more : (pcs : ℕ → ℕ) (events : List Event) (first old new : Trail) (place : ℕ) (event : Event) (pc : ℕ) → slice_get events place ≡ Some event → pc ≡ pcs event.hart
    → ((pairs : List Pair) (before : List Happening) → length before + 1 < 4294967296 → Keeps pairs before old → Keeps pairs (next_happening before event pc ∷ before) new)
    → Taken pcs events first place old → Taken pcs events first (place + 1) new
take_more pcs events first old new place event pc is same took taken = λ pairs before few kept.
    let so = taken pairs before few kept in
    let within : place < length events = slice_get_within events place event is in
    let room : length so.0 + 1 < 4294967296 = omega (arith, so.2, within, few) in
    let keeps : Keeps pairs (next_happening so.0 event (pcs event.hart) ∷ so.0) new =
    subst (λ (k : ℕ). Keeps pairs (next_happening so.0 event k ∷ so.0) new) same (took pairs so.0 room so.1) in
    (next_happening so.0 event (pcs event.hart) ∷ so.0, keeps, omega (arith, so.2), ap (with_events pcs so.0) (sym (drop_event events place event is)) ∙ so.3)

pub take_all : (pcs : ℕ → ℕ) (events : List Event) (first last : Trail) (place : ℕ) → length events ≤ place → Taken pcs events first place last
    → (pairs : List Pair) (before : List Happening) → length before + length events < 4294967296 → Keeps pairs before first → Keeps pairs (with_events pcs before events) last
take_all pcs events first last place past taken = λ pairs before few kept.
    let so = taken pairs before few kept in
    subst (λ (hs : List Happening). Keeps pairs hs last) (ap (with_events pcs so.0) (sym (drop_all place events past)) ∙ so.3) so.1
