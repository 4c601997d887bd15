-- Each event of a run may follow those before it.
use Rattle.std.proofs.Common.{◌≡◌, ◌≢◌, ℕ, zero, suc, ◌+◌, ◌<◌, ◌⊎◌, inl, inr, Bool, true, false, List, [], ◌∷◌, ◌++◌, length, length-append, take, Some, slice_get, get_or, refl, arith, sym, ap, ◌∙◌, subst}
use Rattle.std.specs.Prelude.{All}
use Rattle.std.proofs.lemmas.List.{length-set, get_or-set_same, get_or-set_other}
use Rattle.std.proofs.lemmas.List.Elements.{All-append, All-from_recursion}
use Rattle.std.proofs.lemmas.List.Sums.{fold-append}
use Rattle.std.proofs.lemmas.Bool.{cases_eq}
use Rattle.guest_kernel.specs.State.{State}
use Rattle.pl_event.specs.declared.event.Event.{Event}
use Rattle.pl_event.specs.declared.event.Kind.{Kind}
use Rattle.pl_event.specs.declared.event.Kind.TheVariants.{Ld, St, Op, Mv, Im, Br, Jr, Al, Fr, Bf, Mp, Um, Rd, Wr, Ex, Ft}
use Rattle.pl_event.specs.Mapping.{mapped_by, KeepsPages}
use Rattle.pl_event.specs.OpeningPages.{is_in_runs}
use Rattle.pl_event.specs.Runs.{ends_hart}
use Rattle.core_sim.specs.declared.hart.Standing.{Standing}
use Rattle.core_sim.specs.declared.job.Job.{Job}
use Rattle.core_sim.specs.Entries.{Entry, is_mapped, state_after, harts_after}
use Rattle.core_sim.specs.Harts.{is_live, live_harts, is_among_live}
use Rattle.core_sim.specs.RunEvents.{events_of_entry, events_of_run, mapped_after, MayFollow, AllFollow}
use Rattle.core_sim.specs.Runs.{IsPrefix, state_of_hart}
use Rattle.core_sim.specs.Start.{start_runs, standing_at}
use Rattle.core_sim.specs.Valid.{IsValidJob}
use Rattle.core_sim.proofs.Ending.{goes_step}
use Rattle.core_sim.proofs.Happening.{Tells, tells_step, event_of, event_is_valid}
use Rattle.core_sim.proofs.Lives.{among_live, within_live}
use Rattle.core_sim.proofs.Turned.{scheduled_live}

-- Live harts

-- the hart of that number is live
abbrev LiveAt : List Standing → ℕ → Type 0
LiveAt harts h = is_among_live (live_harts harts) h ≡ true

live_end : (harts : List Standing) (h : ℕ) (d : Standing) → LiveAt harts h → is_live (get_or harts h d).end ≡ true
live_end harts h d live =
    let same : 0 + h ≡ h = omega arith in
    sym (among_live harts 0 h d (within_live harts h live)) ∙ ap (is_among_live (live_harts harts)) same ∙ live

live_from_end : (harts : List Standing) (h : ℕ) (d : Standing) → h < length harts → is_live (get_or harts h d).end ≡ true → LiveAt harts h
live_from_end harts h d within live =
    let same : 0 + h ≡ h = omega arith in
    ap (is_among_live (live_harts harts)) (sym same) ∙ among_live harts 0 h d within ∙ live

-- a hart that is live after an entry was live before it, unless the entry is its own, and then the entry left it live
live_before : (job : Job) (before : List Entry) (e : Entry) (h : ℕ) → LiveAt (harts_after job (e ∷ before)) h →
    ((e.hart ≡ h) × (is_live e.act.next.end ≡ true)) ⊎ ((e.hart ≢ h) × LiveAt (harts_after job before) h)
live_before job before e h live =
    let d : Standing = standing_at 0 0 in
    let shown : is_live (get_or (harts_after job (e ∷ before)) h d).end ≡ true = live_end (harts_after job (e ∷ before)) h d live in
    let within : h < length (harts_after job before) = omega (arith, within_live (harts_after job (e ∷ before)) h live, length-set (harts_after job before) e.hart e.act.next) in
    elim (cases_eq e.hart h) [
      | inl same ↦ inl (
        same,
        (
            let at : get_or (harts_after job (e ∷ before)) e.hart d ≡ e.act.next = get_or-set_same (harts_after job before) e.hart e.act.next d (omega (arith, within, same)) in
            ap (λ (s : Standing). is_live s.end) (sym at) ∙ ap (λ (k : ℕ). is_live (get_or (harts_after job (e ∷ before)) k d).end) same ∙ shown),
      )
      | inr other ↦ inr (
        other,
        (
            let at : get_or (harts_after job (e ∷ before)) h d ≡ get_or (harts_after job before) h d = get_or-set_other (harts_after job before) e.hart h e.act.next d (λ same. other (sym same)) in
            live_from_end (harts_after job before) h d within (ap (λ (s : Standing). is_live s.end) (sym at) ∙ shown)),
      )
    ]

-- no event of a hart that is live has ended it
abbrev NotEnded : ℕ → Event → Type 0
NotEnded h a = a.hart ≡ h → ends_hart a.kind ≡ false

add_event : (P : Event → Type 0) (events : List Event) (event : Event) → All P events → P event → All P (events ++ event ∷ [])
add_event P events event all one = All-append P events (event ∷ []) all (All-from_recursion P (event ∷ []) (one, tt))

none_ended : (job : Job) (entries : List Entry) (h : ℕ) → IsPrefix job entries → LiveAt (harts_after job entries) h → All (NotEnded h) (events_of_run entries)
none_ended job [] h prefix live = All-from_recursion (NotEnded h) [] tt
none_ended job (e ∷ before) h prefix live = elim (live_before job before e h live) [
  | inl (same, goes) ↦
      let was : LiveAt (harts_after job before) h = subst (LiveAt (harts_after job before)) (sym prefix.1.hart ∙ same) (scheduled_live job before prefix.1.live) in
      add_event (NotEnded h) (events_of_run before) (event_of e) (none_ended job before h prefix.0 was)
      (λ here. goes_step job.words (state_after job before) (state_of_hart job before e.hart) e.act prefix.1.step goes)
  | inr (other, was) ↦
      add_event (NotEnded h) (events_of_run before) (event_of e) (none_ended job before h prefix.0 was) (λ here. absurd (other here))
]

-- Pages

mapped_same : (job : Job) (entries : List Entry) → mapped_after job (events_of_run entries) ≡ is_mapped job entries
mapped_same job [] = refl
mapped_same job (e ∷ before) =
    fold-append (λ (m : ℕ → Bool) (event : Event). mapped_by m event.kind) (is_in_runs (start_runs job)) (events_of_run before) (events_of_entry e)
    ∙ ap (λ (m : ℕ → Bool). mapped_by m e.act.kind) (mapped_same job before)

keeps : (s : State) (kind : Kind) → Tells s kind → KeepsPages s.mapped kind
keeps s (Ld width rd rb addr) tells = tt
keeps s (St width rv rb addr) tells = tt
keeps s (Op rd r1 r2) tells = tt
keeps s (Mv rd rs) tells = tt
keeps s (Im rd) tells = tt
keeps s (Br r1 r2) tells = tt
keeps s (Jr rd rs) tells = tt
keeps s (Al addr len) tells = tt
keeps s (Fr addr len) tells = tt
keeps s (Bf addr) tells = tt
keeps s (Mp page count) tells = (tells.free, tells.room)
keeps s (Um page count) tells = tells.all_mapped
keeps s (Rd addr len) tells = tt
keeps s (Wr addr len) tells = tt
keeps s Ex tells = tt
keeps s (Ft cause addr) tells = tt

-- The next events

follows : (job : Job) (before : List Entry) (e : Entry) → IsValidJob job → IsPrefix job (e ∷ before) → MayFollow job (events_of_run before) (event_of e)
follows job before e valid prefix = record {
  valid = event_is_valid job before e valid prefix;
  live = none_ended job before e.hart prefix.0 (subst (LiveAt (harts_after job before)) (sym prefix.1.hart) (scheduled_live job before prefix.1.live));
  maps = subst (λ (m : ℕ → Bool). KeepsPages m e.act.kind) (sym (mapped_same job before)) (keeps (state_after job before) e.act.kind (tells_step job.words (state_after job before) (state_of_hart job before e.hart) e.act prefix.1.step));
}

pub entry_follows : (job : Job) (before : List Entry) (e : Entry) → IsValidJob job → IsPrefix job (e ∷ before) → AllFollow job (events_of_run before) (events_of_entry e)
entry_follows job before e valid prefix = (follows job before e valid prefix, tt)

-- All events

joined : (before : List Event) (event : Event) (rest : List Event) → (before ++ event ∷ []) ++ rest ≡ before ++ event ∷ rest
joined [] event rest = refl
joined (b ∷ before) event rest = ap (λ (r : List Event). b ∷ r) (joined before event rest)

nothing_more : (before : List Event) → before ++ [] ≡ before
nothing_more [] = refl
nothing_more (b ∷ before) = ap (λ (r : List Event). b ∷ r) (nothing_more before)

-- the event at each position
at_position : (job : Job) (before events : List Event) → AllFollow job before events → (i : ℕ) (event : Event) → slice_get events i ≡ Some event →
    MayFollow job (before ++ take i events) event
at_position job before [] all i event is = absurd (cc)
at_position job before (first ∷ rest) all zero event is =
    let same : first ≡ event = cc in
    subst (MayFollow job (before ++ [])) same (subst (λ (b : List Event). MayFollow job b first) (sym (nothing_more before)) all.0)
at_position job before (first ∷ rest) all (suc i) event is =
    subst (λ (b : List Event). MayFollow job b event) (joined before first (take i rest)) (at_position job (before ++ first ∷ []) rest all.1 i event is)

-- one list after another
in_turn : (job : Job) (before xs ys : List Event) → AllFollow job before xs → AllFollow job (before ++ xs) ys → AllFollow job before (xs ++ ys)
in_turn job before [] ys first more = subst (λ (b : List Event). AllFollow job b ys) (nothing_more before) more
in_turn job before (x ∷ xs) ys first more =
    (first.0, in_turn job (before ++ x ∷ []) xs ys first.1 (subst (λ (b : List Event). AllFollow job b ys) (sym (joined before x xs)) more))

run_follows : (job : Job) (entries : List Entry) → IsValidJob job → IsPrefix job entries → AllFollow job [] (events_of_run entries)
run_follows job [] valid prefix = tt
run_follows job (e ∷ before) valid prefix = in_turn job [] (events_of_run before) (events_of_entry e) (run_follows job before valid prefix.0) (entry_follows job before e valid prefix)

pub each_follows : (job : Job) (entries : List Entry) → IsValidJob job → IsPrefix job entries → (i : ℕ) (event : Event) → slice_get (events_of_run entries) i ≡ Some event →
    MayFollow job (take i (events_of_run entries)) event
each_follows job entries valid prefix = at_position job [] (events_of_run entries) (run_follows job entries valid prefix)

pub as_many : (entries : List Entry) → length (events_of_run entries) ≡ length entries
as_many [] = refl
as_many (e ∷ before) = length-append (events_of_run before) (events_of_entry e) ∙ (let deeper = as_many before in omega arith)
