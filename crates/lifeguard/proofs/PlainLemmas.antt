-- One event more, and the plain result.
use Rattle.std.proofs.Common.{◌≡◌, ℕ, ◌+◌, ◌<◌, List, [], ◌∷◌, ◌++◌, length, get_or, refl, sym, ap, ◌∙◌, arith, inl, inr, append_assoc, eq-eqb, add-zero}
use Rattle.std.specs.Prelude.{◌==◌, slice_set, slice_index, if◌then◌else◌}
use Rattle.std.proofs.lemmas.Bool.{cases_eq, ne_eqb}
use Rattle.std.proofs.lemmas.List.{get_or-set_same, get_or-set_other}
use Rattle.std.proofs.lemmas.Grind.{common_steps}
use Rattle.pl_event.specs.declared.event.Event.{Event}
use Rattle.pl_event.specs.declared.event.Kind.{Kind}
use Rattle.pl_event.specs.declared.event.Kind.TheVariants.{Ld, St, Op, Mv, Im, Br, Jr, Al, Fr, Bf, Mp, Um, Rd, Wr, Ex, Ft}
use Rattle.pl_event.specs.declared.log.PageRun.{PageRun}
use Rattle.pl_event.specs.Numbers.{events_on}
use Rattle.lifeguard.specs.Rules.{Rules}
use Rattle.lifeguard.specs.State.{State, Bytes, Masks, first_state}
use Rattle.lifeguard.specs.Plain.{rule, place_after, plain_from, plain_result, masks_after, bytes_after, reports_of}
use Rattle.lifeguard.specs.Shadow.{Represents, Begins, IsStep, next_place, state_of, state_from, bytes_in, masks_of}
use Rattle.lifeguard.specs.declared.shadow.Shadow.{Shadow}
use Rattle.lifeguard.specs.declared.report.Report.{Report}
use Rattle.lifeguard.specs.declared.report.EventPlace.{EventPlace}

-- a store changes no mask: the bytes that an event changes may be read off the masks after it
pub bytes_after-masks_after : (rules : Rules) (hart : ℕ) (kind : Kind) (bytes : Bytes) (masks : Masks) → bytes_after rules hart kind bytes (masks_after rules hart kind bytes masks) ≡ bytes_after rules hart kind bytes masks
bytes_after-masks_after rules hart (Ld width rd rb addr) bytes masks = refl
bytes_after-masks_after rules hart (St width rv rb addr) bytes masks = refl
bytes_after-masks_after rules hart (Op rd r1 r2) bytes masks = refl
bytes_after-masks_after rules hart (Mv rd rs) bytes masks = refl
bytes_after-masks_after rules hart (Im rd) bytes masks = refl
bytes_after-masks_after rules hart (Br r1 r2) bytes masks = refl
bytes_after-masks_after rules hart (Jr rd rs) bytes masks = refl
bytes_after-masks_after rules hart (Al addr len) bytes masks = refl
bytes_after-masks_after rules hart (Fr addr len) bytes masks = refl
bytes_after-masks_after rules hart (Bf addr) bytes masks = refl
bytes_after-masks_after rules hart (Mp page count) bytes masks = refl
bytes_after-masks_after rules hart (Um page count) bytes masks = refl
bytes_after-masks_after rules hart (Rd addr len) bytes masks = refl
bytes_after-masks_after rules hart (Wr addr len) bytes masks = refl
bytes_after-masks_after rules hart Ex bytes masks = refl
bytes_after-masks_after rules hart (Ft cause addr) bytes masks = refl

-- room first, then reports, then masks, then bytes make one step
pub state_after : (rules : Rules) (at : EventPlace) (kind : Kind) (pages read seen written after : List (List ℕ)) (masks marked : List (List ℕ)) (reports told : List Report)
    → bytes_in read ≡ bytes_in pages → bytes_in seen ≡ bytes_in pages → bytes_in written ≡ bytes_in pages
    → told ≡ reports ++ reports_of rules at kind (state_from read masks [])
    → masks_of marked ≡ masks_after rules at.hart kind (bytes_in seen) (masks_of masks)
    → bytes_in after ≡ bytes_after rules at.hart kind (bytes_in written) (masks_of marked)
    → state_from after marked told ≡ rule rules at kind (state_from pages masks reports)
unfolding rule
state_after rules at kind pages read seen written after masks marked reports told e f g tells marks changes =
    let kept : masks_of marked ≡ masks_after rules at.hart kind (bytes_in pages) (masks_of masks) = marks ∙ ap (λ (b : Bytes). masks_after rules at.hart kind b (masks_of masks)) f in
    let whole : bytes_in after ≡ bytes_after rules at.hart kind (bytes_in pages) (masks_of masks) =
    changes ∙ ap (λ (b : Bytes). bytes_after rules at.hart kind b (masks_of marked)) g ∙ ap (bytes_after rules at.hart kind (bytes_in pages)) kept
    ∙ bytes_after-masks_after rules at.hart kind (bytes_in pages) (masks_of masks) in
    let said : told ≡ reports ++ reports_of rules at kind (state_from pages masks []) =
    tells ∙ ap (λ (b : Bytes). reports ++ reports_of rules at kind (record { bytes = b; masks = masks_of masks; reports = [] })) e in
    rw (whole, kept, said) refl

-- one hart's count rises
pub count_after : (counts : List ℕ) (hart h : ℕ) → hart < length counts → slice_index (slice_set counts hart (slice_index counts hart + 1)) h ≡ slice_index counts h + (if hart == h then 1 else 0)
count_after counts hart h inside =
    elim (cases_eq h hart) [
      | inl e ↦ rw (e, get_or-set_same counts hart (get_or counts hart 0 + 1) 0 inside, eq-eqb hart hart refl) refl
      | inr ne ↦ rw (get_or-set_other counts hart h (get_or counts hart 0 + 1) 0 ne, ne_eqb hart h (λ e. ne (sym e))) (sym (add-zero (get_or counts h 0)))
    ]

-- the last event comes last
plain_from-last : (rules : Rules) (before events : List Event) (state : State) (event : Event)
    → plain_from rules before state (events ++ event ∷ []) ≡ rule rules (place_after (before ++ events) event) event.kind (plain_from rules before state events)
plain_from-last rules before [] state event = ap (λ (done : List Event). rule rules (place_after done event) event.kind state) (sym (grind (arith, common_steps)))
plain_from-last rules before (first ∷ events) state event =
    plain_from-last rules (before ++ first ∷ []) events (rule rules (place_after before first) first.kind state) event
    ∙ ap (λ (done : List Event). rule rules (place_after done event) event.kind (plain_from rules (before ++ first ∷ []) (rule rules (place_after before first) first.kind state) events)) (append_assoc before (first ∷ []) events)

pub plain_result-last : (rules : Rules) (pages : List PageRun) (events : List Event) (event : Event)
    → plain_result rules pages (events ++ event ∷ []) ≡ rule rules (place_after events event) event.kind (plain_result rules pages events)
plain_result-last rules pages events event = plain_from-last rules [] events (first_state rules pages) event

-- at the start a monitor stands for no event
pub represents_first : (rules : Rules) (pages : List PageRun) (shadow : Shadow) → Begins rules pages shadow → Represents rules pages [] shadow
represents_first rules pages shadow begins = record { state = begins.state; place = begins.place; counts = λ h lt. begins.counts h }

-- how a count grows
events_on-last : (h : ℕ) (events : List Event) (event : Event) → events_on h (events ++ event ∷ []) ≡ events_on h events + (if event.hart == h then 1 else 0)
events_on-last h events event = grind (arith, common_steps)

-- after one event more it stands for one event more
pub represents_next : (rules : Rules) (pages : List PageRun) (events : List Event) (event : Event) (old new : Shadow) → event.hart < 8
    → IsStep rules event old new → Represents rules pages events old → Represents rules pages (events ++ event ∷ []) new
represents_next rules pages events event old new inside step stands =
    let at : next_place old event.hart ≡ place_after events event = rw (stands.place, stands.counts event.hart inside) refl in
    record {
      state = step.state ∙ ap (λ stand. rule rules stand event.kind (state_of old)) at ∙ ap (rule rules (place_after events event) event.kind) stands.state ∙ sym (plain_result-last rules pages events event);
      place = step.place ∙ rw stands.place (sym (grind (arith, common_steps)));
      counts = λ h lt. step.counts h lt ∙ rw (stands.counts h lt) (sym (events_on-last h events event));
    }
