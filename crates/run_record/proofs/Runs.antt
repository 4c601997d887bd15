-- The events of a run, as those of a recorded log.
use Rattle.std.proofs.Common.{◌≡◌, ℕ, List, [], ◌∷◌, ◌++◌, length, take, Some, slice_get, refl, ap, ◌∙◌, subst}
use Rattle.pl_event.specs.declared.event.Event.{Event}
use Rattle.core_sim.specs.declared.job.Job.{Job}
use Rattle.core_sim.specs.RunEvents.{MayFollow}
use Rattle.core_sim.specs.Start.{start_runs}
use Rattle.conflict_alerts.specs.Following.{AllFollow, FollowsEvents}

at_split : (before : List Event) (event : Event) (after : List Event) → slice_get (before ++ event ∷ after) (length before) ≡ Some event
at_split [] event after = refl
at_split (e ∷ before) event after = at_split before event after

up_to_split : (before : List Event) (event : Event) (after : List Event) → take (length before) (before ++ event ∷ after) ≡ before
up_to_split [] event after = refl
up_to_split (e ∷ before) event after = ap (λ (es : List Event). e ∷ es) (up_to_split before event after)

as_follows : (job : Job) (before : List Event) (event : Event) → MayFollow job before event → FollowsEvents job.harts (start_runs job) before event
as_follows job before event may = record { valid = may.valid; live = may.live; maps = may.maps }

pub all_follow : (job : Job) (events : List Event) → ((i : ℕ) (event : Event) → slice_get events i ≡ Some event → MayFollow job (take i events) event) → AllFollow job.harts (start_runs job) events
all_follow job events each before event after parted =
    let found : slice_get events (length before) ≡ Some event = ap (λ (es : List Event). slice_get es (length before)) parted ∙ at_split before event after in
    let front : take (length before) events ≡ before = ap (take (length before)) parted ∙ up_to_split before event after in
    as_follows job before event (subst (λ (es : List Event). MayFollow job es event) front (each (length before) event found))
