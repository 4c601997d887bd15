-- A machine after one more step.
use Rattle.std.proofs.Common.{◌≡◌, ◌≢◌, ℕ, zero, suc, ◌+◌, ◌<◌, ◌≤◌, List, [], ◌∷◌, length, slice_index_or, slice_set, refl, arith, sym, ap, ◌∙◌, subst}
use Rattle.std.specs.declared.result.Result.{Result}
use Rattle.std.specs.declared.result.Result.TheVariants.{Ok, Err}
use Rattle.std.specs.Prelude.{OnErr}
use Rattle.guest_kernel.specs.State.{State, state_of}
use Rattle.pl_event.specs.declared.event.Event.{Event}
use Rattle.rv_exec.specs.Hart.{Hart}
use Rattle.core_sim.specs.declared.hart.Standing.{Standing}
use Rattle.core_sim.specs.declared.job.Item.{Item}
use Rattle.core_sim.specs.declared.job.Job.{Job}
use Rattle.core_sim.specs.declared.turn.Turn.{Turn}
use Rattle.core_sim.specs.Doing.{Did, Does}
use Rattle.core_sim.specs.Entries.{Entry, state_after, harts_after}
use Rattle.core_sim.specs.Harts.{live_harts}
use Rattle.core_sim.specs.Image.{MachineImage}
use Rattle.core_sim.specs.Runs.{IsPrefix, IsLive, state_of_hart}
use Rattle.core_sim.specs.Schedules.{items_of, turn_of_step, stepped}
use Rattle.core_sim.specs.Stands.{Stands, CanGoOn, GoesOn, turn_after}
use Rattle.core_sim.specs.Start.{standing_at}
use Rattle.core_sim.specs.Steps.{Act, IsStep, state_left, instr_at}
use Rattle.core_sim.proofs.Fitting.{fits_step}
use Rattle.core_sim.proofs.Ties.{left_is}
use Rattle.core_sim.proofs.Turning.{same_hart}

-- the turn of the next entry
turn_is : (job : Job) (entries : List Entry) (old : MachineImage) → Stands job entries old →
    turn_of_step old.items old.turn (live_harts old.harts) ≡ turn_of_step (items_of job.schedule) (turn_after job entries) (live_harts (harts_after job entries))
turn_is job entries old stands =
    ap (λ (items : List Item). turn_of_step items old.turn (live_harts old.harts)) stands.items
    ∙ ap (λ (turn : Turn). turn_of_step (items_of job.schedule) turn (live_harts old.harts)) stands.turn
    ∙ ap (λ (harts : List Standing). turn_of_step (items_of job.schedule) (turn_after job entries) (live_harts harts)) stands.harts

step_is : (job : Job) (entries : List Entry) (old : MachineImage) (hart : ℕ) (h : Hart) (act : Act) → Stands job entries old →
    h ≡ (slice_index_or old.harts hart (standing_at 0 0)).state → IsStep old.words (state_of old.kernel) h act → IsStep job.words (state_after job entries) (state_of_hart job entries hart) act
step_is job entries old hart h act stands is step =
    let here : h ≡ state_of_hart job entries hart = is ∙ ap (λ (harts : List Standing). (slice_index_or harts hart (standing_at 0 0)).state) stands.harts in
    let of_job : IsStep job.words (state_of old.kernel) h act = subst (λ (words : List ℕ). IsStep words (state_of old.kernel) h act) stands.words step in
    let after : IsStep job.words (state_after job entries) h act = subst (λ (s : State). IsStep job.words s h act) stands.state of_job in
    subst (λ (g : Hart). IsStep job.words (state_after job entries) g act) here after

pub goes_on : (job : Job) (entries : List Entry) (old new : MachineImage) (turn : Turn) (h : Hart) (did : Did) (events : List Event) → Stands job entries old →
    turn ≡ turn_of_step old.items old.turn (live_harts old.harts) → live_harts old.harts ≢ [] → old.steps < old.limit →
    h ≡ (slice_index_or old.harts turn.hart (standing_at 0 0)).state → Does old.words (state_of old.kernel) (state_of new.kernel) h did →
    new.words ≡ old.words → new.items ≡ old.items → new.limit ≡ old.limit → new.harts ≡ slice_set old.harts turn.hart did.next →
    new.turn ≡ stepped turn → new.steps ≡ old.steps + 1 → events ≡ record { hart = turn.hart; kind = did.kind } ∷ [] → GoesOn job entries events new
goes_on job entries old new turn h did events stands turn_here live within h_is does words_are items_are limit_is harts_are turn_now steps_are events_are =
    let act = does.act in
    let entry : Entry = record { hart = turn.hart; instr = instr_at job.words (state_of_hart job entries turn.hart).pc; act = does.act } in
    let scheduled_turn = turn_here ∙ turn_is job entries old stands in
    let step = step_is job entries old turn.hart h does.act stands h_is does.step in
    record {
      entry = entry;
      events_are = events_are ∙ ap (λ kind. let e : Event = record { hart = turn.hart; kind = kind } in e ∷ []) does.kind;
      stands = record {
        valid = stands.valid;
        words = words_are ∙ stands.words;
        items = items_are ∙ stands.items;
        limit = limit_is ∙ stands.limit;
        state = does.state ∙ ap (λ (s : State). state_left s does.act) stands.state
            ∙ left_is job entries turn.hart does.act.kind does.act.stored does.act.sent does.act.next stands.valid.few_words (fits_step job.words (state_after job entries) (state_of_hart job entries turn.hart) does.act step);
        harts = harts_are ∙ ap (λ (harts : List Standing). slice_set harts turn.hart did.next) stands.harts ∙ ap (λ (next : Standing). slice_set (harts_after job entries) turn.hart next) does.next;
        turn = turn_now ∙ ap stepped scheduled_turn;
        steps = omega (arith, stands.steps, steps_are);
        prefix = (
          stands.prefix,
          record {
            live = λ none. live (ap live_harts stands.harts ∙ none);
            within = omega (arith, stands.steps, stands.limit);
            hart = ap (λ (t : Turn). t.hart) scheduled_turn ∙ same_hart job entries stands.prefix (λ none. live (ap live_harts stands.harts ∙ none));
            instr = refl;
            step = step;
          },
        );
      };
    }

-- no hart is live
pub halts : (job : Job) (entries : List Entry) (old : MachineImage) → Stands job entries old → live_harts old.harts ≡ [] → live_harts (harts_after job entries) ≡ []
halts job entries old stands none = ap live_harts (sym stands.harts) ∙ none

-- a prefix is no longer than the limit
pub prefix_within : (job : Job) (entries : List Entry) → IsPrefix job entries → length entries ≤ job.steps
prefix_within job [] prefix = omega arith
prefix_within job (e ∷ before) prefix = omega (arith, prefix.1.within)

-- what holds of each outcome holds of a failure
pub whatever_failed : {T E : Type 0} (r : Result T E) (P : Type 0) → P → OnErr r P
whatever_failed (Ok value) P holds = tt
whatever_failed (Err error) P holds = holds

-- a hart is live, and the limit is not reached
pub can_go_on : (job : Job) (entries : List Entry) (old : MachineImage) → Stands job entries old → live_harts old.harts ≢ [] → old.steps < old.limit → CanGoOn job entries
can_go_on job entries old stands live within = record { live = λ none. live (ap live_harts stands.harts ∙ none); within = omega (arith, stands.steps, stands.limit) }

-- a hart is live, and the limit is reached
pub limits : (job : Job) (entries : List Entry) (old : MachineImage) → Stands job entries old → live_harts old.harts ≢ [] → old.limit ≤ old.steps → IsLive job entries × (length entries ≡ job.steps)
limits job entries old stands live reached =
    ((λ none. live (ap live_harts stands.harts ∙ none)), omega (arith, prefix_within job entries stands.prefix, stands.steps, stands.limit))

-- a hart of the list, whatever is past its end
pub hart_is : (harts : List Standing) (hart : ℕ) (d e : Standing) → hart < length harts → slice_index_or harts hart d ≡ slice_index_or harts hart e
hart_is [] hart d e within = absurd (omega arith)
hart_is (h ∷ hs) zero d e within = refl
hart_is (h ∷ hs) (suc hart) d e within = hart_is hs hart d e (omega arith)
