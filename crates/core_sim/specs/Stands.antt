-- A machine that stands for a prefix of its job's run.
use Rattle.std.specs.Prelude.{◌≡◌, ◌<◌, ◌∷◌, [], List, length}
use Rattle.guest_kernel.specs.State.{state_of}
use Rattle.pl_event.specs.declared.event.Event.{Event}
use Rattle.core_sim.specs.declared.job.Job.{Job}
use Rattle.core_sim.specs.declared.group.StepOut.{StepOut}
use Rattle.core_sim.specs.declared.group.StepOut.TheVariants.{Did, Halted, Limit}
use Rattle.core_sim.specs.declared.turn.Turn.{Turn}
use Rattle.core_sim.specs.Entries.{Entry, state_after, harts_after}
use Rattle.core_sim.specs.Harts.{live_harts}
use Rattle.core_sim.specs.Image.{MachineImage}
use Rattle.core_sim.specs.RunEvents.{events_of_entry}
use Rattle.core_sim.specs.Runs.{IsPrefix, IsLive}
use Rattle.core_sim.specs.Schedules.{items_of, no_turn, turn_of_step, stepped}
use Rattle.core_sim.specs.Valid.{IsValidJob}

-- the turn that a machine keeps after these entries, with the steps that are left of it
abbrev pub turn_after : Job → List Entry → Turn
turn_after job [] = no_turn job.schedule
turn_after job (e ∷ before) =
    stepped (turn_of_step (items_of job.schedule) (turn_after job before) (live_harts (harts_after job before)))

-- the machine is where the run of a valid job is after these entries, which are a prefix of it
pub record Stands (job : Job) (entries : List Entry) (machine : MachineImage) : Type 0 where
  pub valid : IsValidJob job
  pub words : machine.words ≡ job.words
  pub items : machine.items ≡ items_of job.schedule
  pub limit : machine.limit ≡ job.steps
  pub state : state_of machine.kernel ≡ state_after job entries
  pub harts : machine.harts ≡ harts_after job entries
  pub turn : machine.turn ≡ turn_after job entries
  pub steps : machine.steps ≡ length entries
  pub prefix : IsPrefix job entries

-- one more entry of the run, with its events
pub record GoesOn (job : Job) (entries : List Entry) (events : List Event) (machine : MachineImage) : Type 0 where
  pub entry : Entry
  pub events_are : events ≡ events_of_entry entry
  pub stands : Stands job (entry ∷ entries) machine

-- the run goes on: some hart is live, and the limit is not reached
pub record CanGoOn (job : Job) (entries : List Entry) : Type 0 where
  pub live : IsLive job entries
  pub within : length entries < job.steps

-- the run has come to its end, and nothing has changed
pub record Stops (Why : Type 0) (old new : MachineImage) : Type 0 where
  pub why : Why
  pub unchanged : new ≡ old

-- what a call for the next step comes to: the next entry of the run, or its end
abbrev pub Comes : Job → List Entry → MachineImage → MachineImage → StepOut → Type 0
Comes job entries old new (Did events) = GoesOn job entries events new
Comes job entries old new Halted = Stops (live_harts (harts_after job entries) ≡ []) old new
Comes job entries old new Limit = Stops (IsLive job entries × (length entries ≡ job.steps)) old new
