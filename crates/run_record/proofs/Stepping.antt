-- A recording with one step more, and at its end.
use Rattle.std.proofs.Common.{◌≡◌, ℕ, ◌≤◌, List, ◌∷◌, ◌++◌, length, sym, ap, ◌∙◌, subst, arith}
use Rattle.std.specs.Prelude.{All}
use Rattle.std.proofs.lemmas.List.Elements.{All-from_recursion}
use Rattle.pl_event.specs.declared.event.Event.{Event}
use Rattle.pl_event.specs.declared.log.Line.{Line}
use Rattle.pl_event.specs.Valid.{IsValidEvent}
use Rattle.core_sim.specs.declared.job.Job.{Job}
use Rattle.core_sim.specs.RunEvents.{AllFollow, events_of_entry, events_of_run}
use Rattle.core_sim.specs.Runs.{IsEnded}
use Rattle.core_sim.specs.Stands.{GoesOn, Stands}
use Rattle.core_sim.specs.Image.{MachineImage}
use Rattle.arc_capture.specs.Recorded.{AreRecorded}
use Rattle.run_record.specs.declared.recording.Recording.{Recording}
use Rattle.run_record.specs.Recording.{HasLines, IsRecordedWhole, IsRecording, MayFeedAll}

module _ (job : Job) (made : List Line) (recording : Recording) (r : IsRecording job made recording) where
  module _ (events : List Event) (machine : MachineImage) (goes : GoesOn job r.entries events machine)
      (follow : AllFollow job (events_of_run r.entries) (events_of_entry goes.entry)) (count : length (events_of_run r.entries) ≡ length r.entries) (steps : length (goes.entry ∷ r.entries) ≤ job.steps) where
    -- the events of the step may be fed
    pub may_feed_all : MayFeedAll recording.recorder (events_of_run r.entries) made events
    may_feed_all =
        let one : All (λ (e : Event). IsValidEvent e job.harts) (events_of_entry goes.entry) = All-from_recursion (λ (e : Event). IsValidEvent e job.harts) (events_of_entry goes.entry) (follow.0.valid, tt) in
        record {
          has = r.has;
          few = omega (arith, count, steps, r.stands.valid.few_steps, ap (λ (es : List Event). length es) goes.events_are);
          valid = subst (λ (es : List Event). All (λ (e : Event). IsValidEvent e recording.recorder.placer.harts) es) (sym goes.events_are)
              (subst (λ (h : ℕ). All (λ (e : Event). IsValidEvent e h) (events_of_entry goes.entry)) (sym r.harts) one);
        }

    -- the recording has one step more
    pub stepped : (new : Recording) (lines : List Line) → new.machine ≡ machine → new.recorder.placer.harts ≡ recording.recorder.placer.harts → HasLines new.recorder (events_of_run r.entries ++ events) (made ++ lines) → IsRecording job (made ++ lines) new
    stepped new lines same harts has = record {
      entries = goes.entry ∷ r.entries;
      stands = subst (Stands job (goes.entry ∷ r.entries)) (sym same) goes.stands;
      harts = harts ∙ r.harts;
      has = subst (λ (es : List Event). HasLines new.recorder (events_of_run r.entries ++ es) (made ++ lines)) goes.events_are has;
    }

  -- the run is over, and all its lines are made
  pub whole : (new : Recording) → new.machine ≡ recording.machine → IsEnded job r.entries → AreRecorded recording.recorder.placer.harts 16 (events_of_run r.entries) made → IsRecordedWhole job made new
  whole new same ended are = record {
    entries = r.entries;
    stands = subst (Stands job r.entries) (sym same) r.stands;
    run = record { prefix = r.stands.prefix; ended = ended };
    recorded = subst (λ (h : ℕ). AreRecorded h 16 (events_of_run r.entries) made) r.harts are;
  }
