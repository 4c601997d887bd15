-- A run that is played under the eyes of probes.
use Rattle.std.specs.Prelude.{List}
use Rattle.pl_event.specs.declared.event.Event.{Event}
use Rattle.pl_event.specs.declared.log.PageRun.{PageRun}
use Rattle.lifeguard.specs.Rules.{Rules}
use Rattle.lifeguard.specs.Shadow.{Represents}
use Rattle.lifeguard.specs.declared.shadow.Shadow.{Shadow}
use Rattle.replay_probes.specs.declared.audience.Audience.{Audience}
use Rattle.replay_probes.specs.declared.probe.Shown.{Shown}
use Rattle.replay_probes.specs.Meaning.{Meaning}
use Rattle.replay_probes.specs.Watched.{Watched}

module _ {B : Type 0} (meaning : B → Meaning) (has_seen : B → List Shown → Type 0) where
  -- these events were played: the shadow state is their plain result, and the probes were shown them
  pub record Plays (rules : Rules) (pages : List PageRun) (meanings : List Meaning) (events : List Event)
      (shadow : Shadow) (audience : Audience B) : Type 0 where
    pub stands : Represents rules pages events shadow
    pub watched : Watched meaning has_seen meanings events audience
