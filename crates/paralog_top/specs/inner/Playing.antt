-- A log that is played while it is read.
use Rattle.std.specs.Prelude.{◌≡◌, ℕ, ◌<◌, List, Option, length}
use Rattle.pl_base.specs.declared.layout.TheConstants.{MAX_RECORDS}
use Rattle.pl_event.specs.declared.event.Event.{Event}
use Rattle.pl_event.specs.declared.log.Log.{Log}
use Rattle.pl_event.specs.declared.log.PageRun.{PageRun}
use Rattle.pl_event.specs.Numbers.{events_of}
use Rattle.log_text.specs.declared.stream.LogStream.{LogStream}
use Rattle.log_text.specs.Reading.{IsOnly}
use Rattle.log_text.specs.Streaming.{IsStreamed, WasRead}
use Rattle.lifeguard.specs.Rules.{Rules}
use Rattle.lifeguard.specs.declared.shadow.Shadow.{Shadow}
use Rattle.replay_probes.specs.declared.audience.Audience.{Audience}
use Rattle.replay_probes.specs.declared.probe.Shown.{Shown}
use Rattle.replay_probes.specs.Meaning.{Meaning}
use Rattle.replay_probes.specs.Plays.{Plays}

-- what was played of a log: its pages, and its events so far
abbrev pub Play : Type 1
Play = List PageRun → List Event → Type 0

-- the shadow state is as after these events, and the probes that look on have seen them
abbrev pub HasWatched : {B : Type 0} → (B → Meaning) → (B → List Shown → Type 0) → Rules → Shadow → Audience B
    → List Meaning → Play
HasWatched meaning has_seen rules shadow audience meanings pages events =
    Plays meaning has_seen rules pages meanings events shadow audience

-- fewer events were played than a log may have
pub record HasRoom (P : List Meaning → Play) : Type 0 where
  pub meanings : List Meaning
  pub pages : List PageRun
  pub events : List Event
  pub played : P meanings pages events
  pub few : length events < MAX_RECORDS

-- the events of the lines that were read were played
pub record IsPlaying (P : Play) (harts limit : ℕ) (began now : Option (List ℕ)) (stream : LogStream) : Type 0 where
  pub log : Log
  pub same : log.harts ≡ harts
  pub read : IsStreamed limit began now stream log
  pub played : P log.pages (events_of log.lines)

-- of some source, within some limit, before some probes
pub record IsPlayingSome (P : List Meaning → Play) (harts : ℕ) (now : Option (List ℕ)) (stream : LogStream)
    : Type 0 where
  pub limit : ℕ
  pub began : Option (List ℕ)
  pub meanings : List Meaning
  pub playing : IsPlaying (P meanings) harts limit began now stream

-- the log is that of the bytes, and all its events were played
pub record IsPlayed (P : Play) (harts : ℕ) (bytes : List ℕ) : Type 0 where
  pub log : Log
  pub same : log.harts ≡ harts
  pub only : IsOnly bytes log
  pub played : P log.pages (events_of log.lines)

-- the source was read to its end
abbrev pub WasPlayed : Play → ℕ → ℕ → Option (List ℕ) → Option (List ℕ) → Type 0
WasPlayed P harts limit began now = WasRead limit began now (IsPlayed P harts)
