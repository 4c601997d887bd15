-- What a capture knows of the lines so far.
use Rattle.std.specs.Prelude.{◌≡◌, ℕ, ◌+◌, ◌<◌, [], ◌∷◌, ◌++◌, List, length, Option, None, slice_index_or}
use Rattle.pl_base.specs.declared.layout.TheConstants.{MAX_HARTS, MAX_LINES}
use Rattle.pl_event.specs.declared.log.Line.{Line}
use Rattle.pl_event.specs.Candidates.{Shares}
use Rattle.pl_event.specs.Needs.{IsMost}
use Rattle.pl_event.specs.Numbers.{hart_of}
use Rattle.pl_event.specs.Runs.{IsSoundLine}
use Rattle.conflict_alerts.specs.Placer.{Counts}
use Rattle.conflict_alerts.specs.Placing.{count_in}
use Rattle.log_clocks.specs.LastAccesses.{HasLast, HasSameTable}
use Rattle.arc_capture.specs.declared.capture.Capture.{Capture}

-- these are the lines that were given
pub record HasCaptured (capture : Capture) (size : ℕ) (lines : List Line) : Type 0 where
  pub counts : Counts capture.records lines
  pub lasts : HasLast capture.lasts size lines (length lines)

-- the line may be the next one
pub record MayCapture (capture : Capture) (size : ℕ) (lines : List Line) (line : Line) : Type 0 where
  pub has : HasCaptured capture size lines
  pub few : length lines < MAX_LINES
  pub sound : IsSoundLine MAX_HARTS line
  pub hart : hart_of line.what < MAX_HARTS

-- for each hart the last record of the lines that shares a block with the line after them, or none
abbrev pub AreCandidates : ℕ → List Line → Line → List (Option ℕ) → Type 0
AreCandidates size lines line candidates = (u : ℕ) → u < MAX_HARTS →
    IsMost (λ k. Shares size (lines ++ line ∷ []) u k (hart_of line.what) (count_in (hart_of line.what) lines + 1))
    (slice_index_or candidates u None)

-- both were given the same
pub record HasSameLines (old new : Capture) : Type 0 where
  pub records : new.records ≡ old.records
  pub lasts : HasSameTable old.lasts new.lasts
