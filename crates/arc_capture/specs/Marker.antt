-- What a marker knows of the lines so far.
use Rattle.std.specs.Prelude.{◌≡◌, ℕ, ◌<◌, ◌≤◌, ◌∷◌, ◌++◌, [], List, length}
use Rattle.pl_base.specs.declared.layout.TheConstants.{MAX_HARTS, MAX_LINES}
use Rattle.pl_event.specs.declared.log.Line.{Line}
use Rattle.pl_event.specs.Edges.{no_arcs, IsFlow}
use Rattle.pl_event.specs.Runs.{IsSoundLine}
use Rattle.arc_reduce.specs.Drawn.{HaveEight}
use Rattle.arc_reduce.specs.Reduction.{IsReduced}
use Rattle.arc_reduce.specs.Taken.{HasTaken}
use Rattle.arc_capture.specs.declared.marker.Marker.{Marker}
use Rattle.arc_capture.specs.Capture.{HasCaptured}
use Rattle.arc_capture.specs.Recorded.{IsFull}

-- the placed lines that were given, and what was made of them
pub record HasMarked (marker : Marker) (size : ℕ) (base lines : List Line) : Type 0 where
  pub full : List Line
  pub whole : IsFull size base full
  pub captured : HasCaptured marker.capture size base
  pub taken : HasTaken marker.reducer full
  pub reduced : IsReduced lines full
  pub eight : HaveEight lines

-- the line may be the next one
pub record MayMark (marker : Marker) (size : ℕ) (base lines : List Line) (line : Line) : Type 0 where
  pub has : HasMarked marker size base lines
  pub few : length base < MAX_LINES
  pub harts : marker.reducer.harts ≤ MAX_HARTS
  pub bare : line.arcs ≡ no_arcs
  pub sound : IsSoundLine MAX_HARTS line
  pub flow : IsFlow marker.reducer.harts (base ++ line ∷ [])
