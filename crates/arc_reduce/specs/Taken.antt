-- What a reducer has taken.
use Rattle.std.specs.Prelude.{◌≡◌, ℕ, ◌+◌, ◌<◌, ◌≤◌, ◌++◌, [], ◌∷◌, List, length, Option}
use Rattle.pl_base.specs.declared.layout.TheConstants.{MAX_HARTS, MAX_LINES}
use Rattle.pl_event.specs.declared.log.Line.{Line}
use Rattle.pl_event.specs.Edges.{IsFlow, no_arcs}
use Rattle.pl_event.specs.Heads.{Tells}
use Rattle.pl_event.specs.Numbers.{hart_of}
use Rattle.pl_event.specs.Records.{records_before}
use Rattle.log_clocks.specs.Clocks.{HasClocks, HasSameClocks}
use Rattle.arc_reduce.specs.declared.reducer.Reducer.{Reducer}

abbrev pub with_arcs : Line → List (Option ℕ) → Line
with_arcs line arcs = record { what = line.what; arcs = arcs }

-- the log with one line more, whose arcs are its candidates
abbrev pub with_line : List Line → Line → List (Option ℕ) → List Line
with_line full line candidates = full ++ with_arcs line candidates ∷ []

-- the number of a line in its hart, where it is the next one
abbrev pub next_number : List Line → Line → ℕ
next_number full line = records_before (hart_of line.what) full (length full) + 1

-- all lines of the log are taken, whose arcs are their candidates
pub record HasTaken (reducer : Reducer) (full : List Line) : Type 0 where
  pub heads : Tells reducer.heads full (length full)
  pub clocks : HasClocks reducer.clocks full (length full)

-- the line, which has no arcs, may be the next one with these candidates: each is of an earlier record of another hart
pub record MayTake (reducer : Reducer) (full : List Line) (line : Line) (candidates : List (Option ℕ)) : Type 0 where
  pub taken : HasTaken reducer full
  pub harts : reducer.harts ≤ MAX_HARTS
  pub few : length full < MAX_LINES
  pub bare : line.arcs ≡ no_arcs
  pub flow : IsFlow reducer.harts (with_line full line candidates)

-- both have taken the same
pub record HasSameState (old new : Reducer) : Type 0 where
  pub harts : new.harts ≡ old.harts
  pub heads : new.heads ≡ old.heads
  pub clocks : HasSameClocks old.clocks new.clocks
