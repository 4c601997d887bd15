-- The text of a state: its reports, its masks and its nibbles.
use Rattle.std.specs.Prelude.{ℕ, List, map}
use Rattle.lifeguard.specs.declared.guard.Name.{Name}
use Rattle.lifeguard.specs.State.{State, Masks, span}
use Rattle.report_text.specs.ReportText.{report_text}
use Rattle.report_text.specs.Runs.{runs_of}

-- the masks of the 34 registers of a hart
abbrev pub mask_row : Masks → ℕ → List ℕ
mask_row masks hart = map (masks hart) (span 0 34)

-- and of each hart
abbrev pub mask_rows : Masks → ℕ → List (List ℕ)
mask_rows masks harts = map (mask_row masks) (span 0 harts)

-- the state of a run of so many harts, as a text
abbrev pub state_text : Name → ℕ → State → List ℕ
state_text name harts state = report_text name harts state.reports (mask_rows state.masks harts) (runs_of state.bytes)
