-- How large nibbles and masks are, and which reports are of one hart.
use Rattle.std.specs.Prelude.{◌≡◌, ℕ, ◌<◌, ◌==◌, List, Some, filter}
use Rattle.lifeguard.specs.declared.report.Report.{Report}
use Rattle.lifeguard.specs.State.{State, Bytes, Masks}

-- the nibble of each mapped byte is one of three bits
abbrev pub AreNibbles : Bytes → Type 0
AreNibbles bytes = (addr nibble : ℕ) → bytes addr ≡ Some nibble → nibble < 8

-- the mask of each register is one of four bits
abbrev pub AreMasks : Masks → Type 0
AreMasks masks = (hart register : ℕ) → masks hart register < 16

pub record IsInRange (state : State) : Type 0 where
  pub nibbles : AreNibbles state.bytes
  pub masks : AreMasks state.masks

-- the reports at events of a hart
abbrev pub reports_on : ℕ → List Report → List Report
reports_on hart reports = filter (λ report. report.hart == hart) reports
