-- How a check of an access ends.
use Rattle.std.specs.Prelude.{◌≡◌, ℕ, zero, suc, ◌+◌, ◌/◌, true, false, Option, Some, None}
use Rattle.pl_base.specs.declared.layout.TheConstants.{PAGE_BYTES}
use Rattle.lifeguard.specs.Rules.{Rules}
use Rattle.lifeguard.specs.Plain.{is_taint}
use Rattle.guard_table.specs.declared.view.View.{View}
use Rattle.idem_filter.specs.declared.filter.Check.{Check}
use Rattle.idem_filter.specs.Filter.{entered, hits}
use Rattle.meta_lookaside.specs.LookAside as look
use Rattle.worker_laws.specs.Folds.{check_at, failed}
use Rattle.worker_laws.specs.Kept.{Parts}
use Rattle.worker_laws.specs.Runs.{before, IsReach}
use Rattle.worker_records.specs.declared.checks.Outcome.{Outcome}
use Rattle.worker_records.specs.declared.checks.Outcome.TheVariants.{Unchecked, Passed, Made}
use Rattle.worker_records.specs.declared.state.State.{State}
use Rattle.worker_records.specs.Places.{run_at}

abbrev pub check_of : ℕ → ℕ → Check
check_of addr len = record { addr = addr; width = len }

-- the first byte that fails
abbrev pub bad_of : Outcome → Option ℕ
bad_of Unchecked = None
bad_of Passed = None
bad_of (Made bad) = bad

-- what is kept once the check is counted, and entered where it passes
abbrev pub counted_made : Option ℕ → Check → Parts → Parts
counted_made None c parts = record parts {
  slots = entered parts.slots c.addr c.width;
  checks = parts.checks + 1;
  misses = parts.misses + 1;
}
counted_made (Some a) c parts = record parts { checks = parts.checks + 1; misses = parts.misses + 1 }

abbrev pub counted : Outcome → Check → Parts → Parts
counted Unchecked c parts = parts
counted Passed c parts = record parts { checks = parts.checks + 1 }
counted (Made bad) c parts = counted_made bad c parts

module _ (rules : Rules) (v : View) (s : State) where
  -- the next record is a load or a store of these bytes
  abbrev pub NextReaches : Check → Type 0
  NextReaches c = IsReach (run_at rules v) v.hart (s.taken + 1) c

  -- how the check of the next record ends: none is made under a taint check, and a check that hits in the filter passed
  pub record IsMissed (c : Check) (bad : Option ℕ) : Type 0 where
    pub check : check_at (run_at rules v) v.hart (s.taken + 1) ≡ Some c
    pub miss : hits s.filter c.addr c.width ≡ false
    pub bad_is : bad ≡ failed rules (before (run_at rules v) v.hart (s.taken + 1)) c

  abbrev pub IsOutcome : Check → Outcome → Type 0
  IsOutcome c Unchecked = is_taint rules.name ≡ true
  IsOutcome c Passed = (check_at (run_at rules v) v.hart (s.taken + 1) ≡ Some c) × (hits s.filter c.addr c.width ≡ true)
  IsOutcome c (Made bad) = IsMissed c bad

-- the look-aside once a page's directory word is entered, where it has a frame
abbrev pub kept_frame : look.Slots → ℕ → ℕ → look.Slots
kept_frame slots addr zero = slots
kept_frame slots addr (suc frame) = look.entered slots (addr / PAGE_BYTES) frame
