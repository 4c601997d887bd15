-- The checks of a hart and the slots that they pass through, record by record.
use Rattle.std.specs.Prelude.{ℕ, zero, suc, ◌+◌, Bool, true, false, not, ◌&&◌, ◌==◌, Option, Some, None, find, if◌then◌else◌}
use Rattle.pl_event.specs.declared.log.Line.{Line}
use Rattle.pl_event.specs.Records.{record_of}
use Rattle.lifeguard.specs.Rules.{Rules}
use Rattle.lifeguard.specs.State.{nibble_at, span}
use Rattle.lifeguard.specs.Plain.{is_taint}
use Rattle.idem_filter.specs.declared.filter.Check.{Check}
use Rattle.idem_filter.specs.Filter.{Slots, empty, entered, hits}
use Rattle.worker_laws.specs.Runs.{Run, Moment, before, kind_in, reach_in, flushes_in}
use Rattle.worker_laws.specs.Reads.{directory_of}

-- the check of a record: it is a load or a store, and the lifeguard checks accesses
abbrev pub check_in : Rules → Option Line → Option Check
check_in rules line = if is_taint rules.name then None else reach_in (kind_in line)

-- the first byte that fails a check
abbrev pub failed : Rules → Moment → Check → Option ℕ
failed rules q c = find (λ a. rules.bad_access (nibble_at q.state.bytes a)) (span c.addr c.width)

-- a check that passes is entered
abbrev pub entered_if : Option ℕ → Check → Slots → Slots
entered_if None c slots = entered slots c.addr c.width
entered_if (Some a) c slots = slots

abbrev pub checked : Rules → Moment → Option Check → Slots → Slots
checked rules q None slots = slots
checked rules q (Some c) slots = entered_if (failed rules q c) c slots

-- the slots after a record: a notice and an alert event empty them
abbrev pub slots_after : Rules → Moment → Option Line → Slots → Slots
slots_after rules q line slots = if flushes_in line then empty else checked rules q (check_in rules line) slots

abbrev pub is_check : Option Check → Bool
is_check None = false
is_check (Some c) = true

-- a check that its slot does not hold
abbrev pub is_miss : Option Check → Slots → Bool
is_miss None slots = false
is_miss (Some c) slots = not (hits slots c.addr c.width)

-- a miss on a mapped page, whose check read is made
abbrev pub is_step : Moment → Option Check → Slots → Bool
is_step q None slots = false
is_step q (Some c) slots = not (hits slots c.addr c.width) && not (q.words (directory_of c.addr) == 0)

abbrev pub one_if : Bool → ℕ
one_if b = if b then 1 else 0

module _ (p : Run) (h : ℕ) where
  abbrev pub check_at : ℕ → Option Check
  check_at m = check_in p.rules (record_of p.plan.log.lines h m)

  -- after the first k records of hart h: the slots, and how many checks, misses and check reads there were
  abbrev pub slots_at : ℕ → Slots
  slots_at zero = empty
  slots_at (suc k) = slots_after p.rules (before p h (suc k)) (record_of p.plan.log.lines h (suc k)) (slots_at k)

  abbrev pub checks_at : ℕ → ℕ
  checks_at zero = 0
  checks_at (suc k) = checks_at k + one_if (is_check (check_at (suc k)))

  abbrev pub misses_at : ℕ → ℕ
  misses_at zero = 0
  misses_at (suc k) = misses_at k + one_if (is_miss (check_at (suc k)) (slots_at k))

  abbrev pub steps_at : ℕ → ℕ
  steps_at zero = 0
  steps_at (suc k) = steps_at k + one_if (is_step (before p h (suc k)) (check_at (suc k)) (slots_at k))
