-- What the worker of a hart finds: what the plain rules give on that hart.
use Rattle.std.specs.Prelude.{◌≡◌, ℕ, ◌<◌, ◌&&◌, Bool, false, not, List, count_by, slice_index}
use Rattle.pl_base.specs.declared.layout.TheConstants.{REGISTERS}
use Rattle.pl_event.specs.declared.log.Line.{Line}
use Rattle.pl_event.specs.declared.log.Record.{Record}
use Rattle.pl_event.specs.declared.log.Record.TheVariants as entry
use Rattle.pl_event.specs.Conflicts.{is_access}
use Rattle.pl_event.specs.Numbers.{is_of}
use Rattle.lifeguard.specs.Rules.{Rules}
use Rattle.lifeguard.specs.Plain.{is_taint, final_state}
use Rattle.lifeguard.specs.Ranges.{reports_on}
use Rattle.turn_worker.specs.declared.worker.HartResult.{HartResult}
use Rattle.turn_worker.specs.Workers.{WorkerView, size}

abbrev pub has_access : Record → Bool
has_access (entry.Event event) = is_access event.kind
has_access (entry.Notice hart point) = false

-- the record has a check: it is a load or a store, and the lifeguard checks accesses
abbrev pub has_check : Rules → Line → Bool
has_check rules line = has_access line.what && not (is_taint rules.name)

-- how many checks the records of a hart have
abbrev pub checks_of : Rules → ℕ → List Line → ℕ
checks_of rules hart lines = count_by (λ line. is_of hart line && has_check rules line) lines

pub record IsResult (v : WorkerView) (result : HartResult) : Type 0 where
  pub hart : result.hart ≡ v.seat.hart
  pub reports : result.reports.items ≡ reports_on v.seat.hart (final_state v.rules v.seat.course.log).reports
  pub masks : (r : ℕ) → r < REGISTERS →
      slice_index result.masks r ≡ (final_state v.rules v.seat.course.log).masks v.seat.hart r
  pub checks : result.checks ≡ checks_of v.rules v.seat.hart v.seat.course.log.lines
  pub misses : result.misses ≡ v.misses (size v)
