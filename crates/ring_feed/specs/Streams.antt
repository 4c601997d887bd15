-- The records of a hart among those of a run.
use Rattle.std.specs.Prelude.{ℕ, List, filter}
use Rattle.pl_event.specs.declared.fed.Fed.{Fed}
use Rattle.pl_event.specs.Numbers.{is_of}

-- those of some records that are of the hart
abbrev pub records_on : ℕ → List Fed → List Fed
records_on hart feds = filter (λ fed. is_of hart fed.line) feds
