-- How the process ends where the call is not made.
use Rattle.std.specs.Prelude.{◌≡◌}
use Rattle.paralog_top.specs.declared.status.Status.{Status}
use Rattle.paralog_top.specs.declared.status.Status.TheVariants as status
use Rattle.paralog_top.specs.Asked.{Told}
use Rattle.paralog_top.specs.Notes.{IsNoted}
use Rattle.paralog_top.specs.Refusals.{IsUntouched}
use Rattle.whence_top.specs.Notes.{memory_note}

-- no memory was left for the words: nothing was read, and nothing was written but the note
pub record IsNotBegun (input out notes : Told) (is : Status) : Type 0 where
  pub status : is ≡ status.NoMemory
  pub unread : IsUntouched input
  pub unwritten : IsUntouched out
  pub noted : IsNoted notes memory_note
