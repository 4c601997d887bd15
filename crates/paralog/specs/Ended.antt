-- How the process ends.
use Rattle.std.specs.Prelude.{◌≡◌, ℕ, ◌⊎◌, List, codes}
use Rattle.paralog_top.specs.declared.status.Status.{Status}
use Rattle.paralog_top.specs.declared.status.Status.TheVariants as status
use Rattle.paralog_top.specs.Asked.{Told, asks}
use Rattle.paralog_top.specs.Notes.{IsNoted}
use Rattle.paralog_top.specs.Statuses.{Says}
use Rattle.standard_top.specs.Standard.{standard_meanings}

-- a source that was not read, or a sink to which nothing was written
pub record IsUntouched (told : Told) : Type 0 where
  pub bytes : told.after ≡ told.before
  pub faults : told.faults_after ≡ told.faults_before

-- no memory was left for the words or the probes: nothing was read, and nothing was written but the note
pub record IsNotBegun (input out notes : Told) (is : Status) : Type 0 where
  pub status : is ≡ status.NoMemory
  pub unread : IsUntouched input
  pub unwritten : IsUntouched out
  pub noted : IsNoted notes (codes "paralog: out of memory\n")

-- the words were run with the standard probes, or there was no memory to begin
abbrev pub Ends : List (List ℕ) → Told → Told → Told → Status → Type 0
Ends words input out notes is = Says (asks standard_meanings words) input out notes is ⊎ IsNotBegun input out notes is
