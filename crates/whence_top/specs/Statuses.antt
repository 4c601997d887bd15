-- What each status says of a call.
use Rattle.std.specs.Prelude.{ℕ, List}
use Rattle.pl_base.specs.Causes.{Rose}
use Rattle.guest_asm.specs.declared.cause.JobFault.{JobFault}
use Rattle.paralog_top.specs.declared.input.Input.TheVariants as kinds
use Rattle.paralog_top.specs.declared.refusal.Refusal.{Refusal}
use Rattle.paralog_top.specs.declared.refusal.Refusal.TheVariants as refusal
use Rattle.paralog_top.specs.declared.status.Status.{Status}
use Rattle.paralog_top.specs.declared.status.Status.TheVariants as status
use Rattle.paralog_top.specs.Answers.{IsJob}
use Rattle.paralog_top.specs.Asked.{Told}
use Rattle.paralog_top.specs.Notes.{IsKept, IsNoted}
use Rattle.paralog_top.specs.Refusals.{HasInput, IsFaultless, IsRefusal, Reads}
use Rattle.paralog_top.specs.Statuses.{IsCut, IsWritten}
use Rattle.whence_trail.specs.declared.trail.Pair.{Pair}
use Rattle.whence_top.specs.Answers.{IsAnswer}
use Rattle.whence_top.specs.Asking.{AsksFor, AsksForNone}
use Rattle.whence_top.specs.Notes.{job_note, length_note, memory_note, read_note, usage_note, write_note}

-- the words name some events
abbrev pub AsksForSome : List (List ℕ) → Type 0
AsksForSome words = (pairs : List Pair) × AsksFor words pairs

-- the words name events, a job was read whole, and P holds of what is told of them
abbrev pub HasAnswer : List (List ℕ) → Told → (List ℕ → Type 0) → Type 0
HasAnswer words input P = (pairs : List Pair) × AsksFor words pairs
    × Reads kinds.Job input (λ bytes. (text : List ℕ) × IsAnswer pairs bytes text × P text)

-- the words name events, the input is refused so, and nothing was written
abbrev pub Refuses : List (List ℕ) → Told → Told → Refusal → Type 0
Refuses words input out r = AsksForSome words × IsRefusal kinds.Job input r × IsKept out × IsFaultless out

-- what each status says of the words, the input, the output and the notes
abbrev pub Says : List (List ℕ) → Told → Told → Told → Status → Type 0
Says words input out notes status.Clean = HasAnswer words input (IsWritten out) × IsKept notes
Says words input out notes status.Usage = AsksForNone words × IsKept out × IsFaultless out × IsNoted notes usage_note
Says words input out notes status.BadJob = (fault : JobFault)
    × Refuses words input out (refusal.BadJob fault) × IsNoted notes (job_note fault)
Says words input out notes status.ReadFault = Refuses words input out refusal.ReadFault × IsNoted notes read_note
Says words input out notes status.WriteFault = HasAnswer words input (IsCut out) × IsNoted notes write_note
Says words input out notes status.NoMemory = Refuses words input out refusal.NoMemory × IsNoted notes memory_note
Says words input out notes status.TooLong = Refuses words input out refusal.TooLong × IsNoted notes length_note
Says words input out notes _ = ⊥

-- the words name events, a job is at hand, and no fault of the output was counted
pub record IsGood (words : List (List ℕ)) (input out : Told) : Type 0 where
  pub asked : AsksForSome words
  pub given : HasInput kinds.Job input IsJob
  pub written : Rose out.faults_before out.faults_after → ⊥
