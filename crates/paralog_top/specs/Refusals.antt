-- What was read of an input, and why there is no answer.
use Rattle.std.specs.Prelude.{◌≡◌, ℕ, ◌≤◌, List, [], Some, length}
use Rattle.pl_base.specs.declared.layout.TheConstants.{MAX_JOB_BYTES, MAX_LOG_BYTES}
use Rattle.pl_base.specs.declared.loops.ReadEnd.{ReadEnd}
use Rattle.pl_base.specs.declared.loops.ReadEnd.TheVariants as end
use Rattle.pl_base.specs.Causes.{Rose}
use Rattle.pl_base.specs.Fronts.{TakesFront}
use Rattle.guest_asm.specs.declared.cause.JobFault.{JobFault}
use Rattle.guest_asm.specs.Jobs.{HasFault}
use Rattle.log_text.specs.declared.cause.LogFault.{LogFault}
use Rattle.log_text.specs.Reading.{IsNoLog}
use Rattle.log_text.specs.Streaming.{WasRead}
use Rattle.paralog_top.specs.declared.input.Input.{Input}
use Rattle.paralog_top.specs.declared.input.Input.TheVariants as kinds
use Rattle.paralog_top.specs.declared.refusal.Refusal.{Refusal}
use Rattle.paralog_top.specs.declared.refusal.Refusal.TheVariants as refusal
use Rattle.paralog_top.specs.Asked.{Told}

-- no fault was counted
abbrev pub IsFaultless : Told → Type 0
IsFaultless told = told.faults_after ≡ told.faults_before

-- nothing was taken, and no fault was counted
abbrev pub IsUntouched : Told → Type 0
IsUntouched told = (told.after ≡ told.before) × IsFaultless told

-- the bytes were read to their end, within the limit and without a fault, and P holds of them
abbrev pub ReadsWithin : ℕ → Told → (List ℕ → Type 0) → Type 0
ReadsWithin limit told P = WasRead limit told.before told.after P × IsFaultless told

-- the input was read whole, and P holds of its bytes; where nothing is read, of no bytes
abbrev pub Reads : Input → Told → (List ℕ → Type 0) → Type 0
Reads kinds.Log told P = ReadsWithin MAX_LOG_BYTES told P
Reads kinds.Job told P = ReadsWithin MAX_JOB_BYTES told P
Reads kinds.Nothing told P = IsUntouched told × P []

-- what was taken by the time that reading stopped: past the limit where that was too long, and else no more
abbrev pub TakesWithin : ℕ → ReadEnd → Told → Type 0
TakesWithin limit stop told = TakesFront stop told.before told.after limit

-- where nothing is read, reading does not stop
abbrev pub TakesNothing : ReadEnd → Told → Type 0
TakesNothing end.NoMemory told = told.after ≡ told.before
TakesNothing _ told = ⊥

abbrev pub Takes : Input → ReadEnd → Told → Type 0
Takes kinds.Log stop told = TakesWithin MAX_LOG_BYTES stop told
Takes kinds.Job stop told = TakesWithin MAX_JOB_BYTES stop told
Takes kinds.Nothing stop told = TakesNothing stop told

-- a log is read, and the bytes are no well-formed one: this is the first line that breaks a rule
abbrev pub IsBadLog : Input → List ℕ → LogFault → Type 0
IsBadLog kinds.Log bytes fault = IsNoLog bytes fault
IsBadLog _ bytes fault = ⊥

-- a job is read, and the bytes are none: this is the lowest line at which a pass finds a fault
abbrev pub IsBadJob : Input → List ℕ → JobFault → Type 0
IsBadJob kinds.Job bytes fault = HasFault bytes fault
IsBadJob _ bytes fault = ⊥

-- why there is no answer to the input, and what was taken of it
abbrev pub IsRefusal : Input → Told → Refusal → Type 0
IsRefusal kind told (refusal.BadLog fault) = Reads kind told (λ bytes. IsBadLog kind bytes fault)
IsRefusal kind told (refusal.BadJob fault) = Reads kind told (λ bytes. IsBadJob kind bytes fault)
IsRefusal kind told refusal.ReadFault = Takes kind end.Fault told × Rose told.faults_before told.faults_after
IsRefusal kind told refusal.TooLong = Takes kind end.TooLong told × IsFaultless told
IsRefusal kind told refusal.NoMemory = Takes kind end.NoMemory told × IsFaultless told

-- the source has bytes left, within the limit, of which P holds, and no fault was counted
pub record HasLeft (limit : ℕ) (told : Told) (P : List ℕ → Type 0) : Type 0 where
  pub bytes : List ℕ
  pub left : told.before ≡ Some bytes
  pub few : length bytes ≤ limit
  pub known : P bytes
  pub calm : Rose told.faults_before told.faults_after → ⊥

-- an input is at hand, of whose bytes P holds; where nothing is read, any source will do
abbrev pub HasInput : Input → Told → (List ℕ → Type 0) → Type 0
HasInput kinds.Log told P = HasLeft MAX_LOG_BYTES told P
HasInput kinds.Job told P = HasLeft MAX_JOB_BYTES told P
HasInput kinds.Nothing told P = P []
