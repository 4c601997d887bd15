-- The statuses: their numbers, and what each says of a call.
use Rattle.std.specs.Prelude.{◌≡◌, ℕ, List}
use Rattle.std.specs.Io.KnownBytes.{Appends}
use Rattle.pl_base.specs.declared.loops.ReadEnd.TheVariants as end
use Rattle.pl_base.specs.Causes.{Rose}
use Rattle.pl_base.specs.Fronts.{AppendsLess}
use Rattle.pl_event.specs.declared.log.Point.{Point}
use Rattle.guest_asm.specs.declared.cause.JobFault.{JobFault}
use Rattle.log_text.specs.declared.cause.LogFault.{LogFault}
use Rattle.paralog_top.specs.declared.answer.Answer.{Answer}
use Rattle.paralog_top.specs.declared.answer.Verdict.{Verdict}
use Rattle.paralog_top.specs.declared.answer.Verdict.TheVariants as verdict
use Rattle.paralog_top.specs.declared.command.Command.{Command}
use Rattle.paralog_top.specs.declared.refusal.Refusal.{Refusal}
use Rattle.paralog_top.specs.declared.refusal.Refusal.TheVariants as refusal
use Rattle.paralog_top.specs.declared.status.Status.{Status}
use Rattle.paralog_top.specs.declared.status.Status.TheVariants as status
use Rattle.paralog_top.specs.Asked.{Asked, Told}
use Rattle.paralog_top.specs.Commands.{IsCommand, IsNoCommand, IsOne, input_of}
use Rattle.paralog_top.specs.Answers.{IsAnswer, IsInput}
use Rattle.paralog_top.specs.Notes.{IsKept, IsNoted, job_note, log_note, unordered_note}
use Rattle.paralog_top.specs.Notes.{length_note, memory_note, read_note, usage_note, write_note}
use Rattle.paralog_top.specs.Refusals.{HasInput, IsFaultless, IsRefusal, Reads, Takes}

abbrev pub status_code : Status → ℕ
status_code status.Clean = 0
status_code status.Reports = 1
status_code status.Usage = 2
status_code status.BadJob = 3
status_code status.BadLog = 4
status_code status.Unordered = 5
status_code status.ReadFault = 6
status_code status.WriteFault = 7
status_code status.NoMemory = 8
status_code status.TooLong = 9

-- ---- how a call ends, from its answer or its refusal on

-- this text was written, and nothing else
abbrev pub IsWritten : Told → List ℕ → Type 0
IsWritten out text = Appends out.before out.after text × IsFaultless out

-- a prefix of the text was written, and not all of it, and a fault was counted
abbrev pub IsCut : Told → List ℕ → Type 0
IsCut out text = AppendsLess out.before out.after text × Rose out.faults_before out.faults_after

-- an answer with this verdict was written, and this was noted
abbrev pub IsDelivered : Answer → Verdict → Told → Type 0 → Type 0
IsDelivered answer v out noted = (answer.verdict ≡ v) × IsWritten out answer.text.items × noted

-- what the status says of an answer that was to be written
abbrev pub Delivers : Answer → Told → Told → Status → Type 0
Delivers answer out notes status.Clean = IsDelivered answer verdict.Clean out (IsKept notes)
Delivers answer out notes status.Reports = IsDelivered answer verdict.Reports out (IsKept notes)
Delivers answer out notes status.Unordered = (earlier : Point) × (later : Point)
    × IsDelivered answer (verdict.Unordered earlier later) out (IsNoted notes (unordered_note earlier later))
Delivers answer out notes status.WriteFault = IsCut out answer.text.items × IsNoted notes write_note
Delivers answer out notes status.NoMemory = IsKept out × IsFaultless out × IsNoted notes memory_note
Delivers answer out notes _ = ⊥

-- the refusal is told in a line that takes memory, or is itself want of it
abbrev pub MayRunOut : Refusal → Type 0
MayRunOut refusal.ReadFault = ⊥
MayRunOut refusal.TooLong = ⊥
MayRunOut _ = Unit {0}

-- what the status says of a refusal
abbrev pub Tells : Refusal → Told → Status → Type 0
Tells r notes status.BadJob = (fault : JobFault) × (r ≡ refusal.BadJob fault) × IsNoted notes (job_note fault)
Tells r notes status.BadLog = (fault : LogFault) × (r ≡ refusal.BadLog fault) × IsNoted notes (log_note fault)
Tells r notes status.ReadFault = (r ≡ refusal.ReadFault) × IsNoted notes read_note
Tells r notes status.TooLong = (r ≡ refusal.TooLong) × IsNoted notes length_note
Tells r notes status.NoMemory = MayRunOut r × IsNoted notes memory_note
Tells r notes _ = ⊥

-- ---- the whole call

-- the words are a command, its input was read whole, and P holds of an answer to the bytes that were read
abbrev pub HasAnswer : Asked → Told → (List ℕ → Verdict → Type 0) → Type 0
HasAnswer asked input P = IsOne asked (λ command. Reads (input_of command) input (λ bytes.
    (text : List ℕ) × (v : Verdict) × IsAnswer asked.meanings command bytes text v × P text v))

-- an answer with this verdict was written, and nothing else
abbrev pub Answers : Asked → Told → Told → Verdict → Type 0
Answers asked input out v = HasAnswer asked input (λ text said. (said ≡ v) × IsWritten out text)

-- a write of the answer failed
abbrev pub AnswersLess : Asked → Told → Told → Type 0
AnswersLess asked input out = HasAnswer asked input (λ text v. IsCut out text)

-- the words are a command that has no answer to its input, and nothing was written
abbrev pub Refuses : Asked → Told → Told → Refusal → Type 0
Refuses asked input out r = IsOne asked (λ command. IsRefusal (input_of command) input r) × IsKept out

-- the words are a command, no more was taken than its limit, and nothing was written; no fault was counted
abbrev pub RunsOut : Asked → Told → Told → Type 0
RunsOut asked input out = IsOne asked (λ command. Takes (input_of command) end.NoMemory input)
    × IsFaultless input × IsKept out × IsFaultless out

-- what each status says of the words, the input, the output and the notes
abbrev pub Says : Asked → Told → Told → Told → Status → Type 0
Says asked input out notes status.Clean = Answers asked input out verdict.Clean × IsKept notes
Says asked input out notes status.Reports = Answers asked input out verdict.Reports × IsKept notes
Says asked input out notes status.Usage = IsNoCommand asked.meanings asked.words × IsKept out × IsNoted notes usage_note
Says asked input out notes status.BadJob = (fault : JobFault)
    × Refuses asked input out (refusal.BadJob fault) × IsNoted notes (job_note fault)
Says asked input out notes status.BadLog = (fault : LogFault)
    × Refuses asked input out (refusal.BadLog fault) × IsNoted notes (log_note fault)
Says asked input out notes status.Unordered = (earlier : Point) × (later : Point)
    × Answers asked input out (verdict.Unordered earlier later) × IsNoted notes (unordered_note earlier later)
Says asked input out notes status.ReadFault = Refuses asked input out refusal.ReadFault × IsNoted notes read_note
Says asked input out notes status.WriteFault = AnswersLess asked input out × IsNoted notes write_note
Says asked input out notes status.NoMemory = RunsOut asked input out × IsNoted notes memory_note
Says asked input out notes status.TooLong = Refuses asked input out refusal.TooLong × IsNoted notes length_note

-- ---- completeness

-- the answer was written, or there was no memory
abbrev pub IsComplete : Status → Type 0
IsComplete status.Clean = Unit {0}
IsComplete status.Reports = Unit {0}
IsComplete status.NoMemory = Unit {0}
IsComplete _ = ⊥

-- the words are a command, an input of it is at hand, and no fault of the output was counted
pub record IsGood (asked : Asked) (input out : Told) : Type 0 where
  pub command : Command
  pub words : IsCommand asked.meanings asked.words command
  pub given : HasInput (input_of command) input (IsInput command)
  pub written : Rose out.faults_before out.faults_after → ⊥
