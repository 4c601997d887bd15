-- How a call ends, from the input's bytes or from the end of reading on.
use Rattle.std.specs.Prelude.{ℕ, List}
use Rattle.pl_base.specs.declared.loops.ReadEnd.{ReadEnd}
use Rattle.pl_base.specs.declared.loops.ReadEnd.TheVariants as end
use Rattle.guest_asm.specs.declared.cause.JobFault.{JobFault}
use Rattle.guest_asm.specs.Jobs.{HasFault}
use Rattle.paralog_top.specs.declared.status.Status.{Status}
use Rattle.paralog_top.specs.declared.status.Status.TheVariants as status
use Rattle.paralog_top.specs.Asked.{Told}
use Rattle.paralog_top.specs.Notes.{IsKept, IsNoted}
use Rattle.paralog_top.specs.Refusals.{IsFaultless}
use Rattle.paralog_top.specs.Statuses.{IsCut, IsWritten}
use Rattle.whence_trail.specs.declared.trail.Pair.{Pair}
use Rattle.whence_top.specs.Answers.{IsAnswer}
use Rattle.whence_top.specs.Notes.{job_note, length_note, memory_note, read_note, write_note}

-- what the status says of a text that was to be written
abbrev pub Delivers : List ℕ → Told → Told → Status → Type 0
Delivers text out notes status.Clean = IsWritten out text × IsKept notes
Delivers text out notes status.WriteFault = IsCut out text × IsNoted notes write_note
Delivers text out notes _ = ⊥

-- what it says of the fault of a job
abbrev pub RefusesJob : JobFault → Told → Status → Type 0
RefusesJob fault notes status.BadJob = IsNoted notes (job_note fault)
RefusesJob fault notes status.NoMemory = IsNoted notes memory_note
RefusesJob fault notes _ = ⊥

-- the status and the note of an end of reading
abbrev pub end_status : ReadEnd → Status
end_status end.Fault = status.ReadFault
end_status end.TooLong = status.TooLong
end_status end.NoMemory = status.NoMemory

abbrev pub end_note : ReadEnd → List ℕ
end_note end.Fault = read_note
end_note end.TooLong = length_note
end_note end.NoMemory = memory_note

-- what it says of the bytes of an input, of the output and of the notes
abbrev pub Tells : List Pair → List ℕ → Told → Told → Status → Type 0
Tells pairs bytes out notes status.Clean = (text : List ℕ) × IsAnswer pairs bytes text × IsWritten out text
    × IsKept notes
Tells pairs bytes out notes status.BadJob = (fault : JobFault) × HasFault bytes fault × IsKept out × IsFaultless out
    × IsNoted notes (job_note fault)
Tells pairs bytes out notes status.WriteFault = (text : List ℕ) × IsAnswer pairs bytes text × IsCut out text
    × IsNoted notes write_note
Tells pairs bytes out notes status.NoMemory = IsKept out × IsFaultless out × IsNoted notes memory_note
Tells pairs bytes out notes _ = ⊥
