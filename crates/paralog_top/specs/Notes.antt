-- The line that each refusal writes to the notes.
use Rattle.std.specs.Prelude.{ℕ, ◌⊎◌, List, [], ◌∷◌, ◌++◌, codes}
use Rattle.std.specs.Fmt.{decimal}
use Rattle.std.specs.Io.KnownBytes.{Appends, Keeps}
use Rattle.pl_base.specs.Causes.{Rose}
use Rattle.pl_base.specs.Fronts.{AppendsFront}
use Rattle.pl_event.specs.declared.log.Point.{Point}
use Rattle.guest_asm.specs.declared.cause.JobFault.{JobFault}
use Rattle.guest_asm.specs.Words.{cause_word as job_cause_word}
use Rattle.log_text.specs.declared.cause.LogFault.{LogFault}
use Rattle.log_text.specs.Spelling.{point_word}
use Rattle.log_text.specs.Words.{cause_word}
use Rattle.paralog_top.specs.Asked.{Told}

-- the line at which a log is bad, and the cause
abbrev pub log_note : LogFault → List ℕ
log_note fault = codes "paralog: log line " ++ decimal fault.line ++ codes ": " ++ cause_word fault.cause ++ 10 ∷ []

-- the same of a job
abbrev pub job_note : JobFault → List ℕ
job_note fault = codes "paralog: job line " ++ decimal fault.line ++ codes ": " ++ job_cause_word fault.cause ++ 10 ∷ []

-- the earlier record first
abbrev pub unordered_note : Point → Point → List ℕ
unordered_note earlier later = codes "paralog: unordered " ++ point_word earlier ++ 32 ∷ point_word later ++ 10 ∷ []

abbrev pub usage_note : List ℕ
usage_note = codes "paralog: usage\n"

abbrev pub read_note : List ℕ
read_note = codes "paralog: read fault\n"

abbrev pub write_note : List ℕ
write_note = codes "paralog: write fault\n"

abbrev pub memory_note : List ℕ
memory_note = codes "paralog: out of memory\n"

abbrev pub length_note : List ℕ
length_note = codes "paralog: too long\n"

-- the line went to the notes whole; or a fault of the notes was counted, and a prefix of it did
abbrev pub IsNoted : Told → List ℕ → Type 0
IsNoted notes line = Appends notes.before notes.after line
    ⊎ (Rose notes.faults_before notes.faults_after × AppendsFront notes.before notes.after line)

-- nothing went to a sink
abbrev pub IsKept : Told → Type 0
IsKept sink = Keeps sink.before sink.after
