-- The line that each refusal writes to the notes.
use Rattle.std.specs.Prelude.{ℕ, List, [], ◌∷◌, ◌++◌, codes}
use Rattle.std.specs.Fmt.{decimal}
use Rattle.guest_asm.specs.declared.cause.JobFault.{JobFault}
use Rattle.guest_asm.specs.Words.{cause_word}

-- the line at which a job is bad, and the cause
abbrev pub job_note : JobFault → List ℕ
job_note fault = codes "whence: job line " ++ decimal fault.line ++ codes ": " ++ cause_word fault.cause ++ 10 ∷ []

abbrev pub usage_note : List ℕ
usage_note = codes "whence: usage\n"

abbrev pub read_note : List ℕ
read_note = codes "whence: read fault\n"

abbrev pub write_note : List ℕ
write_note = codes "whence: write fault\n"

abbrev pub memory_note : List ℕ
memory_note = codes "whence: out of memory\n"

abbrev pub length_note : List ℕ
length_note = codes "whence: too long\n"
