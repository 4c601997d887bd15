-- The job that a text spells, or its first fault.
use Rattle.std.specs.Prelude.{◌≡◌, ◌⊎◌, ℕ, ◌+◌, ◌^◌, ◌<◌, List, [], ◌∷◌, ◌++◌, length, map, fold, replicate, slice_set, All, Option, Some, None, IfSome, unwrap_or, Result, Ok, Err, if◌then◌else◌, pos, ◌-ℤ◌, ℤ}
use Rattle.std.specs.List.{flat_map}
use Rattle.std.specs.Option.{option_map, option_copied}
use Rattle.std.specs.Int.{to_le_bytes, w32}
use Rattle.core_sim.specs.declared.job.Item.{Item}
use Rattle.core_sim.specs.declared.job.Job.{Job}
use Rattle.core_sim.specs.declared.job.Schedule.{Schedule}
use Rattle.core_sim.specs.declared.job.Schedule.TheVariants as schedule
use Rattle.rv_isa.specs.declared.instruction.Instr.{Instr}
use Rattle.rv_isa.specs.declared.instruction.Instr.TheVariants as instr
use Rattle.rv_isa.specs.Table.{instruction_of}
use Rattle.rv_isa.specs.Valid.{IsValid}
use Rattle.guest_asm.specs.declared.code.Code.{Code}
use Rattle.guest_asm.specs.declared.code.Code.TheVariants as code
use Rattle.guest_asm.specs.declared.statement.Turn.{Turn}
use Rattle.guest_asm.specs.declared.statement.Statement.{Statement}
use Rattle.guest_asm.specs.declared.statement.Statement.TheVariants as statement
use Rattle.guest_asm.specs.declared.scan.Section.{Section}
use Rattle.guest_asm.specs.declared.scan.Place.{Place}
use Rattle.guest_asm.specs.declared.scan.Row.{Row}
use Rattle.guest_asm.specs.declared.cause.JobCause.{JobCause}
use Rattle.guest_asm.specs.declared.cause.JobCause.TheVariants as cause
use Rattle.guest_asm.specs.declared.cause.JobFault.{JobFault}
use Rattle.guest_asm.specs.declared.cause.JobRefused.{JobRefused}
use Rattle.guest_asm.specs.declared.cause.JobRefused.TheVariants as refused
use Rattle.guest_asm.specs.Texts.{lines_of}
use Rattle.guest_asm.specs.Codes.{lui_of, addi_of}
use Rattle.guest_asm.specs.Lines.{Meaning, line_of}
use Rattle.guest_asm.specs.Rules.{is_text, is_data, harts_in, statements_of, start, after, place_of, text_address, labels_of, broken, lacks}
use Rattle.guest_asm.specs.Faults.{is_far, target, IsFirstPassFault, IsSecondPassFault}
use Rattle.pl_base.specs.declared.layout.TheConstants.{TEXT_START, MAX_HARTS}

infixl 10 ◌>>=◌
abbrev pub ◌>>=◌ : {A B E : Type 0} → Result A E → (A → Result B E) → Result B E
(Ok x) >>= f = f x
(Err e) >>= f = Err e

abbrev pub fault_at : ℕ → JobCause → JobFault
fault_at line c = record { line = line; cause = c }

-- a line in the grammar that breaks no rule after these lines
abbrev pub unless_broken : Meaning → Option JobCause → Result Meaning JobCause
unless_broken m None = Ok m
unless_broken m (Some c) = Err c

abbrev pub judged_meaning : List Meaning → Option Meaning → Result Meaning JobCause
judged_meaning before None = Err cause.Form
judged_meaning before (Some m) = unless_broken m (broken before m)

abbrev pub judged : List Meaning → List ℕ → Result Meaning JobCause
judged before text = judged_meaning before (line_of text)

-- a fault of the line after these
abbrev pub behind : {A : Type 0} → List Meaning → Result A JobCause → Result A JobFault
behind before (Ok x) = Ok x
behind before (Err c) = Err (fault_at (length before + 1) c)

abbrev pub complete : List Meaning → Result (List Meaning) JobCause
complete before = if lacks (statements_of before) (place_of before).words then Err cause.Missing else Ok before

-- the first pass: what the lines mean, or the first line with a fault; the end is the line after the last
abbrev pub first_pass : List Meaning → List (List ℕ) → Result (List Meaning) JobFault
first_pass before [] = behind before (complete before)
first_pass before (text ∷ texts) = behind before (judged before text) >>= λ m. first_pass (before ++ m ∷ []) texts

-- a statement with its line, the address of the next word of the text, the section in
-- force, and the label that it names
pub record Placed : Type 0 where
  pub line : ℕ
  pub at : ℕ
  pub section : Option Section
  pub statement : Statement
  pub named : Option (List ℕ)

-- the same without where the label lies in memory
abbrev pub placed : Row → Placed
placed r = record {
  line = r.line;
  at = r.at;
  section = r.section;
  statement = r.statement;
  named = option_copied r.named;
}

abbrev pub row_with : ℕ → Place → Option (List ℕ) → Option Statement → List Placed
row_with line place named None = []
row_with line place named (Some s) =
    record { line = line; at = text_address place; section = place.section; statement = s; named = named } ∷ []

-- the statements of lines in their places
abbrev pub rows_from : ℕ → Place → List Meaning → List Placed
rows_from line place [] = []
rows_from line place (m ∷ lines) = row_with line place m.named m.statement ++ rows_from (line + 1) (after place m) lines

abbrev pub rows_of : List Meaning → List Placed
rows_of lines = rows_from 1 start lines

abbrev pub offset : ℕ → ℕ → ℕ → Option ℤ
offset reach at to = if is_far reach at to then None else Some (pos to -ℤ pos at)

-- the one or two instructions of a code at an address, with the address of the label that it names
abbrev pub instructions : ℕ → ℕ → Code → Option (Instr × Option Instr)
instructions at to (code.One i) = Some (i, None)
instructions at to (code.Two i j) = Some (i, Some j)
instructions at to (code.Jump rd) = option_map (λ off. (instr.Jal rd off, None)) (offset (2 ^ 20) at to)
instructions at to (code.Branch o rs1 rs2) =
    option_map (λ off. (instr.Branch o rs1 rs2 off, None)) (offset (2 ^ 12) at to)
instructions at to (code.Address rd) = Some (lui_of rd to, Some (addi_of rd to))

-- a word of the text: as it was written, or the word of an instruction
pub data Cell : Type 0 where
  raw : ℕ → Cell
  coded : Instr → Cell

abbrev pub IsCell : Cell → ℕ → Type 0
IsCell (raw n) word = word ≡ n
IsCell (coded i) word = (word < 2 ^ 32) × (instruction_of word ≡ Some i)

abbrev pub AreCells : List Cell → List ℕ → Type 0
AreCells [] [] = Unit {0}
AreCells [] (word ∷ words) = ⊥
AreCells (c ∷ cells) [] = ⊥
AreCells (c ∷ cells) (word ∷ words) = IsCell c word × AreCells cells words

-- each instruction has a word
abbrev pub AreValid : Instr × Option Instr → Type 0
AreValid p = IsValid p.0 × IfSome p.1 IsValid

abbrev pub second_cell : Option Instr → List Cell
second_cell None = []
second_cell (Some j) = coded j ∷ []

abbrev pub near : Option (Instr × Option Instr) → Result (List Cell) JobCause
near None = Err cause.Far
near (Some p) = Ok (coded p.0 ∷ second_cell p.1)

-- the words of a statement, with the address of the label that it names
abbrev pub statement_cells : Placed → ℕ → Statement → Result (List Cell) JobCause
statement_cells r to (statement.Word numbers) = Ok (if is_text r.section then map (λ n. raw n.bits) numbers else [])
statement_cells r to (statement.Code c) = near (instructions r.at to c)
statement_cells r to _ = Ok []

abbrev pub row_cells : Placed → Option ℕ → Result (List Cell) JobCause
row_cells r None = Err cause.Label
row_cells r (Some to) = statement_cells r to r.statement

abbrev pub on_line : {A : Type 0} → ℕ → Result A JobCause → Result A JobFault
on_line line (Ok x) = Ok x
on_line line (Err c) = Err (fault_at line c)

-- the second pass: the words of the text, or the first line with a fault
abbrev pub second_pass : List (List ℕ × ℕ) → List Placed → Result (List Cell) JobFault
second_pass labels [] = Ok []
second_pass labels (r ∷ rows) =
    on_line r.line (row_cells r (target labels r.named)) >>= λ cells. second_pass labels rows >>= λ more.
    Ok (cells ++ more)

-- what a statement puts into data
abbrev pub data_of : Placed → List ℕ
data_of r = data_in r.section r.statement
  where
    data_in : Option Section → Statement → List ℕ
    data_in s (statement.Word numbers) = if is_data s then flat_map (λ n. to_le_bytes w32 n.bits) numbers else []
    data_in s (statement.Byte numbers) = map (λ n. n.bits) numbers
    data_in s (statement.Space n) = replicate n.bits 0
    data_in s _ = []

abbrev pub input_in : Statement → List ℕ
input_in (statement.Input bytes) = bytes
input_in _ = []

abbrev pub item_of : Turn → Item
item_of t = record { hart = t.hart.bits; count = t.count.bits }

abbrev pub schedule_in : Statement → Option Schedule
schedule_in (statement.Rr q) = Some (schedule.Rr q.bits)
schedule_in (statement.List turns) = Some (schedule.List (map item_of turns))
schedule_in (statement.Seed n q) = Some (schedule.Seed n.bits q.bits)
schedule_in _ = None

abbrev pub steps_in : Statement → Option ℕ
steps_in (statement.Steps n) = Some n.bits
steps_in _ = None

-- the value of the first statement that has one
abbrev pub first_of : {A : Type 0} → (Statement → Option A) → List Statement → Option A
first_of f [] = None
first_of f (s ∷ rest) = or_else (f s) (first_of f rest)
  where
    or_else : {A : Type 0} → Option A → Option A → Option A
    or_else None o = o
    or_else (Some x) o = Some x

-- a hart whose entry is named begins there, and else at the first word
abbrev pub entry_in : ℕ → Statement → List ℕ → List ℕ
entry_in to (statement.Entry hart) entries = slice_set entries hart.bits to
entry_in to _ entries = entries

abbrev pub entry_after : List (List ℕ × ℕ) → List ℕ → Placed → List ℕ
entry_after labels entries r = entry_in (unwrap_or (target labels r.named) 0) r.statement entries

abbrev pub entries_of : List (List ℕ × ℕ) → List Placed → List ℕ
entries_of labels rows = fold (entry_after labels) (replicate MAX_HARTS TEXT_START) rows

-- what the lines of a text without a fault mean, or its first fault
abbrev pub passes : List ℕ → Result (List Meaning) JobFault
passes bytes =
    first_pass [] (lines_of bytes) >>= λ lines. second_pass (labels_of lines) (rows_of lines) >>= λ cells. Ok lines

-- the text of rows that have no fault
pub record IsTextOf (labels : List (List ℕ × ℕ)) (rows : List Placed) (words : List ℕ) : Type 0 where
  pub cells : List Cell
  pub passed : second_pass labels rows ≡ Ok cells
  pub are_cells : AreCells cells words

-- the job of rows and their statements
pub record IsJobOfRows (labels : List (List ℕ × ℕ)) (rows : List Placed) (statements : List Statement) (job : Job) :
    Type 0 where
  pub harts : job.harts ≡ harts_in statements
  pub schedule : Some job.schedule ≡ first_of schedule_in statements
  pub steps : Some job.steps ≡ first_of steps_in statements
  pub text : IsTextOf labels rows job.words
  pub data_bytes : job.data_bytes ≡ flat_map data_of rows
  pub input : job.input ≡ flat_map input_in statements
  pub entries : job.entries ≡ entries_of labels rows

-- the text has no fault in either pass, and the job is that of its lines
pub record IsJobText (bytes : List ℕ) (job : Job) : Type 0 where
  pub lines : List Meaning
  pub passed : passes bytes ≡ Ok lines
  pub job_of : IsJobOfRows (labels_of lines) (rows_of lines) (statements_of lines) job

-- the text is no job, by this fault of one of the passes
abbrev pub HasFault : List ℕ → JobFault → Type 0
HasFault bytes fault = IsFirstPassFault bytes fault ⊎ IsSecondPassFault bytes fault

-- what holds of the fault of a refusal
abbrev pub IfFault : {T : Type 0} → Result T JobRefused → (JobFault → Type 0) → Type 0
IfFault (Ok x) P = Unit {0}
IfFault (Err refused.NoMemory) P = Unit {0}
IfFault (Err (refused.Fault fault)) P = P fault

-- the new words are the old ones and those of the cells
pub record Appends (old new : List ℕ) (emitted : Result (List Cell) JobCause) : Type 0 where
  pub cells : List Cell
  pub words : List ℕ
  pub is_emitted : emitted ≡ Ok cells
  pub is_appended : new ≡ old ++ words
  pub are_cells : AreCells cells words

-- each byte is one, and each hart is one that there may be
abbrev pub IsSmall : Statement → Type 0
IsSmall (statement.Byte numbers) = All (λ n. n.bits < 256) numbers
IsSmall (statement.List turns) = All (λ t. t.hart.bits < 256) turns
IsSmall (statement.Entry hart) = hart.bits < MAX_HARTS
IsSmall _ = Unit {0}

abbrev pub IsSmallRow : Row → Type 0
IsSmallRow r = IsSmall r.statement

-- the number that harts are drawn from has 32 bits
abbrev pub IsDrawn : Schedule → Type 0
IsDrawn (schedule.Seed n q) = n < 2 ^ 32
IsDrawn _ = Unit {0}
