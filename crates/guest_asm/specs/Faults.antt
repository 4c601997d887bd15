-- The fault of a text that is no job: the lowest line at which a pass finds one, and the first cause found there.
use Rattle.std.specs.Prelude.{◌≡◌, ℕ, ◌+◌, ◌-◌, ◌%◌, ◌^◌, ◌≤◌, ◌⊎◌, Bool, true, not, ◌==◌, ◌||◌, nat_lt, List, ◌∷◌, ◌++◌, length, map, Option, Some, None}
use Rattle.guest_asm.specs.declared.code.Code.TheVariants as code
use Rattle.guest_asm.specs.declared.statement.Statement.{Statement}
use Rattle.guest_asm.specs.declared.statement.Statement.TheVariants as statement
use Rattle.guest_asm.specs.declared.cause.JobCause.{JobCause}
use Rattle.guest_asm.specs.declared.cause.JobCause.TheVariants as cause
use Rattle.guest_asm.specs.declared.cause.JobFault.{JobFault}
use Rattle.guest_asm.specs.Texts.{lines_of}
use Rattle.guest_asm.specs.Lines.{Meaning, line_of}
use Rattle.guest_asm.specs.Rules.{statements_of, place_of, text_address, labels_of, address_of, is_again, breaks, lacks}

-- what each line of a text means; a line outside the grammar means nothing
abbrev pub meanings : List ℕ → List (Option Meaning)
meanings bytes = map line_of (lines_of bytes)

-- the place of a cause in the order in which causes are tried
abbrev pub rank : JobCause → ℕ
rank cause.Form = 0
rank cause.Harts = 1
rank cause.Twice = 2
rank cause.Range = 3
rank cause.Section = 4
rank cause.Align = 5
rank cause.Full = 6
rank cause.Missing = 7
rank cause.Label = 8
rank cause.Far = 9

-- a line breaks the rule of a cause after these lines; one that means nothing is out of form
abbrev pub Breaks : List Meaning → Option Meaning → JobCause → Type 0
Breaks before None c = c ≡ cause.Form
Breaks before (Some m) c =
    breaks (statements_of before) (place_of before) (is_again (labels_of before) m.label) m c ≡ true

-- the line of this number, counted from 1, breaks the rule of the cause after the lines before it, which mean something
pub record LineBreaks (bytes : List ℕ) (line : ℕ) (c : JobCause) : Type 0 where
  pub before : List Meaning
  pub here : Option Meaning
  pub rest : List (Option Meaning)
  pub stands : meanings bytes ≡ map Some before ++ here ∷ rest
  pub counted : line ≡ length before + 1
  pub broken : Breaks before here c

-- the line after the last, where something is missing
pub record EndLacks (bytes : List ℕ) (line : ℕ) (c : JobCause) : Type 0 where
  pub lines : List Meaning
  pub stands : meanings bytes ≡ map Some lines
  pub counted : line ≡ length lines + 1
  pub missing : c ≡ cause.Missing
  pub incomplete : lacks (statements_of lines) (place_of lines).words ≡ true

-- the first pass finds this cause at this line
abbrev pub FirstFinds : List ℕ → ℕ → JobCause → Type 0
FirstFinds bytes line c = LineBreaks bytes line c ⊎ EndLacks bytes line c

-- the address of the label that a statement names; one that names none has 0
abbrev pub target : List (List ℕ × ℕ) → Option (List ℕ) → Option ℕ
target labels None = Some 0
target labels (Some name) = address_of labels name

-- how far back the offset of a jump or a branch reaches, in bytes; it reaches two less ahead
abbrev pub reach_of : Statement → Option ℕ
reach_of (statement.Code (code.Jump rd)) = Some (2 ^ 20)
reach_of (statement.Code (code.Branch o rs1 rs2)) = Some (2 ^ 12)
reach_of _ = None

-- further back than it reaches, further ahead than two bytes less, or at an odd distance
abbrev pub is_far : ℕ → ℕ → ℕ → Bool
is_far reach at to = nat_lt (to + reach) at || nat_lt (at + (reach - 2)) to || not (at % 2 == to % 2)

-- the statement of a line names a label that no line defines
pub record IsUndefined (labels : List (List ℕ × ℕ)) (m : Meaning) : Type 0 where
  pub statement : Statement
  pub name : List ℕ
  pub stated : m.statement ≡ Some statement
  pub named : m.named ≡ Some name
  pub undefined : address_of labels name ≡ None

-- the jump or branch of a line, which is at this address, does not reach the label that it names
pub record IsOutOfReach (labels : List (List ℕ × ℕ)) (at : ℕ) (m : Meaning) : Type 0 where
  pub statement : Statement
  pub reach : ℕ
  pub to : ℕ
  pub stated : m.statement ≡ Some statement
  pub reaches : reach_of statement ≡ Some reach
  pub named : target labels m.named ≡ Some to
  pub far : is_far reach at to ≡ true

-- a line breaks the rule of a cause of the second pass, with these labels, where the next word has this address
abbrev pub Strays : List (List ℕ × ℕ) → ℕ → Meaning → JobCause → Type 0
Strays labels at m cause.Label = IsUndefined labels m
Strays labels at m cause.Far = IsOutOfReach labels at m
Strays labels at m _ = ⊥

-- the second pass finds this cause at this line: the labels are those of all lines
pub record SecondFinds (bytes : List ℕ) (line : ℕ) (c : JobCause) : Type 0 where
  pub before : List Meaning
  pub here : Meaning
  pub rest : List Meaning
  pub stands : meanings bytes ≡ map Some (before ++ here ∷ rest)
  pub counted : line ≡ length before + 1
  pub strays : Strays (labels_of (before ++ here ∷ rest)) (text_address (place_of before)) here c

-- the fault that a pass tells of all that it finds: the lowest line, and the first cause found there
pub record IsLowest (Finds : ℕ → JobCause → Type 0) (fault : JobFault) : Type 0 where
  pub found : Finds fault.line fault.cause
  pub lowest : (line : ℕ) (c : JobCause) → Finds line c → fault.line ≤ line
  pub first : (c : JobCause) → Finds fault.line c → rank fault.cause ≤ rank c

abbrev pub IsFirstPassFault : List ℕ → JobFault → Type 0
IsFirstPassFault bytes fault = IsLowest (FirstFinds bytes) fault

-- the second pass is made only where the first one finds nothing
pub record IsSecondPassFault (bytes : List ℕ) (fault : JobFault) : Type 0 where
  pub none_first : (line : ℕ) (c : JobCause) → FirstFinds bytes line c → ⊥
  pub second : IsLowest (SecondFinds bytes) fault
