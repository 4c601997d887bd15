-- What a line means.
use Rattle.std.specs.Prelude.{ℕ, not, List, [], ◌∷◌, Option, Some, None, IfSome, option_and_then, if◌then◌else◌}
use Rattle.std.specs.List.{list_all, list_any, before_first, after_first}
use Rattle.std.specs.Option.{option_map, option_copied}
use Rattle.guest_asm.specs.declared.line.Line.{Line}
use Rattle.guest_asm.specs.declared.statement.Statement.{Statement}
use Rattle.guest_asm.specs.Texts.{is_blank, is_legal, is_colon, is_hash, skip_blanks, parts_of}
use Rattle.guest_asm.specs.Operands.{label_of}
use Rattle.guest_asm.specs.Statements.{Said, statement_of, IsValidStatement}

-- the label that a line defines, its statement, and the label that the statement names
pub record Meaning : Type 0 where
  pub label : Option (List ℕ)
  pub statement : Option Statement
  pub named : Option (List ℕ)

-- the same without where the labels lie in memory
abbrev pub shown : Line → Meaning
shown l = record { label = option_copied l.label; statement = l.statement; named = option_copied l.named }

abbrev pub IsValidLine : Line → Type 0
IsValidLine l = IfSome l.statement IsValidStatement

-- nothing but blanks
abbrev pub empty_line : Meaning
empty_line = record { label = None; statement = None; named = None }

abbrev pub stated : Said → Meaning
stated said = record { label = None; statement = Some said.0; named = said.1 }

-- a name and its operands
abbrev pub said_by : List ℕ → Option Meaning
said_by [] = Some empty_line
said_by (b ∷ bs) =
    option_map stated (statement_of (before_first is_blank (b ∷ bs)) (parts_of (after_first is_blank (b ∷ bs))))

unfoldable pub unlabelled : List ℕ → Option Meaning
unlabelled code = said_by (skip_blanks code)

abbrev pub with_label : List ℕ → Meaning → Meaning
with_label label m = record m { label = Some label }

-- a label, a colon, and the rest
unfoldable pub labelled : List ℕ → Option Meaning
labelled code =
    option_and_then (λ label. option_map (with_label label) (unlabelled (after_first is_colon code)))
    (label_of (before_first is_colon code))

-- what a line means, where it is in the grammar; a comment runs from `#` to its end
unfoldable pub line_of : List ℕ → Option Meaning
line_of text =
    if not (list_all is_legal text) then None
    else (let code = skip_blanks (before_first is_hash text) in
    if list_any is_colon code then labelled code else unlabelled code)
