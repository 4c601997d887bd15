-- The statements of a job.
use Rattle.std.specs.Prelude.{ℕ, Bool, not, ◌==◌, List, [], ◌∷◌, length, map, codes, Option, Some, None, option_and_then, if◌then◌else◌}
use Rattle.std.specs.List.{before_first, after_first}
use Rattle.std.specs.Option.{option_map, option_copied}
use Rattle.std.specs.Borrow.{Bor}
use Rattle.std.specs.Str.{bytes_eq}
use Rattle.guest_asm.specs.declared.number.Number.{Number}
use Rattle.guest_asm.specs.declared.statement.Turn.{Turn}
use Rattle.guest_asm.specs.declared.statement.Statement.{Statement}
use Rattle.guest_asm.specs.declared.statement.Statement.TheVariants as statement
use Rattle.guest_asm.specs.Texts.{is_blank, skip_blanks, word_in}
use Rattle.guest_asm.specs.Numbers.{digits_of, number_of, number_in}
use Rattle.guest_asm.specs.Operands.{◌>>=◌, label_in}
use Rattle.guest_asm.specs.Codes.{code_of, IsValidCode}

-- a statement with the label that it names, if it names one
abbrev pub Said : Type 0
Said = Statement × Option (List ℕ)

-- the same without where the label lies in memory
abbrev pub seen : Statement × Option (Bor (List ℕ)) → Said
seen r = (r.0, option_copied r.1)

-- each instruction has a word
abbrev pub IsValidStatement : Statement → Type 0
IsValidStatement (statement.Code c) = IsValidCode c
IsValidStatement _ = Unit {0}

-- all of the values, where each is there
abbrev pub all_some : {X : Type 0} → List (Option X) → Option (List X)
all_some [] = Some []
all_some (o ∷ os) = option_and_then (λ x. option_map (λ xs. x ∷ xs) (all_some os)) o

-- at least one number
unfoldable pub numbers_in : List (List ℕ) → Option (List Number)
numbers_in [] = None
numbers_in (part ∷ parts) = all_some (map number_in (part ∷ parts))

abbrev pub is_star : ℕ → Bool
is_star b = b == 42

-- a hart, `*` and a count
unfoldable pub turn_of : List ℕ → Option Turn
turn_of word = do
  hart ← number_of (before_first is_star word)
  count ← number_of (after_first is_star word)
  Some (record { hart = hart; count = count })

unfoldable pub turn_in : List ℕ → Option Turn
turn_in part = option_and_then turn_of (word_in part)

unfoldable pub round_robin : List ℕ → Option Statement
round_robin text = option_map statement.Rr (number_in text)

unfoldable pub seed : List ℕ → Option Statement
seed text =
    let behind = skip_blanks text in
    option_and_then (λ n. option_map (λ q. statement.Seed n q) (number_in (after_first is_blank behind)))
    (number_of (before_first is_blank behind))

unfoldable pub list_schedule : List (List ℕ) → Option Statement
list_schedule parts = option_map statement.List (all_some (map turn_in parts))

-- `rr q`, `list h*k,h*k,..` or `seed n q`
unfoldable pub schedule_of : List (List ℕ) → Option Statement
schedule_of [] = None
schedule_of (first ∷ others) =
    let behind = skip_blanks first in
    let kind = before_first is_blank behind in
    let rest = after_first is_blank behind in
    if bytes_eq kind (codes "list") then list_schedule (rest ∷ others)
    else (if not (length others == 0) then None
    else (if bytes_eq kind (codes "rr") then round_robin rest
    else (if bytes_eq kind (codes "seed") then seed rest else None)))

-- the byte of the two hex digits at the beginning, and what follows them
unfoldable pub pair_at : List ℕ → Option (ℕ × List ℕ)
pair_at (a ∷ b ∷ rest) = option_map (λ byte. (byte, rest)) (digits_of 16 (a ∷ b ∷ []))
pair_at _ = None

-- the bytes of pairs of hex digits
abbrev pub hex_pairs : List ℕ → Option (List ℕ)
hex_pairs [] = Some []
hex_pairs (a ∷ []) = None
hex_pairs (a ∷ b ∷ rest) =
    option_and_then (λ byte. option_map (λ bytes. byte ∷ bytes) (hex_pairs rest)) (digits_of 16 (a ∷ b ∷ []))

-- the word of a single part
unfoldable pub one_word : List (List ℕ) → Option (List ℕ)
one_word (part ∷ []) = word_in part
one_word _ = None

-- one word of at least two digits
unfoldable pub input_of : List (List ℕ) → Option Statement
input_of parts =
    option_and_then (λ word. if length word == 0 then None else option_map statement.Input (hex_pairs word))
    (one_word parts)

unfoldable pub number_of_one : List (List ℕ) → Option Number
number_of_one (part ∷ []) = number_in part
number_of_one _ = None

unfoldable pub entry_of : List (List ℕ) → Option Said
entry_of (first ∷ second ∷ []) = do
  hart ← number_in first
  label ← label_in second
  Some (statement.Entry hart, Some label)
entry_of _ = None

unfoldable pub bare : Statement → List (List ℕ) → Option Statement
bare s parts = if length parts == 0 then Some s else None

-- a statement that names no label
abbrev pub named : Option Statement → Option Said
named s = option_map (λ x. (x, None)) s

-- the other statements
unfoldable pub plain_statement : List ℕ → List (List ℕ) → Option Said
plain_statement name parts =
    if bytes_eq name (codes ".harts") then named (option_map statement.Harts (number_of_one parts))
    else (if bytes_eq name (codes ".steps") then named (option_map statement.Steps (number_of_one parts))
    else (if bytes_eq name (codes ".entry") then entry_of parts
    else (if bytes_eq name (codes ".text") then named (bare statement.Text parts)
    else (if bytes_eq name (codes ".data") then named (bare statement.Data parts)
    else (if bytes_eq name (codes ".space") then named (option_map statement.Space (number_of_one parts))
    else option_map (λ r. (statement.Code r.0, r.1)) (code_of name parts))))))

-- the statement of a name with its operands
unfoldable pub statement_of : List ℕ → List (List ℕ) → Option Said
statement_of name parts =
    if bytes_eq name (codes ".schedule") then named (schedule_of parts)
    else (if bytes_eq name (codes ".input") then named (input_of parts)
    else (if bytes_eq name (codes ".word") then named (option_map statement.Word (numbers_in parts))
    else (if bytes_eq name (codes ".byte") then named (option_map statement.Byte (numbers_in parts))
    else plain_statement name parts)))
