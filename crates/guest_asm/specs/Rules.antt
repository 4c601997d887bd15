-- The rules of a line, each by the lines before it.
use Rattle.std.specs.Prelude.{ℕ, ◌+◌, ◌*◌, ◌%◌, Bool, true, false, not, ◌==◌, ◌&&◌, ◌||◌, nat_lt, List, [], ◌∷◌, ◌++◌, length, map, fold, find, Option, Some, None, is_some, is_none, if◌then◌else◌}
use Rattle.std.specs.List.{list_any, list_all, filter_map}
use Rattle.std.specs.Str.{bytes_eq}
use Rattle.guest_asm.specs.declared.number.Number.{Number}
use Rattle.guest_asm.specs.declared.code.Code.{Code}
use Rattle.guest_asm.specs.declared.code.Code.TheVariants as code
use Rattle.guest_asm.specs.declared.statement.Turn.{Turn}
use Rattle.guest_asm.specs.declared.statement.Statement.{Statement}
use Rattle.guest_asm.specs.declared.statement.Statement.TheVariants as statement
use Rattle.guest_asm.specs.declared.scan.Section.{Section}
use Rattle.guest_asm.specs.declared.scan.Section.TheVariants as section
use Rattle.guest_asm.specs.declared.scan.Place.{Place}
use Rattle.guest_asm.specs.declared.scan.Row.{Row}
use Rattle.guest_asm.specs.declared.cause.JobCause.{JobCause}
use Rattle.guest_asm.specs.declared.cause.JobCause.TheVariants as cause
use Rattle.guest_asm.specs.Numbers.{is_within}
use Rattle.guest_asm.specs.Lines.{Meaning}
use Rattle.pl_base.specs.declared.layout.TheConstants.{TEXT_START, DATA_START, MAX_HARTS, MAX_STEPS, MAX_TEXT_WORDS, MAX_DATA_BYTES}

-- the statements of rows
abbrev pub statements_in : List Row → List Statement
statements_in rows = map (λ r. r.statement) rows

-- the statements of lines
abbrev pub statements_of : List Meaning → List Statement
statements_of lines = filter_map (λ m. m.statement) lines

abbrev pub is_harts : Statement → Bool
is_harts (statement.Harts n) = true
is_harts _ = false

abbrev pub is_good_harts : Statement → Bool
is_good_harts (statement.Harts n) = is_within 1 MAX_HARTS n
is_good_harts _ = false

abbrev pub is_schedule : Statement → Bool
is_schedule (statement.Rr q) = true
is_schedule (statement.List turns) = true
is_schedule (statement.Seed n q) = true
is_schedule _ = false

abbrev pub is_steps : Statement → Bool
is_steps (statement.Steps n) = true
is_steps _ = false

-- the same number
abbrev pub same_number : Number → Number → Bool
same_number a b = same_sign a.negative b.negative && (a.bits == b.bits)
  where
    same_sign : Bool → Bool → Bool
    same_sign true b = b
    same_sign false b = not b

abbrev pub is_entry_of : Number → Statement → Bool
is_entry_of hart (statement.Entry other) = same_number other hart
is_entry_of hart _ = false

-- how many harts the first statement gives
abbrev pub harts_in : List Statement → ℕ
harts_in (statement.Harts n ∷ before) = n.bits
harts_in _ = 0

-- the first statement is `.harts` with 1 to 8, and no other one is
abbrev pub breaks_harts : List Statement → Statement → Bool
breaks_harts [] s = not (is_good_harts s)
breaks_harts (first ∷ before) s = is_harts s

-- a second schedule, number of steps, or entry of the same hart
abbrev pub repeats : List Statement → Statement → Bool
repeats before (statement.Rr q) = list_any is_schedule before
repeats before (statement.List turns) = list_any is_schedule before
repeats before (statement.Seed n q) = list_any is_schedule before
repeats before (statement.Steps n) = list_any is_steps before
repeats before (statement.Entry hart) = list_any (is_entry_of hart) before
repeats before _ = false

abbrev pub is_hart : ℕ → Number → Bool
is_hart harts n = not n.negative && nat_lt n.bits harts

abbrev pub is_quantum : Number → Bool
is_quantum n = is_within 1 65535 n

abbrev pub is_turn : ℕ → Turn → Bool
is_turn harts t = is_hart harts t.hart && is_within 1 MAX_STEPS t.count

abbrev pub are_turns : ℕ → List Turn → Bool
are_turns harts turns = list_all (is_turn harts) turns

abbrev pub are_bytes : List Number → Bool
are_bytes numbers = list_all (is_within 0 255) numbers

-- a number of a statement that begins with a dot is outside its range
abbrev pub is_out_of_range : ℕ → Statement → Bool
is_out_of_range harts (statement.Rr q) = not (is_quantum q)
is_out_of_range harts (statement.List turns) = not (are_turns harts turns)
is_out_of_range harts (statement.Seed n q) = n.negative || not (is_quantum q)
is_out_of_range harts (statement.Steps n) = not (is_within 1 MAX_STEPS n)
is_out_of_range harts (statement.Entry hart) = not (is_hart harts hart)
is_out_of_range harts (statement.Byte numbers) = not (are_bytes numbers)
is_out_of_range harts (statement.Space n) = not (is_within 0 MAX_DATA_BYTES n)
is_out_of_range harts _ = false

abbrev pub is_text : Option Section → Bool
is_text (Some section.Text) = true
is_text _ = false

abbrev pub is_data : Option Section → Bool
is_data (Some section.Data) = true
is_data _ = false

-- an instruction outside text, bytes outside data, or words before any section
abbrev pub is_misplaced : Option Section → Statement → Bool
is_misplaced s (statement.Code c) = not (is_text s)
is_misplaced s (statement.Byte numbers) = not (is_data s)
is_misplaced s (statement.Space n) = not (is_data s)
is_misplaced s (statement.Word numbers) = is_none s
is_misplaced s _ = false

-- words in data at no multiple of 4
abbrev pub is_misaligned : Place → Statement → Bool
is_misaligned place (statement.Word numbers) = is_data place.section && not (place.bytes % 4 == 0)
is_misaligned place _ = false

abbrev pub code_words : Code → ℕ
code_words (code.One i) = 1
code_words (code.Two i j) = 2
code_words (code.Jump rd) = 1
code_words (code.Branch o rs1 rs2) = 1
code_words (code.Address rd) = 2

-- how many words a statement puts into the text
abbrev pub words_of : Option Section → Statement → ℕ
words_of s (statement.Word numbers) = if is_text s then length numbers else 0
words_of s (statement.Code c) = code_words c
words_of s _ = 0

-- how many bytes a statement puts into data
abbrev pub bytes_of : Option Section → Statement → ℕ
bytes_of s (statement.Word numbers) = if is_data s then 4 * length numbers else 0
bytes_of s (statement.Byte numbers) = length numbers
bytes_of s (statement.Space n) = n.bits
bytes_of s _ = 0

-- more than 16,384 words or 262,144 bytes
abbrev pub overfills : Place → Statement → Bool
overfills place s =
    nat_lt MAX_TEXT_WORDS (place.words + words_of place.section s)
    || nat_lt MAX_DATA_BYTES (place.bytes + bytes_of place.section s)

-- before the first line
abbrev pub start : Place
start = record { section = None; words = 0; bytes = 0 }

abbrev pub section_after : Option Section → Statement → Option Section
section_after s statement.Text = Some section.Text
section_after s statement.Data = Some section.Data
section_after s _ = s

abbrev pub after_statement : Place → Statement → Place
after_statement place s = record {
  section = section_after place.section s;
  words = place.words + words_of place.section s;
  bytes = place.bytes + bytes_of place.section s;
}

abbrev pub after_optional : Place → Option Statement → Place
after_optional place None = place
after_optional place (Some s) = after_statement place s

abbrev pub after : Place → Meaning → Place
after place m = after_optional place m.statement

-- the place before the line that follows these
abbrev pub place_of : List Meaning → Place
place_of before = fold after start before

-- text begins at 10000 and data at 100000 hex
abbrev pub text_address : Place → ℕ
text_address place = TEXT_START + 4 * place.words

abbrev pub address_in : Place → ℕ
address_in place = if is_data place.section then DATA_START + place.bytes else text_address place

-- the labels that lines define, with their addresses, in order
abbrev pub label_with : ℕ → Option (List ℕ) → List (List ℕ × ℕ)
label_with address None = []
label_with address (Some name) = (name, address) ∷ []

abbrev pub labels_from : Place → List Meaning → List (List ℕ × ℕ)
labels_from place [] = []
labels_from place (m ∷ lines) = label_with (address_in place) m.label ++ labels_from (after place m) lines

abbrev pub labels_of : List Meaning → List (List ℕ × ℕ)
labels_of lines = labels_from start lines

-- the address of a label
abbrev pub address_of : List (List ℕ × ℕ) → List ℕ → Option ℕ
address_of [] name = None
address_of (l ∷ labels) name = if bytes_eq name l.0 then Some l.1 else address_of labels name

abbrev pub is_again : List (List ℕ × ℕ) → Option (List ℕ) → Bool
is_again labels None = false
is_again labels (Some name) = is_some (address_of labels name)

abbrev pub on_statement : (Statement → Bool) → Option Statement → Bool
on_statement test None = false
on_statement test (Some s) = test s

abbrev pub has_stray_label : Place → Meaning → Bool
has_stray_label place m = is_some m.label && is_none place.section

-- whether a line breaks a rule after these statements at this place; `again` says that its label is defined already
abbrev pub breaks : List Statement → Place → Bool → Meaning → JobCause → Bool
breaks before place again m cause.Harts = on_statement (breaks_harts before) m.statement
breaks before place again m cause.Twice = again || on_statement (repeats before) m.statement
breaks before place again m cause.Range = on_statement (is_out_of_range (harts_in before)) m.statement
breaks before place again m cause.Section =
    has_stray_label place m || on_statement (is_misplaced place.section) m.statement
breaks before place again m cause.Align = on_statement (is_misaligned place) m.statement
breaks before place again m cause.Full = on_statement (overfills place) m.statement
breaks before place again m cause.Form = false
breaks before place again m cause.Missing = false
breaks before place again m cause.Label = false
breaks before place again m cause.Far = false

-- the first rule that a line breaks, in the order in which they are tried
unfoldable pub broken_at : List Statement → Place → Bool → Meaning → Option JobCause
broken_at before place again m =
    find (breaks before place again m)
    (cause.Harts ∷ cause.Twice ∷ cause.Range ∷ cause.Section ∷ cause.Align ∷ cause.Full ∷ [])

-- the first rule that a line breaks after the lines before it
abbrev pub broken : List Meaning → Meaning → Option JobCause
broken before m = broken_at (statements_of before) (place_of before) (is_again (labels_of before) m.label) m

-- no `.harts`, `.schedule`, `.steps` or text word
abbrev pub lacks : List Statement → ℕ → Bool
lacks before words =
    length before == 0 || not (list_any is_schedule before) || not (list_any is_steps before) || words == 0
