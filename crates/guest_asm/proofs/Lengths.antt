-- How many words and bytes a job has.
use Rattle.std.proofs.Common.{◌≡◌, ℕ, ◌+◌, ◌*◌, Bool, true, false, cond, List, [], ◌∷◌, ◌++◌, length, map, fold, Option, Some, None, Result, Ok, Err, refl, ap, ◌∙◌, sym, arith, w32, ℤ, ◌^◌}
use Rattle.std.specs.List.{flat_map}
use Rattle.std.specs.Option.{option_map}
use Rattle.std.specs.Int.{to_le_bytes}
use Rattle.std.proofs.lemmas.List.{length-append, length-map, length-replicate}
use Rattle.rv_isa.specs.declared.instruction.Instr.{Instr}
use Rattle.rv_isa.specs.declared.instruction.Instr.TheVariants as instr
use Rattle.guest_asm.specs.Codes.{lui_of, addi_of}
use Rattle.guest_asm.specs.declared.number.Number.{Number}
use Rattle.guest_asm.specs.declared.code.Code.{Code}
use Rattle.guest_asm.specs.declared.code.Code.TheVariants as code
use Rattle.guest_asm.specs.declared.statement.Statement.{Statement}
use Rattle.guest_asm.specs.declared.statement.Statement.TheVariants as statement
use Rattle.guest_asm.specs.declared.cause.JobCause.{JobCause}
use Rattle.guest_asm.specs.declared.cause.JobFault.{JobFault}
use Rattle.guest_asm.specs.declared.scan.Section.{Section}
use Rattle.guest_asm.specs.declared.scan.Place.{Place}
use Rattle.guest_asm.specs.Lines.{Meaning}
use Rattle.guest_asm.specs.Rules.{is_text, is_data, words_of, bytes_of, code_words, after, after_statement, after_optional, text_address}
use Rattle.guest_asm.specs.Faults.{target}
use Rattle.guest_asm.specs.Jobs.{Placed, Cell, raw, coded, AreCells, near, offset, instructions, statement_cells, row_cells, on_line, second_pass, rows_from, row_with, data_of, ◌>>=◌}

pub length-cells : (cells : List Cell) (words : List ℕ) → AreCells cells words → length words ≡ length cells
length-cells [] [] h = refl
length-cells [] (w ∷ words) h = absurd h
length-cells (c ∷ cells) [] h = absurd h
length-cells (c ∷ cells) (w ∷ words) h = omega (arith, length-cells cells words h.1)

near_one : (f : ℤ → Instr) (o : Option ℤ) (cells : List Cell) → near (option_map (λ off. (f off, None)) o) ≡ Ok cells → length cells ≡ 1
near_one f None cells e = absurd cc
near_one f (Some off) cells e = let same : cells ≡ coded (f off) ∷ [] = cc in ap length same

code-length : (at to : ℕ) (c : Code) (cells : List Cell) → near (instructions at to c) ≡ Ok cells → length cells ≡ code_words c
code-length at to (code.One i) cells e = let same : cells ≡ coded i ∷ [] = cc in ap length same
code-length at to (code.Two i j) cells e = let same : cells ≡ coded i ∷ coded j ∷ [] = cc in ap length same
code-length at to (code.Jump rd) cells e = near_one (λ off. instr.Jal rd off) (offset (2 ^ 20) at to) cells e
code-length at to (code.Branch o rs1 rs2) cells e = near_one (λ off. instr.Branch o rs1 rs2 off) (offset (2 ^ 12) at to) cells e
code-length at to (code.Address rd) cells e = let same : cells ≡ coded (lui_of rd to) ∷ coded (addi_of rd to) ∷ [] = cc in ap length same

if_length : {X Y : Type 0} (t : Bool) (n : ℕ) (f : X → Y) (xs : List X) → n ≡ length xs → length (cond t (map f xs) []) ≡ cond t n 0
if_length true n f xs e = length-map xs f ∙ sym e
if_length false n f xs e = refl

abbrev nothing : {E : Type 0} → Result (List Cell) E
nothing = Ok []

no_cells : (cells : List Cell) → nothing {E = JobCause} ≡ Ok cells → length cells ≡ 0
no_cells cells e = let same : cells ≡ [] = cc in ap length same

statement-length : (r : Placed) (to : ℕ) (s : Statement) (cells : List Cell) → statement_cells r to s ≡ Ok cells → length cells ≡ words_of r.section s
statement-length r to (statement.Word numbers) cells e =
    let same : cells ≡ cond (is_text r.section) (map (λ n. raw n.bits) numbers) [] = cc in
    ap length same ∙ if_length (is_text r.section) (length numbers) (λ (n : Number). raw n.bits) numbers refl
statement-length r to (statement.Code c) cells e = code-length r.at to c cells e
statement-length r to (statement.Harts n) cells e = no_cells cells e
statement-length r to (statement.Rr q) cells e = no_cells cells e
statement-length r to (statement.List turns) cells e = no_cells cells e
statement-length r to (statement.Seed n q) cells e = no_cells cells e
statement-length r to (statement.Steps n) cells e = no_cells cells e
statement-length r to (statement.Input bytes) cells e = no_cells cells e
statement-length r to (statement.Entry n) cells e = no_cells cells e
statement-length r to statement.Text cells e = no_cells cells e
statement-length r to statement.Data cells e = no_cells cells e
statement-length r to (statement.Byte numbers) cells e = no_cells cells e
statement-length r to (statement.Space n) cells e = no_cells cells e

row-length : (r : Placed) (o : Option ℕ) (cells : List Cell) → row_cells r o ≡ Ok cells → length cells ≡ words_of r.section r.statement
row-length r None cells e = absurd cc
row-length r (Some to) cells e = statement-length r to r.statement cells e

-- the first row's words, and those of the others
record Parted (r : Placed) (o : Option ℕ) (rest : Result (List Cell) JobFault) (cells : List Cell) : Type 0 where
  first : List Cell
  more : List Cell
  is_first : row_cells r o ≡ Ok first
  is_more : rest ≡ Ok more
  joined : cells ≡ first ++ more

parted_more : (r : Placed) (o : Option ℕ) (first : List Cell) → row_cells r o ≡ Ok first → (rest : Result (List Cell) JobFault) (cells : List Cell)
    → (rest >>= λ more. Ok (first ++ more)) ≡ Ok cells → Parted r o rest cells
parted_more r o first is_first (Ok more) cells e = record { first = first; more = more; is_first = is_first; is_more = refl; joined = cc }
parted_more r o first is_first (Err fault) cells e = absurd cc

parted_first : (r : Placed) (o : Option ℕ) (here : Result (List Cell) JobCause) → row_cells r o ≡ here → (rest : Result (List Cell) JobFault) (cells : List Cell)
    → (on_line r.line here >>= λ first. rest >>= λ more. Ok (first ++ more)) ≡ Ok cells → Parted r o rest cells
parted_first r o (Ok first) is rest cells e = parted_more r o first is rest cells e
parted_first r o (Err c) is rest cells e = absurd cc

no_words : (xs : List Cell) → nothing {E = JobFault} ≡ Ok xs → length xs ≡ 0
no_words xs k = let same : xs ≡ [] = cc in ap length same

-- what is said of the lines after one
abbrev TextFrom : List (List ℕ × ℕ) → ℕ → List Meaning → Type 0
TextFrom labels line lines = (place : Place) (cells : List Cell) → second_pass labels (rows_from line place lines) ≡ Ok cells → length cells + place.words ≡ (fold after place lines).words

text_line : (labels : List (List ℕ × ℕ)) (line : ℕ) (place : Place) (named : Option (List ℕ)) (lines : List Meaning) (cells : List Cell) → TextFrom labels (line + 1) lines → (o : Option Statement)
    → second_pass labels (row_with line place named o ++ rows_from (line + 1) (after_optional place o) lines) ≡ Ok cells → length cells + place.words ≡ (fold after (after_optional place o) lines).words
text_line labels line place named lines cells others None k = others place cells k
text_line labels line place named lines cells others (Some s) k =
    let r : Placed = record { line = line; at = text_address place; section = place.section; statement = s; named = named } in
    let parts = parted_first r (target labels named) (row_cells r (target labels named)) refl (second_pass labels (rows_from (line + 1) (after_statement place s) lines)) cells k in
    let here = row-length r (target labels named) parts.first parts.is_first in
    let rest = others (after_statement place s) parts.more parts.is_more in
    omega (arith, here, rest, ap length parts.joined, length-append parts.first parts.more)

pub length-text : (labels : List (List ℕ × ℕ)) (line : ℕ) (place : Place) (lines : List Meaning) (cells : List Cell)
    → second_pass labels (rows_from line place lines) ≡ Ok cells → length cells + place.words ≡ (fold after place lines).words
length-text labels line place [] cells e = omega (arith, no_words cells e)
length-text labels line place (m ∷ lines) cells e =
    text_line labels line place m.named lines cells (λ p cs k. length-text labels (line + 1) p lines cs k) m.statement e

four : (n : ℕ) → length (to_le_bytes w32 n) ≡ 4
four n = refl

four_each : (numbers : List Number) → length (flat_map (λ n. to_le_bytes w32 n.bits) numbers) ≡ 4 * length numbers
four_each [] = refl
four_each (n ∷ numbers) =
    omega (arith, four_each numbers, length-append (to_le_bytes w32 n.bits) (flat_map (λ n. to_le_bytes w32 n.bits) numbers), four n.bits)

if_four : (t : Bool) (numbers : List Number) → length (cond t (flat_map (λ n. to_le_bytes w32 n.bits) numbers) []) ≡ cond t (4 * length numbers) 0
if_four true numbers = four_each numbers
if_four false numbers = refl

data-length : (line at : ℕ) (s : Option Section) (named : Option (List ℕ)) (x : Statement) → length (data_of (record { line = line; at = at; section = s; statement = x; named = named })) ≡ bytes_of s x
data-length line at s named (statement.Word numbers) = if_four (is_data s) numbers
data-length line at s named (statement.Byte numbers) = length-map numbers (λ (n : Number). n.bits)
data-length line at s named (statement.Space n) = length-replicate n.bits 0
data-length line at s named (statement.Code c) = refl
data-length line at s named (statement.Harts n) = refl
data-length line at s named (statement.Rr q) = refl
data-length line at s named (statement.List turns) = refl
data-length line at s named (statement.Seed n q) = refl
data-length line at s named (statement.Steps n) = refl
data-length line at s named (statement.Input bytes) = refl
data-length line at s named (statement.Entry n) = refl
data-length line at s named statement.Text = refl
data-length line at s named statement.Data = refl

data_line : (line : ℕ) (place : Place) (named : Option (List ℕ)) (lines : List Meaning)
    → ((p : Place) → length (flat_map data_of (rows_from (line + 1) p lines)) + p.bytes ≡ (fold after p lines).bytes) → (o : Option Statement)
    → length (flat_map data_of (row_with line place named o ++ rows_from (line + 1) (after_optional place o) lines)) + place.bytes ≡ (fold after (after_optional place o) lines).bytes
data_line line place named lines others None = others place
data_line line place named lines others (Some s) =
    let r : Placed = record { line = line; at = text_address place; section = place.section; statement = s; named = named } in
    let rest = others (after_statement place s) in
    omega (arith, data-length line (text_address place) place.section named s, rest, length-append (data_of r) (flat_map data_of (rows_from (line + 1) (after_statement place s) lines)))

pub length-data : (line : ℕ) (place : Place) (lines : List Meaning) → length (flat_map data_of (rows_from line place lines)) + place.bytes ≡ (fold after place lines).bytes
length-data line place [] = omega arith
length-data line place (m ∷ lines) = data_line line place m.named lines (λ p. length-data (line + 1) p lines) m.statement
