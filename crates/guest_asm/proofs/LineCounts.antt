-- Each word of a text has a line.
use Rattle.std.proofs.Common.{◌≡◌, ℕ, ◌+◌, List, [], ◌∷◌, ◌++◌, length, fold, Option, Some, None, ap, arith}
use Rattle.std.proofs.lemmas.List.{length-append, length-replicate}
use Rattle.core_sim.specs.declared.job.Job.{Job}
use Rattle.guest_asm.specs.declared.scan.Place.{Place}
use Rattle.guest_asm.specs.declared.statement.Statement.{Statement}
use Rattle.guest_asm.specs.Lines.{Meaning}
use Rattle.guest_asm.specs.Rules.{after, after_optional, after_statement, labels_of, start, text_address, words_of}
use Rattle.guest_asm.specs.Jobs.{Placed, rows_from, row_with}
use Rattle.guest_asm.specs.WordLines.{IsLinedJobText, lines_of_row, lines_of_rows}
use Rattle.guest_asm.proofs.Lengths.{length-cells, length-text}

-- what is said of the lines after one
abbrev CountsFrom : ℕ → List Meaning → Type 0
CountsFrom line lines = (place : Place) → length (lines_of_rows (rows_from line place lines)) + place.words ≡ (fold after place lines).words

count_line : (line : ℕ) (place : Place) (named : Option (List ℕ)) (lines : List Meaning) → CountsFrom (line + 1) lines → (o : Option Statement)
    → length (lines_of_rows (row_with line place named o ++ rows_from (line + 1) (after_optional place o) lines)) + place.words ≡ (fold after (after_optional place o) lines).words
count_line line place named lines others None = others place
count_line line place named lines others (Some s) =
    let r : Placed = record { line = line; at = text_address place; section = place.section; statement = s; named = named } in
    let rest = others (after_statement place s) in
    omega (arith, length-replicate (words_of place.section s) line, rest, length-append (lines_of_row r) (lines_of_rows (rows_from (line + 1) (after_statement place s) lines)))

counts : (line : ℕ) (lines : List Meaning) → CountsFrom line lines
counts line [] place = omega arith
counts line (m ∷ lines) place = count_line line place m.named lines (counts (line + 1) lines) m.statement

-- as many lines as words
pub each_lined : (bytes : List ℕ) (job : Job) (word_lines : List ℕ) → IsLinedJobText bytes job word_lines → length word_lines ≡ length job.words
each_lined bytes job word_lines text =
    let cells = text.job_of.text.cells in
    let said = length-text (labels_of text.lines) 1 start text.lines cells text.job_of.text.passed in
    let counted = counts 1 text.lines start in
    let words = length-cells cells job.words text.job_of.text.are_cells in
    omega (arith, said, counted, words, ap length text.words_from)
