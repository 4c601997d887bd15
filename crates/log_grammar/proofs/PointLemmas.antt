-- A point, and points one comma apart.
use Rattle.std.proofs.Common.{◌≡◌, ℕ, ◌<◌, ◌≤◌, List, [], ◌∷◌, ◌++◌, ◌∙◌, append_assoc, false, arith}
use Rattle.std.specs.Fmt.{decimal, digit_glyph}
use Rattle.std.proofs.lemmas.Bool.{lt-ltb}
use Rattle.pl_event.specs.declared.log.Point.{Point}
use Rattle.pl_text.specs.Number.{BeginsWithDigit, BeginsWithNumber}
use Rattle.log_grammar.specs.Form.{IsPointInForm, most_read}
use Rattle.log_grammar.specs.Reads.{Closes}
use Rattle.log_grammar.specs.Spelling.{point_word}

small_glyph : (v byte : ℕ) → v < 10 → byte ≡ digit_glyph false v → (48 ≤ byte) × (byte < 58)
small_glyph v byte few e = omega (arith, rw (lt-ltb v 10 few) at e)

pub no_digit-colon : (rest : List ℕ) → BeginsWithDigit 10 (58 ∷ rest) → ⊥
no_digit-colon rest h = omega (arith, small_glyph h.0 58 h.1 h.2)

pub no_digit-closes : (rest : List ℕ) → Closes rest → BeginsWithDigit 10 rest → ⊥
no_digit-closes [] closes h = h
no_digit-closes (byte ∷ rest) closes h = omega (arith, closes, small_glyph h.0 byte h.1 h.2)

pub word_behind : (point : Point) (rest : List ℕ) → point_word point ++ rest ≡ decimal point.hart ++ (58 ∷ (decimal point.number ++ rest))
word_behind point rest = append_assoc (decimal point.hart) (58 ∷ decimal point.number) rest

pub hart_there : (text : List ℕ) (point : Point) (rest : List ℕ) → IsPointInForm most_read point → text ≡ point_word point ++ rest → BeginsWithNumber 10 9 text point.hart (58 ∷ (decimal point.number ++ rest))
hart_there text point rest form t = record { low = form.0; spelled = t ∙ word_behind point rest; ends = no_digit-colon (decimal point.number ++ rest) }

pub number_there : (text : List ℕ) (point : Point) (rest : List ℕ) → IsPointInForm most_read point → Closes rest → text ≡ decimal point.number ++ rest → BeginsWithNumber 10 2000000 text point.number rest
number_there text point rest form closes t = record { low = form.2; spelled = t; ends = no_digit-closes rest closes }
