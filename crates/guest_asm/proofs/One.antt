-- A text has one job at most.
use Rattle.std.proofs.Common.{◌≡◌, ℕ, List, [], ◌∷◌, Option, Some, Result, Ok, refl, ap, ◌∙◌, sym, subst}
use Rattle.rv_isa.proofs.Unique.{only_word}
use Rattle.core_sim.specs.declared.job.Job.{Job}
use Rattle.guest_asm.specs.Lines.{Meaning}
use Rattle.guest_asm.specs.Rules.{statements_of, labels_of}
use Rattle.guest_asm.specs.Jobs.{Cell, raw, coded, IsCell, AreCells, rows_of, IsJobOfRows, IsJobText}

ok_same : {A E : Type 0} (r : Result A E) (x y : A) → r ≡ Ok x → r ≡ Ok y → x ≡ y
ok_same r x y h k = cc

some_same : {A : Type 0} (o : Option A) (x y : A) → Some x ≡ o → Some y ≡ o → x ≡ y
some_same o x y h k = cc

same_word : (c : Cell) (x y : ℕ) → IsCell c x → IsCell c y → x ≡ y
same_word (raw n) x y h k = h ∙ sym k
same_word (coded i) x y h k = only_word x y i h.0 k.0 h.1 k.1

pub same_words : (cells : List Cell) (xs ys : List ℕ) → AreCells cells xs → AreCells cells ys → xs ≡ ys
same_words [] [] [] h k = refl
same_words [] [] (y ∷ ys) h k = absurd k
same_words [] (x ∷ xs) ys h k = absurd h
same_words (c ∷ cells) [] ys h k = absurd h
same_words (c ∷ cells) (x ∷ xs) [] h k = absurd k
same_words (c ∷ cells) (x ∷ xs) (y ∷ ys) h k =
    ap (λ (z : ℕ). z ∷ xs) (same_word c x y h.0 k.0) ∙ ap (λ (zs : List ℕ). y ∷ zs) (same_words cells xs ys h.1 k.1)

pub same_job : (a b : Job) → a.harts ≡ b.harts → a.schedule ≡ b.schedule → a.steps ≡ b.steps → a.words ≡ b.words → a.data_bytes ≡ b.data_bytes → a.input ≡ b.input → a.entries ≡ b.entries → a ≡ b
same_job a b harts schedule steps words data_bytes input entries = λ j. record {
  harts = harts j;
  schedule = schedule j;
  steps = steps j;
  words = words j;
  data_bytes = data_bytes j;
  input = input j;
  entries = entries j;
}

of_same_lines : (lines : List Meaning) (a b : Job) → IsJobOfRows (labels_of lines) (rows_of lines) (statements_of lines) a → IsJobOfRows (labels_of lines) (rows_of lines) (statements_of lines) b → a ≡ b
of_same_lines lines a b of other =
    let cells : of.text.cells ≡ other.text.cells = ok_same _ _ _ of.text.passed other.text.passed in
    same_job a b
    (of.harts ∙ sym other.harts)
    (some_same _ _ _ of.schedule other.schedule)
    (some_same _ _ _ of.steps other.steps)
    (same_words other.text.cells a.words b.words (subst (λ (cs : List Cell). AreCells cs a.words) cells of.text.are_cells) other.text.are_cells)
    (of.data_bytes ∙ sym other.data_bytes)
    (of.input ∙ sym other.input)
    (of.entries ∙ sym other.entries)

pub one_job : (bytes : List ℕ) (a b : Job) → IsJobText bytes a → IsJobText bytes b → a ≡ b
one_job bytes a b text other =
    let lines : other.lines ≡ text.lines = ok_same _ _ _ other.passed text.passed in
    of_same_lines text.lines a b text.job_of
    (subst (λ (ls : List Meaning). IsJobOfRows (labels_of ls) (rows_of ls) (statements_of ls) b) lines other.job_of)
