-- The words of the rows so far.
use Rattle.std.proofs.Common.{◌≡◌, ℕ, ◌+◌, ◌<◌, ◌≤◌, List, [], ◌∷◌, ◌++◌, length, get_or, drop, map, Option, Some, None, Result, Ok, Err, refl, ap, ◌∙◌, sym, subst}
use Rattle.std.proofs.lemmas.List.{append-nil, append_assoc, at_drop_more, at_drop_all}
use Rattle.std.specs.Option.{option_copied}
use Rattle.guest_asm.specs.declared.scan.Row.{Row}
use Rattle.guest_asm.specs.declared.cause.JobCause.{JobCause}
use Rattle.guest_asm.specs.declared.cause.JobCause.TheVariants as cause
use Rattle.guest_asm.specs.declared.cause.JobFault.{JobFault}
use Rattle.guest_asm.specs.declared.number.Number.{Number}
use Rattle.guest_asm.specs.Faults.{target}
use Rattle.guest_asm.specs.Jobs.{Placed, Cell, raw, AreCells, Appends, IsTextOf, fault_at, placed, statement_cells, on_line, row_cells, second_pass, ◌>>=◌}

pub AreCells-append : (a b : List Cell) (xs ys : List ℕ) → AreCells a xs → AreCells b ys → AreCells (a ++ b) (xs ++ ys)
AreCells-append [] b [] ys h k = k
AreCells-append [] b (x ∷ xs) ys h k = absurd h
AreCells-append (c ∷ a) b [] ys h k = absurd h
AreCells-append (c ∷ a) b (x ∷ xs) ys h k = (h.0, AreCells-append a b xs ys h.1 k)

pub appends-append : {a b : List Cell} (old mid new : List ℕ) → Appends old mid (Ok a) → Appends mid new (Ok b) → Appends old new (Ok (a ++ b))
appends-append {a = a} {b = b} old mid new first second = record {
  cells = a ++ b;
  words = first.words ++ second.words;
  is_emitted = refl;
  is_appended = second.is_appended ∙ ap (λ (ws : List ℕ). ws ++ second.words) first.is_appended ∙ append_assoc old first.words second.words;
  are_cells = AreCells-append a b first.words second.words (same_cells first) (same_cells second);
}
  where
    same_cells : {old new : List ℕ} {cells : List Cell} → (appends : Appends old new (Ok cells)) → AreCells cells appends.words
    same_cells {cells = cells} appends =
        let same : appends.cells ≡ cells = cc in
        subst (λ (cs : List Cell). AreCells cs appends.words) same appends.are_cells

-- numbers as they were written
pub raw_cells : (numbers : List Number) → AreCells (map (λ n. raw n.bits) numbers) (map (λ n. n.bits) numbers)
raw_cells [] = tt
raw_cells (n ∷ numbers) = (refl, raw_cells numbers)

-- the words are those of the rows before these
pub record Built (labels : List (List ℕ × ℕ)) (rows rest : List Placed) (words : List ℕ) : Type 0 where
  pub cells : List Cell
  pub are_cells : AreCells cells words
  pub told : (second_pass labels rest >>= λ more. Ok (cells ++ more)) ≡ second_pass labels rows

again : {A E : Type 0} (r : Result (List A) E) → (r >>= λ more. Ok ([] ++ more)) ≡ r
again (Ok x) = refl
again (Err e) = refl

regrouped : {A E : Type 0} (a b : List A) (r : Result (List A) E) → ((r >>= λ more. Ok (b ++ more)) >>= λ more. Ok (a ++ more)) ≡ (r >>= λ more. Ok ((a ++ b) ++ more))
regrouped a b (Ok x) = ap Ok (sym (append_assoc a b x))
regrouped a b (Err e) = refl

pub built-none : (labels : List (List ℕ × ℕ)) (rows : List Placed) → Built labels rows rows []
built-none labels rows = record { cells = []; are_cells = tt; told = again (second_pass labels rows) }

pub built-push : (labels : List (List ℕ × ℕ)) (rows rest : List Placed) (r : Placed) (old new : List ℕ)
    → Built labels rows (r ∷ rest) old → Appends old new (row_cells r (target labels r.named)) → Built labels rows rest new
built-push labels rows rest r old new built more = record {
  cells = built.cells ++ more.cells;
  are_cells = subst (AreCells (built.cells ++ more.cells)) (sym more.is_appended) (AreCells-append built.cells more.cells old more.words built.are_cells more.are_cells);
  told = sym (regrouped built.cells more.cells (second_pass labels rest))
      ∙ ap (λ (c : Result (List Cell) JobCause). (on_line r.line c >>= λ cells. second_pass labels rest >>= λ after. Ok (cells ++ after)) >>= λ after. Ok (built.cells ++ after)) (sym more.is_emitted)
      ∙ built.told;
}

pub built-fault : (labels : List (List ℕ × ℕ)) (rows rest : List Placed) (r : Placed) (old : List ℕ) (fault : JobFault)
    → Built labels rows (r ∷ rest) old → on_line r.line (row_cells r (target labels r.named)) ≡ Err fault → second_pass labels rows ≡ Err fault
built-fault labels rows rest r old fault built e =
    sym built.told
    ∙ ap (λ (c : Result (List Cell) JobFault). (c >>= λ cells. second_pass labels rest >>= λ after. Ok (cells ++ after)) >>= λ after. Ok (built.cells ++ after)) e

pub built-all : (labels : List (List ℕ × ℕ)) (rows : List Placed) (words : List ℕ) → Built labels rows [] words → IsTextOf labels rows words
built-all labels rows words built = record {
  cells = built.cells;
  passed = sym built.told ∙ ap Ok (append-nil built.cells);
  are_cells = built.are_cells;
}

-- one more row
module _ (labels : List (List ℕ × ℕ)) (rows : List Row) (i : ℕ) (r : Row) (inside : i < length rows) (is : r ≡ get_or rows i r) (old : List ℕ)
    (built : Built labels (map placed rows) (map placed (drop i rows)) old) where
  here : Built labels (map placed rows) (placed r ∷ map placed (drop (i + 1) rows)) old
  here = subst (λ (rest : List Placed). Built labels (map placed rows) rest old)
      (at_drop_more (map placed) rows i r inside ∙ ap (λ (x : Row). placed x ∷ map placed (drop (i + 1) rows)) (sym is)) built

  pub row-push : (new : List ℕ) (to : ℕ) → Some to ≡ target labels (option_copied r.named) → Appends old new (statement_cells (placed r) to r.statement)
      → Built labels (map placed rows) (map placed (drop (i + 1) rows)) new
  row-push new to at appends =
      built-push labels (map placed rows) (map placed (drop (i + 1) rows)) (placed r) old new here
      (subst (λ (o : Option ℕ). Appends old new (row_cells (placed r) o)) at appends)

  pub row-fault : (to : ℕ) (fault : JobFault) → Some to ≡ target labels (option_copied r.named) → on_line r.line (statement_cells (placed r) to r.statement) ≡ Err fault
      → second_pass labels (map placed rows) ≡ Err fault
  row-fault to fault at e =
      built-fault labels (map placed rows) (map placed (drop (i + 1) rows)) (placed r) old fault here
      (ap (λ (o : Option ℕ). on_line r.line (row_cells (placed r) o)) (sym at) ∙ e)

  pub row-label : None ≡ target labels (option_copied r.named) → second_pass labels (map placed rows) ≡ Err (fault_at r.line cause.Label)
  row-label at =
      built-fault labels (map placed rows) (map placed (drop (i + 1) rows)) (placed r) old (fault_at r.line cause.Label) here
      (ap (λ (o : Option ℕ). on_line r.line (row_cells (placed r) o)) (sym at))

-- after the last row
pub rows-all : (labels : List (List ℕ × ℕ)) (rows : List Row) (i : ℕ) (words : List ℕ) → length rows ≤ i
    → Built labels (map placed rows) (map placed (drop i rows)) words → IsTextOf labels (map placed rows) words
rows-all labels rows i words end built =
    built-all labels (map placed rows) words
    (subst (λ (rest : List Placed). Built labels (map placed rows) rest words) (at_drop_all (map placed) rows i end) built)
