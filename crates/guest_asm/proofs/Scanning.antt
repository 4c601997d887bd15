-- One more line after those that were read.
use Rattle.std.proofs.Common.{◌≡◌, ℕ, ◌+◌, ◌≤◌, true, false, List, [], ◌∷◌, ◌++◌, length, map, fold, Option, Some, None, Ok, Err, refl, ap, ◌∙◌, sym, arith}
use Rattle.std.specs.List.{All, cons_option}
use Rattle.std.proofs.lemmas.List.{append-nil, append_assoc}
use Rattle.std.proofs.lemmas.List.Sums.{fold-append}
use Rattle.guest_asm.specs.declared.statement.Statement.{Statement}
use Rattle.guest_asm.specs.declared.scan.Place.{Place}
use Rattle.guest_asm.specs.declared.scan.Row.{Row}
use Rattle.guest_asm.specs.declared.scan.Scan.{Scan}
use Rattle.guest_asm.specs.declared.cause.JobCause.{JobCause}
use Rattle.guest_asm.specs.declared.cause.JobCause.TheVariants as cause
use Rattle.guest_asm.specs.Lines.{Meaning, line_of}
use Rattle.guest_asm.specs.Rules.{start, after, place_of, statements_of, statements_in, labels_from, labels_of, label_with, address_in, is_again, broken, broken_at, lacks}
use Rattle.guest_asm.specs.Jobs.{Placed, placed, row_with, rows_from, rows_of, first_pass, fault_at}
use Rattle.guest_asm.specs.Scans.{defined, IsValidRow, Keeps}

-- the rows of one more line
rows_from-push : (line : ℕ) (place : Place) (before : List Meaning) (m : Meaning)
    → rows_from line place (before ++ m ∷ []) ≡ rows_from line place before ++ row_with (line + length before) (fold after place before) m.named m.statement
rows_from-push line place [] m =
    append-nil (row_with line place m.named m.statement) ∙ ap (λ (n : ℕ). row_with n place m.named m.statement) (omega arith)
rows_from-push line place (x ∷ xs) m =
    let here = row_with line place x.named x.statement in
    ap (λ (rows : List Placed). here ++ rows) (rows_from-push (line + 1) (after place x) xs m)
    ∙ sym (append_assoc here (rows_from (line + 1) (after place x) xs) (row_with (line + 1 + length xs) (fold after (after place x) xs) m.named m.statement))
    ∙ ap (λ (n : ℕ). (here ++ rows_from (line + 1) (after place x) xs) ++ row_with n (fold after (after place x) xs) m.named m.statement) (omega arith)

labels_from-push : (place : Place) (before : List Meaning) (m : Meaning)
    → labels_from place (before ++ m ∷ []) ≡ labels_from place before ++ label_with (address_in (fold after place before)) m.label
labels_from-push place [] m = append-nil (label_with (address_in place) m.label)
labels_from-push place (x ∷ xs) m =
    let here = label_with (address_in place) x.label in
    ap (λ (labels : List (List ℕ × ℕ)). here ++ labels) (labels_from-push (after place x) xs m)
    ∙ sym (append_assoc here (labels_from (after place x) xs) (label_with (address_in (fold after (after place x) xs)) m.label))

-- the statements of rows are those of their lines
with_statements : (line : ℕ) (place : Place) (named : Option (List ℕ)) (o : Option Statement) (rows : List Placed) (rest : List Statement)
    → map (λ r. r.statement) rows ≡ rest → map (λ r. r.statement) (row_with line place named o ++ rows) ≡ cons_option o rest
with_statements line place named None rows rest e = e
with_statements line place named (Some s) rows rest e = ap (λ (ss : List Statement). s ∷ ss) e

statements-rows : (line : ℕ) (place : Place) (before : List Meaning) → map (λ r. r.statement) (rows_from line place before) ≡ statements_of before
statements-rows line place [] = refl
statements-rows line place (m ∷ lines) = with_statements line place m.named m.statement _ _ (statements-rows (line + 1) (after place m) lines)

statements-placed : (rows : List Row) → map (λ p. p.statement) (map placed rows) ≡ statements_in rows
statements-placed [] = refl
statements-placed (r ∷ rows) = ap (λ (ss : List Statement). r.statement ∷ ss) (statements-placed rows)

pub statements-kept : (before : List Meaning) (scan : Scan) → Keeps before scan → statements_in scan.rows.items ≡ statements_of before
statements-kept before scan keeps =
    sym (statements-placed scan.rows.items) ∙ ap (map (λ (p : Placed). p.statement)) keeps.rows ∙ statements-rows 1 start before

pub broken-kept : (before : List Meaning) (scan : Scan) (m : Meaning) → Keeps before scan
    → broken_at (statements_in scan.rows.items) scan.place (is_again (defined scan.labels) m.label) m ≡ broken before m
broken-kept before scan m keeps =
    ap (λ (ss : List Statement). broken_at ss scan.place (is_again (defined scan.labels) m.label) m) (statements-kept before scan keeps)
    ∙ ap (λ (p : Place). broken_at (statements_of before) p (is_again (defined scan.labels) m.label) m) keeps.place
    ∙ ap (λ (labels : List (List ℕ × ℕ)). broken_at (statements_of before) (place_of before) (is_again labels m.label) m) keeps.labels

-- the new line's row, place and label
pub keeps-push : (before : List Meaning) (m : Meaning) (number : ℕ) (old new : Scan) → number ≡ length before + 1 → Keeps before old
    → map placed new.rows.items ≡ map placed old.rows.items ++ row_with number old.place m.named m.statement
    → new.place ≡ after old.place m
    → defined new.labels ≡ defined old.labels ++ label_with (address_in old.place) m.label
    → new.place.words ≤ 16384 → new.place.bytes ≤ 262144 → All IsValidRow new.rows.items
    → Keeps (before ++ m ∷ []) new
keeps-push before m number old new at keeps rows place labels words bytes valid = record {
  rows = rows
      ∙ ap (λ (rs : List Placed). rs ++ row_with number old.place m.named m.statement) keeps.rows
      ∙ ap (λ (p : Place). rows_of before ++ row_with number p m.named m.statement) keeps.place
      ∙ ap (λ (n : ℕ). rows_of before ++ row_with n (place_of before) m.named m.statement) (omega arith)
      ∙ sym (rows_from-push 1 start before m);
  place = place ∙ ap (λ (p : Place). after p m) keeps.place ∙ sym (fold-append after start before (m ∷ []));
  labels = labels
      ∙ ap (λ (ls : List (List ℕ × ℕ)). ls ++ label_with (address_in old.place) m.label) keeps.labels
      ∙ ap (λ (p : Place). labels_of before ++ label_with (address_in p) m.label) keeps.place
      ∙ sym (labels_from-push start before m);
  words = words;
  bytes = bytes;
  valid = valid;
}

-- a line in the grammar that breaks no rule
pub pass-line : (before : List Meaning) (text : List ℕ) (texts : List (List ℕ)) (m : Meaning) → line_of text ≡ Some m → broken before m ≡ None
    → first_pass before (text ∷ texts) ≡ first_pass (before ++ m ∷ []) texts
pass-line before text texts m is none = rw is (rw none refl)

pub pass-form : (before : List Meaning) (text : List ℕ) (texts : List (List ℕ)) → line_of text ≡ None
    → first_pass before (text ∷ texts) ≡ Err (fault_at (length before + 1) cause.Form)
pass-form before text texts is = rw is refl

pub pass-broken : (before : List Meaning) (text : List ℕ) (texts : List (List ℕ)) (m : Meaning) (c : JobCause) → line_of text ≡ Some m → broken before m ≡ Some c
    → first_pass before (text ∷ texts) ≡ Err (fault_at (length before + 1) c)
pass-broken before text texts m c is some = rw is (rw some refl)

pub pass-missing : (before : List Meaning) → lacks (statements_of before) (place_of before).words ≡ true → first_pass before [] ≡ Err (fault_at (length before + 1) cause.Missing)
pass-missing before e = rw e refl

pub pass-complete : (before : List Meaning) → lacks (statements_of before) (place_of before).words ≡ false → first_pass before [] ≡ Ok before
pass-complete before e = rw e refl
