-- How far a text was read.
use Rattle.std.proofs.Common.{◌≡◌, ℕ, ◌+◌, ◌<◌, ◌≤◌, Bool, true, false, eqb, List, [], ◌∷◌, ◌++◌, length, Some, None, Ok, Err, refl, ap, ◌∙◌, sym, arith}
use Rattle.std.specs.List.{position_or_len, before_first, after_first}
use Rattle.std.proofs.lemmas.List.{length-drop, length-append}
use Rattle.std.proofs.lemmas.Bool.{or_parts, eqb-true}
use Rattle.guest_asm.specs.declared.cause.JobCause.{JobCause}
use Rattle.guest_asm.specs.declared.cause.JobCause.TheVariants as cause
use Rattle.guest_asm.specs.declared.statement.Statement.{Statement}
use Rattle.guest_asm.specs.declared.scan.Place.{Place}
use Rattle.guest_asm.specs.declared.scan.Scan.{Scan}
use Rattle.guest_asm.specs.Texts.{lines_of}
use Rattle.guest_asm.specs.Lines.{Meaning, line_of}
use Rattle.guest_asm.specs.Rules.{statements_of, statements_in, place_of, on_statement, overfills, is_again, repeats, broken, lacks}
use Rattle.guest_asm.specs.Jobs.{first_pass, fault_at}
use Rattle.guest_asm.specs.Scans.{Keeps, defined}
use Rattle.guest_asm.proofs.Cuts.{is_end, lines-cut}
use Rattle.guest_asm.proofs.Scanning.{statements-kept, pass-line, pass-form, pass-broken, pass-missing, pass-complete}
use Rattle.guest_asm.proofs.Sound.{unbroken}

-- the lines before the rest have no fault, and are kept
pub record IsRead (bytes rest : List ℕ) (number : ℕ) (scan : Scan) : Type 0 where
  pub before : List Meaning
  pub told : first_pass before (lines_of rest) ≡ first_pass [] (lines_of bytes)
  pub keeps : Keeps before scan
  pub at : number ≡ length before + 1
  pub room : number + length rest ≤ length bytes + 1

pub read-none : (bytes : List ℕ) (scan : Scan) → Keeps [] scan → IsRead bytes bytes 1 scan
read-none bytes scan keeps = record { before = []; told = refl; keeps = keeps; at = refl; room = omega arith }

-- the next line
pub cut_next : (rest : List ℕ) → eqb (length rest) 0 ≡ false → lines_of rest ≡ before_first is_end rest ∷ lines_of (after_first is_end rest)
cut_next [] full = absurd cc
cut_next (b ∷ bs) full = lines-cut b bs

pub rest_shorter : (rest : List ℕ) → eqb (length rest) 0 ≡ false → length (after_first is_end rest) < length rest
rest_shorter [] full = absurd cc
rest_shorter (b ∷ bs) full = omega (arith, length-drop (position_or_len is_end (b ∷ bs) + 1) (b ∷ bs))

pub fits-unbroken : (before : List Meaning) (scan : Scan) (m : Meaning) → Keeps before scan → broken before m ≡ None → on_statement (overfills scan.place) m.statement ≡ false
fits-unbroken before scan m keeps none = ap (λ (p : Place). on_statement (overfills p) m.statement) keeps.place ∙ (unbroken before m none).full

pub new-unbroken : (before : List Meaning) (scan : Scan) (m : Meaning) → Keeps before scan → broken before m ≡ None → is_again (defined scan.labels) m.label ≡ false
new-unbroken before scan m keeps none =
    ap (λ (labels : List (List ℕ × ℕ)). is_again labels m.label) keeps.labels
    ∙ (or_parts _ (on_statement (repeats (statements_of before)) m.statement) (unbroken before m none).twice).0

module _ (bytes rest text behind : List ℕ) (number : ℕ) (scan : Scan) (read : IsRead bytes rest number scan)
    (full : eqb (length rest) 0 ≡ false) (is_text : text ≡ before_first is_end rest) (is_behind : behind ≡ after_first is_end rest) where
  next : first_pass read.before (text ∷ lines_of behind) ≡ first_pass [] (lines_of bytes)
  next =
      ap (λ (t : List ℕ). first_pass read.before (t ∷ lines_of behind)) is_text
      ∙ ap (λ (b : List ℕ). first_pass read.before (before_first is_end rest ∷ lines_of b)) is_behind
      ∙ ap (first_pass read.before) (sym (cut_next rest full))
      ∙ read.told

  pub read-push : (m : Meaning) (new : Scan) → line_of text ≡ Some m → broken read.before m ≡ None → Keeps (read.before ++ m ∷ []) new → IsRead bytes behind (number + 1) new
  read-push m new is none keeps = record {
    before = read.before ++ m ∷ [];
    told = sym (pass-line read.before text (lines_of behind) m is none) ∙ next;
    keeps = keeps;
    at = omega (arith, read.at, length-append read.before (m ∷ []));
    room = omega (arith, read.room, rest_shorter rest full, ap length is_behind);
  }

  pub read-form : line_of text ≡ None → first_pass [] (lines_of bytes) ≡ Err (fault_at number cause.Form)
  read-form is = sym next ∙ pass-form read.before text (lines_of behind) is ∙ ap (λ (n : ℕ). Err (fault_at n cause.Form)) (sym read.at)

  pub read-broken : (m : Meaning) (c : JobCause) → line_of text ≡ Some m → broken read.before m ≡ Some c → first_pass [] (lines_of bytes) ≡ Err (fault_at number c)
  read-broken m c is some = sym next ∙ pass-broken read.before text (lines_of behind) m c is some ∙ ap (λ (n : ℕ). Err (fault_at n c)) (sym read.at)

module _ (bytes rest : List ℕ) (number : ℕ) (scan : Scan) (read : IsRead bytes rest number scan) (empty : eqb (length rest) 0 ≡ true) where
  nothing : (xs : List ℕ) → eqb (length xs) 0 ≡ true → xs ≡ []
  nothing [] e = refl
  nothing (x ∷ xs) e = absurd (omega (arith, eqb-true _ _ e))

  at_end : first_pass read.before [] ≡ first_pass [] (lines_of bytes)
  at_end = ap (λ (xs : List ℕ). first_pass read.before (lines_of xs)) (sym (nothing rest empty)) ∙ read.told

  lacking : (t : Bool) → lacks (statements_in scan.rows.items) scan.place.words ≡ t → lacks (statements_of read.before) (place_of read.before).words ≡ t
  lacking t e =
      sym (ap (λ (ss : List Statement). lacks ss scan.place.words) (statements-kept read.before scan read.keeps)
      ∙ ap (λ (p : Place). lacks (statements_of read.before) p.words) read.keeps.place)
      ∙ e

  pub read-missing : lacks (statements_in scan.rows.items) scan.place.words ≡ true → first_pass [] (lines_of bytes) ≡ Err (fault_at number cause.Missing)
  read-missing e = sym at_end ∙ pass-missing read.before (lacking true e) ∙ ap (λ (n : ℕ). Err (fault_at n cause.Missing)) (sym read.at)

  pub read-complete : lacks (statements_in scan.rows.items) scan.place.words ≡ false → first_pass [] (lines_of bytes) ≡ Ok read.before
  read-complete e = sym at_end ∙ pass-complete read.before (lacking false e)
