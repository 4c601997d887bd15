-- The lines of a log after its header, and those before each of them.
use Rattle.std.proofs.Common.{◌≡◌, ℕ, zero, suc, ◌+◌, ◌<◌, ◌≤◌, ◌⊎◌, inl, inr, Bool, false, cond, eqb, List, [], ◌∷◌, ◌++◌, length, map, take, drop, refl, sym, ap, subst, ◌∙◌, append_assoc, arith}
use Rattle.std.specs.Prelude.{count_by, All}
use Rattle.std.specs.List.{list_any, AllByRecursion}
use Rattle.std.proofs.lemmas.Bool.{or_parts, or_from}
use Rattle.std.proofs.lemmas.List.{map-append, take-append-drop}
use Rattle.std.proofs.lemmas.List.Elements.{All-from_recursion}
use Rattle.std.proofs.lemmas.List.Folds.{list_any-append}
use Rattle.std.proofs.lemmas.List.Sums.{sum_by-append, sum_by-cons}
use mathlib.Core.Option.{some}
use lib.ListN.{get_elem?}
use Rattle.pl_event.specs.Numbers.{hart_of}
use Rattle.pl_event.specs.Records.{records_before}
use Rattle.pl_event.specs.declared.log.Line.{Line}
use Rattle.pl_event.specs.declared.log.Log.{Log}
use Rattle.pl_event.specs.declared.log.PageRun.{PageRun}
use Rattle.pl_event.proofs.Before.{drop_here}
use Rattle.log_grammar.specs.Spelling.{Entry, page, row_of, entries_of}
use Rattle.log_text.specs.WellFormed.{is_row, is_row_of, records_in}

-- Lines by position

pub each_line : (P : Line → Type 0) (lines : List Line) → ((i : ℕ) (line : Line) → get_elem? lines i ≡ some line → P line) → All P lines
each_line P lines holds = All-from_recursion P lines (go lines holds)
  where
    go : (lines : List Line) → ((i : ℕ) (line : Line) → get_elem? lines i ≡ some line → P line) → AllByRecursion P lines
    go [] holds = tt
    go (l ∷ lines) holds = (holds 0 l refl, go lines (λ i line at. holds (suc i) line at))

-- What comes before a line

abbrev pub front_of : Log → ℕ → List Entry
front_of log i = map page log.pages ++ map row_of (take i log.lines)

pub parted : (log : Log) (i : ℕ) (line : Line) → get_elem? log.lines i ≡ some line → entries_of log ≡ front_of log i ++ row_of line ∷ map row_of (drop (suc i) log.lines)
parted log i line at =
    let split : log.lines ≡ take i log.lines ++ line ∷ drop (suc i) log.lines =
    sym (take-append-drop i log.lines) ∙ ap (λ (ls : List Line). take i log.lines ++ ls) (drop_here log.lines i line at) in
    ap (λ (ls : List Line). map page log.pages ++ map row_of ls) split
    ∙ ap (λ (es : List Entry). map page log.pages ++ es) (map-append row_of (take i log.lines) (line ∷ drop (suc i) log.lines))
    ∙ sym (append_assoc (map page log.pages) (map row_of (take i log.lines)) (row_of line ∷ map row_of (drop (suc i) log.lines)))

no_rows : (hart : ℕ) (pages : List PageRun) → count_by (is_row_of hart) (map page pages) ≡ 0
no_rows hart [] = refl
no_rows hart (run ∷ pages) = no_rows hart pages

rows_before : (hart : ℕ) (lines : List Line) (i : ℕ) → count_by (is_row_of hart) (map row_of (take i lines)) ≡ records_before hart lines i
rows_before hart [] zero = refl
rows_before hart [] (suc i) = refl
rows_before hart (line ∷ lines) zero = refl
rows_before hart (line ∷ lines) (suc i) =
    sum_by-cons (λ e. cond (is_row_of hart e) 1 0) (row_of line) (map row_of (take i lines))
    ∙ ap (λ (n : ℕ). cond (eqb (hart_of line.what) hart) 1 0 + n) (rows_before hart lines i)

-- the records of a hart before a line
pub records_at : (log : Log) (hart i : ℕ) → records_in hart (front_of log i) ≡ records_before hart log.lines i
records_at log hart i = omega (arith, sum_by-append (λ e. cond (is_row_of hart e) 1 0) (map page log.pages) (map row_of (take i log.lines)), no_rows hart log.pages, rows_before hart log.lines i)

none_are_rows : (pages : List PageRun) → count_by is_row (map page pages) ≡ 0
none_are_rows [] = refl
none_are_rows (run ∷ pages) = none_are_rows pages

all_are_rows : (lines : List Line) (i : ℕ) → i ≤ length lines → count_by is_row (map row_of (take i lines)) ≡ i
all_are_rows lines zero within = refl
all_are_rows [] (suc i) within = absurd (omega arith)
all_are_rows (line ∷ lines) (suc i) within = omega (arith, sum_by-cons (λ e. cond (is_row e) 1 0) (row_of line) (map row_of (take i lines)), all_are_rows lines i (omega arith))

-- the records of all harts before a line
pub rows_at : (log : Log) (i : ℕ) → i ≤ length log.lines → count_by is_row (front_of log i) ≡ i
rows_at log i within = omega (arith, sum_by-append (λ e. cond (is_row e) 1 0) (map page log.pages) (map row_of (take i log.lines)), none_are_rows log.pages, all_are_rows log.lines i within)

-- Tests of the lines before a line

pub no_page : (p : Entry → Bool) → ((run : PageRun) → p (page run) ≡ false) → (pages : List PageRun) → list_any p (map page pages) ≡ false
no_page p fails [] = refl
no_page p fails (run ∷ pages) = or_from _ _ (fails run) (no_page p fails pages)

no_row : (p : Entry → Bool) (lines : List Line) (i : ℕ) → ((k : ℕ) (line : Line) → k < i → get_elem? lines k ≡ some line → p (row_of line) ≡ false) → list_any p (map row_of (take i lines)) ≡ false
no_row p lines zero fails = refl
no_row p [] (suc i) fails = refl
no_row p (l ∷ lines) (suc i) fails = or_from _ _ (fails 0 l (omega arith) refl) (no_row p lines i (λ k line before at. fails (suc k) line (omega arith) at))

-- a test that no line before passes
pub none_before : (p : Entry → Bool) (log : Log) (i : ℕ) → ((run : PageRun) → p (page run) ≡ false)
    → ((k : ℕ) (line : Line) → k < i → get_elem? log.lines k ≡ some line → p (row_of line) ≡ false) → list_any p (front_of log i) ≡ false
none_before p log i pages rows =
    list_any-append p (map page log.pages) (map row_of (take i log.lines)) ∙ or_from _ _ (no_page p pages log.pages) (no_row p log.lines i rows)

fails_in : (p : Entry → Bool) (lines : List Line) (i k : ℕ) (line : Line) → list_any p (map row_of (take i lines)) ≡ false → get_elem? lines k ≡ some line → k < i → p (row_of line) ≡ false
fails_in p [] i k line none at before = absurd cc
fails_in p (l ∷ lines) zero k line none at before = absurd (omega arith)
fails_in p (l ∷ lines) (suc i) zero line none at before =
    let same : l ≡ line = cc in
    subst (λ (x : Line). p (row_of x) ≡ false) same (or_parts (p (row_of l)) (list_any p (map row_of (take i lines))) none).0
fails_in p (l ∷ lines) (suc i) (suc k) line none at before =
    fails_in p lines i k line (or_parts (p (row_of l)) (list_any p (map row_of (take i lines))) none).1 at (omega arith)

-- each line before fails it then
pub fails_before : (p : Entry → Bool) (log : Log) (i k : ℕ) (line : Line) → list_any p (front_of log i) ≡ false → get_elem? log.lines k ≡ some line → k < i → p (row_of line) ≡ false
fails_before p log i k line none at before =
    fails_in p log.lines i k line (or_parts (list_any p (map page log.pages)) (list_any p (map row_of (take i log.lines))) (sym (list_any-append p (map page log.pages) (map row_of (take i log.lines))) ∙ none)).1 at before

-- Each line of a log is a page line or a record

pub record IsPage (pages : List PageRun) (before : List Entry) (e : Entry) : Type 0 where
  pub front : List PageRun
  pub run : PageRun
  pub rest : List PageRun
  pub split : pages ≡ front ++ run ∷ rest
  pub before_are : before ≡ map page front
  pub is : e ≡ page run

pub record IsLine (lines : List Line) (before : List Entry) (e : Entry) : Type 0 where
  pub i : ℕ
  pub line : Line
  pub at : get_elem? lines i ≡ some line
  pub before_are : before ≡ map row_of (take i lines)
  pub is : e ≡ row_of line

line_of : (lines : List Line) (before after : List Entry) (e : Entry) → map row_of lines ≡ before ++ e ∷ after → IsLine lines before e
line_of [] [] after e eq = absurd cc
line_of [] (b ∷ before) after e eq = absurd cc
line_of (l ∷ lines) [] after e eq = record { i = 0; line = l; at = refl; before_are = refl; is = cc }
line_of (l ∷ lines) (b ∷ before) after e eq =
    let head : b ≡ row_of l = cc in
    let tail : map row_of lines ≡ before ++ e ∷ after = cc in
    let t = line_of lines before after e tail in
    record { i = suc t.i; line = t.line; at = t.at; before_are = ap (λ (x : Entry). x ∷ before) head ∙ ap (λ (xs : List Entry). row_of l ∷ xs) t.before_are; is = t.is }

page_or_line : (pages : List PageRun) (lines : List Line) (before after : List Entry) (e : Entry) → map page pages ++ map row_of lines ≡ before ++ e ∷ after
    → IsPage pages before e ⊎ ((rows : List Entry) × (before ≡ map page pages ++ rows) × (map row_of lines ≡ rows ++ e ∷ after))
page_or_line [] lines before after e eq = inr (before, refl, eq)
page_or_line (run ∷ pages) lines [] after e eq = inl (record { front = []; run = run; rest = pages; split = refl; before_are = refl; is = cc })
page_or_line (run ∷ pages) lines (b ∷ before) after e eq =
    let head : b ≡ page run = cc in
    let tail : map page pages ++ map row_of lines ≡ before ++ e ∷ after = cc in
    elim (page_or_line pages lines before after e tail) [
      | inl t ↦ inl (record { front = run ∷ t.front; run = t.run; rest = t.rest; split = ap (λ (xs : List PageRun). run ∷ xs) t.split; before_are = ap (λ (x : Entry). x ∷ before) head ∙ ap (λ (xs : List Entry). page run ∷ xs) t.before_are; is = t.is })
      | inr t ↦ inr (t.0, ap (λ (x : Entry). x ∷ before) head ∙ ap (λ (xs : List Entry). page run ∷ xs) t.1, t.2)
    ]

-- what holds of each page line and of each record holds of each line
pub each_entry : (P : List Entry → Entry → Type 0) (log : Log)
    → ((front : List PageRun) (run : PageRun) (rest : List PageRun) → log.pages ≡ front ++ run ∷ rest → P (map page front) (page run))
    → ((i : ℕ) (line : Line) → get_elem? log.lines i ≡ some line → P (front_of log i) (row_of line))
    → (before after : List Entry) (e : Entry) → entries_of log ≡ before ++ e ∷ after → P before e
each_entry P log pages rows before after e eq = elim (page_or_line log.pages log.lines before after e eq) [
  | inl t ↦ subst (λ (x : List Entry × Entry). P x.0 x.1) (λ d. (sym t.before_are d, sym t.is d)) (pages t.front t.run t.rest t.split)
  | inr t ↦
      let l = line_of log.lines t.0 after e t.2 in
      let same : before ≡ front_of log l.i = t.1 ∙ ap (λ (xs : List Entry). map page log.pages ++ xs) l.before_are in
      subst (λ (x : List Entry × Entry). P x.0 x.1) (λ d. (sym same d, sym l.is d)) (rows l.i l.line l.at)
]
