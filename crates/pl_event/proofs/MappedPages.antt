-- Which pages are mapped before each line of a run's log.
use Rattle.std.proofs.Common.{◌≡◌, ℕ, zero, suc, ◌+◌, ◌<◌, ◌≤◌, inl, inr, Bool, true, false, List, [], ◌∷◌, ◌++◌, length, take, refl, sym, ap, subst, ◌∙◌, arith}
use Rattle.std.specs.Prelude.{fold}
use Rattle.std.specs.List.{AllByRecursion, All}
use Rattle.std.proofs.lemmas.Bool.{false≢true}
use Rattle.std.proofs.lemmas.List.Elements.{recursion_from_All}
use Rattle.std.proofs.lemmas.List.Sums.{fold_push}
use mathlib.Core.Option.{some, some-injective, some-ne-none}
use lib.ListN.{get_elem?}
use Rattle.pl_event.specs.Valid.{HasValidFields}
use Rattle.pl_event.specs.declared.event.Kind.{Kind}
use Rattle.pl_event.specs.declared.event.Kind.TheVariants.{Mp, Um}
use Rattle.pl_event.specs.declared.log.Line.{Line}
use Rattle.pl_event.specs.declared.log.Log.{Log}
use Rattle.pl_event.specs.declared.log.Record.{Record}
use Rattle.pl_event.specs.declared.log.Record.TheVariants as entry
use Rattle.pl_base.specs.Pages.{count_below}
use Rattle.pl_event.specs.OpeningPages.{is_in_runs}
use Rattle.pl_event.specs.Mapping.{KeepsPages, mapped_by, mapped_after, mapped_at}
use Rattle.pl_event.specs.Runs.{IsRunLog, IsSoundLine, IsSoundRecord}
use Rattle.pl_base.proofs.Pages.{place, marked-here, marked-before, marked-past, count_run, count_less}
use Rattle.pl_event.proofs.OpeningPages.{count_runs, runs_inside}

-- Lines by position

pub line_holds : (P : Line → Type 0) (lines : List Line) → All P lines → (i : ℕ) (line : Line) → get_elem? lines i ≡ some line → P line
line_holds P lines all i line at = go lines (recursion_from_All P lines all) i at
  where
    go : (lines : List Line) → AllByRecursion P lines → (i : ℕ) → get_elem? lines i ≡ some line → P line
    go [] all i at = absurd (some-ne-none line (sym at))
    go (l ∷ lines) all zero at = subst P (some-injective l line at) all.0
    go (l ∷ lines) all (suc i) at = go lines all.1 i at

pub line_at : (lines : List Line) (i : ℕ) → i < length lines → (line : Line) × (get_elem? lines i ≡ some line)
line_at [] i within = absurd (omega arith)
line_at (l ∷ lines) zero within = (l, refl)
line_at (l ∷ lines) (suc i) within = line_at lines i (omega arith)

pub take_next : (lines : List Line) (i : ℕ) (line : Line) → get_elem? lines i ≡ some line → take (suc i) lines ≡ take i lines ++ line ∷ []
take_next [] i line at = absurd (some-ne-none line (sym at))
take_next (l ∷ lines) zero line at = ap (λ (x : Line). x ∷ []) (some-injective l line at)
take_next (l ∷ lines) (suc i) line at = ap (λ (xs : List Line). l ∷ xs) (take_next lines i line at)

pub mapped_next : (log : Log) (i : ℕ) (line : Line) → get_elem? log.lines i ≡ some line → mapped_at log (i + 1) ≡ mapped_after (mapped_at log i) line
mapped_next log i line at =
    let next : i + 1 ≡ suc i = omega arith in
    ap (mapped_at log) next ∙ ap (fold mapped_after (is_in_runs log.pages)) (take_next log.lines i line at) ∙ fold_push mapped_after (is_in_runs log.pages) (take i log.lines) line

-- what holds of the first pages and stays holds before each line
upto : (log : Log) (P : (ℕ → Bool) → Type 0) → P (is_in_runs log.pages) → ((i : ℕ) (line : Line) → get_elem? log.lines i ≡ some line → P (mapped_at log i) → P (mapped_after (mapped_at log i) line))
    → (i : ℕ) → i ≤ length log.lines → P (mapped_at log i)
upto log P first stays zero within = first
upto log P first stays (suc i) within =
    let t = line_at log.lines i (omega arith) in
    let next : i + 1 ≡ suc i = omega arith in
    subst P (sym (mapped_next log i t.0 t.1) ∙ ap (mapped_at log) next) (stays i t.0 t.1 (upto log P first stays i (omega arith)))

-- Pages inside memory

abbrev IsInside : (ℕ → Bool) → Type 0
IsInside mapped = (p : ℕ) → mapped p ≡ true → p < 4096

inside_kind : (mapped : ℕ → Bool) (kind : Kind) → HasValidFields kind → IsInside mapped → IsInside (mapped_by mapped kind)
inside_kind mapped (Mp first count) valid old = λ p is. elim (place first count p) [
  | inl t ↦ omega (arith, t.1, valid.3)
  | inr (inl before) ↦ old p (sym (marked-before mapped first count true p before) ∙ is)
  | inr (inr past) ↦ old p (sym (marked-past mapped first count true p past) ∙ is)
]
inside_kind mapped (Um first count) valid old = λ p is. elim (place first count p) [
  | inl t ↦ absurd (false≢true (sym (marked-here mapped first count false p t.0 t.1) ∙ is))
  | inr (inl before) ↦ old p (sym (marked-before mapped first count false p before) ∙ is)
  | inr (inr past) ↦ old p (sym (marked-past mapped first count false p past) ∙ is)
]
inside_kind mapped kind valid old = old

inside_record : (mapped : ℕ → Bool) (harts : ℕ) (line : Line) (what : Record) → IsSoundRecord harts line.arcs what → IsInside mapped → IsInside (mapped_after mapped (record { what = what; arcs = line.arcs }))
inside_record mapped harts line (entry.Event event) sound old = inside_kind mapped event.kind sound.1 old
inside_record mapped harts line (entry.Notice hart point) sound old = old

pub mapped_inside : (log : Log) → IsRunLog log → (i : ℕ) → i ≤ length log.lines → (p : ℕ) → mapped_at log i p ≡ true → p < 4096
mapped_inside log run = upto log IsInside (λ p is. runs_inside 0 log.pages p run.opening.rising is)
    (λ i line at old. inside_record (mapped_at log i) log.harts line line.what (line_holds (IsSoundLine log.harts) log.lines run.sound i line at).1 old)

-- At most 512 of them

few_kind : (mapped : ℕ → Bool) (kind : Kind) → HasValidFields kind → KeepsPages mapped kind → count_below mapped 4096 ≤ 512 → count_below (mapped_by mapped kind) 4096 ≤ 512
few_kind mapped (Mp first count) valid keeps few = omega (arith, count_run mapped first count 4096 keeps.0 valid.3, keeps.1)
few_kind mapped (Um first count) valid keeps few = omega (arith, count_less mapped first count 4096, few)
few_kind mapped kind valid keeps few = few

few_record : (log : Log) → IsRunLog log → (i : ℕ) (line : Line) → get_elem? log.lines i ≡ some line → (what : Record) → line.what ≡ what → IsSoundRecord log.harts line.arcs what
    → count_below (mapped_at log i) 4096 ≤ 512 → count_below (mapped_after (mapped_at log i) (record { what = what; arcs = line.arcs })) 4096 ≤ 512
few_record log run i line at (entry.Event event) is sound few = few_kind (mapped_at log i) event.kind sound.1 (run.maps i event (line, at, is)) few
few_record log run i line at (entry.Notice hart point) is sound few = few

pub mapped_few : (log : Log) → IsRunLog log → (i : ℕ) → i ≤ length log.lines → count_below (mapped_at log i) 4096 ≤ 512
mapped_few log run = upto log (λ mapped. count_below mapped 4096 ≤ 512) (omega (arith, count_runs 0 log.pages run.opening.rising, run.opening.room))
    (λ i line at few. few_record log run i line at line.what refl (line_holds (IsSoundLine log.harts) log.lines run.sound i line at).1 few)
