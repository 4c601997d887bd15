-- Which pages are mapped, by lines of text and by positions.
use Rattle.std.proofs.Common.{◌≡◌, ℕ, zero, suc, ◌+◌, ◌≤◌, inl, inr, Bool, true, false, cond, ◌||◌, List, [], ◌∷◌, ◌++◌, map, take, Option, refl, sym, ap, subst, ◌∙◌, arith}
use Rattle.std.specs.Prelude.{fold}
use Rattle.std.proofs.Math.Path.{fun_ext}
use Rattle.std.proofs.lemmas.Bool.{or_parts, or_from, cases_eq}
use Rattle.std.proofs.lemmas.List.Sums.{fold-append}
use Rattle.pl_event.specs.Valid.{IsPageRange}
use Rattle.pl_event.specs.declared.log.Line.{Line}
use Rattle.pl_event.specs.declared.log.Log.{Log}
use Rattle.pl_event.specs.declared.log.PageRun.{PageRun}
use Rattle.pl_event.specs.declared.log.Record.{Record}
use Rattle.pl_event.specs.declared.log.Record.TheVariants as entry
use Rattle.pl_base.specs.Pages.{is_among, marked, count_below}
use Rattle.log_text.specs.Pages.{some_page}
use Rattle.log_grammar.specs.Spelling.{Entry, page, row, row_of, points_from}
use Rattle.log_text.specs.WellFormed.{mapped_after, mapped_in, pages_mapped, page_end, end_after}
use Rattle.pl_base.proofs.Pages.{marked-past, count_run}
use Rattle.pl_base.specs.Pages.{EachPage}
use Rattle.pl_event.specs.OpeningPages.{is_in_runs, RiseFrom, pages_in}
use Rattle.pl_event.specs.Mapping as runs
use Rattle.pl_event.specs.Mapping.{mapped_at}
use Rattle.log_text.proofs.LinesBefore.{front_of}

-- Tests of pages

pub no_page_passes : (test : ℕ → Bool) (first count : ℕ) → EachPage test first count false → some_page test first count ≡ false
unfolding some_page
no_page_passes test first zero free = refl
no_page_passes test first (suc count) free = or_from _ _ (free first (omega arith) (omega arith)) (no_page_passes test (suc first) count (λ p from within. free p (omega arith) (omega arith)))

pub each_fails : (test : ℕ → Bool) (first count : ℕ) → some_page test first count ≡ false → EachPage test first count false
unfolding some_page
each_fails test first zero none p from within = absurd (omega arith)
each_fails test first (suc count) none p from within =
    let parts = or_parts (test first) (some_page test (suc first) count) none in
    elim (cases_eq p first) [
      | inl here ↦ subst (λ (k : ℕ). test k ≡ false) (sym here) parts.0
      | inr other ↦ each_fails test (suc first) count parts.1 p (let ne : p ≡ first → ⊥ = other in omega arith) (omega arith)
    ]

-- Mapped pages

either : (a b c : Bool) → (cond b true a || c) ≡ (a || (b || c))
either true true c = refl
either true false c = refl
either false true c = refl
either false false c = refl

nothing_more : (a : Bool) → a ≡ (a || false)
nothing_more true = refl
nothing_more false = refl

mapped_pages : (test : ℕ → Bool) (pages : List PageRun) (p : ℕ) → fold mapped_after test (map page pages) p ≡ (test p || is_in_runs pages p)
mapped_pages test [] p = nothing_more (test p)
mapped_pages test (run ∷ pages) p = mapped_pages (marked test run.first run.count true) pages p ∙ either (test p) (is_among run.first run.count p) (is_in_runs pages p)

by_record : (test : ℕ → Bool) (what : Record) (arcs : List (Option ℕ)) → mapped_after test (row what (points_from 0 arcs)) ≡ runs.mapped_after test (record { what = what; arcs = arcs })
by_record test (entry.Event event) arcs = refl
by_record test (entry.Notice hart point) arcs = refl

mapped_rows : (test : ℕ → Bool) (lines : List Line) → fold mapped_after test (map row_of lines) ≡ fold runs.mapped_after test lines
mapped_rows test [] = refl
mapped_rows test (line ∷ lines) =
    ap (λ (t : ℕ → Bool). fold mapped_after t (map row_of lines)) (by_record test line.what line.arcs) ∙ mapped_rows (runs.mapped_after test line) lines

-- before each line the same pages are mapped
pub mapped_same : (log : Log) (i : ℕ) → mapped_in (front_of log i) ≡ mapped_at log i
mapped_same log i =
    fold-append mapped_after (λ p. false) (map page log.pages) (map row_of (take i log.lines))
    ∙ ap (λ (t : ℕ → Bool). fold mapped_after t (map row_of (take i log.lines))) (fun_ext (mapped_pages (λ p. false) log.pages))
    ∙ mapped_rows (is_in_runs log.pages) (take i log.lines)

-- and as many
pub counted_same : (log : Log) (i : ℕ) → pages_mapped (front_of log i) ≡ count_below (mapped_at log i) 4096
counted_same log i = ap (λ (t : ℕ → Bool). count_below t 4096) (mapped_same log i)

-- Page lines

pub pages_append : (front : List PageRun) (run : PageRun) (rest : List PageRun) → pages_in (front ++ run ∷ rest) ≡ pages_in front + run.count + pages_in rest
pages_append [] run rest = omega arith
pages_append (r ∷ front) run rest = omega (arith, pages_append front run rest)

-- a run begins at the end of those before it, or after
pub rises_after : (from : ℕ) (front : List PageRun) (run : PageRun) (rest : List PageRun) → RiseFrom from (front ++ run ∷ rest) → (fold end_after from (map page front) ≤ run.first) × IsPageRange run.first run.count
rises_after from [] run rest rise = (rise.1, rise.0)
rises_after from (r ∷ front) run rest rise = rises_after (r.first + r.count) front run rest rise.2

-- as many pages are mapped by runs as they have
pub count_front : (test : ℕ → Bool) (from : ℕ) (front rest : List PageRun) → RiseFrom from (front ++ rest) → ((p : ℕ) → from ≤ p → test p ≡ false) → count_below (fold mapped_after test (map page front)) 4096 ≡ count_below test 4096 + pages_in front
count_front test from [] rest rise free = omega arith
count_front test from (run ∷ front) rest rise free =
    let range : IsPageRange run.first run.count = rise.0 in
    let one : count_below (marked test run.first run.count true) 4096 ≡ count_below test 4096 + run.count = count_run test run.first run.count 4096 (λ p at within. free p (omega (arith, rise.1, at))) range.3 in
    let all = count_front (marked test run.first run.count true) (run.first + run.count) front rest rise.2 (λ p past. marked-past test run.first run.count true p past ∙ free p (omega (arith, rise.1, past))) in
    omega (arith, one, all)

-- where lines of pages break no rule, their runs rise and have at most 512 pages
pub record PageSound (before : List Entry) (run : PageRun) : Type 0 where
  pub range : IsPageRange run.first run.count
  pub from : page_end before ≤ run.first
  pub room : pages_mapped before + run.count ≤ 512

abbrev pub EachSound : List Entry → List PageRun → Type 0
EachSound before [] = Unit {0}
EachSound before (run ∷ rest) = PageSound before run × EachSound (before ++ page run ∷ []) rest

end_more : (before : List Entry) (run : PageRun) → page_end (before ++ page run ∷ []) ≡ run.first + run.count
end_more before run = fold-append end_after 0 before (page run ∷ [])

mapped_more : (before : List Entry) (run : PageRun) → mapped_in (before ++ page run ∷ []) ≡ marked (mapped_in before) run.first run.count true
mapped_more before run = fold-append mapped_after (λ p. false) before (page run ∷ [])

pub rise_from : (before : List Entry) (pages : List PageRun) → EachSound before pages → RiseFrom (page_end before) pages
rise_from before [] sound = tt
rise_from before (run ∷ pages) sound = (sound.0.range, sound.0.from, subst (λ (k : ℕ). RiseFrom k pages) (end_more before run) (rise_from (before ++ page run ∷ []) pages sound.1))

pub few_pages : (before : List Entry) (pages : List PageRun) → EachSound before pages → ((p : ℕ) → page_end before ≤ p → mapped_in before p ≡ false) → pages_mapped before ≤ 512 → pages_mapped before + pages_in pages ≤ 512
few_pages before [] sound free few = omega (arith, few)
few_pages before (run ∷ pages) sound free few =
    let range : IsPageRange run.first run.count = sound.0.range in
    let begins : page_end before ≤ run.first = sound.0.from in
    let end : page_end (before ++ page run ∷ []) ≡ run.first + run.count = end_more before run in
    let one : count_below (marked (mapped_in before) run.first run.count true) 4096 ≡ pages_mapped before + run.count = count_run (mapped_in before) run.first run.count 4096 (λ p at within. free p (omega (arith, begins, at))) range.3 in
    let more : pages_mapped (before ++ page run ∷ []) ≡ pages_mapped before + run.count = ap (λ (t : ℕ → Bool). count_below t 4096) (mapped_more before run) ∙ one in
    let still : (p : ℕ) → page_end (before ++ page run ∷ []) ≤ p → mapped_in (before ++ page run ∷ []) p ≡ false =
    λ p past. ap (λ (t : ℕ → Bool). t p) (mapped_more before run) ∙ marked-past (mapped_in before) run.first run.count true p (omega (arith, past, end)) ∙ free p (omega (arith, past, end, begins)) in
    let rest = few_pages (before ++ page run ∷ []) pages sound.1 still (omega (arith, more, sound.0.room)) in
    omega (arith, more, rest)
