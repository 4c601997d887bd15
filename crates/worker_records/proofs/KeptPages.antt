-- An event of a run maps pages that are not mapped and for which there are frames, and unmaps mapped ones.
use Rattle.std.proofs.Common.{◌≡◌, ◌≢◌, ℕ, zero, suc, ◌+◌, ◌-◌, ◌*◌, ◌<◌, ◌≤◌, Bool, true, false, List, [], ◌∷◌, length, Some, None, refl, sym, ap, ◌∙◌, subst, arith, if◌then◌else◌}
use mathlib.Core.Option.{some, some-ne-none}
use lib.ListN.{get_elem?}
use Rattle.pl_base.specs.Pages.{EachPage, count_below}
use Rattle.pl_event.specs.declared.event.Kind.{Kind}
use Rattle.pl_event.specs.declared.log.Line.{Line}
use Rattle.pl_event.specs.declared.log.Log.{Log}
use Rattle.pl_event.specs.declared.log.Record.{Record}
use Rattle.pl_event.specs.declared.log.Record.TheVariants as entry
use Rattle.pl_event.specs.Mapping.{KeepsPages, mapped_at}
use Rattle.pl_event.specs.Records.{line_number, record_of, IsRecord}
use Rattle.pl_event.specs.Runs.{IsRunLog}
use Rattle.pl_event.proofs.Places.{line_number_of}
use Rattle.pl_event.proofs.Sources.{at_position}
use Rattle.lifeguard.specs.Rules.{Rules}
use Rattle.lifeguard.specs.State.{Bytes, is_in, replaced}
use Rattle.order_core.specs.Course.{course_of}
use Rattle.order_core.specs.Lawful.{IsLawful}
use Rattle.order_core.specs.Shapes.{after_shapes}
use Rattle.shadow_frames.specs.Frames.{lowest_free, map_page, pages_from, unmap_page}
use Rattle.shadow_frames.specs.Words.{IsFilledWith, WordsRepresent, has_page, is_there, is_used, mapped_pages}
use Rattle.shadow_frames.proofs.Free.{free_frame}
use Rattle.shadow_frames.proofs.Many.{all_counted, all_mapped, all_unmapped}
use Rattle.shadow_frames.proofs.MappedPages.{no_page, page_replaced, pages_is, some_page}
use Rattle.shadow_frames.proofs.Ranges.{off_span}
use Rattle.shadow_layout.specs.Logs.{state_before}
use Rattle.shadow_layout.proofs.LogLemmas as moments
use Rattle.shadow_layout.proofs.PageTests.{keeps_pages}
use Rattle.log_plan.specs.Plans.{opening_list}
use Rattle.log_plan.proofs.PlanLemmas as plans
use Rattle.worker_laws.specs.LogRuns.{log_run, moment_at}
use Rattle.worker_laws.specs.Runs.{IsKind, IsRun, Moment, before, kind_in, kind_of}
use Rattle.worker_laws.proofs.Keeping.{some_is}
use Rattle.worker_laws.proofs.Own.{a_line}

at_low : (lines : List Line) (i : ℕ) (line : Line) → get_elem? lines i ≡ some line → i < length lines
at_low [] i line at = absurd (some-ne-none line (sym at))
at_low (l ∷ lines) zero line at = omega arith
at_low (l ∷ lines) (suc i) line at = let n : i < length lines = at_low lines i line at in omega arith

module _ (rules : Rules) (log : Log) (run : IsRun (log_run rules log)) (h m : ℕ) (kind : Kind) (is : IsKind (log_run rules log) h m kind) where
  the_line : (l : Line) × (record_of log.lines h m ≡ Some l)
  the_line = a_line (log_run rules log) run h m kind is

  place : (i : ℕ) × IsRecord log.lines i h m the_line.0
  place = at_position log.lines h m the_line.0 the_line.1

  here : moment_at rules log place.0 ≡ before (log_run rules log) h m
  here =
      let e : line_number log.lines h m ≡ place.0 + 1 = line_number_of log.lines place.0 h m the_line.0 place.1 in
      ap (moment_at rules log) (let d : place.0 ≡ line_number log.lines h m - 1 = omega arith in d)

  place_low : place.0 ≤ length log.lines
  place_low = let l : place.0 < length log.lines = at_low log.lines place.0 the_line.0 place.1.at in omega arith

  kept_here : IsRunLog log → KeepsPages (has_page (state_before rules log place.0).bytes) kind
  kept_here lawful = by the_line.0.what refl (sym (ap kind_in the_line.1) ∙ is)
    where
      by : (x : Record) → the_line.0.what ≡ x → kind_of x ≡ Some kind → KeepsPages (has_page (state_before rules log place.0).bytes) kind
      by (entry.Event e) what k = subst (KeepsPages (has_page (state_before rules log place.0).bytes)) (some_is e.kind kind k)
          (keeps_pages rules h (state_before rules log place.0).bytes (state_before rules log place.0).masks (mapped_at log place.0)
          (moments.moment rules run.laws log lawful (opening_list rules log.pages) (plans.is rules run.laws log lawful) place.0 place_low).pages e.kind
          (lawful.maps place.0 e (the_line.0, place.1.at, what)))
      by (entry.Notice g point) what k = absurd (let f : None ≡ Some kind = k in cc)

  pub kept : IsLawful (course_of (log_run rules log).plan) → KeepsPages (has_page (before (log_run rules log) h m).state.bytes) kind
  kept lawful = subst (λ (q : Moment). KeepsPages (has_page q.state.bytes) kind) here (kept_here lawful.log)

-- ---- words that represent bytes, after some pages are mapped or unmapped

module _ (w : ℕ → ℕ) (bytes : Bytes) (st : WordsRepresent w bytes) (first count : ℕ) (inside : first + count ≤ 4096) (i : ℕ) (lt : i < count) where
  pub frame_free : (s filling : ℕ) → IsFilledWith filling s → EachPage (has_page bytes) first count false × (count_below (has_page bytes) 4096 + count ≤ 512)
      → let u = after_shapes w (pages_from (map_page filling) w first i) in (lowest_free u < 512) × (is_used u (lowest_free u) ≡ false)
  frame_free s filling full keeps =
      let room : mapped_pages w + count ≤ 512 = subst (λ (z : ℕ). z + count ≤ 512) (sym (pages_is w bytes st)) keeps.1 in
      let none : (q : ℕ) → first ≤ q → q < first + i → w (17 + q) ≡ 0 = (λ q low high. no_page w bytes st q (omega arith) (keeps.0 q low (omega arith))) in
      let most : ℕ = mapped_pages w + i in
      let top : mapped_pages w + i ≤ 512 = omega arith in
      let some : mapped_pages w + i ≤ mapped_pages w + i = omega arith in
      let next = all_mapped first bytes s filling full (mapped_pages w + i) top w i st (omega arith) none some in
      let few : mapped_pages (after_shapes w (pages_from (map_page filling) w first i)) ≤ mapped_pages w + i = all_counted first bytes s filling full (mapped_pages w + i) top w i st (omega arith) none some in
      free_frame (after_shapes w (pages_from (map_page filling) w first i)) (replaced (Some s) (first * 4096) (i * 4096) bytes) next (omega arith)

  pub page_mapped : EachPage (has_page bytes) first count true
      → let u = after_shapes w (pages_from unmap_page w first i) in (u (17 + (first + i)) ≢ 0) × (u (17 + (first + i)) ≤ 512) × (is_used u (u (17 + (first + i)) - 1) ≡ true)
  page_mapped each =
      let u : ℕ → ℕ = after_shapes w (pages_from unmap_page w first i) in
      let some : (q : ℕ) → first ≤ q → q < first + i → w (17 + q) ≢ 0 = (λ q low high. some_page w bytes st q (omega arith) (each q low (omega arith))) in
      let next : WordsRepresent u (replaced None (first * 4096) (i * 4096) bytes) = all_unmapped first bytes w i st (omega arith) some in
      let out : is_in first i (first + i) ≡ false = off_span first i (first + i) (λ p q. omega arith) in
      let has : has_page (replaced None (first * 4096) (i * 4096) bytes) (first + i) ≡ true = page_replaced None first i bytes (first + i)
      ∙ (ap (λ (b : Bool). if b then is_there None else has_page bytes (first + i)) out ∙ each (first + i) (omega arith) (omega arith)) in
      let there : u (17 + (first + i)) ≢ 0 = some_page u (replaced None (first * 4096) (i * 4096) bytes) next (first + i) (omega arith) has in
      let one : u (17 + (first + i)) ≡ u (17 + (first + i)) - 1 + 1 = one_less (u (17 + (first + i))) there in
      (there, next.low (first + i) (omega arith), next.marked (first + i) (u (17 + (first + i)) - 1) (omega arith) one)
    where
      one_less : (x : ℕ) → x ≢ 0 → x ≡ x - 1 + 1
      one_less x ne = let n : x ≡ 0 → ⊥ = ne in omega arith
