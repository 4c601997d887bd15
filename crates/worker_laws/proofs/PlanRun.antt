-- The plan of a log beside its plain run.
use Rattle.std.proofs.Common.{◌≡◌, ℕ, zero, suc, ◌+◌, ◌^◌, ◌<◌, ◌≤◌, List, [], ◌∷◌, ◌++◌, length, take, Option, Some, None, slice_get, refl, sym, ap, ◌∙◌, subst, arith, append-nil, lt_of_not-le}
use Rattle.std.proofs.Math.Logic.{∥∥₁_elim, ∥∥₁_map}
use denote.Struct.Props.{props}
use mathlib.Core.Option.{some, some-injective, some-ne-none}
use mathlib.Core.Logic.{dite}
use native.Mathlib.Decide.{dec_le}
use lib.ListN.{get_elem?}
use Rattle.std.proofs.lemmas.List.Elements.{filter_map-append}
use Rattle.pl_event.specs.declared.log.Line.{Line}
use Rattle.pl_event.specs.declared.log.Log.{Log}
use Rattle.pl_event.specs.declared.log.Record.{Record}
use Rattle.pl_event.specs.declared.log.Record.TheVariants as entry
use Rattle.pl_event.specs.Numbers.{event_of, events_of}
use Rattle.pl_event.specs.Records.{IsRecord}
use Rattle.pl_event.specs.Runs.{IsRunLog}
use Rattle.pl_event.proofs.MappedPages.{take_next}
use Rattle.pl_event.proofs.Places.{line_number_of}
use Rattle.lifeguard.specs.Rules.{Rules, KeepsLaws}
use Rattle.lifeguard.specs.Plain.{plain_result}
use Rattle.lifeguard.proofs.PlainLemmas.{plain_result-last}
use Rattle.lifeguard.proofs.RangeLemmas.{plain_in_range}
use Rattle.order_core.specs.Course.{course_of}
use Rattle.order_core.specs.Filled.{operations_at, words_after}
use Rattle.order_core.specs.Lawful.{IsLawful}
use Rattle.order_core.specs.Shapes.{fill, after_shapes}
use Rattle.shadow_frames.specs.Words.{WordsRepresent}
use Rattle.shadow_layout.specs.Logs.{line_shapes, log_shapes, record_shapes, state_before}
use Rattle.shadow_layout.proofs.LogLemmas as moments
use Rattle.log_plan.specs.Plans.{opening_list, plan_of}
use Rattle.log_plan.proofs.PlanLemmas as plans
use Rattle.worker_laws.specs.Runs.{Moment, IsRun, state_after}
use Rattle.worker_laws.specs.LogRuns.{log_run, moment_at}

line_is : (lines : List Line) (i : ℕ) (line : Line) → get_elem? lines i ≡ some line → slice_get lines i ≡ Some line
line_is [] i line at = absurd (some-ne-none line (sym at))
line_is (l ∷ lines) zero line at = ap (λ (x : Line). Some x) (some-injective l line at)
line_is (l ∷ lines) (suc i) line at = line_is lines i line at

no_line : (lines : List Line) (i : ℕ) → length lines ≤ i → slice_get lines i ≡ None
no_line [] i le = refl
no_line (l ∷ lines) zero le = absurd (omega arith)
no_line (l ∷ lines) (suc i) le = no_line lines i (omega arith)

take_past : (lines : List Line) (i : ℕ) → length lines ≤ i → take i lines ≡ lines
take_past [] zero le = refl
take_past [] (suc i) le = refl
take_past (l ∷ lines) zero le = absurd (omega arith)
take_past (l ∷ lines) (suc i) le = ap (λ (z : List Line). l ∷ z) (take_past lines i (omega arith))

record_next : (rules : Rules) (log : Log) (i : ℕ) (arcs : List (Option ℕ)) (r : Record)
    → plain_result rules log.pages (events_of (take i log.lines) ++ events_of (record { arcs = arcs; what = r } ∷ [])) ≡ state_after rules log.lines i (state_before rules log i) r
record_next rules log i arcs (entry.Event event) = plain_result-last rules log.pages (events_of (take i log.lines)) event
record_next rules log i arcs (entry.Notice hart point) = ap (plain_result rules log.pages) (append-nil (events_of (take i log.lines)))

module _ (rules : Rules) (log : Log) where
  abbrev opening : List ℕ
  opening = opening_list rules log.pages

  abbrev words : ℕ → (ℕ → ℕ)
  words i = words_after (log_shapes rules log) opening i

  one_more : (i : ℕ) → i + 1 ≡ suc i
  one_more i = omega arith

  state_law : (i : ℕ) (line : Line) → get_elem? log.lines i ≡ some line → state_before rules log (i + 1) ≡ state_after rules log.lines i (state_before rules log i) line.what
  state_law i line at =
      ap (λ (n : ℕ). plain_result rules log.pages (events_of (take n log.lines))) (one_more i)
      ∙ (ap (λ (lines : List Line). plain_result rules log.pages (events_of lines)) (take_next log.lines i line at)
      ∙ (ap (plain_result rules log.pages) (filter_map-append (λ (l : Line). event_of l.what) (take i log.lines) (line ∷ []))
      ∙ record_next rules log i line.arcs line.what))

  shapes_are : (i : ℕ) (line : Line) → get_elem? log.lines i ≡ some line → log_shapes rules log i (words i) ≡ record_shapes rules log.block (state_before rules log i) (words i) line.what
  shapes_are i line at = ap (line_shapes rules log.block (state_before rules log i) (words i)) (line_is log.lines i line at)

  words_law : (i : ℕ) (line : Line) → get_elem? log.lines i ≡ some line → words (i + 1) ≡ after_shapes (words i) (record_shapes rules log.block (state_before rules log i) (words i) line.what)
  words_law i line at = ap words (one_more i) ∙ ap (after_shapes (words i)) (shapes_are i line at)

  operations_law : (i h m : ℕ) (line : Line) → IsRecord log.lines i h m line → (plan_of rules log).operations h m ≡ fill (words i) (record_shapes rules log.block (state_before rules log i) (words i) line.what)
  operations_law i h m line is =
      ap (operations_at (log_shapes rules log) opening) (line_number_of log.lines i h m line is ∙ one_more i)
      ∙ ap (fill (words i)) (shapes_are i line is.at)

  ended_law : (i : ℕ) → length log.lines ≤ i → moment_at rules log (i + 1) ≡ moment_at rules log i
  ended_law i le = λ d. record { state = states d; words = all_words d }
    where
      states : state_before rules log (i + 1) ≡ state_before rules log i
      states = ap (λ (lines : List Line). plain_result rules log.pages (events_of lines)) (take_past log.lines (i + 1) (omega arith) ∙ sym (take_past log.lines i le))

      all_words : words (i + 1) ≡ words i
      all_words = ap words (one_more i) ∙ ap (λ (o : Option Line). after_shapes (words i) (line_shapes rules log.block (state_before rules log i) (words i) o)) (no_line log.lines i le)

  at_end : (i : ℕ) → length log.lines ≤ i → moment_at rules log i ≡ moment_at rules log (length log.lines)
  at_end zero le = let e : 0 ≡ length log.lines = omega arith in ap (moment_at rules log) e
  at_end (suc i) le = dite (dec_le (length log.lines) i)
      (λ more. ap (moment_at rules log) (sym (one_more i)) ∙ (ended_law i more ∙ at_end i more))
      (λ n. let l : i < length log.lines = lt_of_not-le n in let e : suc i ≡ length log.lines = omega arith in ap (moment_at rules log) e)

  module _ (laws : KeepsLaws rules) where
    module _ (run : IsRunLog log) where
      in_log : (i : ℕ) → i ≤ length log.lines → WordsRepresent (words i) (state_before rules log i).bytes
      in_log i le = (moments.moment rules laws log run opening (plans.is rules laws log run) i le).represents

      represent : (i : ℕ) → WordsRepresent (moment_at rules log i).words (moment_at rules log i).state.bytes
      represent i = dite (dec_le i (length log.lines)) (in_log i) (λ n.
          subst (λ (q : Moment). WordsRepresent q.words q.state.bytes) (sym (at_end i (let l : length log.lines < i = lt_of_not-le n in omega arith))) (in_log (length log.lines) (omega arith)))

      wide : (i u : ℕ) → (moment_at rules log i).words u < 2 ^ 64
      wide i u = dite (dec_le i (length log.lines)) (λ le. plans.words_wide rules laws log run i le u) (λ n.
          subst (λ (q : Moment). q.words u < 2 ^ 64) (sym (at_end i (let l : length log.lines < i = lt_of_not-le n in omega arith))) (plans.words_wide rules laws log run (length log.lines) (omega arith) u))

    pub log_is_run : ∥ IsLawful (course_of (plan_of rules log)) ∥₁ → IsRun (log_run rules log)
    log_is_run lawful = record {
      laws = laws;
      lawful = lawful;
      first = ap (λ (lines : List Line). plain_result rules log.pages (events_of lines)) (none_taken log.lines);
      state = state_law;
      words = words_law;
      operations = operations_law;
      ended = ended_law;
      last = ap (λ (lines : List Line). plain_result rules log.pages (events_of lines)) (moments.take_all log.lines);
      represents = λ i. ∥∥₁_map lawful (λ (l : IsLawful (course_of (plan_of rules log))). represent l.log i);
      range = λ i. plain_in_range rules laws log.pages (events_of (take i log.lines));
      wide_words = λ i u. ∥∥₁_elim lawful (hlevel props) (λ (l : IsLawful (course_of (plan_of rules log))). wide l.log i u);
      wide_values = λ h m i o listed. ∥∥₁_elim lawful (hlevel props) (λ (l : IsLawful (course_of (plan_of rules log))). plans.values_wide rules laws log l.log h m i o listed);
    }
      where
        none_taken : (lines : List Line) → take 0 lines ≡ []
        none_taken [] = refl
        none_taken (l ∷ lines) = refl
