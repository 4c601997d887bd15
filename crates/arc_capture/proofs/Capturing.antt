-- A capture with one line more.
use Rattle.std.proofs.Common.{◌≡◌, ℕ, ◌+◌, ◌<◌, ◌≤◌, List, [], ◌∷◌, ◌++◌, length, length-append, set, slice_index, slice_index_or, Option, None, sym, ap, ◌∙◌, subst, arith}
use Rattle.pl_event.specs.declared.event.Event.{Event}
use Rattle.pl_event.specs.declared.log.Line.{Line}
use Rattle.pl_event.specs.declared.log.Point.{Point}
use Rattle.pl_event.specs.declared.log.Record.TheVariants as entry
use Rattle.pl_event.specs.Candidates.{Shares}
use Rattle.pl_event.specs.Needs.{IsMost}
use Rattle.pl_event.specs.Numbers.{hart_of}
use Rattle.pl_event.specs.Records.{IsEvent, IsRecord}
use Rattle.pl_event.proofs.Places.{before_most, one_place}
use Rattle.conflict_alerts.specs.Placing.{count_in}
use Rattle.conflict_alerts.proofs.Adding.{last_record}
use Rattle.conflict_alerts.proofs.Counting.{counts_more}
use Rattle.log_clocks.specs.declared.lasts.LastAccesses.{LastAccesses}
use Rattle.log_clocks.specs.LastAccesses.{HasLast}
use Rattle.log_clocks.proofs.Grown.{lasts_on}
use Rattle.arc_capture.specs.declared.capture.Capture.{Capture}
use Rattle.arc_capture.specs.Capture.{AreCandidates, HasCaptured, MayCapture}
use Rattle.arc_capture.proofs.Flow.{target_at}

module _ (size : ℕ) (lines : List Line) (line : Line) where
  abbrev longer : List Line
  longer = lines ++ line ∷ []

  last_event : (event : Event) → line.what ≡ entry.Event event → IsEvent longer (length lines) (count_in event.hart lines + 1) event
  last_event event what = (line, subst (λ (h : ℕ). IsRecord longer (length lines) h (count_in h lines + 1) line) (ap hart_of what) (last_record lines line), what)

  pub for_event : (lasts : LastAccesses) (event : Event) (found : List (Option ℕ)) → HasLast lasts size lines (length lines) → line.what ≡ entry.Event event
      → ((z : ℕ) (g : List Line) (i m : ℕ) → HasLast lasts z g i → IsEvent g i m event → (u : ℕ) → u < 8 → IsMost (λ k. Shares z g u k event.hart m) (slice_index_or found u None))
      → AreCandidates size lines line found
  for_event lasts event found has what each u low =
      subst (λ (h : ℕ). IsMost (λ k. Shares size longer u k h (count_in h lines + 1)) (slice_index_or found u None)) (sym (ap hart_of what))
      (each size longer (length lines) (count_in event.hart lines + 1) (lasts_on lines (line ∷ []) lasts size has) (last_event event what) u low)

  pub for_notice : (hart : ℕ) (point : Point) (found : List (Option ℕ)) → line.what ≡ entry.Notice hart point → ((u : ℕ) → slice_index_or found u None ≡ None) → AreCandidates size lines line found
  for_notice hart point found what none u low =
      let h : ℕ = hart_of line.what in
      let m : ℕ = count_in h lines + 1 in
      subst (IsMost (λ k. Shares size longer u k h m)) (sym (none u))
      (λ k s. let p = one_place longer h m s.j (length lines) s.pair.second.0 line (target_at size longer u k h m s) (last_record lines line) in
      let clash : entry.Notice hart point ≡ entry.Event s.b = sym what ∙ (ap (λ (z : Line). z.what) (sym p.1) ∙ s.pair.second.2) in
      absurd cc)

-- each hart has a number left
pub next_fits : (capture : Capture) (size : ℕ) (lines : List Line) (line : Line) → MayCapture capture size lines line → (h : ℕ) → h < 8 → slice_index capture.records h + 1 < 4294967296
next_fits capture size lines line may h low =
    let c : slice_index capture.records h ≡ count_in h lines = may.has.counts h low in
    let few : count_in h lines ≤ length lines = before_most lines h (length lines) in
    let less : length lines < 16000000 = may.few in
    omega arith

pub captured : (capture after : Capture) (size : ℕ) (lines : List Line) (line : Line) (h number : ℕ) → MayCapture capture size lines line → h ≡ hart_of line.what → length capture.records ≡ 8
    → number ≡ slice_index capture.records h + 1 → after.records ≡ set capture.records h number
    → ((z : ℕ) (g : List Line) (i : ℕ) → HasLast capture.lasts z g i → IsRecord g i (hart_of line.what) number line → HasLast after.lasts z g (i + 1)) → HasCaptured after size (lines ++ line ∷ [])
captured capture after size lines line h number may own long next records pass =
    let low : h < 8 = subst (λ (z : ℕ). z < 8) (sym own) may.hart in
    let count : slice_index capture.records h ≡ count_in (hart_of line.what) lines = may.has.counts h low ∙ ap (λ (z : ℕ). count_in z lines) own in
    let n : number ≡ count_in (hart_of line.what) lines + 1 = omega arith in
    record {
      counts = λ w less. ap (λ (z : List ℕ). slice_index z w) (records ∙ ap (set capture.records h) next) ∙ counts_more capture.records lines line h own low long may.has.counts w less;
      lasts = subst (HasLast after.lasts size (lines ++ line ∷ [])) (sym (length-append lines (line ∷ [])))
          (pass size (lines ++ line ∷ []) (length lines) (lasts_on lines (line ∷ []) capture.lasts size may.has.lasts)
          (subst (λ (z : ℕ). IsRecord (lines ++ line ∷ []) (length lines) (hart_of line.what) z line) (sym n) (last_record lines line)));
    }
