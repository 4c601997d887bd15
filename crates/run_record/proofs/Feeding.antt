-- The events of one step, fed one after the other.
use Rattle.std.proofs.Common.{◌≡◌, ℕ, ◌+◌, ◌<◌, List, [], ◌∷◌, ◌++◌, append_assoc, length, take, get_or, Some, slice_get, sym, ap, ◌∙◌, subst, arith}
use Rattle.std.proofs.lemmas.List.{length-append, length-take, take_more}
use Rattle.std.proofs.lemmas.Option.{slice_get_within, get_or_from_slice_get}
use Rattle.pl_event.specs.declared.event.Event.{Event}
use Rattle.pl_event.specs.declared.log.Line.{Line}
use Rattle.pl_event.specs.Valid.{IsValidEvent}
use Rattle.arc_capture.specs.declared.recorder.Recorder.{Recorder}
use Rattle.arc_capture.specs.Recorder.{MayFeed}
use Rattle.run_record.specs.Recording.{HasLines, MayFeedAll}

module _ (first now : Recorder) (before : List Event) (made : List Line) (events : List Event) (i : ℕ) (event : Event) (lines : List Line) (found : slice_get events i ≡ Some event) (same : now.placer.harts ≡ first.placer.harts)
    (may : MayFeedAll first before made events) (has : HasLines now (before ++ take i events) (made ++ lines)) where
  low : i < length events
  low = slice_get_within events i event found

  is_event : get_or events i event ≡ event
  is_event = get_or_from_slice_get events i event event found

  pub may_feed : MayFeed now.placer now.marker 16 (before ++ take i events) (made ++ lines) event
  may_feed = record {
    has = has;
    few = omega (arith, length-append before (take i events), length-take i events, may.few, low);
    valid = subst (IsValidEvent event) (sym same) (subst (λ (e : Event). IsValidEvent e first.placer.harts) is_event (may.valid i event low));
  }

  pub fed_more : (new : Recorder) (more : List Line) → HasLines new ((before ++ take i events) ++ event ∷ []) ((made ++ lines) ++ more) → HasLines new (before ++ take (i + 1) events) (made ++ (lines ++ more))
  fed_more new more after =
      let front : (before ++ take i events) ++ event ∷ [] ≡ before ++ take (i + 1) events =
      append_assoc before (take i events) (event ∷ []) ∙ ap (λ (es : List Event). before ++ es) (sym (take_more events i event low ∙ ap (λ (e : Event). take i events ++ e ∷ []) is_event)) in
      subst (λ (es : List Event). HasLines new es (made ++ (lines ++ more))) front (subst (HasLines new ((before ++ take i events) ++ event ∷ [])) (append_assoc made lines more) after)

-- the only event of a step
module _ (first : Recorder) (before : List Event) (made : List Line) (event : Event) where
  pub may_feed_only : (events : List Event) → slice_get events 0 ≡ Some event → MayFeedAll first before made events → MayFeed first.placer first.marker 16 before made event
  may_feed_only events found may =
      let low : 0 < length events = slice_get_within events 0 event found in
      record {
        has = may.has;
        few = omega (arith, may.few, low);
        valid = subst (λ (e : Event). IsValidEvent e first.placer.harts) (get_or_from_slice_get events 0 event event found) (may.valid 0 event low);
      }

  pub only : (events : List Event) → slice_get events 0 ≡ Some event → length events ≡ 1 → event ∷ [] ≡ events
  only [] found one = absurd (omega (arith, one))
  only (e ∷ []) found one = let same : e ≡ event = cc in ap (λ (z : Event). z ∷ []) (sym same)
  only (e ∷ (d ∷ es)) found one = absurd (omega (arith, one))
