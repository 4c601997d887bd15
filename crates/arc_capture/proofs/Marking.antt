-- A full log with one line more.
use Rattle.std.proofs.Common.{◌≡◌, ℕ, ◌+◌, ◌<◌, ◌≤◌, ◌++◌, List, [], ◌∷◌, length, Option, None, inl, inr, refl, sym, ap, ◌∙◌, subst, arith, lt_of_not-le}
use Rattle.std.proofs.lemmas.List.{get_or_past}
use Rattle.std.proofs.lemmas.List.Elements.{All-push}
use mathlib.Core.Logic.{dite}
use native.Mathlib.Decide.{dec_le}
use Rattle.pl_event.specs.declared.log.Line.{Line}
use Rattle.pl_event.specs.Candidates.{Shares}
use Rattle.pl_event.specs.Edges.{IsFlow, arc_of}
use Rattle.pl_event.specs.Needs.{IsMost}
use Rattle.pl_event.specs.Numbers.{hart_of}
use Rattle.pl_event.specs.Records.{records_before, IsRecord}
use Rattle.pl_event.proofs.Growth.{record_on}
use Rattle.pl_event.proofs.Places.{one_place}
use Rattle.pl_event.proofs.Sources.{same_most}
use Rattle.log_clocks.proofs.Grown.{event_on, event_back}
use Rattle.conflict_alerts.specs.Placing.{count_in}
use Rattle.conflict_alerts.proofs.Adding.{last_record}
use Rattle.arc_reduce.specs.Reduction.{records_in, AreChosen}
use Rattle.arc_reduce.specs.Taken.{with_arcs, with_line, next_number, HasTaken, MayTake}
use Rattle.arc_reduce.proofs.Ends.{either, number, records_more}
use Rattle.arc_reduce.proofs.Matching.{record_same, count_same, length_same}
use Rattle.arc_capture.specs.Capture.{AreCandidates, HasCaptured, MayCapture}
use Rattle.arc_capture.specs.Recorded.{IsFull}
use Rattle.arc_reduce.proofs.Longer.{longer_reduced}
use Rattle.arc_capture.specs.declared.marker.Marker.{Marker}
use Rattle.arc_capture.specs.Marker.{HasMarked, MayMark}
use Rattle.arc_capture.proofs.Flow.{full_flow, source_at, target_at}
use Rattle.arc_capture.proofs.Same.{shares_same}

module _ (size : ℕ) (g : List Line) (x : Line) where
  shares_on : (u n h m : ℕ) → Shares size g u n h m → Shares size (g ++ x ∷ []) u n h m
  shares_on u n h m s = record {
    i = s.i;
    j = s.j;
    a = s.a;
    b = s.b;
    pair = record { before = s.pair.before; first = event_on g (x ∷ []) s.i n s.a s.pair.first; second = event_on g (x ∷ []) s.j m s.b s.pair.second; apart = s.pair.apart };
    first = s.first;
    second = s.second;
    block = s.block;
  }

  shares_back : (i h m : ℕ) (l : Line) → i < length g → IsRecord g i h m l → (u n : ℕ) → Shares size (g ++ x ∷ []) u n h m → Shares size g u n h m
  shares_back i h m l low is u n s =
      let p = one_place (g ++ x ∷ []) h m s.j i s.pair.second.0 l (target_at size (g ++ x ∷ []) u n h m s) (record_on g (x ∷ []) i h m l is) in
      let there : s.j ≡ i = p.0 in
      let before : s.i < s.j = s.pair.before in
      record {
        i = s.i;
        j = s.j;
        a = s.a;
        b = s.b;
        pair = record { before = s.pair.before; first = event_back g (x ∷ []) s.i n s.a (omega arith) s.pair.first; second = event_back g (x ∷ []) s.j m s.b (omega arith) s.pair.second; apart = s.pair.apart };
        first = s.first;
        second = s.second;
        block = s.block;
      }

module _ (size harts : ℕ) (base full : List Line) (line : Line) (candidates : List (Option ℕ)) (whole : IsFull size base full) (few : harts ≤ 8) (flow : IsFlow harts (base ++ line ∷ [])) (long : length candidates ≡ 8) (found : AreCandidates size base line candidates) where
  abbrev x : Line
  x = with_arcs line candidates

  abbrev F : List Line
  F = with_line full line candidates

  pub alike : records_in F ≡ records_in (base ++ line ∷ [])
  alike = records_more full base x line whole.records refl

  most : (i h m : ℕ) (l : Line) → IsRecord F i h m l → (u : ℕ) → IsMost (λ k. Shares size F u k h m) (arc_of l u)
  most i h m l is u = elim (either full x i h m l is) [
    | inl t ↦ same_most (λ k. Shares size full u k h m) (λ k. Shares size F u k h m) (λ k s. shares_on size full x u k h m s) (λ k s. shares_back size full x i h m l t.0 t.1 u k s) (arc_of l u) (whole.drawn i h m l t.1 u)
    | inr t ↦ subst (λ (z : ℕ × ℕ × Line). IsMost (λ k. Shares size F u k z.0 z.1) (arc_of z.2 u)) (λ d. (sym t.2 d, sym t.3 d, sym t.1 d)) (last u)
  ]
    where
      none : (v : ℕ) → 8 ≤ v → IsMost (λ k. Shares size F v k (hart_of line.what) (number full x)) (arc_of x v)
      none v le = subst (IsMost (λ k. Shares size F v k (hart_of line.what) (number full x))) (sym (get_or_past candidates v None (omega arith)))
          (λ k s. let t = record_same F (base ++ line ∷ []) alike s.i v k s.pair.first.0 (source_at size F v k (hart_of line.what) (number full x) s) in
          let low : v < harts = flow.within s.i v k t.0 t.1 in omega arith)

      -- the number of the line
      mine : ℕ
      mine = count_in (hart_of line.what) base + 1

      same_number : mine ≡ number full x
      same_number = ap (λ (z : ℕ). z + 1) (ap (records_before (hart_of line.what) base) (sym (length_same full base whole.records)) ∙ sym (count_same full base whole.records (hart_of line.what) (length full)))

      last : (v : ℕ) → IsMost (λ k. Shares size F v k (hart_of line.what) (number full x)) (arc_of x v)
      last v = dite (dec_le 8 v) (none v)
          (λ no. subst (λ (z : ℕ). IsMost (λ k. Shares size F v k (hart_of line.what) z) (arc_of x v)) same_number
          (same_most (λ k. Shares size (base ++ line ∷ []) v k (hart_of line.what) mine) (λ k. Shares size F v k (hart_of line.what) mine)
          (λ k s. shares_same size (base ++ line ∷ []) F (sym alike) v k (hart_of line.what) mine s)
          (λ k s. shares_same size F (base ++ line ∷ []) alike v k (hart_of line.what) mine s)
          (arc_of x v) (found v (lt_of_not-le no))))

  pub more_full : IsFull size (base ++ line ∷ []) F
  more_full = record {
    records = alike;
    drawn = most;
    eight = All-push (λ (z : Line). length z.arcs ≡ 8) full x whole.eight long;
  }

module _ (marker : Marker) (size : ℕ) (base lines : List Line) (line : Line) (may : MayMark marker size base lines line) where
  pub may_capture : MayCapture marker.capture size base line
  may_capture = record {
    has = may.has.captured;
    few = may.few;
    sound = may.sound;
    hart = (let low : hart_of line.what < marker.reducer.harts = may.flow.within (length base) (hart_of line.what) (count_in (hart_of line.what) base + 1) line (last_record base line) in let b : marker.reducer.harts ≤ 8 = may.harts in omega arith);
  }

  module _ (candidates : List (Option ℕ)) (long : length candidates ≡ 8) (found : AreCandidates size base line candidates) where
    whole : IsFull size (base ++ line ∷ []) (with_line may.has.full line candidates)
    whole = more_full size marker.reducer.harts base may.has.full line candidates may.has.whole may.harts may.flow long found

    forward : IsFlow marker.reducer.harts (with_line may.has.full line candidates)
    forward = full_flow size marker.reducer.harts (base ++ line ∷ []) (with_line may.has.full line candidates) whole.records whole.drawn may.flow

    pub may_take : MayTake marker.reducer may.has.full line candidates
    may_take = record {
      taken = may.has.taken;
      harts = may.harts;
      few = (let l : length may.has.full ≡ length base = length_same may.has.full base may.has.whole.records in let f : length base < 16000000 = may.few in omega arith);
      bare = may.bare;
      flow = forward;
    }

    pub has_marked : (after : Marker) (kept : List (Option ℕ)) → length kept ≡ 8 → HasCaptured after.capture size (base ++ line ∷ [])
        → AreChosen (with_line may.has.full line candidates) (hart_of line.what) (next_number may.has.full line) candidates kept → HasTaken after.reducer (with_line may.has.full line candidates)
        → HasMarked after size (base ++ line ∷ []) (lines ++ with_arcs line kept ∷ [])
    has_marked after kept long_kept captured chosen taken = record {
      full = with_line may.has.full line candidates;
      whole = whole;
      captured = captured;
      taken = taken;
      reduced = longer_reduced marker.reducer.harts lines may.has.full line candidates kept forward may.has.reduced chosen;
      eight = All-push (λ (z : Line). length z.arcs ≡ 8) lines (with_arcs line kept) may.has.eight long_kept;
    }
