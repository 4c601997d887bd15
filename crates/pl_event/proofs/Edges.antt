-- The edges of a log lead forward, and the greatest source of each record alone makes the same paths.
use Rattle.std.proofs.Common.{◌≡◌, ℕ, ◌+◌, ◌<◌, ◌≤◌, List, length, sym, ◌∙◌, subst, inl, inr, arith, lt_of_not-le}
use mathlib.Core.Logic.{dite}
use native.Mathlib.Decide.{dec_le}
use Rattle.pl_event.specs.declared.log.Line.{Line}
use Rattle.pl_event.specs.Graph.{IsForward}
use Rattle.pl_event.specs.Records.{records_before, IsRecord, line_number}
use Rattle.pl_event.specs.Edges.{Into, IsFlow}
use Rattle.pl_event.proofs.Places.{line_number_next, line_number_of, line_number_within, line_number_after, inside, before_other}

module _ (harts : ℕ) (g : List Line) (flow : IsFlow harts g) where
  pub forward : IsForward (Into g) (line_number g)
  forward u n h m (inl e) = subst (λ (z : ℕ × ℕ). line_number g u n < line_number g z.0 z.1) (λ i. (e.0 i, e.1 i)) (line_number_next g u n)
  forward u n h m (inr (inl a)) =
      let r = flow.arcs a.0 h m a.1 a.2 u n a.3 in
      let s : line_number g u n ≤ a.0 = line_number_within g a.0 u n r.3 in
      let t : line_number g h m ≡ a.0 + 1 = line_number_of g a.0 h m a.1 a.2 in
      omega arith
  forward u n h m (inr (inr (inl a))) =
      let is : IsRecord g a.0 u n a.1 = a.2 in
      let r = flow.notices a.0 u n a.1 is h m a.3 in
      let t : line_number g u n ≡ a.0 + 1 = line_number_of g a.0 u n a.1 is in
      let c : records_before h g (a.0 + 1) ≡ records_before h g a.0 = before_other g a.0 h a.1 is.at (λ e. r.1 (sym e ∙ is.hart)) in
      let few : records_before h g a.0 < m = r.2 in
      let long : a.0 < length g = inside g a.0 a.1 is.at in
      let s : a.0 + 1 < line_number g h m = line_number_after g (a.0 + 1) h m (omega arith) (omega arith) in
      omega arith
  forward u n h m (inr (inr (inr a))) =
      let is : IsRecord g a.0 h m a.1 = a.3 in
      let is' : IsRecord g a.0 h (a.2 + 1) a.1 = subst (λ (z : ℕ). IsRecord g a.0 h z a.1) (sym a.4) is in
      let r : n ≤ records_before u g a.0 = flow.closed a.0 h a.2 a.1 is' u n a.5 in
      let s : line_number g u n ≤ a.0 = line_number_within g a.0 u n r in
      let t : line_number g h m ≡ a.0 + 1 = line_number_of g a.0 h m a.1 is in
      omega arith

  -- an edge to the record at position i comes from a record before it
  pub source_before : (i h m w k : ℕ) (l : Line) → IsRecord g i h m l → Into g w k h m → k ≤ records_before w g i
  source_before i h m w k l is e = dite (dec_le k (records_before w g i)) (λ le. le)
      (λ n. let few : records_before w g i < k = lt_of_not-le n in
      let long : i < length g = inside g i l is.at in
      let f : line_number g w k < line_number g h m = forward w k h m (inr e) in
      let p : line_number g h m ≡ i + 1 = line_number_of g i h m l is in
      let b : i < line_number g w k = line_number_after g i w k (omega arith) few in
      absurd (omega arith))
