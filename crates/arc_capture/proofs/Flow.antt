-- With its candidates as arcs a log keeps what arcs and notices keep.
use Rattle.std.proofs.Common.{◌≡◌, ◌≢◌, ℕ, ◌+◌, ◌<◌, ◌≤◌, List, Some, sym, ◌∙◌, subst, arith}
use Rattle.pl_event.specs.declared.log.Line.{Line}
use Rattle.pl_event.specs.Candidates.{Shares}
use Rattle.pl_event.specs.Edges.{IsFlow, arc_of}
use Rattle.pl_event.specs.Needs.{IsMost}
use Rattle.pl_event.specs.Records.{records_before, IsRecord}
use Rattle.pl_event.proofs.Places.{one_place, before_own, before_up}
use Rattle.arc_reduce.specs.Drawn.{IsDrawn}
use Rattle.arc_reduce.specs.Reduction.{records_in}
use Rattle.arc_reduce.proofs.Matching.{count_same, record_same, notice_same}

module _ (size : ℕ) (f : List Line) (u n h m : ℕ) (s : Shares size f u n h m) where
  pub source_at : IsRecord f s.i u n s.pair.first.0
  source_at = subst (λ (z : ℕ). IsRecord f s.i z n s.pair.first.0) s.first s.pair.first.1

  pub target_at : IsRecord f s.j h m s.pair.second.0
  target_at = subst (λ (z : ℕ). IsRecord f s.j z m s.pair.second.0) s.second s.pair.second.1

module _ (size harts : ℕ) (base full : List Line) (same : records_in full ≡ records_in base) (drawn : IsDrawn size full) (flow : IsFlow harts base) where
  sources : (i h m : ℕ) (l : Line) → IsRecord full i h m l → (u n : ℕ) → arc_of l u ≡ Some n → (u < harts) × (u ≢ h) × (1 ≤ n) × (n ≤ records_before u full i)
  sources i h m l is u n arc =
      let s : Shares size full u n h m = (subst (IsMost (λ k. Shares size full u k h m)) arc (drawn i h m l is u)).0 in
      let first : IsRecord full s.i u n s.pair.first.0 = source_at size full u n h m s in
      let place = one_place full h m s.j i s.pair.second.0 l (target_at size full u n h m s) is in
      let t = record_same full base same s.i u n s.pair.first.0 first in
      let number : records_before u full s.i + 1 ≡ n = first.number in
      let before : s.i < s.j = s.pair.before in
      let there : s.j ≡ i = place.0 in
      let own : records_before u full (s.i + 1) ≡ records_before u full s.i + 1 = before_own full s.i u s.pair.first.0 first.at first.hart in
      let up : records_before u full (s.i + 1) ≤ records_before u full i = before_up full (s.i + 1) i u (omega arith) in
      (flow.within s.i u n t.0 t.1, (λ e. s.pair.apart (s.first ∙ (e ∙ sym s.second))), (omega arith), (omega arith))

  pub full_flow : IsFlow harts full
  full_flow = record {
    within = λ i h m line is. (let t = record_same full base same i h m line is in flow.within i h m t.0 t.1);
    arcs = sources;
    notices = λ i h m line is u n told. (let t = record_same full base same i h m line is in
        let r = flow.notices i h m t.0 t.1 u n (sym t.2 ∙ told) in
        (r.0, r.1, subst (λ (z : ℕ). z < n) (sym (count_same full base same u i)) r.2));
    closed = λ i h m line is u n told. (let t = record_same full base same i h (m + 1) line is in
        subst (λ (z : ℕ). n ≤ z) (sym (count_same full base same u i)) (flow.closed i h m t.0 t.1 u n (notice_same full base same h m u n told)));
  }
