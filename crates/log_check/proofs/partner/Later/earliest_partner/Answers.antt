use Rattle.std.proofs.Common.{◌≡◌, ℕ, ◌+◌, ◌<◌, ◌≤◌, [], ◌∷◌, length, slice_index, set, length-set, refl, sym, ◌∙◌, subst, arith}
use Rattle.pl_event.specs.Records.{records_before, IsRecord}
use Rattle.pl_event.proofs.Before.{eight}
use Rattle.pl_event.proofs.Places.{before_none}
use Rattle.log_clocks.specs.Clocks.{time}
use Rattle.log_check.specs.inner.Traced.{IsOutline}
use Rattle.log_check.proofs.Clearing.{clear_start, clear_more}
use Rattle.log_check.proofs.Positions.{most_now, number_now, numbers_more}
use Rattle.log_check.proofs.Tracing.{line_at}
use Rattle.log_check.proofs.partner.Later.earliest_partner.Goals as goal

pub loop-x-init : goal.loop-x-init
loop-x-init c = record {
  eight = refl;
  most = λ h low. (let none : slice_index (0 ∷ 0 ∷ 0 ∷ 0 ∷ 0 ∷ 0 ∷ 0 ∷ 0 ∷ []) h ≡ 0 = eight {A = ℕ} 0 h in omega arith);
  numbers = λ harts g m sought h low. eight {A = ℕ} 0 h ∙ sym (before_none g h);
  clear = λ harts g m sought. clear_start c.args.self.now.size g (length c.args.trace.now);
}

pub returns-then-has_partner : goal.returns-then-has_partner
returns-then-has_partner c harts g m sought =
    let x = c.loop-x.x in
    let o = c.get-outline.result in
    let b = c.args.self.now.event in
    let l = line_at c.args.trace.now c.args.now.now harts g b m (time c.args.self.now.clock) sought x o c.get-outline.ensures.outline in
    let number : slice_index (set c.loop-x.numbers o.hart (slice_index c.loop-x.numbers o.hart + 1)) o.hart ≡ records_before o.hart g x + 1
    = number_now g x o.hart c.loop-x.numbers c.loop-x.invariant.eight c.get-outline.ensures.hart (c.loop-x.invariant.numbers harts g m sought) in
    let p = c.has_partner.ensures.yes harts g x (length c.args.trace.now) m l.0 sought.later (let t : x < c.len-x-end.result = c.loop-x-test.true in let e : c.len-x-end.result ≡ length c.args.trace.now = c.len-x-end.ensures in omega arith)
    (subst (λ (z : ℕ). IsRecord g x o.hart z l.0) (sym number) l.1) (subst (λ (z : ℕ). IsOutline g z l.0.what o) (sym number) l.2) sought.tells c.if-has_partner.true in
    record {
      i = x;
      a = p.0;
      b = b;
      m = m;
      pair = p.1;
      hart = p.2;
      unordered = p.3;
      clear = c.loop-x.invariant.clear harts g m sought;
    }

pub loop-x-preserved : goal.loop-x-preserved
loop-x-preserved c =
    let x = c.loop-x.x in
    let o = c.get-outline.result in
    let b = c.args.self.now.event in
    record {
      eight = length-set c.loop-x.numbers o.hart _ ∙ c.loop-x.invariant.eight;
      most = most_now x o.hart c.loop-x.numbers c.loop-x.invariant.eight c.get-outline.ensures.hart c.loop-x.invariant.most;
      numbers = λ harts g m sought.
          let l = line_at c.args.trace.now c.args.now.now harts g b m (time c.args.self.now.clock) sought x o c.get-outline.ensures.outline in
          numbers_more g x o.hart l.0 l.1.at (sym l.1.hart) c.loop-x.numbers c.loop-x.invariant.eight c.get-outline.ensures.hart (c.loop-x.invariant.numbers harts g m sought);
      clear = λ harts g m sought.
          let l = line_at c.args.trace.now c.args.now.now harts g b m (time c.args.self.now.clock) sought x o c.get-outline.ensures.outline in
          let number : slice_index (set c.loop-x.numbers o.hart (slice_index c.loop-x.numbers o.hart + 1)) o.hart ≡ records_before o.hart g x + 1
          = number_now g x o.hart c.loop-x.numbers c.loop-x.invariant.eight c.get-outline.ensures.hart (c.loop-x.invariant.numbers harts g m sought) in
          clear_more c.args.self.now.size g (length c.args.trace.now) m b sought.later.event x
          (c.has_partner.ensures.no harts g x (length c.args.trace.now) m l.0 sought.later (let t : x < c.len-x-end.result = c.loop-x-test.true in let e : c.len-x-end.result ≡ length c.args.trace.now = c.len-x-end.ensures in omega arith)
          (subst (λ (z : ℕ). IsRecord g x o.hart z l.0) (sym number) l.1) (subst (λ (z : ℕ). IsOutline g z l.0.what o) (sym number) l.2) sought.tells c.if-has_partner.false)
          (c.loop-x.invariant.clear harts g m sought);
    }

pub returns : goal.returns
returns c harts g m sought k a n b p low pair = c.loop-x.invariant.clear harts g m sought k a n b p
    (let z : c.len-x-end.result ≤ c.loop-x.x = c.loop-x-test.false in let e : c.len-x-end.result ≡ length c.args.trace.now = c.len-x-end.ensures in let l : k < length c.args.trace.now = low in omega arith) pair
