use Rattle.std.proofs.Common.{◌≡◌, ℕ, ◌+◌, ◌<◌, ◌≤◌, List, Option, None, Some, Vec, Global, take, length, sym, ap, ◌∙◌, subst, arith}
use Rattle.pl_event.specs.Edges.{Into, no_arcs}
use Rattle.pl_event.specs.Graph.{IsClock}
use Rattle.pl_event.specs.Records.{records_before}
use Rattle.pl_event.proofs.Before.{eight}
use Rattle.log_clocks.specs.declared.clock.Clock.{Clock}
use Rattle.log_clocks.specs.Clocks.{time, slot_of, clock_at, kept_at, known}
use Rattle.log_clocks.specs.inner.Joins.{IsJoin}
use Rattle.log_clocks.proofs.Joining.{join_alone}
use Rattle.log_clocks.proofs.RecordClocks.{clock_here}
use Rattle.log_clocks.proofs.Keeping.{whole_again, kept_anyway, known_last, has_more}
use Rattle.log_clocks.proofs.clocks.Clocks.next_alone.Goals as goal

pub returns-clause-ok : goal.returns-clause-ok
returns-clause-ok c harts g i line flow few has next need = (
  clock,
  has_more g i c.args.hart line next c.requires.hart c.args.self.now c.add.new.self has c.set.new.self c.slot-last.result
      c.in_ok-add.ensures.added
      c.in_ok-add.ensures.others
      (λ s l. ap (λ (v : Vec Clock Global). clock_at v.items s) c.in_ok-add.ensures.kept)
      (subst (λ (v : Vec Clock Global). length c.args.self.now.kept.items ≤ length v.items) (sym c.in_ok-add.ensures.kept) (omega arith))
      (subst (λ (v : Vec Clock Global). c.slot-last.result < length v.items) (sym c.in_ok-add.ensures.kept) there)
      clock itself
      (λ u ne. ap (λ (v : Vec Clock Global). time (clock_at v.items c.slot-last.result) u) c.in_ok-add.ensures.kept ∙ same u ne),
  itself,
)
  where
    number : c.count-number.result ≡ records_before c.args.hart g i
    number = c.count-number.ensures ∙ has.numbers c.args.hart c.requires.hart

    last : c.slot-last.result ≡ slot_of c.args.self.now c.args.hart (records_before c.args.hart g i)
    last = c.slot-last.ensures ∙ ap (slot_of c.args.self.now c.args.hart) number

    there : c.slot-last.result < length c.args.self.now.kept.items
    there = let l : slot_of c.args.self.now c.args.hart (records_before c.args.hart g i) < length c.args.self.now.kept.items = has.within c.args.hart (records_before c.args.hart g i) in let e : c.slot-last.result ≡ slot_of c.args.self.now c.args.hart (records_before c.args.hart g i) = last in omega arith

    itself : time c.set.new.self c.args.hart ≡ records_before c.args.hart g i + 1
    itself = c.set.ensures.here ∙ ap (λ (z : ℕ). z + 1) number

    started : (u : ℕ) → (u ≡ c.args.hart → ⊥) → time c.clock_in-clock.result u ≡ known c.args.self.now c.args.hart (records_before c.args.hart g i) u
    started u ne = c.clock_in-clock.ensures u ∙ (ap (λ (z : ℕ). time (kept_at c.args.self.now z) u) last ∙ known_last c.args.self.now g i c.args.hart (records_before c.args.hart g i) u has ne)

    same : (u : ℕ) → (u ≡ c.args.hart → ⊥) → time (kept_at c.args.self.now c.slot-last.result) u ≡ time c.set.new.self u
    same u ne = sym (c.clock_in-clock.ensures u) ∙ sym (c.set.ensures.others u ne)

    clock : IsClock (Into g) c.args.hart (records_before c.args.hart g i + 1) (time c.set.new.self)
    clock = clock_here harts g flow few i c.args.hart line next (known c.args.self.now) has.right (time c.clock_in-clock.result) (time c.clock_in-clock.result) (time c.set.new.self) started
        (subst (λ (z : List (Option ℕ)). IsJoin z 8 (known c.args.self.now) (time c.clock_in-clock.result) (time c.clock_in-clock.result)) need
        (join_alone no_arcs (known c.args.self.now) (time c.clock_in-clock.result) 8 (λ w k e. absurd (let t : None ≡ Some k = sym (eight None w) ∙ e in cc))))
        itself c.set.ensures.others

pub returns-in_err-add-clause-err : goal.returns-in_err-add-clause-err
returns-in_err-add-clause-err c = kept_anyway c.from_residual.result _ (record {
  records = c.in_err-add.ensures.err.1;
  kept = c.in_err-add.ensures.err.0 ∙ (ap (λ (n : ℕ). take n c.args.self.now.kept.items) c.clocks-count.ensures ∙ whole_again c.args.self.now.kept.items);
})
