use Rattle.std.proofs.Common.{◌≡◌, ℕ, ◌<◌, List, sym, subst, ◌∙◌}
use Rattle.pl_event.specs.declared.event.Event.{Event}
use Rattle.pl_event.specs.declared.log.Line.{Line}
use Rattle.pl_event.specs.Records.{IsRecord}
use Rattle.pl_event.specs.Unordered.{IsOrderedPair}
use Rattle.log_clocks.proofs.Accesses.{at_one}
use Rattle.log_clocks.specs.Clocks.{time}
use Rattle.log_check.specs.inner.Partners.{IsEarlier, IsLater}
use Rattle.log_check.specs.inner.Traced.{IsOutline}
use Rattle.log_check.proofs.Positions.{one_number}
use Rattle.log_check.proofs.Tracing.{outlined}
use Rattle.log_check.proofs.partner.Later.has_partner.Goals as goal

pub returns-then-outline-self : goal.returns-then-outline-self
returns-then-outline-self c = record {
  yes = λ harts g x at m line later low is o tells so.
      let e = the harts g x at m line later low is o in
      (e.0, e.1.pair, e.1.own, c.is_unordered.ensures.yes harts g x at m e.0 later e.1 tells so);
  no = λ harts g x at m line later low is o tells so a n pair.
      let e = the harts g x at m line later low is o in
      let same : e.0 ≡ a = at_one g x c.args.number n e.0 a e.1.pair.first pair.first in
      let num : c.args.number ≡ n = one_number g x c.args.number n e.0 a e.1.pair.first pair.first in
      subst (λ (z : Event × ℕ). IsOrderedPair c.args.self.now.size g z.0 z.1 c.args.self.now.event m) (λ d. (same d, num d))
      (c.is_unordered.ensures.no harts g x at m e.0 later e.1 tells so);
}
  where
    the : (harts : ℕ) (g : List Line) (x at m : ℕ) (line : Line) → IsLater harts g at c.args.self.now.event m (time c.args.self.now.clock) → x < at
        → IsRecord g x c.args.outline.hart c.args.number line → IsOutline g c.args.number line.what c.args.outline
        → (a : Event) × IsEarlier g x at c.args.outline.hart c.args.number c.args.outline.part a c.args.self.now.event m
    the harts g x at m line later low is o =
        let e = outlined g x c.args.outline.hart c.args.number line c.args.outline is o c.in_default.not-Other in (
          e.0,
          record {
            pair = record { before = low; first = e.1; second = later.event; apart = λ same. c.if-outline-self.true (sym e.2 ∙ same) };
            own = e.2;
            kind = e.3;
          },
        )
