use Rattle.std.proofs.Common.{◌≡◌, Bool, true, false, not, inr, sym, ap, ◌∙◌}
use Rattle.log_check.proofs.partner.Later.is_unordered.Goals as goal

pub returns-then-overlooks-clause-yes : goal.returns-then-overlooks-clause-yes
returns-then-overlooks-clause-yes c harts g x at m a later earlier tells _ = c.overlooks.ensures.yes harts g x at m a later earlier c.if-overlooks.true

pub returns-then-meet_by_alert-clause-yes : goal.returns-then-meet_by_alert-clause-yes
returns-then-meet_by_alert-clause-yes c harts g x at m a later earlier tells so = inr (
  (c.meet_by_alert.ensures g a c.args.number earlier.kind).0 c.if-meet_by_alert.true,
  λ told. absurd (let f : true ≡ false = sym so ∙ ap not ((c.is_noticed.ensures harts g x at c.args.number m a later earlier tells).1 told) in cc),
)

pub returns-then-meet_by_alert-clause-no : goal.returns-then-meet_by_alert-clause-no
returns-then-meet_by_alert-clause-no c harts g x at m a later earlier tells none = record {
  accesses = c.overlooks.ensures.no harts g x at m a later earlier c.if-overlooks.false;
  alerts = λ meet. (c.is_noticed.ensures harts g x at c.args.number m a later earlier tells).0 (by c.is_noticed.result none);
}
  where
    by : (s : Bool) → not s ≡ false → s ≡ true
    by true e = cc
    by false e = cc

pub returns-else-meet_by_alert-clause-no : goal.returns-else-meet_by_alert-clause-no
returns-else-meet_by_alert-clause-no c harts g x at m a later earlier tells none = record {
  accesses = c.overlooks.ensures.no harts g x at m a later earlier c.if-overlooks.false;
  alerts = λ meet. absurd (let f : false ≡ true = sym none ∙ (c.meet_by_alert.ensures g a c.args.number earlier.kind).1 meet in cc);
}
