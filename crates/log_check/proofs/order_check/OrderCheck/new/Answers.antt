use Rattle.std.proofs.Common.{ℕ, sym, subst}
use Rattle.log_clocks.specs.LastAccesses.{HasLast}
use Rattle.log_check.proofs.Clearing.{nothing_ordered}
use Rattle.log_check.proofs.Tracing.{nothing_traced}
use Rattle.log_check.proofs.order_check.OrderCheck.new.Goals as goal

pub returns : goal.returns
returns c log checkable block = record {
  size = sym block;
  tells = c.new.ensures log.lines;
  clocks = c.in_ok-new.ensures log.harts log.lines checkable.flow;
  lasts = subst (λ (z : ℕ). HasLast c.in_ok-new-2.field-0 z log.lines 0) (sym block) (c.in_ok-new-2.ensures log.lines);
  alerts = c.new-4.ensures log.lines;
  traced = nothing_traced c.new-5.result log.lines c.new-5.ensures;
  ordered = nothing_ordered log.block log.lines;
}
