use Rattle.std.proofs.Common.{◌≡◌, [], length, take}
use Rattle.pl_event.specs.Heads.{Tells}
use Rattle.pl_event.specs.Numbers.{events_of}
use Rattle.lifeguard.specs.Shadow.{Represents}
use Rattle.order_core.specs.Filled.{words_after}
use Rattle.shadow_layout.specs.Logs.{log_shapes}
use Rattle.log_plan.specs.Plans.{opening_list, plan_of}
use Rattle.list_plan.specs.inner.Fills.{words_of}
use Rattle.list_plan.specs.inner.Rows.{HasRows}
use Rattle.list_plan.proofs.listing.list_rows.Given as goal

abbrev pub invariant-loop-at : goal.invariant-loop-at
invariant-loop-at g l =
    let rules = g.L.Lifeguard.rules l.fn.guard in
    record {
      words : words_of l.filler ≡ words_after (log_shapes rules l.log) (opening_list rules l.log.pages) l.at;
      none : l.filler.operations.items ≡ [];
      guard : l.monitor.guard ≡ l.fn.guard;
      harts : l.monitor.harts ≡ l.log.harts;
      state : Represents rules l.log.pages (events_of (take l.at l.log.lines)) l.monitor.shadow;
      heads : ∥ Tells l.heads l.log.lines l.at ∥₁;
      count : length l.streams.items ≡ l.log.harts;
      rows : HasRows l.log.lines (plan_of rules l.log).operations l.at l.streams.items;
    }
