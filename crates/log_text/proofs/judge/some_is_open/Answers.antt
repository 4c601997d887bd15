use Rattle.std.proofs.Common.{◌<◌, sym, below_more, arith}
use Rattle.std.proofs.lemmas.Bool.{both_ways, false_from_ne_true}
use Rattle.log_text.specs.WellFormed.{is_waiting, has_pending}
use Rattle.log_text.proofs.TallyLemmas.{pending_by_waiting, waiting_by_pending}
use Rattle.log_text.proofs.judge.some_is_open.Goals as goal

pub returns-then-is_open : goal.returns-then-is_open
returns-then-is_open c = λ before keeps.
    sym (pending_by_waiting before c.harts.hart (sym (c.if-is_open.ensures before keeps (omega arith))))

pub harts-preserved : goal.harts-preserved
harts-preserved c = below_more _ _ c.harts.invariant (λ before keeps. sym (c.if-is_open.ensures before keeps (omega arith)))

pub returns : goal.returns
returns c = λ before keeps.
    sym (false_from_ne_true (has_pending before) (λ pending.
    let waits = waiting_by_pending before pending in
    let low : waits.0 < 8 = (keeps.low waits.0 waits.1 waits.2).0 in
    both_ways (is_waiting before waits.0) (c.harts.invariant waits.0 (omega arith) before keeps) waits.3))
