use Rattle.std.proofs.Common.{sym, ap, ◌∙◌}
use Rattle.pl_event.specs.declared.log.PageRun.{PageRun}
use Rattle.std.specs.Prelude.{List}
use Rattle.order_core.specs.Course.{Planned}
use Rattle.log_plan.specs.Plans.{opening_list}
use Rattle.run_watch.proofs.opening.table_of.Goals as goal

pub new-requires : goal.new-requires
new-requires g c =
    let rules = g.L.Lifeguard.rules c.args.guard in
    let has = c.run_logs.ensures.log c.args.job.now c.requires in
    c.in_ok-words.ensures ∙ (ap (λ (pages : List PageRun). opening_list rules pages) (sym has.of_run.recorded.pages) ∙ sym (ap (λ (p : Planned). p.opening) (c.new-plan.ensures.log has.log has.of_run)))
