use Rattle.std.proofs.Common.{◌≡◌, sym, ap, ◌∙◌}
use Rattle.order_core.specs.Course.{course_of}
use Rattle.guard_table.specs.Views.{first_view}
use Rattle.log_plan.specs.Plans.{opening_list, plan_of}
use Rattle.log_watch.proofs.watch.opened.Goals as goal

pub new-requires : goal.new-requires
new-requires g c = c.in_ok-words.ensures ∙ (λ d. opening_list (g.L.Lifeguard.rules (sym c.new-plan.ensures.guard d)) (sym c.new-plan.ensures.log d).log.pages)

pub returns-clause-plan : goal.returns-clause-plan
returns-clause-plan g c = (λ d. plan_of (g.L.Lifeguard.rules (c.in_ok-opened.ensures.plan d).guard) (c.in_ok-opened.ensures.plan d).log.now.log)
    ∙ (λ d. plan_of (g.L.Lifeguard.rules (c.new-plan.ensures.guard d)) (c.new-plan.ensures.log d).log)

pub returns-clause-head : goal.returns-clause-head
returns-clause-head g c = c.in_ok-opened.ensures.head
    ∙ (λ d. first_view (course_of (plan_of (g.L.Lifeguard.rules (c.new-plan.ensures.guard d)) (c.new-plan.ensures.log d).log)))
