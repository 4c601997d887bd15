use Rattle.std.proofs.Common.{◌≡◌, ℕ, ◌≤◌, List, length, Vec, Global, sym, ap, ◌∙◌, subst}
use Rattle.pl_event.specs.declared.log.Log.{Log}
use Rattle.pl_event.specs.Runs.{IsRunLog}
use Rattle.lifeguard.specs.Rules.{Rules}
use Rattle.order_core.specs.declared.record_plan.RecordPlan.{RecordPlan}
use Rattle.order_core.specs.Course.{course_of}
use Rattle.order_core.specs.Lists.{listed}
use Rattle.log_check.specs.declared.ordered.OrderedLog.{OrderedLog}
use Rattle.log_plan.specs.Plans.{opening_list, plan_of}
use Rattle.list_plan.specs.Agrees.{Agrees}
use Rattle.list_plan.specs.inner.Rows.{HasRows}
use Rattle.list_plan.proofs.Agreeing.{listed_agrees, listed_course, listed_harts, listed_lawful, listed_needs, listed_records}
use Rattle.list_plan.proofs.listing.list_plan.Goals as goal

abbrev its_log : OrderedLog → Log
its_log ordered = ordered.log

abbrev its_harts : Log → ℕ
its_harts log = log.harts

opened : (rules given : Rules) (log now : Log) → now ≡ log → given ≡ rules → (words : List ℕ) → words ≡ opening_list given now.pages → words ≡ opening_list rules log.pages
opened rules given log now here same words is = is ∙ (λ d. opening_list (same d) (here d).pages)

moved : (rules given : Rules) (log now : Log) → now ≡ log → given ≡ rules → (streams : List (Vec RecordPlan Global)) → HasRows now.lines (plan_of given now).operations (length now.lines) streams → HasRows log.lines (plan_of rules log).operations (length log.lines) streams
moved rules given log now here same streams rows = subst (λ (z : Log × Rules). HasRows z.0.lines (plan_of z.1 z.0).operations (length z.0.lines) streams) (λ d. (here d, same d)) rows

pub opening_of-requires : goal.opening_of-requires
opening_of-requires g c =
    let log : Log = c.args.plan.now.log.now.log in
    let here : c.log-log.result.now ≡ log = c.log-log.ensures ∙ ap its_log c.log.ensures in
    subst (λ (l : Log). ∥ IsRunLog l ∥₁) (sym here) c.args.plan.now.log.now.lawful

pub list_rows-requires-clause-run : goal.list_rows-requires-clause-run
list_rows-requires-clause-run g c =
    let log : Log = c.args.plan.now.log.now.log in
    let here : c.log-log.result.now ≡ log = c.log-log.ensures ∙ ap its_log c.log.ensures in
    subst (λ (l : Log). ∥ IsRunLog l ∥₁) (sym here) c.args.plan.now.log.now.lawful

pub list_rows-requires-clause-few : goal.list_rows-requires-clause-few
list_rows-requires-clause-few g c =
    let log : Log = c.args.plan.now.log.now.log in
    let here : c.log-log.result.now ≡ log = c.log-log.ensures ∙ ap its_log c.log.ensures in
    subst (λ (l : Log). length l.lines ≤ 2000000) (sym here) c.requires.few

pub new-requires-clause-lawful : goal.new-requires-clause-lawful
new-requires-clause-lawful g c =
    let plan = c.args.plan.now in
    let rules = g.L.Lifeguard.rules plan.guard in
    let log = plan.log.now.log in
    let here : c.log-log.result.now ≡ log = c.log-log.ensures ∙ ap its_log c.log.ensures in
    let same = ap g.L.Lifeguard.rules c.guard-guard.ensures in
    listed_lawful rules log c.in_ok-copy.copy (c.in_ok-copy.ensures ∙ here) plan.log.now.lawful
    c.in_ok-opening.opening.items (opened rules _ log _ here same c.in_ok-opening.opening.items c.in_ok-opening.ensures.words)
    c.in_ok-streams.streams.items (c.in_ok-streams.ensures.harts ∙ ap its_harts here)
    (moved rules _ log _ here same c.in_ok-streams.streams.items c.in_ok-streams.ensures.rows) plan.lawful

pub new-requires-clause-harts : goal.new-requires-clause-harts
new-requires-clause-harts g c =
    let plan = c.args.plan.now in
    let rules = g.L.Lifeguard.rules plan.guard in
    let log = plan.log.now.log in
    let here : c.log-log.result.now ≡ log = c.log-log.ensures ∙ ap its_log c.log.ensures in
    let same = ap g.L.Lifeguard.rules c.guard-guard.ensures in
    listed_harts rules log c.in_ok-copy.copy (c.in_ok-copy.ensures ∙ here) plan.log.now.lawful
    c.in_ok-opening.opening.items (opened rules _ log _ here same c.in_ok-opening.opening.items c.in_ok-opening.ensures.words)
    c.in_ok-streams.streams.items (c.in_ok-streams.ensures.harts ∙ ap its_harts here)
    (moved rules _ log _ here same c.in_ok-streams.streams.items c.in_ok-streams.ensures.rows)

pub new-requires-clause-records : goal.new-requires-clause-records
new-requires-clause-records g c =
    let plan = c.args.plan.now in
    let rules = g.L.Lifeguard.rules plan.guard in
    let log = plan.log.now.log in
    let here : c.log-log.result.now ≡ log = c.log-log.ensures ∙ ap its_log c.log.ensures in
    let same = ap g.L.Lifeguard.rules c.guard-guard.ensures in
    listed_records rules log c.in_ok-copy.copy (c.in_ok-copy.ensures ∙ here) plan.log.now.lawful
    c.in_ok-opening.opening.items (opened rules _ log _ here same c.in_ok-opening.opening.items c.in_ok-opening.ensures.words)
    c.in_ok-streams.streams.items (c.in_ok-streams.ensures.harts ∙ ap its_harts here)
    (moved rules _ log _ here same c.in_ok-streams.streams.items c.in_ok-streams.ensures.rows)

pub new-requires-clause-needs : goal.new-requires-clause-needs
new-requires-clause-needs g c =
    let plan = c.args.plan.now in
    let rules = g.L.Lifeguard.rules plan.guard in
    let log = plan.log.now.log in
    let here : c.log-log.result.now ≡ log = c.log-log.ensures ∙ ap its_log c.log.ensures in
    let same = ap g.L.Lifeguard.rules c.guard-guard.ensures in
    listed_needs rules log c.in_ok-copy.copy (c.in_ok-copy.ensures ∙ here) plan.log.now.lawful
    c.in_ok-opening.opening.items (opened rules _ log _ here same c.in_ok-opening.opening.items c.in_ok-opening.ensures.words)
    c.in_ok-streams.streams.items (c.in_ok-streams.ensures.harts ∙ ap its_harts here)
    (moved rules _ log _ here same c.in_ok-streams.streams.items c.in_ok-streams.ensures.rows)

pub returns-clause-agrees : goal.returns-clause-agrees
returns-clause-agrees g c =
    let plan = c.args.plan.now in
    let rules = g.L.Lifeguard.rules plan.guard in
    let log = plan.log.now.log in
    let here : c.log-log.result.now ≡ log = c.log-log.ensures ∙ ap its_log c.log.ensures in
    let same = ap g.L.Lifeguard.rules c.guard-guard.ensures in
    let made : listed c.new.result.log c.new.result.opening.items c.new.result.streams.items ≡ listed c.in_ok-copy.copy c.in_ok-opening.opening.items c.in_ok-streams.streams.items = (λ d. listed (c.new.ensures.log d) (c.new.ensures.opening d).items (c.new.ensures.streams d).items) in
    subst (Agrees (plan_of rules log)) (sym made) (listed_agrees rules log c.in_ok-copy.copy (c.in_ok-copy.ensures ∙ here) plan.log.now.lawful
    c.in_ok-opening.opening.items (opened rules _ log _ here same c.in_ok-opening.opening.items c.in_ok-opening.ensures.words)
    c.in_ok-streams.streams.items (c.in_ok-streams.ensures.harts ∙ ap its_harts here)
    (moved rules _ log _ here same c.in_ok-streams.streams.items c.in_ok-streams.ensures.rows))

pub returns-clause-course : goal.returns-clause-course
returns-clause-course g c =
    let plan = c.args.plan.now in
    let rules = g.L.Lifeguard.rules plan.guard in
    let log = plan.log.now.log in
    let here : c.log-log.result.now ≡ log = c.log-log.ensures ∙ ap its_log c.log.ensures in
    let same = ap g.L.Lifeguard.rules c.guard-guard.ensures in
    let made : listed c.new.result.log c.new.result.opening.items c.new.result.streams.items ≡ listed c.in_ok-copy.copy c.in_ok-opening.opening.items c.in_ok-streams.streams.items = (λ d. listed (c.new.ensures.log d) (c.new.ensures.opening d).items (c.new.ensures.streams d).items) in
    ap course_of made ∙ listed_course rules log c.in_ok-copy.copy (c.in_ok-copy.ensures ∙ here) plan.log.now.lawful
    c.in_ok-opening.opening.items (opened rules _ log _ here same c.in_ok-opening.opening.items c.in_ok-opening.ensures.words)
    c.in_ok-streams.streams.items (c.in_ok-streams.ensures.harts ∙ ap its_harts here)
    (moved rules _ log _ here same c.in_ok-streams.streams.items c.in_ok-streams.ensures.rows)
