use Rattle.log_grammar.specs.Begins.{EndsWithNone}
use Rattle.log_grammar.proofs.ArcReading.{ends_unlisted, ends_unfed, ends_listed, if_none}
use Rattle.log_grammar.proofs.grammar.arcs.arcs_at.Goals as goal

pub returns-in_default-list_at-clause-missed : goal.returns-in_default-list_at-clause-missed
returns-in_default-list_at-clause-missed c =
    ends_unlisted c.args.what c.args.text.now c.in_ok-rest.rest.now (λ after e. c.in_default.ensures.every after e) c.in_ok-rest.ensures.found c.in_default-list_at.ensures.missed

pub returns-in_err-rest-2-clause-missed : goal.returns-in_err-rest-2-clause-missed
returns-in_err-rest-2-clause-missed c =
    if_none c.from_residual-in_err-rest-2.result (EndsWithNone c.args.what c.args.text.now) c.from_residual-in_err-rest-2.ensures
    (ends_unfed c.args.what c.args.text.now c.in_ok-rest.rest.now c.in-Some-list_at.rest.now c.list_at.new.list (λ after e. c.in_default.ensures.every after e) c.in_ok-rest.ensures.found c.in-Some-list_at.ensures.found
    (λ after e. c.in_err-rest-2.ensures.every after e))

pub returns-clause-found : goal.returns-clause-found
returns-clause-found c =
    ends_listed c.args.what c.args.text.now c.in_ok-rest.rest.now c.in-Some-list_at.rest.now c.in_ok-rest-2.rest.now c.list_at.new.list c.requires (λ after e. c.in_default.ensures.every after e) c.in_ok-rest.ensures.found
    c.in-Some-list_at.ensures.found c.in_ok-rest-2.ensures.found
