use Rattle.std.proofs.Common.{codes}
use Rattle.log_grammar.specs.Begins.{BeginsWithNoHeader}
use Rattle.log_grammar.proofs.ArcReading.{if_none}
use Rattle.log_grammar.proofs.LineTexts.{no_front, not_first, not_second, no_harts, no_word, closes_one, closes_two, first_header, second_header}
use Rattle.log_grammar.proofs.grammar.header_at.Goals as goal

pub returns-in_err-harts-clause-missed : goal.returns-in_err-harts-clause-missed
returns-in_err-harts-clause-missed c =
    if_none c.from_residual.result (BeginsWithNoHeader c.args.bytes.now) c.from_residual.ensures
    (not_first c.args.bytes.now c.in-Some.rest.now c.in-Some.ensures.found (no_harts c.in-Some.rest.now (codes " block 16\n") closes_one c.in_err-harts.ensures))

pub returns-in_err-rest-clause-missed : goal.returns-in_err-rest-clause-missed
returns-in_err-rest-clause-missed c =
    if_none c.from_residual-in_err-rest.result (BeginsWithNoHeader c.args.bytes.now) c.from_residual-in_err-rest.ensures
    (not_first c.args.bytes.now c.in-Some.rest.now c.in-Some.ensures.found
    (no_word c.in-Some.rest.now (codes " block 16\n") c.in_ok-harts.harts c.in_ok-harts.rest closes_one c.in_ok-harts.ensures (λ rest e. c.in_err-rest.ensures.every rest e)))

pub returns-in-Some-clause-found : goal.returns-in-Some-clause-found
returns-in-Some-clause-found c =
    first_header c.args.bytes.now c.in-Some.rest.now c.in_ok-harts.harts c.in_ok-harts.rest c.in_ok-rest.rest.now c.in-Some.ensures.found c.in_ok-harts.ensures c.in_ok-rest.ensures.found

pub returns-in_err-rest-2-clause-missed : goal.returns-in_err-rest-2-clause-missed
returns-in_err-rest-2-clause-missed c =
    if_none c.from_residual-in_err-rest-2.result (BeginsWithNoHeader c.args.bytes.now) c.from_residual-in_err-rest-2.ensures
    (no_front c.args.bytes.now (λ rest e. c.in_default.ensures.every rest e) (λ rest e. c.in_err-rest-2.ensures.every rest e))

pub returns-in_err-harts-2-clause-missed : goal.returns-in_err-harts-2-clause-missed
returns-in_err-harts-2-clause-missed c =
    if_none c.from_residual-in_err-harts-2.result (BeginsWithNoHeader c.args.bytes.now) c.from_residual-in_err-harts-2.ensures
    (not_second c.args.bytes.now c.in_ok-rest-2.rest.now c.in_ok-rest-2.ensures.found (no_harts c.in_ok-rest-2.rest.now (codes " block 4\n") closes_two c.in_err-harts-2.ensures))

pub returns-in_err-rest-3-clause-missed : goal.returns-in_err-rest-3-clause-missed
returns-in_err-rest-3-clause-missed c =
    if_none c.from_residual-in_err-rest-3.result (BeginsWithNoHeader c.args.bytes.now) c.from_residual-in_err-rest-3.ensures
    (not_second c.args.bytes.now c.in_ok-rest-2.rest.now c.in_ok-rest-2.ensures.found
    (no_word c.in_ok-rest-2.rest.now (codes " block 4\n") c.in_ok-harts-2.harts c.in_ok-harts-2.rest closes_two c.in_ok-harts-2.ensures (λ rest e. c.in_err-rest-3.ensures.every rest e)))

pub returns-clause-found : goal.returns-clause-found
returns-clause-found c =
    second_header c.args.bytes.now c.in_ok-rest-2.rest.now c.in_ok-harts-2.harts c.in_ok-harts-2.rest c.in_ok-rest-3.rest.now c.in_ok-rest-2.ensures.found c.in_ok-harts-2.ensures c.in_ok-rest-3.ensures.found
