use Rattle.log_grammar.specs.Begins.{BeginsWithNoRow}
use Rattle.log_grammar.proofs.ArcReading.{if_none}
use Rattle.log_grammar.proofs.LineTexts.{no_record, no_end, row_found}
use Rattle.log_grammar.proofs.grammar.row_at.Goals as goal

pub returns-in_err-what-clause-missed : goal.returns-in_err-what-clause-missed
returns-in_err-what-clause-missed c = if_none c.from_residual.result (BeginsWithNoRow c.args.bytes.now) c.from_residual.ensures (no_record c.args.bytes.now c.in_err-what.ensures)

pub returns-in_default-clause-missed : goal.returns-in_default-clause-missed
returns-in_default-clause-missed c = no_end c.args.bytes.now c.in_ok-what.what c.in_ok-what.rest c.in_ok-what.ensures c.in_default.ensures.missed

pub returns-clause-found : goal.returns-clause-found
returns-clause-found c = row_found c.args.bytes.now c.in_ok-what.what c.in_ok-what.rest c.in-Some.has_arcs c.end_at.new.list c.in-Some.rest.now c.in_ok-what.ensures c.in-Some.ensures.found
