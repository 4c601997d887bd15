use Rattle.log_text.proofs.take.take_row.Goals as goal

pub returns-in-Event-clause-judged : goal.returns-in-Event-clause-judged
returns-in-Event-clause-judged c = rw c.in-Event.is c.take_known.ensures.judged

pub returns-in-Event-clause-keeps : goal.returns-in-Event-clause-keeps
returns-in-Event-clause-keeps c = rw c.in-Event.is c.take_known.ensures.keeps

pub returns-in-Notice-clause-judged : goal.returns-in-Notice-clause-judged
returns-in-Notice-clause-judged c = rw c.in-Notice.is c.take_notice.ensures.judged

pub returns-in-Notice-clause-keeps : goal.returns-in-Notice-clause-keeps
returns-in-Notice-clause-keeps c = rw c.in-Notice.is c.take_notice.ensures.keeps
