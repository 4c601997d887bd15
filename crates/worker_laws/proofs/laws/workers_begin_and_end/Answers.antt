use Rattle.std.proofs.Common.{◌∙◌}
use Rattle.order_core.specs.Course.{course_of}
use Rattle.order_core.proofs.Known.{known}
use Rattle.worker_laws.proofs.Ending.{all_checks, end_masks, end_reports, kept_first}
use Rattle.worker_laws.proofs.laws.workers_begin_and_end.Goals as goal

pub returns-clause-begins : goal.returns-clause-begins
returns-clause-begins _ p run h v none low = kept_first p run (known (course_of p.plan) run.lawful) h v none low

pub returns-clause-reports : goal.returns-clause-reports
returns-clause-reports _ p run h v parts kept = end_reports p run (known (course_of p.plan) run.lawful) h v parts kept

pub returns-clause-masks : goal.returns-clause-masks
returns-clause-masks _ p run h v parts kept r mask lt e = end_masks p run (known (course_of p.plan) run.lawful) h v parts kept r mask lt e

pub returns-clause-checks : goal.returns-clause-checks
returns-clause-checks _ p run h v parts kept = kept.counted.checks ∙ all_checks p h
