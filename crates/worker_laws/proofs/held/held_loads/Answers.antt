use Rattle.std.proofs.Common.{sym, ◌∙◌}
use Rattle.order_core.specs.Course.{course_of}
use Rattle.order_core.proofs.Known.{known}
use Rattle.worker_laws.proofs.Turning.{directory_found, kept_resolved, mask_found}
use Rattle.worker_laws.proofs.held.held_loads.Goals as goal

pub returns-clause-held : goal.returns-clause-held
returns-clause-held _ p run h n r from v parts kept lt e = kept.right.held r from lt e

pub returns-clause-directory : goal.returns-clause-directory
returns-clause-directory _ p run h n r x from v parts kept lt e low has = directory_found p run (known (course_of p.plan) run.lawful) h v n parts kept r from lt e x low has

pub returns-clause-mask : goal.returns-clause-mask
returns-clause-mask _ p run h n r x from v parts kept lt e has =
    mask_found p run (known (course_of p.plan) run.lawful) h v n parts kept r from lt e x has ∙ sym (kept.right.held r from lt e).mask_is

pub returns-clause-resolved : goal.returns-clause-resolved
returns-clause-resolved _ p run h n r x from states v parts kept lt e has resolved =
    kept_resolved p run (known (course_of p.plan) run.lawful) h v n parts kept r from lt e x states has resolved
