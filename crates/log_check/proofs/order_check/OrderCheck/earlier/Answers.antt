use Rattle.pl_event.proofs.Before.{got}
use Rattle.log_check.proofs.Clearing.{clear_nothing}
use Rattle.log_check.proofs.Positions.{not_notice}
use Rattle.log_check.proofs.order_check.OrderCheck.earlier.Goals as goal

pub returns-in-Notice : goal.returns-in-Notice
returns-in-Notice c log at may = clear_nothing log.block log.lines at at
    (not_notice log.lines at c.args.line.now c.in-Notice.hart c.in-Notice.of (got log.lines at c.args.line.now may.here) c.in-Notice.is)
