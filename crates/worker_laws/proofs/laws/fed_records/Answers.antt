use Rattle.std.proofs.Common.{ap, ◌∙◌}
use Rattle.pl_event.proofs.Sources.{found}
use Rattle.worker_laws.specs.Runs.{kind_in, kind_of}
use Rattle.worker_laws.proofs.Access.{near}
use Rattle.worker_laws.proofs.Feeding.{fed_record, fed_within}
use Rattle.worker_laws.proofs.Own.{event_reports}
use Rattle.worker_laws.proofs.laws.fed_records.Goals as goal

pub returns-clause-record : goal.returns-clause-record
returns-clause-record _ p h fed has n lt = fed_record p h fed has n lt

pub returns-clause-within : goal.returns-clause-within
returns-clause-within _ p h fed has n lt = fed_within p h fed has n lt

pub returns-clause-kind : goal.returns-clause-kind
returns-clause-kind _ p i h m line event is what = ap kind_in (found p.plan.log.lines i h m line is) ∙ ap kind_of what

pub returns-clause-reports : goal.returns-clause-reports
returns-clause-reports _ p run i h m line event is what = event_reports p run h i m line is event what

pub returns-clause-near : goal.returns-clause-near
returns-clause-near _ p run h m kind c is reach = near p run h m kind c is reach
