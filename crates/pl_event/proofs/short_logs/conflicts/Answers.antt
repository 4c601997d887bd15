use Rattle.pl_event.proofs.ShortLogs.{load_store, store_load, stores, loads, blocks, alert_access, access_alert, alerts, others}
use Rattle.pl_event.proofs.short_logs.conflicts.Goals as goal

pub returns-clause-load_store : goal.returns-clause-load_store
returns-clause-load_store c size x y a b apart = load_store size x y a b apart

pub returns-clause-store_load : goal.returns-clause-store_load
returns-clause-store_load c size x y a b apart = store_load size x y a b apart

pub returns-clause-stores : goal.returns-clause-stores
returns-clause-stores c size x y a b apart = stores size x y a b apart

pub returns-clause-loads : goal.returns-clause-loads
returns-clause-loads c size x y a b apart = loads size x y a b apart

pub returns-clause-blocks : goal.returns-clause-blocks
returns-clause-blocks c size x y a b apart = blocks size x y a b apart

pub returns-clause-alert_access : goal.returns-clause-alert_access
returns-clause-alert_access c size a b apart = alert_access size a b apart

pub returns-clause-access_alert : goal.returns-clause-access_alert
returns-clause-access_alert c size a b apart = access_alert size a b apart

pub returns-clause-alerts : goal.returns-clause-alerts
returns-clause-alerts c size a b apart = alerts size a b apart

pub returns-clause-others : goal.returns-clause-others
returns-clause-others c size a b apart = others size a b apart
