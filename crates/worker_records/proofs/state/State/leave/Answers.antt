use Rattle.worker_records.proofs.PlainLemmas.{still_made}
use Rattle.worker_records.proofs.state.State.leave.Goals as goal

pub returns : goal.returns
returns c rules v kind next still = still_made rules v c.args.self.now kind next still
