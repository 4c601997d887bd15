use Rattle.worker_records.proofs.PlainLemmas.{clear_made}
use Rattle.worker_records.proofs.state.State.clear.Goals as goal

pub returns : goal.returns
returns c rules v kind next is = clear_made rules v c.args.self.now c.set.new.self c.args.rd c.requires c.set.ensures kind next is
