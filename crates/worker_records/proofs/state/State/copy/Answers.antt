use Rattle.worker_records.proofs.PlainLemmas.{copy_made}
use Rattle.worker_records.proofs.state.State.copy.Goals as goal

pub returns : goal.returns
returns c rules v next = copy_made rules v c.args.self.now c.copy.new.self c.args.rd c.args.rs c.requires.register c.requires.source c.copy.ensures next
