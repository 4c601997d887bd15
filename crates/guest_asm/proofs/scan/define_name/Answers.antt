use Rattle.guest_asm.proofs.Labels.{added}
use Rattle.guest_asm.proofs.scan.define_name.Goals as goal

pub returns : goal.returns
returns c = added c.args.labels.now c.insert.new.self c.args.name c.args.address c.requires c.in_ok-insert.ensures.entries
