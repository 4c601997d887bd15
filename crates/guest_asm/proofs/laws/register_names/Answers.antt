use Rattle.guest_asm.proofs.Named.{named, numbered}
use Rattle.guest_asm.proofs.laws.register_names.Goals as goal

pub returns-clause-named : goal.returns-clause-named
returns-clause-named c = named

pub returns-clause-numbered : goal.returns-clause-numbered
returns-clause-numbered c = numbered
