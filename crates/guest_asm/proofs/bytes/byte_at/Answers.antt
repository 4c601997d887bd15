use Rattle.std.proofs.Common.{eqb}
use Rattle.guest_asm.proofs.Positions.{no_place}
use Rattle.guest_asm.proofs.bytes.byte_at.Goals as goal

pub returns-in-None-clause-value : goal.returns-in-None-clause-value
returns-in-None-clause-value c = no_place (λ b. eqb b c.args.cut) c.args.text.now c.in-None.ensures
