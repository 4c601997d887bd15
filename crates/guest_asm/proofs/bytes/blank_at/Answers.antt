use Rattle.guest_asm.specs.Texts.{is_blank}
use Rattle.guest_asm.proofs.Positions.{no_place}
use Rattle.guest_asm.proofs.bytes.blank_at.Goals as goal

pub returns-in-None-clause-value : goal.returns-in-None-clause-value
returns-in-None-clause-value c = no_place is_blank c.args.text.now c.in-None.ensures
