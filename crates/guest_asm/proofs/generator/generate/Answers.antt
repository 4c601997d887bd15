use Rattle.guest_asm.proofs.Whole.{if_ok, if_ok_both}
use Rattle.guest_asm.proofs.Generated.{one_generated, valid_generated}
use Rattle.guest_asm.proofs.generator.generate.Goals as goal

pub returns-clause-one : goal.returns-clause-one
returns-clause-one c = if_ok _ _ c.job.result (λ job of other text. one_generated c.args.s c.args.z other job text of) c.job.ensures.job

pub returns-clause-valid : goal.returns-clause-valid
returns-clause-valid c = if_ok_both _ _ _ c.job.result (λ job of typed. valid_generated c.args.s c.args.z job c.ranges.s.fits c.requires.few of typed) c.job.ensures.job c.job.ensures.typed
