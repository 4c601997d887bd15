use Rattle.std.proofs.Common.{rules}
use Rattle.core_sim.specs.Valid.{HasTypedNumbers}
use Rattle.guest_asm.specs.Jobs.{IsDrawn}
use Rattle.guest_asm.proofs.Whole.{small, few_harts, has_schedule, has_steps, if_ok, if_ok_both, if_fault, text_of, valid_of, fault_of}
use Rattle.guest_asm.proofs.Verdicts.{fault_no_job}
use Rattle.guest_asm.proofs.One.{one_job}
use Rattle.guest_asm.proofs.read.read_job.Goals as goal

pub build-requires-clause-small : goal.build-requires-clause-small
build-requires-clause-small c = let k = c.in_ok-scan.ensures.ok in small c.args.bytes.now c.in_ok-scan.scan k.0 k.1 k.2

pub build-requires-clause-harts : goal.build-requires-clause-harts
build-requires-clause-harts c = let k = c.in_ok-scan.ensures.ok in few_harts c.args.bytes.now c.in_ok-scan.scan k.0 k.1 k.2

pub build-requires-clause-schedule : goal.build-requires-clause-schedule
build-requires-clause-schedule c = let k = c.in_ok-scan.ensures.ok in has_schedule c.args.bytes.now c.in_ok-scan.scan k.0 k.1 k.2

pub build-requires-clause-steps : goal.build-requires-clause-steps
build-requires-clause-steps c = let k = c.in_ok-scan.ensures.ok in has_steps c.args.bytes.now c.in_ok-scan.scan k.0 k.1 k.2

pub returns-clause-ok : goal.returns-clause-ok
returns-clause-ok c = let k = c.in_ok-scan.ensures.ok in if_ok _ _ c.build.result (text_of c.args.bytes.now c.in_ok-scan.scan k.0 k.1 k.2) c.build.ensures.ok

pub returns-clause-valid : goal.returns-clause-valid
returns-clause-valid c = let k = c.in_ok-scan.ensures.ok in if_ok_both _ _ _ c.build.result (valid_of c.args.bytes.now c.in_ok-scan.scan k.0 k.1 k.2) c.build.ensures.ok
    (if_ok_both _ _ (λ job. IsDrawn job.schedule × HasTypedNumbers job) c.build.result (λ job drawn typed. (drawn, typed)) c.build.ensures.drawn c.build.ensures.typed)

pub returns-clause-fault : goal.returns-clause-fault
returns-clause-fault c = let k = c.in_ok-scan.ensures.ok in if_fault _ _ c.build.result (fault_of c.args.bytes.now c.in_ok-scan.scan k.0 k.1 k.2) c.build.ensures.fault

pub returns-clause-one : goal.returns-clause-one
returns-clause-one c =
    let k = c.in_ok-scan.ensures.ok in
    if_ok _ _ c.build.result (λ job of other text. one_job c.args.bytes.now other job text (text_of c.args.bytes.now c.in_ok-scan.scan k.0 k.1 k.2 job of)) c.build.ensures.ok

pub returns-clause-none : goal.returns-clause-none
returns-clause-none c =
    let k = c.in_ok-scan.ensures.ok in
    fault_no_job c.args.bytes.now c.build.result (if_fault _ _ c.build.result (fault_of c.args.bytes.now c.in_ok-scan.scan k.0 k.1 k.2) c.build.ensures.fault)

pub returns-in_err-scan-clause-none : goal.returns-in_err-scan-clause-none
returns-in_err-scan-clause-none c = fault_no_job c.args.bytes.now c.from_residual.result (search rules)
