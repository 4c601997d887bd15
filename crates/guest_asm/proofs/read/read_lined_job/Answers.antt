use Rattle.std.proofs.Common.{◌≡◌, List, Err, ap, map, ◌∙◌, rules}
use Rattle.guest_asm.specs.declared.scan.Row.{Row}
use Rattle.guest_asm.specs.Jobs.{placed, second_pass, HasFault}
use Rattle.guest_asm.specs.Scans.{defined}
use Rattle.guest_asm.specs.WordLines.{lines_of_rows}
use Rattle.guest_asm.proofs.Whole.{small, few_harts, has_schedule, has_steps, lined_of, valid_of, fault_of, if_fault}
use Rattle.guest_asm.proofs.LineCounts.{each_lined}
use Rattle.guest_asm.proofs.read.read_lined_job.Goals as goal

pub build-requires-clause-small : goal.build-requires-clause-small
build-requires-clause-small c = let k = c.in_ok-scan.ensures.ok in small c.args.bytes.now c.in_ok-scan.scan k.0 k.1 k.2

pub build-requires-clause-harts : goal.build-requires-clause-harts
build-requires-clause-harts c = let k = c.in_ok-scan.ensures.ok in few_harts c.args.bytes.now c.in_ok-scan.scan k.0 k.1 k.2

pub build-requires-clause-schedule : goal.build-requires-clause-schedule
build-requires-clause-schedule c = let k = c.in_ok-scan.ensures.ok in has_schedule c.args.bytes.now c.in_ok-scan.scan k.0 k.1 k.2

pub build-requires-clause-steps : goal.build-requires-clause-steps
build-requires-clause-steps c = let k = c.in_ok-scan.ensures.ok in has_steps c.args.bytes.now c.in_ok-scan.scan k.0 k.1 k.2

pub returns-clause-ok : goal.returns-clause-ok
returns-clause-ok c =
    let k = c.in_ok-scan.ensures.ok in
    lined_of c.args.bytes.now c.in_ok-scan.scan k.0 k.1 k.2 c.in_ok-job.job c.in_ok-job.ensures.ok c.in_ok-lines.lines.items
    (c.in_ok-lines.ensures ∙ ap (λ (rows : List Row). lines_of_rows (map placed rows)) c.as_slice.ensures.value)

pub returns-clause-valid : goal.returns-clause-valid
returns-clause-valid c =
    let k = c.in_ok-scan.ensures.ok in
    valid_of c.args.bytes.now c.in_ok-scan.scan k.0 k.1 k.2 c.in_ok-job.job c.in_ok-job.ensures.ok (c.in_ok-job.ensures.drawn, c.in_ok-job.ensures.typed)

pub returns-clause-lined : goal.returns-clause-lined
returns-clause-lined c =
    let k = c.in_ok-scan.ensures.ok in
    each_lined c.args.bytes.now c.in_ok-job.job c.in_ok-lines.lines.items
    (lined_of c.args.bytes.now c.in_ok-scan.scan k.0 k.1 k.2 c.in_ok-job.job c.in_ok-job.ensures.ok c.in_ok-lines.lines.items
    (c.in_ok-lines.ensures ∙ ap (λ (rows : List Row). lines_of_rows (map placed rows)) c.as_slice.ensures.value))

pub returns-in_err-job-clause-fault : goal.returns-in_err-job-clause-fault
returns-in_err-job-clause-fault c =
    let k = c.in_ok-scan.ensures.ok in
    let scan = c.in_ok-scan.scan in
    if_fault (λ fault. second_pass (defined scan.labels) (map placed scan.rows.items) ≡ Err fault) (HasFault c.args.bytes.now) c.from_residual-in_err-job.result
    (fault_of c.args.bytes.now scan k.0 k.1 k.2) (search rules)
