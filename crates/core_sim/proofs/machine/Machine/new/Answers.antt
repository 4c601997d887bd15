use Rattle.std.proofs.Common.{◌≡◌, length, take, ap, ◌∙◌, arith}
use Rattle.std.proofs.lemmas.List.{length-take}
use Rattle.core_sim.proofs.Starts.{length_begin}
use Rattle.core_sim.proofs.machine.Machine.new.Goals as goal

pub invariant_of-result : goal.invariant_of-result
invariant_of-result c =
    let count : length c.in_ok-start_harts.field-0.items ≡ length (take c.from-harts.result c.args.job.now.entries) = ap length c.in_ok-start_harts.ensures ∙ length_begin _ 0 in
    omega (arith, count, length-take c.from-harts.result c.args.job.now.entries, c.from-harts.ensures, c.requires.few_harts)
