use Rattle.std.proofs.Common.{◌∙◌, ℕ, List, ap, sym, length, take}
use Rattle.core_sim.specs.declared.hart.Standing.{Standing}
use Rattle.paralog_top.proofs.RunLemmas.{length_harts}
use Rattle.paralog_top.proofs.run.tell.Goals as goal

pub ends-requires : goal.ends-requires
ends-requires c =
    ap (λ (harts : List Standing). length harts) c.requires.stands.harts
    ∙ length_harts c.args.job.now c.requires.entries
    ∙ ap (λ (n : ℕ). length (take n c.args.job.now.entries)) (sym c.from.ensures)
