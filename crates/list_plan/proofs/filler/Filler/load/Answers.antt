use Rattle.std.proofs.Common.{ap, ◌∙◌}
use Rattle.shadow_layout.specs.Operations.{not_addr, not_taint}
use Rattle.list_plan.proofs.BlockLemmas.{loads_none, loads_some}
use Rattle.list_plan.proofs.filler.Filler.load.Goals as goal

pub returns-then-directory-eq0 : goal.returns-then-directory-eq0
returns-then-directory-eq0 g c = loads_none (g.L.Lifeguard.rules c.args.guard) c.args.size c.args.addr c.args.self.now c.read.new.self c.in_ok-directory.directory c.in_ok-directory.ensures.value c.in_ok-directory.ensures.fills c.if-directory-eq0.true

pub returns : goal.returns
returns g c = loads_some (g.L.Lifeguard.rules c.args.guard) c.args.size c.args.addr c.args.self.now c.read.new.self c.in_ok-directory.directory c.in_ok-directory.ensures.value c.in_ok-directory.ensures.fills c.if-directory-eq0.false
    c.shadow_word-word.result c.shadow_word-word.ensures.word c.lanes_of-lanes.result c.lanes_of-lanes.ensures.value c.checks_accesses.result c.follows_values.result
    (c.checks_accesses.ensures ∙ ap not_taint c.name.ensures) (c.follows_values.ensures ∙ ap not_addr c.name-2.ensures)
    c.read_if.new.self c.in_ok-read_if.ensures c.read_if-2.new.self c.in_ok-read_if-2.ensures
