use Rattle.pl_event.proofs.Needed.{needs_arcs}
use Rattle.pl_event.proofs.heads.Heads.needs.Goals as goal

pub returns-in-None : goal.returns-in-None
returns-in-None c harts g i flow st next =
    needs_arcs harts g flow i c.args.hart c.args.line.now next c.args.self.now st c.requires.hart
    (c.may_be_named.ensures c.if-may_be_named.false) c.eight.result c.eight.ensures.long c.eight.ensures.same c.in-None.is
