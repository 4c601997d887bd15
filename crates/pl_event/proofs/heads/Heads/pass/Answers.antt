use Rattle.std.proofs.Common.{rules, ◌+◌, subst, sym}
use Rattle.pl_event.specs.declared.heads.Heads.{Heads}
use Rattle.pl_event.specs.Heads.{Tells}
use Rattle.pl_event.proofs.Before.{pass_event, pass_notice}
use Rattle.pl_event.proofs.heads.Heads.pass.Goals as goal

pub returns-in-Event : goal.returns-in-Event
returns-in-Event c harts g i flow st next =
    pass_event harts g flow i c.args.line.now next c.args.self.now st c.requires.hart (search rules) (search rules) (search rules) c.in-Event.field-0 c.in-Event.is c.record_hart-hart.result c.record_hart-hart.ensures

pub returns-in-Notice : goal.returns-in-Notice
returns-in-Notice c harts g i flow st next =
    subst (λ (z : Heads). Tells z g (i + 1)) (sym c.name.ensures.others)
    (pass_notice harts g flow i c.args.line.now next c.args.self.now st c.requires.hart (search rules) (search rules) c.in-Notice.hart c.in-Notice.of c.in-Notice.is
    c.record_hart-hart.result c.record_hart-hart.ensures c.name.new.self.awaited c.name.ensures.kept c.name.ensures.named)
