use Rattle.std.proofs.Common.{ℕ, sym, subst}
use Rattle.pl_event.specs.Heads.{IsNext}
use Rattle.pl_event.proofs.Before.{fed_event}
use Rattle.pl_event.proofs.heads.Heads.fed.Goals as goal

pub returns-in-Event : goal.returns-in-Event
returns-in-Event c harts g i flow st next = fed_event g i c.args.line.now c.args.self.now st next.at c.requires.hart c.in-Event.field-0 c.in-Event.is c.record_hart-hart.result c.record_hart-hart.ensures c.needs-needs.result
    (c.needs-needs.ensures harts g i flow st (subst (λ (z : ℕ). IsNext g i z c.args.line.now) (sym c.record_hart-hart.ensures) next))
