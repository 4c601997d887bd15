use Rattle.std.proofs.Common.{◌∙◌, ap, ℕ, Option, Some}
use Rattle.pl_event.specs.inner.Later.{later}
use Rattle.pl_event.proofs.Needed.{needs_event, needs_no_event}
use Rattle.pl_event.proofs.heads.Heads.needs_after.Goals as goal

pub returns-then-of-lt8 : goal.returns-then-of-lt8
returns-then-of-lt8 c harts g i flow st next =
    c.set.ensures ∙ needs_event harts g flow i c.args.hart c.args.line.now next c.args.self.now st c.requires.hart c.requires.named
    c.args.of c.requires.of c.if-of-lt8.true c.eight-needs.result c.eight-needs.ensures.long c.eight-needs.ensures.same
    c.later-number.result (c.later-number.ensures ∙ ap (λ (z : Option ℕ). later z (Some c.args.of.number)) c.get.ensures)

pub returns-else-of-lt8 : goal.returns-else-of-lt8
returns-else-of-lt8 c harts g i flow st next =
    needs_no_event harts g flow i c.args.hart c.args.line.now next c.args.self.now st c.requires.hart c.requires.named
    c.args.of c.requires.of c.if-of-lt8.false c.eight-needs.result c.eight-needs.ensures.long c.eight-needs.ensures.same
