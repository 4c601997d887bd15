use Rattle.std.proofs.Common.{◌≡◌, None, Some, sym, ap, ◌∙◌}
use Rattle.pl_event.specs.declared.log.Point.{Point}
use Rattle.pl_event.proofs.Before.{most_after}
use Rattle.pl_event.proofs.heads.Heads.noticed.Goals as goal

pub returns-in-None : goal.returns-in-None
returns-in-None c harts g i l flow st next = (most_after harts g flow i c.args.hart l next c.args.self.now st c.args.u c.requires.hart).1 (λ p e x. absurd (let t : None ≡ Some p = sym c.in-None.is ∙ e in cc))

pub returns-then-of-u : goal.returns-then-of-u
returns-then-of-u c harts g i l flow st next = (most_after harts g flow i c.args.hart l next c.args.self.now st c.args.u c.requires.hart).0 c.in-Some.of c.in-Some.is c.if-of-u.true

pub returns-else-of-u : goal.returns-else-of-u
returns-else-of-u c harts g i l flow st next = (most_after harts g flow i c.args.hart l next c.args.self.now st c.args.u c.requires.hart).1 (λ p e x.
    let s : Some c.in-Some.of ≡ Some p = sym c.in-Some.is ∙ e in
    let same : c.in-Some.of ≡ p = cc in
    c.if-of-u.false (ap (λ (z : Point). z.hart) same ∙ x))
