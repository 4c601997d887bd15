use Rattle.std.proofs.Common.{ap, sym, ◌∙◌}
use Rattle.pl_event.specs.inner.Later.{later}
use Rattle.pl_event.proofs.Before.{is_need}
use Rattle.pl_event.proofs.heads.Heads.need.Goals as goal

pub returns : goal.returns
returns c harts g i flow st next =
    c.later-2.ensures ∙ (ap (later c.get.result) c.later.ensures
    ∙ is_need harts g flow i c.args.hart c.args.line.now next c.args.u c.get.result c.notice.result c.noticed.result (sym c.get.ensures) (c.notice.ensures harts g i c.args.line.now flow st next) (c.noticed.ensures harts g i c.args.line.now flow st next))
