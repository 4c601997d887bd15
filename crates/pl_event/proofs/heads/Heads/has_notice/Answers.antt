use Rattle.std.proofs.Common.{◌+◌, Bool, IsTrue, ◌↔◌, sym, subst}
use Rattle.pl_event.specs.Conflicts.{HasNotice}
use Rattle.pl_event.specs.Edges.{IsNotice}
use Rattle.pl_event.specs.Records.{records_before}
use Rattle.pl_event.proofs.Mosts.{most_some}
use Rattle.pl_event.proofs.heads.Heads.has_notice.Goals as goal

pub returns : goal.returns
returns c harts g i l flow st next =
    subst (λ (b : Bool). IsTrue b ↔ HasNotice g c.args.u c.args.hart (records_before c.args.hart g i + 1)) (sym c.is_some.ensures)
    (most_some (λ n. IsNotice g c.args.u n c.args.hart (records_before c.args.hart g i + 1)) c.notice.result (c.notice.ensures harts g i l flow st next))
