use Rattle.std.proofs.Common.{◌↔◌, ℕ, Bool, IsTrue, sym, subst}
use Rattle.std.specs.Bool.{MatchBool}
use Rattle.pl_event.specs.Conflicts.{HasNotice}
use Rattle.log_check.proofs.Positions.{next_of}
use Rattle.log_check.proofs.Tracing.{not_alert}
use Rattle.log_check.proofs.partner.Later.is_noticed.Goals as goal

pub returns-in_default : goal.returns-in_default
returns-in_default c harts g x at n m a later earlier tells =
    let b = c.args.self.now.event in
    subst (λ (s : Bool). IsTrue c.has_notice.result ↔ MatchBool s (HasNotice g b.hart a.hart n) (HasNotice g a.hart b.hart m))
    (sym (not_alert g a n c.args.part earlier.kind c.in_default.not-Alert))
    (subst (λ (z : ℕ × ℕ). IsTrue c.has_notice.result ↔ HasNotice g z.0 b.hart z.1) (λ d. (sym earlier.own d, later.event.1.number d))
    (c.has_notice.ensures harts g at later.event.0 later.flow tells (next_of g at m b later.event)))
