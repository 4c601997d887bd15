use Rattle.std.proofs.Common.{◌≡◌, ℕ, true, false, sym, ◌∙◌, subst}
use Rattle.pl_event.specs.Conflicts.{HasNotice}
use Rattle.log_check.proofs.Positions.{next_of}
use Rattle.log_check.proofs.Watching.{clear_alerts}
use Rattle.log_check.proofs.alerts.AlertWatch.suspects.Goals as goal

pub returns-else-self-hart : goal.returns-else-self-hart
returns-else-self-hart c e harts g i m flow few tells is watched =
    let b = c.args.event.now in
    clear_alerts g i m b is harts flow few c.args.self.now watched c.if-self-hart.false
    (λ alert u low apart active. subst (λ (z : ℕ). HasNotice g u b.hart z) is.1.number (c.lacks.ensures e harts g i is.0 flow tells (next_of g i m b is) u low apart active))

pub returns-then-is_access : goal.returns-then-is_access
returns-then-is_access c e harts g i m flow few tells is watched =
    clear_alerts g i m c.args.event.now is harts flow few c.args.self.now watched e
    (λ alert u low apart active. absurd (let f : false ≡ true = sym c.if-is_alert.false ∙ (c.is_alert.ensures ∙ alert) in cc))
