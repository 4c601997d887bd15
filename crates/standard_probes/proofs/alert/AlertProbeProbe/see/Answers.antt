use Rattle.std.proofs.Common.{◌∙◌, ap, sym}
use Rattle.std.specs.Prelude.{is_some}
use Rattle.replay_probes.specs.declared.probe.Shown.{Shown}
use Rattle.standard_probes.specs.Probes.{first_alert_of}
use Rattle.standard_probes.proofs.Tallying.{first_alert-last}
use Rattle.standard_probes.proofs.alert.AlertProbeProbe.see.Goals as goal

pub returns-clause-seen : goal.returns-clause-seen
returns-clause-seen c = λ seen is.
    let shown : Shown = record { place = c.args.place; number = c.args.number; event = c.args.event.now } in
    c.first_of-first.ensures ∙ ap (λ first. first_alert_of first shown) is ∙ sym (first_alert-last seen shown)

pub returns-clause-stop : goal.returns-clause-stop
returns-clause-stop c = λ seen is.
    let shown : Shown = record { place = c.args.place; number = c.args.number; event = c.args.event.now } in
    c.see_of.ensures ∙ ap is_some (c.first_of-first.ensures ∙ ap (λ first. first_alert_of first shown) is ∙ sym (first_alert-last seen shown))
