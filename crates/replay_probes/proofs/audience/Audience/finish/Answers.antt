use Rattle.std.proofs.Common.{◌∙◌, map}
use Rattle.std.proofs.lemmas.List.{length-map}
use Rattle.replay_probes.proofs.Telling.{told_lines}
use Rattle.replay_probes.proofs.audience.Audience.finish.Goals as goal

pub returns : goal.returns
returns g c = λ meanings events watched. let p = g.B.Probe in
    told_lines p.meaning p.has_seen c.args.self.watches.items meanings (map (λ line. line.items) c.in_ok-lines.lines.items) events
    (length-map c.in_ok-lines.lines.items (λ line. line.items) ∙ c.in_ok-lines.ensures.long) watched.many c.in_ok-lines.ensures.told watched.telling
