use Rattle.std.proofs.Common.{refl}
use Rattle.replay_probes.proofs.Going.{watched_first}
use Rattle.replay_probes.proofs.audience.Audience.new.Goals as goal

pub returns-clause-watched : goal.returns-clause-watched
returns-clause-watched g c = watched_first g.B.Probe.meaning g.B.Probe.has_seen c.args.probes.items _ c.requires refl c.in_ok-begin.ensures
