use Rattle.std.proofs.Common.{◌≡◌, take, map}
use Rattle.pl_event.specs.Numbers.{events_of}
use Rattle.replay_probes.specs.Plays.{Plays}
use Rattle.replay_probes.proofs.played.play.Given as goal

abbrev pub invariant-loop-i : goal.invariant-loop-i
invariant-loop-i g l = let p = g.B.Probe in record {
  plays : Plays p.meaning p.has_seen (g.L.Lifeguard.rules l.fn.l) l.fn.pages (map p.meaning l.fn.probes.items) (events_of (take l.i l.lines)) l.replayer.monitor.shadow l.replayer.audience;
  guard : l.replayer.monitor.guard ≡ l.fn.l;
  harts : l.replayer.monitor.harts ≡ l.fn.harts;
}
