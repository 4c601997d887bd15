use Rattle.std.proofs.Common.{◌≡◌, ◌<◌, ℕ, [], length, map, slice_index_or}
use Rattle.replay_probes.specs.declared.watch.Watch.{Watch}
use Rattle.replay_probes.specs.Watches.{IsLineOf}
use Rattle.replay_probes.proofs.watches.end_all.Given as goal

abbrev pub invariant-loop-watch : goal.invariant-loop-watch
invariant-loop-watch g l = let p = g.B.Probe in record {
  long : length l.lines.items ≡ length l.yielded;
  told : (k : ℕ) (watch : Watch g.row.B.Denot) → k < length l.yielded → IsLineOf p.meaning p.has_seen (slice_index_or l.yielded k watch) (slice_index_or (map (λ line. line.items) l.lines.items) k []);
}
