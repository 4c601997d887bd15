use Rattle.std.proofs.Common.{◌≡◌, ◌<◌, ◌≤◌, ℕ, slice_index_or}
use Rattle.replay_probes.specs.declared.watch.Watch.{Watch}
use Rattle.replay_probes.specs.Watches.{IsShown}
use Rattle.replay_probes.proofs.watches.show_all.Given as goal

abbrev pub invariant-loop-k : goal.invariant-loop-k
invariant-loop-k g l = let p = g.B.Probe in record {
  done : (j : ℕ) (watch : Watch g.row.B.Denot) → j < l.k → IsShown p.meaning p.has_seen l.fn.shown (slice_index_or l.initial.watches j watch) (slice_index_or l.watches j watch);
  later : (j : ℕ) (watch : Watch g.row.B.Denot) → l.k ≤ j → slice_index_or l.watches j watch ≡ slice_index_or l.initial.watches j watch;
}
