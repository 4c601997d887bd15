use Rattle.std.proofs.Common.{◌≡◌, ℕ, length, take}
use mathlib.Core.Option.{some}
use lib.ListN.{get_elem?}
use Rattle.pl_event.specs.Feeds.{feds}
use Rattle.ring_feed.specs.declared.outlet.Outlet.{Outlet}
use Rattle.ring_feed.specs.Outlets.{IsOutlet, rings_of}
use Rattle.ring_feed.proofs.rings.outlets_of.Given as goal

abbrev pub invariant-loop-pass : goal.invariant-loop-pass
invariant-loop-pass g l = record {
  size : length l.outlets.items ≡ length l.yielded;
  rings : rings_of l.outlets.items ≡ take (length l.outlets.items) l.rings;
  each : (k : ℕ) (o : Outlet g.row.N.Denot) → get_elem? l.outlets.items k ≡ some o
      → IsOutlet g.N.RunName.log (feds g.N.RunName.log.lines) k o;
}
