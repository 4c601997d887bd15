use Rattle.std.proofs.Common.{◌≡◌, ◌<◌, ℕ, length}
use mathlib.Core.Option.{some}
use lib.ListN.{get_elem?}
use Rattle.pl_base.specs.declared.layout.TheConstants.{CHUNK_RECORDS}
use Rattle.ring_feed.specs.declared.outlet.Outlet.{Outlet}
use Rattle.ring_feed.proofs.feeder.have_room.Given as goal

abbrev pub invariant-loop-outlet : goal.invariant-loop-outlet
invariant-loop-outlet g l = (k : ℕ) (o : Outlet g.row.N.Denot) → k < l.outlet-index → get_elem? l.outlets k ≡ some o → length o.part.items < CHUNK_RECORDS
