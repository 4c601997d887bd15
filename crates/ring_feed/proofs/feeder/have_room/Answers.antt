use Rattle.std.proofs.Common.{rules, ◌≡◌, ◌<◌, ℕ, nat_lt, List, length, true, sym, ◌∙◌, arith}
use Rattle.std.proofs.lemmas.Bool.Decides.{nat_tests}
use Rattle.pl_base.specs.declared.layout.TheConstants.{CHUNK_RECORDS}
use Rattle.ring_feed.specs.declared.outlet.Outlet.{Outlet}
use Rattle.ring_feed.proofs.Outlets.{room_all, room_more}
use Rattle.ring_feed.proofs.Pairs.{at_here}
use Rattle.ring_feed.proofs.feeder.have_room.Goals as goal

-- what the test says
below : (n m : ℕ) → nat_lt n m ≡ true → n < m
below n m e = grind (arith, nat_tests)

pub loop-outlet-preserved : goal.loop-outlet-preserved
loop-outlet-preserved g c =
    let os : List (Outlet g.row.N.Denot) = c.args.outlets.now in
    let i = c.loop-outlet.outlet-index in
    let x : Outlet g.row.N.Denot = c.outlet-item.result in
    let has : c.has_room.result ≡ true = search rules in
    let room : length x.part.items < CHUNK_RECORDS = below (length x.part.items) CHUNK_RECORDS (sym c.has_room.ensures ∙ has) in
    room_more os i x (at_here os i x (omega arith) c.outlet-item.is) room c.loop-outlet.invariant

pub returns : goal.returns
returns g c on = room_all c.loop-outlet.outlet-index c.args.outlets.now (omega arith) c.loop-outlet.invariant
