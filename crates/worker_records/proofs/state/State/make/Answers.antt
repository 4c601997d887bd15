use Rattle.std.proofs.Common.{◌+◌, refl, subst}
use Rattle.pl_event.specs.Valid.{HasValidFields}
use Rattle.guard_table.specs.Seats.{seat_view}
use Rattle.worker_records.specs.Places.{run_at}
use Rattle.worker_records.proofs.EventLemmas.{as_kind}
use Rattle.worker_records.proofs.FieldLemmas.{valid_fields}
use Rattle.worker_records.proofs.state.State.make.Goals as goal

pub join-requires-clause-register : goal.join-requires-clause-register
join-requires-clause-register g c = (subst HasValidFields c.in-Op.is (valid_fields (run_at (g.L.Lifeguard.rules c.args.guard) (seat_view c.args.seat.now)) c.requires.next.ready.run (seat_view c.args.seat.now).hart (c.args.self.now.taken + 1) c.args.kind c.requires.next.is)).0

pub join-requires-clause-first : goal.join-requires-clause-first
join-requires-clause-first g c = (subst HasValidFields c.in-Op.is (valid_fields (run_at (g.L.Lifeguard.rules c.args.guard) (seat_view c.args.seat.now)) c.requires.next.ready.run (seat_view c.args.seat.now).hart (c.args.self.now.taken + 1) c.args.kind c.requires.next.is)).1

pub join-requires-clause-second : goal.join-requires-clause-second
join-requires-clause-second g c = (subst HasValidFields c.in-Op.is (valid_fields (run_at (g.L.Lifeguard.rules c.args.guard) (seat_view c.args.seat.now)) c.requires.next.ready.run (seat_view c.args.seat.now).hart (c.args.self.now.taken + 1) c.args.kind c.requires.next.is)).2

pub copy-requires-clause-register : goal.copy-requires-clause-register
copy-requires-clause-register g c = (subst HasValidFields c.in-Mv.is (valid_fields (run_at (g.L.Lifeguard.rules c.args.guard) (seat_view c.args.seat.now)) c.requires.next.ready.run (seat_view c.args.seat.now).hart (c.args.self.now.taken + 1) c.args.kind c.requires.next.is)).0

pub copy-requires-clause-source : goal.copy-requires-clause-source
copy-requires-clause-source g c = (subst HasValidFields c.in-Mv.is (valid_fields (run_at (g.L.Lifeguard.rules c.args.guard) (seat_view c.args.seat.now)) c.requires.next.ready.run (seat_view c.args.seat.now).hart (c.args.self.now.taken + 1) c.args.kind c.requires.next.is)).1

pub clear-requires : goal.clear-requires
clear-requires g c = (subst HasValidFields c.in-Im.is (valid_fields (run_at (g.L.Lifeguard.rules c.args.guard) (seat_view c.args.seat.now)) c.requires.next.ready.run (seat_view c.args.seat.now).hart (c.args.self.now.taken + 1) c.args.kind c.requires.next.is))

pub clear-requires-in-Jr : goal.clear-requires-in-Jr
clear-requires-in-Jr g c = (subst HasValidFields c.in-Jr.is (valid_fields (run_at (g.L.Lifeguard.rules c.args.guard) (seat_view c.args.seat.now)) c.requires.next.ready.run (seat_view c.args.seat.now).hart (c.args.self.now.taken + 1) c.args.kind c.requires.next.is)).0

pub returns-in-Ld-clause-made : goal.returns-in-Ld-clause-made
returns-in-Ld-clause-made g c = as_kind (g.L.Lifeguard.rules c.args.guard) (seat_view c.args.seat.now) (seat_view c.load.new.seat) c.args.self.now c.load.new.self c.args.kind _ c.load.result c.in-Ld.is (λ n. c.load.ensures.made _ n) c.requires.next

pub returns-in-St-clause-made : goal.returns-in-St-clause-made
returns-in-St-clause-made g c = as_kind (g.L.Lifeguard.rules c.args.guard) (seat_view c.args.seat.now) (seat_view c.store.new.seat) c.args.self.now c.store.new.self c.args.kind _ c.store.result c.in-St.is (λ n. c.store.ensures.made _ n) c.requires.next

pub returns-in-Bf-clause-made : goal.returns-in-Bf-clause-made
returns-in-Bf-clause-made g c = as_kind (g.L.Lifeguard.rules c.args.guard) (seat_view c.args.seat.now) (seat_view c.args.seat.now) c.args.self.now c.clear-in-Bf.new.self c.args.kind _ c.clear-in-Bf.result c.in-Bf.is (λ n. c.clear-in-Bf.ensures (g.L.Lifeguard.rules c.args.guard) (seat_view c.args.seat.now) _ n refl) c.requires.next

pub returns-in-Br-clause-made : goal.returns-in-Br-clause-made
returns-in-Br-clause-made g c = as_kind (g.L.Lifeguard.rules c.args.guard) (seat_view c.args.seat.now) (seat_view c.args.seat.now) c.args.self.now c.args.self.now c.args.kind _ c.leave.result c.in-Br.is (λ n. c.leave.ensures (g.L.Lifeguard.rules c.args.guard) (seat_view c.args.seat.now) _ n refl) c.requires.next

pub returns-in-Im-clause-made : goal.returns-in-Im-clause-made
returns-in-Im-clause-made g c = as_kind (g.L.Lifeguard.rules c.args.guard) (seat_view c.args.seat.now) (seat_view c.args.seat.now) c.args.self.now c.clear.new.self c.args.kind _ c.clear.result c.in-Im.is (λ n. c.clear.ensures (g.L.Lifeguard.rules c.args.guard) (seat_view c.args.seat.now) _ n refl) c.requires.next

pub returns-in-Jr-clause-made : goal.returns-in-Jr-clause-made
returns-in-Jr-clause-made g c = as_kind (g.L.Lifeguard.rules c.args.guard) (seat_view c.args.seat.now) (seat_view c.args.seat.now) c.args.self.now c.clear-in-Jr.new.self c.args.kind _ c.clear-in-Jr.result c.in-Jr.is (λ n. c.clear-in-Jr.ensures (g.L.Lifeguard.rules c.args.guard) (seat_view c.args.seat.now) _ n refl) c.requires.next

pub returns-in-Ex-clause-made : goal.returns-in-Ex-clause-made
returns-in-Ex-clause-made g c = as_kind (g.L.Lifeguard.rules c.args.guard) (seat_view c.args.seat.now) (seat_view c.args.seat.now) c.args.self.now c.args.self.now c.args.kind _ c.leave-in-Ex.result c.in-Ex.is (λ n. c.leave-in-Ex.ensures (g.L.Lifeguard.rules c.args.guard) (seat_view c.args.seat.now) _ n refl) c.requires.next

pub returns-in-Ft-clause-made : goal.returns-in-Ft-clause-made
returns-in-Ft-clause-made g c = as_kind (g.L.Lifeguard.rules c.args.guard) (seat_view c.args.seat.now) (seat_view c.args.seat.now) c.args.self.now c.args.self.now c.args.kind _ c.leave-in-Ft.result c.in-Ft.is (λ n. c.leave-in-Ft.ensures (g.L.Lifeguard.rules c.args.guard) (seat_view c.args.seat.now) _ n refl) c.requires.next
