use Rattle.std.proofs.Common.{sym, ◌∙◌}
use Rattle.guard_table.specs.Seats.{seat_view}
use Rattle.worker_records.proofs.PlainLemmas.{addr_join_made}
use Rattle.worker_records.proofs.state.State.join.Goals as goal

pub returns-in-Addr-clause-made : goal.returns-in-Addr-clause-made
returns-in-Addr-clause-made g c = addr_join_made (g.L.Lifeguard.rules c.args.guard) (seat_view c.args.seat.now) c.args.self.now c.set.new.self c.args.rd c.args.r1 c.args.r2 c.requires.register (sym c.name.ensures ∙ c.in-Addr.is) c.set.ensures c.requires.next
