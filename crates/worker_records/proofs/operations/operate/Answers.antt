use Rattle.std.proofs.Common.{◌≡◌, ℕ, sym, ◌∙◌}
use Rattle.pl_event.specs.declared.event.Kind.{Kind}
use Rattle.pl_event.specs.declared.event.Kind.TheVariants.{Al, Fr, Mp, Rd, Um, Wr}
use Rattle.guard_table.specs.Seats.{seat_view}
use Rattle.worker_records.specs.Places.{run_at}
use Rattle.worker_records.proofs.OperateLemmas.{fields_by, whole_made, written}
use Rattle.worker_records.proofs.operations.operate.Goals as goal

mapped_kind : (kind : Kind) (page count p n : ℕ) → kind ≡ Mp page count → p ≡ page → n ≡ count → kind ≡ Mp p n
mapped_kind kind page count p n is a b = is ∙ (λ d. Mp (sym a d) (sym b d))

unmapped_kind : (kind : Kind) (page count p n : ℕ) → kind ≡ Um page count → p ≡ page → n ≡ count → kind ≡ Um p n
unmapped_kind kind page count p n is a b = is ∙ (λ d. Um (sym a d) (sym b d))

pub change_range-requires-clause-range : goal.change_range-requires-clause-range
change_range-requires-clause-range g c = fields_by (run_at (g.L.Lifeguard.rules c.args.guard) (seat_view c.args.seat.now)) (seat_view c.args.seat.now) (seat_view c.args.seat.now) c.args.number c.args.kind c.requires.amid (Al c.in-Al.addr c.in-Al.len) c.in-Al.is

pub change_range-requires-in-Fr-clause-range : goal.change_range-requires-in-Fr-clause-range
change_range-requires-in-Fr-clause-range g c = fields_by (run_at (g.L.Lifeguard.rules c.args.guard) (seat_view c.args.seat.now)) (seat_view c.args.seat.now) (seat_view c.args.seat.now) c.args.number c.args.kind c.requires.amid (Fr c.in-Fr.addr c.in-Fr.len) c.in-Fr.is

pub change_range-requires-in-Rd-clause-range : goal.change_range-requires-in-Rd-clause-range
change_range-requires-in-Rd-clause-range g c = fields_by (run_at (g.L.Lifeguard.rules c.args.guard) (seat_view c.args.seat.now)) (seat_view c.args.seat.now) (seat_view c.args.seat.now) c.args.number c.args.kind c.requires.amid (Rd c.in-Rd.addr c.in-Rd.len) c.in-Rd.is

pub read_range-requires-clause-range : goal.read_range-requires-clause-range
read_range-requires-clause-range g c = fields_by (run_at (g.L.Lifeguard.rules c.args.guard) (seat_view c.args.seat.now)) (seat_view c.args.seat.now) (seat_view c.args.seat.now) c.args.number c.args.kind c.requires.amid (Wr c.in-Wr.addr c.in-Wr.len) c.in-Wr.is

pub map_pages-requires-clause-pages : goal.map_pages-requires-clause-pages
map_pages-requires-clause-pages g c = fields_by (run_at (g.L.Lifeguard.rules c.args.guard) (seat_view c.args.seat.now)) (seat_view c.args.seat.now) (seat_view c.args.seat.now) c.args.number c.args.kind c.requires.amid (Mp c.from.result c.from-in-Mp.result) (mapped_kind c.args.kind c.in-Mp.page c.in-Mp.count c.from.result c.from-in-Mp.result c.in-Mp.is c.from.ensures c.from-in-Mp.ensures)

pub unmap_pages-requires-clause-pages : goal.unmap_pages-requires-clause-pages
unmap_pages-requires-clause-pages g c = fields_by (run_at (g.L.Lifeguard.rules c.args.guard) (seat_view c.args.seat.now)) (seat_view c.args.seat.now) (seat_view c.args.seat.now) c.args.number c.args.kind c.requires.amid (Um c.from-in-Um.result c.from-in-Um-2.result) (unmapped_kind c.args.kind c.in-Um.page c.in-Um.count c.from-in-Um.result c.from-in-Um-2.result c.in-Um.is c.from-in-Um.ensures c.from-in-Um-2.ensures)

pub returns-in-Al-clause-view : goal.returns-in-Al-clause-view
returns-in-Al-clause-view g c = written (run_at (g.L.Lifeguard.rules c.args.guard) (seat_view c.args.seat.now)) (seat_view c.args.seat.now) (seat_view c.change_range.new.seat) c.args.number c.args.kind c.requires.amid (Al c.in-Al.addr c.in-Al.len) c.in-Al.is c.change_range.ensures.view

pub returns-in-Al-clause-all : goal.returns-in-Al-clause-all
returns-in-Al-clause-all g c = whole_made (run_at (g.L.Lifeguard.rules c.args.guard) (seat_view c.args.seat.now)) (seat_view c.args.seat.now) (seat_view c.change_range.new.seat) c.args.number c.args.kind c.requires.amid (Al c.in-Al.addr c.in-Al.len) c.in-Al.is c.change_range.ensures.view

pub returns-in-Fr-clause-view : goal.returns-in-Fr-clause-view
returns-in-Fr-clause-view g c = written (run_at (g.L.Lifeguard.rules c.args.guard) (seat_view c.args.seat.now)) (seat_view c.args.seat.now) (seat_view c.change_range-in-Fr.new.seat) c.args.number c.args.kind c.requires.amid (Fr c.in-Fr.addr c.in-Fr.len) c.in-Fr.is c.change_range-in-Fr.ensures.view

pub returns-in-Fr-clause-all : goal.returns-in-Fr-clause-all
returns-in-Fr-clause-all g c = whole_made (run_at (g.L.Lifeguard.rules c.args.guard) (seat_view c.args.seat.now)) (seat_view c.args.seat.now) (seat_view c.change_range-in-Fr.new.seat) c.args.number c.args.kind c.requires.amid (Fr c.in-Fr.addr c.in-Fr.len) c.in-Fr.is c.change_range-in-Fr.ensures.view

pub returns-in-Rd-clause-view : goal.returns-in-Rd-clause-view
returns-in-Rd-clause-view g c = written (run_at (g.L.Lifeguard.rules c.args.guard) (seat_view c.args.seat.now)) (seat_view c.args.seat.now) (seat_view c.change_range-in-Rd.new.seat) c.args.number c.args.kind c.requires.amid (Rd c.in-Rd.addr c.in-Rd.len) c.in-Rd.is c.change_range-in-Rd.ensures.view

pub returns-in-Rd-clause-all : goal.returns-in-Rd-clause-all
returns-in-Rd-clause-all g c = whole_made (run_at (g.L.Lifeguard.rules c.args.guard) (seat_view c.args.seat.now)) (seat_view c.args.seat.now) (seat_view c.change_range-in-Rd.new.seat) c.args.number c.args.kind c.requires.amid (Rd c.in-Rd.addr c.in-Rd.len) c.in-Rd.is c.change_range-in-Rd.ensures.view

pub returns-in-Wr-clause-view : goal.returns-in-Wr-clause-view
returns-in-Wr-clause-view g c = written (run_at (g.L.Lifeguard.rules c.args.guard) (seat_view c.args.seat.now)) (seat_view c.args.seat.now) (seat_view c.read_range.new.seat) c.args.number c.args.kind c.requires.amid (Wr c.in-Wr.addr c.in-Wr.len) c.in-Wr.is c.read_range.ensures.view

pub returns-in-Wr-clause-all : goal.returns-in-Wr-clause-all
returns-in-Wr-clause-all g c = whole_made (run_at (g.L.Lifeguard.rules c.args.guard) (seat_view c.args.seat.now)) (seat_view c.args.seat.now) (seat_view c.read_range.new.seat) c.args.number c.args.kind c.requires.amid (Wr c.in-Wr.addr c.in-Wr.len) c.in-Wr.is c.read_range.ensures.view

pub returns-in-Mp-clause-view : goal.returns-in-Mp-clause-view
returns-in-Mp-clause-view g c = written (run_at (g.L.Lifeguard.rules c.args.guard) (seat_view c.args.seat.now)) (seat_view c.args.seat.now) (seat_view c.map_pages.new.seat) c.args.number c.args.kind c.requires.amid (Mp c.from.result c.from-in-Mp.result) (mapped_kind c.args.kind c.in-Mp.page c.in-Mp.count c.from.result c.from-in-Mp.result c.in-Mp.is c.from.ensures c.from-in-Mp.ensures) c.map_pages.ensures.view

pub returns-in-Mp-clause-all : goal.returns-in-Mp-clause-all
returns-in-Mp-clause-all g c = whole_made (run_at (g.L.Lifeguard.rules c.args.guard) (seat_view c.args.seat.now)) (seat_view c.args.seat.now) (seat_view c.map_pages.new.seat) c.args.number c.args.kind c.requires.amid (Mp c.from.result c.from-in-Mp.result) (mapped_kind c.args.kind c.in-Mp.page c.in-Mp.count c.from.result c.from-in-Mp.result c.in-Mp.is c.from.ensures c.from-in-Mp.ensures) c.map_pages.ensures.view

pub returns-in-Um-clause-view : goal.returns-in-Um-clause-view
returns-in-Um-clause-view g c = written (run_at (g.L.Lifeguard.rules c.args.guard) (seat_view c.args.seat.now)) (seat_view c.args.seat.now) (seat_view c.unmap_pages.new.seat) c.args.number c.args.kind c.requires.amid (Um c.from-in-Um.result c.from-in-Um-2.result) (unmapped_kind c.args.kind c.in-Um.page c.in-Um.count c.from-in-Um.result c.from-in-Um-2.result c.in-Um.is c.from-in-Um.ensures c.from-in-Um-2.ensures) c.unmap_pages.ensures.view

pub returns-in-Um-clause-all : goal.returns-in-Um-clause-all
returns-in-Um-clause-all g c = whole_made (run_at (g.L.Lifeguard.rules c.args.guard) (seat_view c.args.seat.now)) (seat_view c.args.seat.now) (seat_view c.unmap_pages.new.seat) c.args.number c.args.kind c.requires.amid (Um c.from-in-Um.result c.from-in-Um-2.result) (unmapped_kind c.args.kind c.in-Um.page c.in-Um.count c.from-in-Um.result c.from-in-Um-2.result c.in-Um.is c.from-in-Um.ensures c.from-in-Um-2.ensures) c.unmap_pages.ensures.view
