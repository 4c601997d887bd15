use Rattle.std.proofs.Common.{rules, ◌+◌, ◌<◌, ◌≤◌, slice_index, refl, arith}
use Rattle.pl_event.specs.declared.log.Record.TheVariants as entry
use Rattle.conflict_alerts.proofs.Counting.{lines_alone, placed_alone, room}
use Rattle.conflict_alerts.proofs.placer.Placer.place_alone.Goals as goal

pub returns-clause-line : goal.returns-clause-line
returns-clause-line c events may = lines_alone _ _ c.args.event.now _ c.requires.alone (λ d. record { what = entry.Event c.args.event.now; arcs = c.none.ensures d })

pub returns-clause-placed : goal.returns-clause-placed
returns-clause-placed c events may = placed_alone c.args.self.now _ events c.args.event.now may c.requires.alone refl (search rules) refl

pub overflow_add-self : goal.overflow_add-self
overflow_add-self c =
    let may = c.requires.place.1 in
    let low : c.args.event.now.hart < 8 = (let less : c.args.event.now.hart < c.args.self.now.harts = may.hart in let few : c.args.self.now.harts ≤ 8 = may.harts in omega arith) in
    let fits : slice_index c.args.self.now.records c.args.event.now.hart + 1 < 4294967296 = room c.args.self.now c.requires.place.0 c.args.event.now may c.args.event.now.hart low in
    omega arith
