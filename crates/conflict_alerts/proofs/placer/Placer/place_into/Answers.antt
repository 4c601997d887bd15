use Rattle.std.proofs.Common.{◌≡◌, List, [], ◌∷◌, ◌++◌, ◌+◌, slice_index}
use Rattle.pl_event.specs.declared.log.Line.{Line}
use Rattle.conflict_alerts.specs.Placing.{lines_of, next_number}
use Rattle.conflict_alerts.specs.Placer.{Counts, HasPlaced}
use Rattle.conflict_alerts.proofs.Counting.{room, both_ok, placed_more, lines_more}
use Rattle.conflict_alerts.proofs.placer.Placer.place_into.Goals as goal

pub add_event-result-requires-clause-few : goal.add_event-result-requires-clause-few
add_event-result-requires-clause-few c = room c.args.self.now c.requires.0 c.args.event.now c.requires.1

pub returns-else-is_err-clause-ok : goal.returns-else-is_err-clause-ok
returns-else-is_err-clause-ok c events may =
    let old = c.args.self.now in
    let event = c.args.event.now in
    let made = c.add_event-result in
    both_ok made.result
    (made.new.lines.items ≡ c.args.lines.now.items ++ lines_of old.harts (slice_index old.records event.hart + 1) event)
    ((g : List Line) → Counts old.records g → Counts made.new.self.records (g ++ lines_of old.harts (slice_index old.records event.hart + 1) event))
    ((made.new.lines.items ≡ c.args.lines.now.items ++ lines_of old.harts (next_number old.harts events event.hart) event) × HasPlaced made.new.self (events ++ event ∷ []))
    (λ is more. (lines_more old events event c.args.lines.now.items made.new.lines.items may is, placed_more old made.new.self events event may made.ensures.harts more))
    made.ensures.lines made.ensures.counts
