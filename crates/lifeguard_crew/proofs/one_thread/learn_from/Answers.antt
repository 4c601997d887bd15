use Rattle.std.proofs.Common.{◌≡◌, ◌≢◌, get_or, set, sym, arith, ⊎_elim, length-set}
use mathlib.Core.Option.{some}
use lib.ListN.{get_elem?}
use Rattle.atomic_table.proofs.Lists.{at_set}
use Rattle.guard_table.specs.Seats.{note_view}
use Rattle.ring_feed.proofs.Pairs.{at_get}
use Rattle.lifeguard_crew.proofs.Heard.{told_one}
use Rattle.lifeguard_crew.proofs.one_thread.learn_from.Goals as goal

pub note-note-requires : goal.note-note-requires
note-note-requires g c =
    (c.requires.ready.ready c.args.j _ (at_get c.args.workers.now c.args.j c.index-workers-j.result c.requires.j)).at

pub learn-requires-clause-of : goal.learn-requires-clause-of
learn-requires-clause-of g c =
    let ws = c.args.workers.now in
    let told = set ws c.args.j c.note-note.new.self in
    let pupil = get_or told c.args.i c.index-workers-i.result in
    let long = length-set ws c.args.j c.note-note.new.self in
    let here : get_elem? told c.args.i ≡ some pupil = at_get told c.args.i c.index-workers-i.result (omega (arith, long, c.requires.i)) in
    ⊎_elim
    (λ (p : (c.args.i ≡ c.args.j) × (c.note-note.new.self ≡ pupil)). absurd (c.requires.other (sym p.0)))
    (λ (p : (c.args.i ≢ c.args.j) × (get_elem? ws c.args.i ≡ some pupil)). (c.requires.ready.ready c.args.i pupil p.1).at)
    (at_set ws c.args.j c.args.i c.note-note.new.self pupil here)

pub returns : goal.returns
returns g c v w at_i at_j =
    let ws = c.args.workers.now in
    let told = set ws c.args.j c.note-note.new.self in
    let long = length-set ws c.args.j c.note-note.new.self in
    told_one g.W.TurnWorker.view ws c.args.i c.args.j (get_or ws c.args.j c.index-workers-j.result) c.note-note.new.self c.learn.new.self
    (note_view c.note-note.result) (at_get ws c.args.j c.index-workers-j.result c.requires.j) c.note-note.ensures.same c.note-note.ensures.note
    (get_or told c.args.i c.index-workers-i.result) (at_get told c.args.i c.index-workers-i.result (omega (arith, long, c.requires.i)))
    c.learn.ensures v w at_i at_j
