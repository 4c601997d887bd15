use Rattle.std.proofs.Common.{◌≡◌, ◌+◌, ◌^◌, ◌<◌, ◌≤◌, ◌++◌, [], ◌∷◌, length, set, None, true, false, refl, sym, ◌∙◌, arith, lt_of_not-le}
use Rattle.log_clocks.specs.Clocks.{slots, known}
use Rattle.arc_reduce.specs.Taken.{with_arcs}
use Rattle.arc_reduce.proofs.Deciding.{has_room, told, clocked, next, flow_but, apart, is_spare_before, is_spare_by, is_not_spare_by}
use Rattle.arc_reduce.proofs.reducer.Reducer.is_spare.Goals as goal

pub needs-needs-requires-clause-hart : goal.needs-needs-requires-clause-hart
needs-needs-requires-clause-hart c = (has_room c.args.self.now c.requires.taken.0 c.args.line.now c.args.candidates.now c.requires.taken.1 c.args.hart c.requires.hart).hart

pub needs-needs-requires-clause-few : goal.needs-needs-requires-clause-few
needs-needs-requires-clause-few c = (has_room c.args.self.now c.requires.taken.0 c.args.line.now c.args.candidates.now c.requires.taken.1 c.args.hart c.requires.hart).records

pub next_knows-requires-clause-hart : goal.next_knows-requires-clause-hart
next_knows-requires-clause-hart c = (has_room c.args.self.now c.requires.taken.0 c.args.line.now c.args.candidates.now c.requires.taken.1 c.args.hart c.requires.hart).hart

pub next_knows-requires-clause-few : goal.next_knows-requires-clause-few
next_knows-requires-clause-few c = (has_room c.args.self.now c.requires.taken.0 c.args.line.now c.args.candidates.now c.requires.taken.1 c.args.hart c.requires.hart).slots

pub next_knows-requires-clause-other : goal.next_knows-requires-clause-other
next_knows-requires-clause-other c = apart c.args.self.now c.requires.taken.0 c.args.line.now c.args.candidates.now c.requires.taken.1 c.args.u c.args.number c.requires.candidate c.set.new.self c.set.ensures c.args.hart c.requires.hart

pub last_entry-requires-clause-hart : goal.last_entry-requires-clause-hart
last_entry-requires-clause-hart c = (has_room c.args.self.now c.requires.taken.0 c.args.line.now c.args.candidates.now c.requires.taken.1 c.args.hart c.requires.hart).hart

pub last_entry-requires-clause-few : goal.last_entry-requires-clause-few
last_entry-requires-clause-few c =
    let room : length (slots c.args.self.now.clocks c.args.hart) + 1 < 2 ^ 32 = (has_room c.args.self.now c.requires.taken.0 c.args.line.now c.args.candidates.now c.requires.taken.1 c.args.hart c.requires.hart).slots in
    omega arith

pub returns-then-last_entry-number-clause-yes : goal.returns-then-last_entry-number-clause-yes
returns-then-last_entry-number-clause-yes c full may t =
    is_spare_before c.args.self.now full c.args.line.now c.args.candidates.now may c.args.u c.args.number c.requires.candidate (set c.args.candidates.now c.args.u None) refl c.args.hart c.requires.hart
    (let l : c.args.number ≤ c.last_entry.result = c.if-last_entry-number.true in
    let e : c.last_entry.result ≡ known c.args.self.now.clocks c.args.hart (length (slots c.args.self.now.clocks c.args.hart)) c.args.u = c.last_entry.ensures in omega arith)

pub returns-clause-yes : goal.returns-clause-yes
returns-clause-yes c full may is_known =
    let r = c.args.self.now in
    let line = c.args.line.now in
    let lines = full ++ with_arcs line c.set.new.self ∷ [] in
    let flow = flow_but r full line c.args.candidates.now may c.args.u c.args.number c.requires.candidate c.set.new.self c.set.ensures in
    let n = next r full line c.args.candidates.now may c.set.new.self flow c.args.hart c.requires.hart in
    let clock = c.next_knows.ensures r.harts lines (length full) (with_arcs line c.set.new.self) flow may.harts (clocked r full line c.args.candidates.now may c.set.new.self flow c.args.hart c.requires.hart) n
    (c.needs-needs.ensures r.harts lines (length full) flow (told r full line c.args.candidates.now may c.set.new.self flow c.args.hart c.requires.hart) n) in
    is_spare_by r full line c.args.candidates.now may c.args.u c.args.number c.requires.candidate c.set.new.self c.set.ensures c.args.hart c.requires.hart clock.0 clock.1 (clock.2.0 is_known)

pub returns-clause-no : goal.returns-clause-no
returns-clause-no c full may not_known =
    let r = c.args.self.now in
    let line = c.args.line.now in
    let lines = full ++ with_arcs line c.set.new.self ∷ [] in
    let flow = flow_but r full line c.args.candidates.now may c.args.u c.args.number c.requires.candidate c.set.new.self c.set.ensures in
    let n = next r full line c.args.candidates.now may c.set.new.self flow c.args.hart c.requires.hart in
    let clock = c.next_knows.ensures r.harts lines (length full) (with_arcs line c.set.new.self) flow may.harts (clocked r full line c.args.candidates.now may c.set.new.self flow c.args.hart c.requires.hart) n
    (c.needs-needs.ensures r.harts lines (length full) flow (told r full line c.args.candidates.now may c.set.new.self flow c.args.hart c.requires.hart) n) in
    is_not_spare_by r full line c.args.candidates.now may c.args.u c.args.number c.requires.candidate c.set.new.self c.set.ensures c.args.hart c.requires.hart clock.0 clock.1
    (lt_of_not-le (λ l. absurd (let f : true ≡ false = sym (clock.2.1 l) ∙ not_known in cc)))
