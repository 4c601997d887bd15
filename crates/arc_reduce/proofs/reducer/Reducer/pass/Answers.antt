use Rattle.std.proofs.Common.{length, refl, sym, subst}
use Rattle.pl_event.specs.Heads.{Tells}
use Rattle.pl_event.specs.Numbers.{hart_of}
use Rattle.log_clocks.specs.Clocks.{HasClocks}
use Rattle.arc_reduce.specs.Taken.{with_arcs, with_line}
use Rattle.arc_reduce.proofs.Ends.{longer}
use Rattle.arc_reduce.proofs.Deciding.{has_room, told, clocked, next}
use Rattle.arc_reduce.proofs.reducer.Reducer.pass.Goals as goal

pub needs-needs-requires-clause-hart : goal.needs-needs-requires-clause-hart
needs-needs-requires-clause-hart c = (has_room c.args.self.now c.requires.taken.0 c.args.line.now c.args.candidates.now c.requires.taken.1 c.args.hart c.requires.hart).hart

pub needs-needs-requires-clause-few : goal.needs-needs-requires-clause-few
needs-needs-requires-clause-few c = (has_room c.args.self.now c.requires.taken.0 c.args.line.now c.args.candidates.now c.requires.taken.1 c.args.hart c.requires.hart).records

pub next-requires-clause-hart : goal.next-requires-clause-hart
next-requires-clause-hart c = (has_room c.args.self.now c.requires.taken.0 c.args.line.now c.args.candidates.now c.requires.taken.1 c.args.hart c.requires.hart).hart

pub next-requires-clause-few : goal.next-requires-clause-few
next-requires-clause-few c = (has_room c.args.self.now c.requires.taken.0 c.args.line.now c.args.candidates.now c.requires.taken.1 c.args.hart c.requires.hart).slots

pub pass-requires-clause-hart : goal.pass-requires-clause-hart
pass-requires-clause-hart c = (has_room c.args.self.now c.requires.taken.0 c.args.line.now c.args.candidates.now c.requires.taken.1 (hart_of c.args.line.now.what) refl).hart

pub pass-requires-clause-records : goal.pass-requires-clause-records
pass-requires-clause-records c = (has_room c.args.self.now c.requires.taken.0 c.args.line.now c.args.candidates.now c.requires.taken.1 (hart_of c.args.line.now.what) refl).records

pub pass-requires-clause-place : goal.pass-requires-clause-place
pass-requires-clause-place c = (has_room c.args.self.now c.requires.taken.0 c.args.line.now c.args.candidates.now c.requires.taken.1 (hart_of c.args.line.now.what) refl).place

pub pass-requires-clause-events : goal.pass-requires-clause-events
pass-requires-clause-events c = (has_room c.args.self.now c.requires.taken.0 c.args.line.now c.args.candidates.now c.requires.taken.1 (hart_of c.args.line.now.what) refl).events

pub returns-clause-ok : goal.returns-clause-ok
returns-clause-ok c full may =
    let r = c.args.self.now in
    let line = c.args.line.now in
    let candidates = c.args.candidates.now in
    let whole = with_arcs line candidates in
    let all = with_line full line candidates in
    let n = next r full line candidates may candidates may.flow c.args.hart c.requires.hart in
    record {
      heads = subst (Tells c.pass.new.self all) (sym (longer full whole)) (c.pass.ensures r.harts all (length full) may.flow (told r full line candidates may candidates may.flow (hart_of line.what) refl) (next r full line candidates may candidates may.flow (hart_of line.what) refl));
      clocks = subst (HasClocks c.next.new.self all) (sym (longer full whole)) (c.in_ok-next.ensures.ok r.harts all (length full) whole may.flow may.harts (clocked r full line candidates may candidates may.flow c.args.hart c.requires.hart) n
          (c.needs-needs.ensures r.harts all (length full) may.flow (told r full line candidates may candidates may.flow c.args.hart c.requires.hart) n)).1;
    }
