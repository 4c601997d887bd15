use Rattle.std.proofs.Common.{◌≡◌, length, refl, sym, subst}
use Rattle.pl_event.specs.Edges.{no_arcs}
use Rattle.pl_event.specs.Heads.{IsNext, Tells}
use Rattle.pl_event.specs.Numbers.{hart_of}
use Rattle.pl_event.proofs.Before.{needs_bare}
use Rattle.log_clocks.specs.Clocks.{HasClocks}
use Rattle.arc_reduce.specs.Taken.{with_arcs, with_line}
use Rattle.arc_reduce.proofs.Ends.{longer}
use Rattle.arc_reduce.proofs.Deciding.{has_room, told, clocked, next}
use Rattle.arc_reduce.proofs.reducer.Reducer.pass_bare.Goals as goal

pub is_unnoticed-requires-clause-hart : goal.is_unnoticed-requires-clause-hart
is_unnoticed-requires-clause-hart c = (has_room c.args.self.now c.requires.taken.0 c.args.line.now no_arcs c.requires.taken.1 c.args.hart c.requires.hart).hart

pub is_unnoticed-requires-clause-few : goal.is_unnoticed-requires-clause-few
is_unnoticed-requires-clause-few c = (has_room c.args.self.now c.requires.taken.0 c.args.line.now no_arcs c.requires.taken.1 c.args.hart c.requires.hart).records

pub next_alone-requires-clause-hart : goal.next_alone-requires-clause-hart
next_alone-requires-clause-hart c = (has_room c.args.self.now c.requires.taken.0 c.args.line.now no_arcs c.requires.taken.1 c.args.hart c.requires.hart).hart

pub next_alone-requires-clause-few : goal.next_alone-requires-clause-few
next_alone-requires-clause-few c = (has_room c.args.self.now c.requires.taken.0 c.args.line.now no_arcs c.requires.taken.1 c.args.hart c.requires.hart).slots

pub pass-requires-2-clause-hart : goal.pass-requires-2-clause-hart
pass-requires-2-clause-hart c = (has_room c.args.self.now c.requires.taken.0 c.args.line.now no_arcs c.requires.taken.1 (hart_of c.args.line.now.what) refl).hart

pub pass-requires-2-clause-records : goal.pass-requires-2-clause-records
pass-requires-2-clause-records c = (has_room c.args.self.now c.requires.taken.0 c.args.line.now no_arcs c.requires.taken.1 (hart_of c.args.line.now.what) refl).records

pub pass-requires-2-clause-place : goal.pass-requires-2-clause-place
pass-requires-2-clause-place c = (has_room c.args.self.now c.requires.taken.0 c.args.line.now no_arcs c.requires.taken.1 (hart_of c.args.line.now.what) refl).place

pub pass-requires-2-clause-events : goal.pass-requires-2-clause-events
pass-requires-2-clause-events c = (has_room c.args.self.now c.requires.taken.0 c.args.line.now no_arcs c.requires.taken.1 (hart_of c.args.line.now.what) refl).events

pub returns-clause-ok : goal.returns-clause-ok
returns-clause-ok c full may =
    let r = c.args.self.now in
    let line = c.args.line.now in
    let bare = with_arcs line no_arcs in
    let all = with_line full line no_arcs in
    let same : bare ≡ line = λ d. record { what = line.what; arcs = sym may.bare d } in
    let n = next r full line no_arcs may no_arcs may.flow c.args.hart c.requires.hart in
    record {
      heads = subst (Tells c.pass-2.new.self all) (sym (longer full bare)) (c.pass-2.ensures r.harts all (length full) may.flow (told r full line no_arcs may no_arcs may.flow (hart_of line.what) refl)
          (subst (IsNext all (length full) (hart_of line.what)) same (next r full line no_arcs may no_arcs may.flow (hart_of line.what) refl)));
      clocks = subst (HasClocks c.next_alone.new.self all) (sym (longer full bare)) (c.in_ok-next_alone.ensures.ok r.harts all (length full) bare may.flow may.harts (clocked r full line no_arcs may no_arcs may.flow c.args.hart c.requires.hart) n
          (needs_bare r.harts all may.flow (length full) c.args.hart bare n refl
          (c.is_unnoticed.ensures.yes c.if-not-is_unnoticed.false r.harts all (length full) bare may.flow (told r full line no_arcs may no_arcs may.flow c.args.hart c.requires.hart) n))).1;
    }
