use Rattle.std.proofs.Common.{ℕ, List, Option, sym, subst}
use Rattle.pl_event.specs.declared.log.Line.{Line}
use Rattle.pl_event.proofs.Before.{needs_bare}
use Rattle.log_check.specs.Checked.{MayPass}
use Rattle.log_check.proofs.Positions.{line_next}
use Rattle.log_check.proofs.Settling.{pass_room, pass_slots, settled}
use Rattle.log_check.proofs.order_check.OrderCheck.pass_bare.Goals as goal

pub is_unnoticed-requires-clause-hart : goal.is_unnoticed-requires-clause-hart
is_unnoticed-requires-clause-hart c = (pass_room c.args.self.now c.requires.0 c.requires.1 _ c.requires.2 c.record_hart-hart.result c.record_hart-hart.ensures).hart

pub is_unnoticed-requires-clause-few : goal.is_unnoticed-requires-clause-few
is_unnoticed-requires-clause-few c = (pass_room c.args.self.now c.requires.0 c.requires.1 _ c.requires.2 c.record_hart-hart.result c.record_hart-hart.ensures).records

pub next_alone-requires-clause-hart : goal.next_alone-requires-clause-hart
next_alone-requires-clause-hart c = (pass_room c.args.self.now c.requires.0 c.requires.1 _ c.requires.2 c.record_hart-hart.result c.record_hart-hart.ensures).hart

pub next_alone-requires-clause-few : goal.next_alone-requires-clause-few
next_alone-requires-clause-few c = pass_slots c.args.self.now c.requires.0 c.requires.1 _ c.requires.2 c.record_hart-hart.result c.record_hart-hart.ensures

pub settle-requires : goal.settle-requires
settle-requires c =
    let log = c.requires.0 in
    let at = c.requires.1 in
    let line : Line = record { what = c.args.what; arcs = c.none-arcs.result } in
    let may : MayPass c.args.self.now log at line = subst (λ (z : List (Option ℕ)). MayPass c.args.self.now log at (record { what = c.args.what; arcs = z })) (sym c.none-arcs.ensures) c.requires.2 in
    let h = c.record_hart-hart.result in
    let next = line_next log.lines at h line may.here c.record_hart-hart.ensures in (
      log,
      at,
      settled c.args.self.now c.next_alone.new.self log at line c.in_ok-clock.clock may h c.record_hart-hart.ensures
          (c.in_ok-clock.ensures.ok log.harts log.lines at line may.checkable.flow may.checkable.few may.checked.clocks next
          (needs_bare log.harts log.lines may.checkable.flow at h line next c.none-arcs.ensures
          (c.is_unnoticed.ensures.yes c.if-not-is_unnoticed.false log.harts log.lines at line may.checkable.flow may.checked.tells next))),
    )

pub returns : goal.returns
returns c log at given =
    let line : Line = record { what = c.args.what; arcs = c.none-arcs.result } in
    let may : MayPass c.args.self.now log at line = subst (λ (z : List (Option ℕ)). MayPass c.args.self.now log at (record { what = c.args.what; arcs = z })) (sym c.none-arcs.ensures) given in
    let h = c.record_hart-hart.result in
    let next = line_next log.lines at h line may.here c.record_hart-hart.ensures in
    c.settle.ensures log at (settled c.args.self.now c.next_alone.new.self log at line c.in_ok-clock.clock may h c.record_hart-hart.ensures
    (c.in_ok-clock.ensures.ok log.harts log.lines at line may.checkable.flow may.checkable.few may.checked.clocks next
    (needs_bare log.harts log.lines may.checkable.flow at h line next c.none-arcs.ensures
    (c.is_unnoticed.ensures.yes c.if-not-is_unnoticed.false log.harts log.lines at line may.checkable.flow may.checked.tells next))))
