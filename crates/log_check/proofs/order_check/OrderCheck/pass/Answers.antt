use Rattle.log_check.proofs.Positions.{line_next}
use Rattle.log_check.proofs.Settling.{pass_room, pass_slots, settled}
use Rattle.log_check.proofs.order_check.OrderCheck.pass.Goals as goal

pub needs-needs-requires-clause-hart : goal.needs-needs-requires-clause-hart
needs-needs-requires-clause-hart c = (pass_room c.args.self.now c.requires.0 c.requires.1 c.args.line.now c.requires.2 c.record_hart-hart.result c.record_hart-hart.ensures).hart

pub needs-needs-requires-clause-few : goal.needs-needs-requires-clause-few
needs-needs-requires-clause-few c = (pass_room c.args.self.now c.requires.0 c.requires.1 c.args.line.now c.requires.2 c.record_hart-hart.result c.record_hart-hart.ensures).records

pub next-requires-clause-hart : goal.next-requires-clause-hart
next-requires-clause-hart c = (pass_room c.args.self.now c.requires.0 c.requires.1 c.args.line.now c.requires.2 c.record_hart-hart.result c.record_hart-hart.ensures).hart

pub next-requires-clause-few : goal.next-requires-clause-few
next-requires-clause-few c = pass_slots c.args.self.now c.requires.0 c.requires.1 c.args.line.now c.requires.2 c.record_hart-hart.result c.record_hart-hart.ensures

pub settle-requires : goal.settle-requires
settle-requires c =
    let log = c.requires.0 in
    let at = c.requires.1 in
    let may = c.requires.2 in
    let line = c.args.line.now in
    let h = c.record_hart-hart.result in
    let next = line_next log.lines at h line may.here c.record_hart-hart.ensures in (
      log,
      at,
      settled c.args.self.now c.next.new.self log at line c.in_ok-clock.clock may h c.record_hart-hart.ensures
          (c.in_ok-clock.ensures.ok log.harts log.lines at line may.checkable.flow may.checkable.few may.checked.clocks next
          (c.needs-needs.ensures log.harts log.lines at may.checkable.flow may.checked.tells next)),
    )

pub returns : goal.returns
returns c log at may =
    let line = c.args.line.now in
    let h = c.record_hart-hart.result in
    let next = line_next log.lines at h line may.here c.record_hart-hart.ensures in
    c.settle.ensures log at (settled c.args.self.now c.next.new.self log at line c.in_ok-clock.clock may h c.record_hart-hart.ensures
    (c.in_ok-clock.ensures.ok log.harts log.lines at line may.checkable.flow may.checkable.few may.checked.clocks next
    (c.needs-needs.ensures log.harts log.lines at may.checkable.flow may.checked.tells next)))
