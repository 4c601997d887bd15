use Rattle.std.proofs.Common.{◌≡◌, ℕ, ◌+◌, true, false, not, ap, sym, subst, ◌∙◌}
use Rattle.pl_event.specs.Numbers.{hart_of}
use Rattle.pl_event.specs.Records.{records_before}
use Rattle.log_check.specs.inner.Partners.{FindsPartner}
use Rattle.log_check.proofs.Clearing.{clear_of, path_of}
use Rattle.log_check.proofs.Settling.{settle_room, trace_room, event_own, event_valid, event_here, event_clock, event_sought}
use Rattle.log_check.proofs.order_check.OrderCheck.partner.Goals.{then-not-are_known, else-not-are_known}
use Rattle.log_check.proofs.order_check.OrderCheck.partner.Goals as goal

pub suspects-requires-clause-few : goal.suspects-requires-clause-few
suspects-requires-clause-few c =
    let r = c.requires in
    (settle_room c.args.self.now r.0 r.1 r.2 c.args.clock.now r.3 c.args.event.now.hart (event_own c.args.self.now r.0 r.1 r.2 c.args.clock.now r.3 c.args.event.now r.4)).records

pub earliest_partner-requires-clause-few : goal.earliest_partner-requires-clause-few
earliest_partner-requires-clause-few c = trace_room c.args.self.now c.requires.0 c.requires.1 c.requires.2 c.args.clock.now c.requires.3

pub earliest_partner-requires-clause-later : goal.earliest_partner-requires-clause-later
earliest_partner-requires-clause-later c =
    let r = c.requires in
    (event_valid c.args.self.now r.0 r.1 r.2 c.args.clock.now r.3 c.args.event.now r.4).0

pub earliest_partner-requires-clause-room : goal.earliest_partner-requires-clause-room
earliest_partner-requires-clause-room c =
    let r = c.requires in
    (settle_room c.args.self.now r.0 r.1 r.2 c.args.clock.now r.3 c.args.event.now.hart (event_own c.args.self.now r.0 r.1 r.2 c.args.clock.now r.3 c.args.event.now r.4)).records

pub returns-then-suspects : goal.returns-then-suspects
returns-then-suspects c log at line may is =
    subst (λ (z : ℕ × ℕ). FindsPartner z.0 log.lines z.1 c.earliest_partner.result) (λ d. (may.size d, may.traced.count d))
    (c.earliest_partner.ensures log.harts log.lines (records_before (hart_of line.what) log.lines at + 1) (event_sought c.args.self.now log at line c.args.clock.now may c.args.event.now is))

pub returns-else-suspects : goal.returns-else-suspects
returns-else-suspects c log at line may is =
    let b = c.args.event.now in
    let m = records_before (hart_of line.what) log.lines at + 1 in
    let here = event_here c.args.self.now log at line c.args.clock.now may b is in
    let right = event_clock c.args.self.now log at line c.args.clock.now may b is in
    elim c.if-not-are_known.branch [
      | then-not-are_known w ↦ absurd (let f : true ≡ false = sym (ap not w.if-not-are_known.true) ∙ (sym w.value-is ∙ c.if-suspects.false) in cc)
      | else-not-are_known w ↦ clear_of log.block log.lines at m b here at (λ k a n low pair. record {
        accesses = path_of log.block log.lines at m b here log.harts may.checkable.flow may.checkable.few c.args.clock.now right
            (c.are_known.ensures.yes log.block log.lines at m may.lasts here w.if-not-are_known.false) k a n pair;
        alerts = w.suspects.ensures (sym w.value-is ∙ c.if-suspects.false) log.harts log.lines at m may.checkable.flow may.checkable.few may.tells here may.alerts k a n pair;
      })
    ]
