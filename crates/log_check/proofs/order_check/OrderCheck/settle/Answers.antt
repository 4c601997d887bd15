use Rattle.std.proofs.Common.{◌≡◌, ℕ, ◌+◌, List, refl, sym, ap, ◌∙◌, subst}
use Rattle.pl_event.specs.Heads.{IsNext}
use Rattle.pl_event.specs.Numbers.{hart_of}
use Rattle.pl_event.specs.Records.{records_before, IsRecord}
use Rattle.log_clocks.specs.Clocks.{time}
use Rattle.log_check.specs.declared.trace.Outline.{Outline}
use Rattle.log_check.specs.inner.Traced.{IsTraced}
use Rattle.log_check.proofs.Clearing.{names_first, ordered_more}
use Rattle.log_check.proofs.Positions.{event_hart, line_next}
use Rattle.log_check.proofs.Settling.{settle_room, settle_sound}
use Rattle.log_check.proofs.Tracing.{traced_more}
use Rattle.log_check.proofs.order_check.OrderCheck.settle.Goals as goal

pub get-number-requires : goal.get-number-requires
get-number-requires c = (settle_room c.args.self.now c.requires.0 c.requires.1 c.args.line.now c.args.clock.now c.requires.2 c.record_hart-hart.result c.record_hart-hart.ensures).hart

pub returns-in-Some : goal.returns-in-Some
returns-in-Some c log at may =
    let p = c.in-Some.ensures log at may in
    let hart : p.b.hart ≡ c.record_hart-hart.result = event_hart log.lines at p.m p.b c.args.line.now p.pair.second may.here ∙ sym c.record_hart-hart.ensures in
    names_first log at c.in-Some.earlier (record { hart = c.record_hart-hart.result; number = c.get-number.result }) may.ordered p p.m p.b p.pair.second hart
    (sym p.pair.second.1.number ∙ (ap (λ (z : ℕ). records_before z log.lines at + 1) (hart ∙ c.record_hart-hart.ensures)
    ∙ sym (c.get-number.ensures ∙ (ap (time c.args.clock.now) c.record_hart-hart.ensures ∙ may.number))))

pub pass-requires : goal.pass-requires
pass-requires c = settle_sound c.args.self.now c.requires.0 c.requires.1 c.args.line.now c.args.clock.now c.requires.2

pub outline_of-requires-clause-sound : goal.outline_of-requires-clause-sound
outline_of-requires-clause-sound c = settle_sound c.args.self.now c.requires.0 c.requires.1 c.args.line.now c.args.clock.now c.requires.2

pub outline_of-requires-clause-hart : goal.outline_of-requires-clause-hart
outline_of-requires-clause-hart c = (settle_room c.args.self.now c.requires.0 c.requires.1 c.args.line.now c.args.clock.now c.requires.2 (hart_of c.args.line.now.what) refl).hart

pub outline_of-requires-clause-few : goal.outline_of-requires-clause-few
outline_of-requires-clause-few c = (settle_room c.args.self.now c.requires.0 c.requires.1 c.args.line.now c.args.clock.now c.requires.2 (hart_of c.args.line.now.what) refl).records

pub pass-requires-2-clause-hart : goal.pass-requires-2-clause-hart
pass-requires-2-clause-hart c = (settle_room c.args.self.now c.requires.0 c.requires.1 c.args.line.now c.args.clock.now c.requires.2 (hart_of c.args.line.now.what) refl).hart

pub pass-requires-2-clause-few : goal.pass-requires-2-clause-few
pass-requires-2-clause-few c = (settle_room c.args.self.now c.requires.0 c.requires.1 c.args.line.now c.args.clock.now c.requires.2 (hart_of c.args.line.now.what) refl).records

pub pass-requires-3-clause-hart : goal.pass-requires-3-clause-hart
pass-requires-3-clause-hart c = (settle_room c.args.self.now c.requires.0 c.requires.1 c.args.line.now c.args.clock.now c.requires.2 (hart_of c.args.line.now.what) refl).hart

pub pass-requires-3-clause-records : goal.pass-requires-3-clause-records
pass-requires-3-clause-records c = (settle_room c.args.self.now c.requires.0 c.requires.1 c.args.line.now c.args.clock.now c.requires.2 (hart_of c.args.line.now.what) refl).records

pub pass-requires-3-clause-place : goal.pass-requires-3-clause-place
pass-requires-3-clause-place c = (settle_room c.args.self.now c.requires.0 c.requires.1 c.args.line.now c.args.clock.now c.requires.2 (hart_of c.args.line.now.what) refl).place

pub pass-requires-3-clause-events : goal.pass-requires-3-clause-events
pass-requires-3-clause-events c = (settle_room c.args.self.now c.requires.0 c.requires.1 c.args.line.now c.args.clock.now c.requires.2 (hart_of c.args.line.now.what) refl).events

pub returns : goal.returns
returns c log at may =
    let line = c.args.line.now in
    let h = hart_of line.what in
    let next : IsNext log.lines at h line = line_next log.lines at h line may.here refl in
    let number : records_before h log.lines at + 1 ≡ c.get-number.result = sym (c.get-number.ensures ∙ (ap (time c.args.clock.now) c.record_hart-hart.ensures ∙ may.number)) in
    record {
      size = may.size;
      tells = c.pass-3.ensures log.harts log.lines at may.checkable.flow may.tells next;
      clocks = may.clocks;
      lasts = c.in_ok-pass.ensures.ok log.block log.lines at may.lasts (subst (λ (z : ℕ). IsRecord log.lines at h z line) number next);
      alerts = c.pass-2.ensures log.harts log.lines at may.checkable.flow may.tells next may.alerts;
      traced = subst (λ (z : List Outline). IsTraced z log.lines (at + 1)) (sym c.in_ok-push.ensures.ok)
          (traced_more c.args.self.now.trace log.lines at (records_before h log.lines at + 1) line c.outline_of.result may.traced next
          (c.outline_of.ensures.outline log.harts log.lines at may.checkable.flow may.tells next));
      ordered = ordered_more log.block log.lines at may.ordered (c.in_default.ensures log at may);
    }
