use Rattle.std.proofs.Common.{◌≡◌, ℕ, ◌<◌, ◌∙◌, List, length, take, subst, arith}
use Rattle.std.specs.Prelude.{All}
use Rattle.std.proofs.lemmas.List.{take_all}
use Rattle.pl_event.specs.declared.event.Event.{Event}
use Rattle.pl_event.specs.declared.log.Line.{Line}
use Rattle.pl_event.proofs.EventLemmas.{few_events}
use Rattle.arc_capture.specs.Recorder.{HasRecorded}
use Rattle.pl_event.specs.Numbers.{events_of}
use Rattle.arc_capture.proofs.Again.{few_recorded, may_record, next_recorded}
use Rattle.arc_capture.proofs.recaptured.lines_again.Goals as goal

pub record_again-requires : goal.record_again-requires
record_again-requires c =
    let log = c.args.log.now in
    let at = c.records.i in
    let now = c.records.recorder in
    let low : at < length log.lines = omega (arith, c.len-i-end.ensures, c.records-test.true) in
    (c.args.block, events_of (take at log.lines), may_record log c.requires.log c.requires.few c.args.block at c.record.result low c.record.ensures now.placer now.marker c.records.lines c.records.invariant.harts c.records.invariant.has)

pub records-preserved : goal.records-preserved
records-preserved c =
    let log = c.args.log.now in
    let at = c.records.i in
    let now = c.records.recorder in
    let low : at < length log.lines = omega (arith, c.len-i-end.ensures, c.records-test.true) in
    let may = may_record log c.requires.log c.requires.few c.args.block at c.record.result low c.record.ensures now.placer now.marker c.records.lines c.records.invariant.harts c.records.invariant.has in
    record {
      harts = c.record_again.ensures.harts ∙ c.records.invariant.harts;
      has = next_recorded log c.requires.log c.requires.few c.args.block at c.record.result low c.record.ensures c.record_again.new.recorder.placer c.record_again.new.recorder.marker c.record_again.new.lines
          (c.in_ok-record_again.ensures.ok c.args.block (events_of (take at log.lines)) may);
    }

pub returns-clause-few : goal.returns-clause-few
returns-clause-few c =
    let log = c.args.log.now in
    let now = c.records.recorder in
    let all : take c.records.i log.lines ≡ log.lines = take_all c.records.i log.lines (omega (arith, c.records-test.false, c.len-i-end.ensures)) in
    let has : HasRecorded now.placer now.marker c.args.block (events_of log.lines) c.records.lines =
    subst (λ (ls : List Line). HasRecorded now.placer now.marker c.args.block (events_of ls) c.records.lines) all c.records.invariant.has in
    few_recorded now.placer now.marker c.args.block (events_of log.lines) c.records.lines has (omega (arith, few_events log.lines, c.requires.few))

pub returns-clause-inside : goal.returns-clause-inside
returns-clause-inside c =
    let log = c.args.log.now in
    let now = c.records.recorder in
    let all : take c.records.i log.lines ≡ log.lines = take_all c.records.i log.lines (omega (arith, c.records-test.false, c.len-i-end.ensures)) in
    let has : HasRecorded now.placer now.marker c.args.block (events_of log.lines) c.records.lines =
    subst (λ (ls : List Line). HasRecorded now.placer now.marker c.args.block (events_of ls) c.records.lines) all c.records.invariant.has in
    subst (λ (h : ℕ). All (λ (event : Event). event.hart < h) (events_of log.lines)) c.records.invariant.harts has.inside
