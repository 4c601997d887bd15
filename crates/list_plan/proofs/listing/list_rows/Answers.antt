use Rattle.std.proofs.Common.{◌≡◌, ℕ, ◌+◌, ◌<◌, ◌≤◌, List, [], length, take, All, slice_index, sym, ap, ◌∙◌, subst, arith}
use Rattle.pl_event.specs.declared.log.PageRun.{PageRun}
use Rattle.pl_event.specs.Numbers.{events_of, hart_of}
use Rattle.lifeguard.specs.Shadow.{Represents}
use Rattle.log_plan.specs.Plans.{plan_of}
use Rattle.list_plan.specs.inner.Fills.{words_of}
use Rattle.list_plan.specs.inner.Rows.{HasRows}
use Rattle.list_plan.proofs.LineLemmas.{at, few_harts, hart_low, line_room, needs_are, pages_inside, sound_of, tells_next}
use Rattle.list_plan.proofs.RowLemmas.{no_rows_yet, rows_next}
use Rattle.list_plan.proofs.StepLemmas.{ops_are, place_low, room_here, state_step, words_next}
use Rattle.list_plan.proofs.listing.list_rows.Goals as goal

pub new-requires-clause-few : goal.new-requires-clause-few
new-requires-clause-few g c = few_harts c.args.log.now c.requires.run

pub new-requires-clause-inside : goal.new-requires-clause-inside
new-requires-clause-inside g c = subst (All (λ (p : PageRun). p.first + p.count ≤ 4096)) (sym c.as_slice.ensures) (pages_inside c.args.log.now c.requires.run)

pub loop-at-init : goal.loop-at-init
loop-at-init g c =
    let rules = g.L.Lifeguard.rules c.args.guard in
    let log = c.args.log.now in
    record {
      words = c.new-filler.ensures.words ∙ ap slice_index c.in_ok-opening.ensures.words;
      none = c.new-filler.ensures.operations;
      guard = c.in_ok-monitor.ensures.guard;
      harts = c.in_ok-monitor.ensures.harts;
      state = subst (λ (pages : List PageRun). Represents rules pages [] c.in_ok-monitor.monitor.shadow) c.as_slice.ensures c.in_ok-monitor.ensures.stands;
      heads = ∣ c.new-heads.ensures log.lines ∣₁;
      count = c.in_ok-streams.ensures.count;
      rows = no_rows_yet log.lines (plan_of rules log).operations c.in_ok-streams.streams.items c.in_ok-streams.ensures.none;
    }

pub needs-needs-requires-clause-hart : goal.needs-needs-requires-clause-hart
needs-needs-requires-clause-hart g c =
    subst (λ (h : ℕ). h < 8) (sym c.record_hart-hart.ensures)
    (line_room c.args.log.now c.requires.run c.loop-at.at c.get-line.result c.get-line.ensures c.loop-at.heads c.loop-at.invariant.heads c.requires.few).0

pub needs-needs-requires-clause-few : goal.needs-needs-requires-clause-few
needs-needs-requires-clause-few g c =
    subst (λ (h : ℕ). slice_index c.loop-at.heads.records h + 1 < 4294967296) (sym c.record_hart-hart.ensures)
    (line_room c.args.log.now c.requires.run c.loop-at.at c.get-line.result c.get-line.ensures c.loop-at.heads c.loop-at.invariant.heads c.requires.few).1

pub operations_of-requires-clause-room : goal.operations_of-requires-clause-room
operations_of-requires-clause-room g c =
    let was = c.loop-at.invariant in
    room_here (g.L.Lifeguard.rules c.loop-at.monitor.guard) (g.L.Lifeguard.rules c.args.guard) (ap g.L.Lifeguard.rules was.guard) c.args.log.now c.loop-at.at c.get-line.result c.get-line.ensures c.loop-at.monitor.shadow was.state (words_of c.loop-at.filler) was.words
    c.requires.run (g.met.L.Lifeguard.lawful c.args.guard) c.loop-at.monitor.harts was.harts

pub operations_of-requires-clause-none : goal.operations_of-requires-clause-none
operations_of-requires-clause-none g c = c.loop-at.invariant.none

pub add_row-requires : goal.add_row-requires
add_row-requires g c =
    let low : hart_of c.get-line.result.what < c.args.log.now.harts = hart_low c.args.log.now c.requires.run c.loop-at.at c.get-line.result c.get-line.ensures in
    let own : c.record_hart-hart.result ≡ hart_of c.get-line.result.what = c.record_hart-hart.ensures in
    let count : length c.loop-at.streams.items ≡ c.args.log.now.harts = c.loop-at.invariant.count in
    omega (arith, low, own, count)

pub apply_record-requires-clause-valid : goal.apply_record-requires-clause-valid
apply_record-requires-clause-valid g c =
    let was = c.loop-at.invariant in
    let given = g.L.Lifeguard.rules c.loop-at.monitor.guard in
    sound_of given (words_of c.loop-at.filler) c.loop-at.monitor.harts c.get-line.result.what
    (room_here given (g.L.Lifeguard.rules c.args.guard) (ap g.L.Lifeguard.rules was.guard) c.args.log.now c.loop-at.at c.get-line.result c.get-line.ensures c.loop-at.monitor.shadow was.state (words_of c.loop-at.filler) was.words
    c.requires.run (g.met.L.Lifeguard.lawful c.args.guard) c.loop-at.monitor.harts was.harts)

pub apply_record-requires-clause-room : goal.apply_record-requires-clause-room
apply_record-requires-clause-room g c =
    place_low (g.L.Lifeguard.rules c.args.guard) c.args.log.now c.loop-at.at c.loop-at.monitor.shadow c.loop-at.invariant.state (omega arith) c.requires.few

pub pass-requires-clause-hart : goal.pass-requires-clause-hart
pass-requires-clause-hart g c =
    (line_room c.args.log.now c.requires.run c.loop-at.at c.get-line.result c.get-line.ensures c.loop-at.heads c.loop-at.invariant.heads c.requires.few).0

pub pass-requires-clause-records : goal.pass-requires-clause-records
pass-requires-clause-records g c =
    (line_room c.args.log.now c.requires.run c.loop-at.at c.get-line.result c.get-line.ensures c.loop-at.heads c.loop-at.invariant.heads c.requires.few).1

pub pass-requires-clause-place : goal.pass-requires-clause-place
pass-requires-clause-place g c =
    (line_room c.args.log.now c.requires.run c.loop-at.at c.get-line.result c.get-line.ensures c.loop-at.heads c.loop-at.invariant.heads c.requires.few).2

pub pass-requires-clause-events : goal.pass-requires-clause-events
pass-requires-clause-events g c =
    (line_room c.args.log.now c.requires.run c.loop-at.at c.get-line.result c.get-line.ensures c.loop-at.heads c.loop-at.invariant.heads c.requires.few).3

pub loop-at-preserved : goal.loop-at-preserved
loop-at-preserved g c =
    let rules = g.L.Lifeguard.rules c.args.guard in
    let given = g.L.Lifeguard.rules c.loop-at.monitor.guard in
    let log = c.args.log.now in
    let run = c.requires.run in
    let was = c.loop-at.invariant in
    let i = c.loop-at.at in
    let line = c.get-line.result in
    let here = c.get-line.ensures in
    let same : given ≡ rules = ap g.L.Lifeguard.rules was.guard in
    let hart = c.record_hart-hart.result in
    let own : c.record_hart-hart.result ≡ hart_of c.get-line.result.what = c.record_hart-hart.ensures in
    let within : hart_of c.get-line.result.what < c.args.log.now.harts = hart_low c.args.log.now c.requires.run c.loop-at.at c.get-line.result c.get-line.ensures in
    let count : length c.loop-at.streams.items ≡ c.args.log.now.harts = c.loop-at.invariant.count in
    let low : c.record_hart-hart.result < length c.loop-at.streams.items = omega (arith, within, own, count) in
    record {
      words = words_next given rules same log i line here c.loop-at.monitor.shadow was.state (words_of c.loop-at.filler) was.words (words_of c.operations_of.new.self) c.in_ok-operations.ensures.words;
      none = c.in_ok-operations.ensures.none;
      guard = c.in_ok-apply_record.ensures.guard ∙ was.guard;
      harts = c.in_ok-apply_record.ensures.harts ∙ was.harts;
      state = state_step given rules same log i line here c.loop-at.monitor.shadow was.state (words_of c.loop-at.filler) was.words c.apply_record.new.monitor.shadow (c.in_ok-apply_record.ensures.represents log.pages (events_of (take i log.lines)));
      heads = tells_next log run i line here c.loop-at.heads was.heads c.requires.few c.pass.new.self c.pass.ensures;
      count = c.in_ok-add_row.ensures.count ∙ was.count;
      rows = rows_next log.lines (plan_of rules log).operations i line (at log run i line here) hart own c.loop-at.streams.items c.add_row.new.streams.items _ c.in_ok-add_row.ensures.count low c.in_ok-add_row.ensures.added c.in_ok-add_row.ensures.others
          (record {
            operations = c.in_ok-operations.ensures.operations ∙ ops_are given rules same log i line here c.loop-at.monitor.shadow was.state (words_of c.loop-at.filler) was.words hart own;
            needs = needs_are log run i line here c.loop-at.heads was.heads c.requires.few hart own c.needs-needs.result c.needs-needs.ensures;
          }) was.rows;
    }

pub returns-clause-harts : goal.returns-clause-harts
returns-clause-harts g c = c.loop-at.invariant.count

pub returns-clause-rows : goal.returns-clause-rows
returns-clause-rows g c =
    let log = c.args.log.now in
    let done : c.loop-at.at ≡ length log.lines = omega arith in
    subst (λ (n : ℕ). HasRows log.lines (plan_of (g.L.Lifeguard.rules c.args.guard) log).operations n c.loop-at.streams.items) done c.loop-at.invariant.rows
