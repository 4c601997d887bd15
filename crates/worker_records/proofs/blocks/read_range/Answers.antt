use Rattle.std.proofs.Common.{◌≡◌, ℕ, ◌+◌, ◌/◌, ◌^◌, ◌<◌, ◌≤◌, sym, ap, ◌∙◌, subst, arith}
use Rattle.lifeguard.specs.State.{nibble_at}
use Rattle.guard_table.specs.declared.view.View.{View}
use Rattle.guard_table.specs.Seats.{plan_of, seat_view}
use Rattle.log_plan.specs.Plans.{plan_of as log_plan_of}
use Rattle.order_core.specs.declared.course.Course.{Course}
use Rattle.shadow_layout.specs.Operations.{blocks_of}
use Rattle.worker_laws.specs.Runs.{Run, before}
use Rattle.worker_records.specs.Blocks.{part_of}
use Rattle.worker_records.specs.declared.ranges.ByteRange.{ByteRange}
use Rattle.worker_records.specs.Places.{run_at}
use Rattle.worker_records.proofs.BlockLemmas.{all_found}
use Rattle.worker_records.proofs.RangeLemmas.{read_few, read_found, read_next, read_now, read_small}
use Rattle.worker_records.proofs.blocks.read_range.Goals as goal

here : (range : ByteRange) (i d : ℕ) (part : ByteRange) → d ≡ 16 → part ≡ part_of range (range.addr / d + i) → part ≡ part_of range (range.addr / 16 + i)
here range i d part e is = is ∙ ap (λ (z : ℕ). part_of range (range.addr / z + i)) e

pub read_block-found-requires-clause-few : goal.read_block-found-requires-clause-few
read_block-found-requires-clause-few g c =
    let v = seat_view c.args.seat.now in
    let inv = c.loop-i.invariant in
    read_few (run_at (g.L.Lifeguard.rules c.args.guard) v) v c.args.number c.requires.amid.0 c.args.range c.requires.range (g.P.Plan.planned (plan_of c.args.monitor.now)) (sym c.requires.at.plan) c.requires.amid.1
    c.loop-i.i (subst (λ (z : ℕ). c.loop-i.i < z) c.blocks-i-end.ensures c.loop-i-test.true) (seat_view c.loop-i.seat) c.loop-i.op inv.view inv.op

pub read_block-found-requires-clause-due : goal.read_block-found-requires-clause-due
read_block-found-requires-clause-due g c =
    let v = seat_view c.args.seat.now in
    let inv = c.loop-i.invariant in
    read_now (run_at (g.L.Lifeguard.rules c.args.guard) v) v c.args.number c.requires.amid.0 c.args.range c.requires.range (g.P.Plan.planned (plan_of c.args.monitor.now)) (sym c.requires.at.plan) c.requires.amid.1
    c.loop-i.i (subst (λ (z : ℕ). c.loop-i.i < z) c.blocks-i-end.ensures c.loop-i-test.true) (seat_view c.loop-i.seat) c.loop-i.op inv.view inv.op c.in_block-part.result (here c.args.range c.loop-i.i c.from.result c.in_block-part.result c.from.ensures c.in_block-part.ensures)

pub overflow_add-op : goal.overflow_add-op
overflow_add-op g c =
    let v = seat_view c.args.seat.now in
    let inv = c.loop-i.invariant in
    let p : Run = run_at (g.L.Lifeguard.rules c.args.guard) v in
    let plan = g.P.Plan.planned (plan_of c.args.monitor.now) in
    let lt : c.loop-i.i < blocks_of c.args.range.addr c.args.range.len = subst (λ (z : ℕ). c.loop-i.i < z) c.blocks-i-end.ensures c.loop-i-test.true in
    let part : c.in_block-part.result ≡ part_of c.args.range (c.args.range.addr / 16 + c.loop-i.i) = here c.args.range c.loop-i.i c.from.result c.in_block-part.result c.from.ensures c.in_block-part.ensures in
    let small : c.loop-i.op + c.read_block-found.result.operations < 2 ^ 32 = read_small p v c.args.number c.requires.amid.0 c.args.range c.requires.range plan (sym c.requires.at.plan) c.requires.amid.1 c.loop-i.i lt (seat_view c.loop-i.seat) c.loop-i.op inv.view inv.op c.in_block-part.result part
    (seat_view c.read_block-found.new.seat) c.read_block-found.result c.read_block-found.ensures.made in
    omega (arith, small)

pub next_touched-touched-requires-clause-low : goal.next_touched-touched-requires-clause-low
next_touched-touched-requires-clause-low g c i l =
    let v = seat_view c.args.seat.now in
    let inv = c.loop-i.invariant in
    let p : Run = run_at (g.L.Lifeguard.rules c.args.guard) v in
    let plan = g.P.Plan.planned (plan_of c.args.monitor.now) in
    let lt : c.loop-i.i < blocks_of c.args.range.addr c.args.range.len = subst (λ (z : ℕ). c.loop-i.i < z) c.blocks-i-end.ensures c.loop-i-test.true in
    let part : c.in_block-part.result ≡ part_of c.args.range (c.args.range.addr / 16 + c.loop-i.i) = here c.args.range c.loop-i.i c.from.result c.in_block-part.result c.from.ensures c.in_block-part.ensures in
    ((read_next p v c.args.number c.requires.amid.0 c.args.range c.requires.range plan (sym c.requires.at.plan) c.requires.amid.1 c.loop-i.i lt (seat_view c.loop-i.seat) c.loop-i.op inv.view inv.op c.in_block-part.result part
    (seat_view c.read_block-found.new.seat) c.read_block-found.result c.read_block-found.ensures.made).tells i l).1

pub next_sent-sent-requires-clause-low : goal.next_sent-sent-requires-clause-low
next_sent-sent-requires-clause-low g c i l =
    let v = seat_view c.args.seat.now in
    let inv = c.loop-i.invariant in
    let p : Run = run_at (g.L.Lifeguard.rules c.args.guard) v in
    let plan = g.P.Plan.planned (plan_of c.args.monitor.now) in
    let lt : c.loop-i.i < blocks_of c.args.range.addr c.args.range.len = subst (λ (z : ℕ). c.loop-i.i < z) c.blocks-i-end.ensures c.loop-i-test.true in
    let part : c.in_block-part.result ≡ part_of c.args.range (c.args.range.addr / 16 + c.loop-i.i) = here c.args.range c.loop-i.i c.from.result c.in_block-part.result c.from.ensures c.in_block-part.ensures in
    ((read_next p v c.args.number c.requires.amid.0 c.args.range c.requires.range plan (sym c.requires.at.plan) c.requires.amid.1 c.loop-i.i lt (seat_view c.loop-i.seat) c.loop-i.op inv.view inv.op c.in_block-part.result part
    (seat_view c.read_block-found.new.seat) c.read_block-found.result c.read_block-found.ensures.made).tells i l).1

pub loop-i-preserved : goal.loop-i-preserved
loop-i-preserved g c =
    let v = seat_view c.args.seat.now in
    let inv = c.loop-i.invariant in
    let p : Run = run_at (g.L.Lifeguard.rules c.args.guard) v in
    let plan = g.P.Plan.planned (plan_of c.args.monitor.now) in
    let lt : c.loop-i.i < blocks_of c.args.range.addr c.args.range.len = subst (λ (z : ℕ). c.loop-i.i < z) c.blocks-i-end.ensures c.loop-i-test.true in
    let part : c.in_block-part.result ≡ part_of c.args.range (c.args.range.addr / 16 + c.loop-i.i) = here c.args.range c.loop-i.i c.from.result c.in_block-part.result c.from.ensures c.in_block-part.ensures in
    let next = read_next p v c.args.number c.requires.amid.0 c.args.range c.requires.range plan (sym c.requires.at.plan) c.requires.amid.1 c.loop-i.i lt (seat_view c.loop-i.seat) c.loop-i.op inv.view inv.op c.in_block-part.result part
    (seat_view c.read_block-found.new.seat) c.read_block-found.result c.read_block-found.ensures.made in
    record {
      at = record { of = c.read_block-found.ensures.of; plan = subst (λ (z : Course). plan ≡ log_plan_of (g.L.Lifeguard.rules c.args.guard) z.log) (sym (ap (λ (z : View). z.course) next.view)) c.requires.at.plan };
      view = next.view;
      op = next.operations;
      touched = read_found p v c.args.number c.requires.amid.0 c.args.range c.requires.range plan (sym c.requires.at.plan) c.requires.amid.1 c.loop-i.i lt (seat_view c.loop-i.seat) c.loop-i.op inv.view inv.op c.in_block-part.result part
          (λ a. (g.L.Lifeguard.rules c.args.guard).bad_access (nibble_at (before p v.hart c.args.number).state.bytes a)) c.loop-i.touched c.next_touched-touched.result inv.touched
          (c.next_touched-touched.ensures (before p v.hart c.args.number).state.bytes next.tells);
      sent = read_found p v c.args.number c.requires.amid.0 c.args.range c.requires.range plan (sym c.requires.at.plan) c.requires.amid.1 c.loop-i.i lt (seat_view c.loop-i.seat) c.loop-i.op inv.view inv.op c.in_block-part.result part
          (λ a. (g.L.Lifeguard.rules c.args.guard).bad_value (nibble_at (before p v.hart c.args.number).state.bytes a)) c.loop-i.sent c.next_sent-sent.result inv.sent
          (c.next_sent-sent.ensures (before p v.hart c.args.number).state.bytes next.tells);
    }

pub returns-clause-touched : goal.returns-clause-touched
returns-clause-touched g c =
    let v = seat_view c.args.seat.now in
    let p : Run = run_at (g.L.Lifeguard.rules c.args.guard) v in
    all_found (λ a. (g.L.Lifeguard.rules c.args.guard).bad_access (nibble_at (before p v.hart c.args.number).state.bytes a)) c.args.range.addr c.args.range.len c.loop-i.i c.loop-i.touched
    (subst (λ (z : ℕ). z ≤ c.loop-i.i) c.blocks-i-end.ensures c.loop-i-test.false) c.loop-i.invariant.touched

pub returns-clause-sent : goal.returns-clause-sent
returns-clause-sent g c =
    let v = seat_view c.args.seat.now in
    let p : Run = run_at (g.L.Lifeguard.rules c.args.guard) v in
    all_found (λ a. (g.L.Lifeguard.rules c.args.guard).bad_value (nibble_at (before p v.hart c.args.number).state.bytes a)) c.args.range.addr c.args.range.len c.loop-i.i c.loop-i.sent
    (subst (λ (z : ℕ). z ≤ c.loop-i.i) c.blocks-i-end.ensures c.loop-i-test.false) c.loop-i.invariant.sent
