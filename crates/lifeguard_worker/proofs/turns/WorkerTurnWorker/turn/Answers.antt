use Rattle.std.proofs.Common.{◌≡◌, ◌+◌, ◌<◌, refl, sym, ap, ◌∙◌, subst, arith}
use Rattle.guard_table.specs.declared.view.View.{View}
use Rattle.guard_table.specs.Seats.{seat_view}
use Rattle.turn_worker.specs.declared.worker.Turn.{Turn}
use Rattle.turn_worker.specs.Turns.{IsAnswer}
use Rattle.turn_worker.specs.Workers.{WorkerView}
use Rattle.lifeguard_worker.specs.Workers.{table_of, worker_view}
use Rattle.lifeguard_worker.proofs.AnswerLemmas.{answer_last, later_less, later_more, later_none, steps_more}
use Rattle.lifeguard_worker.proofs.turns.WorkerTurnWorker.turn.Goals as goal

pub loop-init : goal.loop-init
loop-init g c =
    let s = c.args.self.now in
    let v : WorkerView = worker_view (g.L.Lifeguard.rules s.guard) (table_of s.seat) (seat_view s.seat) s.state s.fed s.ended in
    record { later = later_none v; taken = omega arith; steps = refl }

pub turn_one-requires-clause-of : goal.turn_one-requires-clause-of
turn_one-requires-clause-of g c = (
  ap (λ (z : WorkerView). z.table) c.loop.invariant.later.same ∙ c.requires.of.0,
  ap (λ (z : View). z.course) c.loop.invariant.later.seat ∙ c.requires.of.1,
)

pub turn_one-requires-clause-plan : goal.turn_one-requires-clause-plan
turn_one-requires-clause-plan g c = c.requires.plan ∙ sym (ap (λ (z : WorkerView). z.plan) c.loop.invariant.later.same)

pub returns-in_default : goal.returns-in_default
returns-in_default g c =
    let s = c.args.self.now in
    let m = c.loop.self in
    let e = c.turn_one.new.self in
    let u : WorkerView = worker_view (g.L.Lifeguard.rules s.guard) (table_of s.seat) (seat_view s.seat) s.state s.fed s.ended in
    let v : WorkerView = worker_view (g.L.Lifeguard.rules m.guard) (table_of m.seat) (seat_view m.seat) m.state m.fed m.ended in
    let w : WorkerView = worker_view (g.L.Lifeguard.rules e.guard) (table_of e.seat) (seat_view e.seat) e.state e.fed e.ended in
    let lt : c.loop.counter < c.args.records = c.loop-test.true in
    record {
      later = later_less (c.loop.counter + 1) c.args.records u w (omega (arith, lt)) (later_more c.loop.counter 1 u v w c.loop.invariant.later c.turn_one.ensures.later);
      answer = answer_last c.args.records c.loop.counter u v w c.turn_one.result c.in_default.not-Moved c.loop.invariant.later c.loop.invariant.taken lt c.turn_one.ensures.answer;
      steps = steps_more c.loop.counter u v w c.args.steps.now c.loop.steps c.turn_one.new.steps c.loop.invariant.later c.loop.invariant.steps c.turn_one.ensures.steps;
    }

pub loop-preserved : goal.loop-preserved
loop-preserved g c =
    let s = c.args.self.now in
    let m = c.loop.self in
    let e = c.turn_one.new.self in
    let u : WorkerView = worker_view (g.L.Lifeguard.rules s.guard) (table_of s.seat) (seat_view s.seat) s.state s.fed s.ended in
    let v : WorkerView = worker_view (g.L.Lifeguard.rules m.guard) (table_of m.seat) (seat_view m.seat) m.state m.fed m.ended in
    let w : WorkerView = worker_view (g.L.Lifeguard.rules e.guard) (table_of e.seat) (seat_view e.seat) e.state e.fed e.ended in
    let one : w.taken ≡ v.taken + 1 = subst (λ (a : Turn). IsAnswer 1 v w a) c.in-Moved.is c.turn_one.ensures.answer in
    record {
      later = later_more c.loop.counter 1 u v w c.loop.invariant.later c.turn_one.ensures.later;
      taken = omega (arith, one, c.loop.invariant.taken);
      steps = steps_more c.loop.counter u v w c.args.steps.now c.loop.steps c.turn_one.new.steps c.loop.invariant.later c.loop.invariant.steps c.turn_one.ensures.steps;
    }

pub returns-clause-later : goal.returns-clause-later
returns-clause-later g c =
    let s = c.args.self.now in
    let m = c.loop.self in
    let u : WorkerView = worker_view (g.L.Lifeguard.rules s.guard) (table_of s.seat) (seat_view s.seat) s.state s.fed s.ended in
    let v : WorkerView = worker_view (g.L.Lifeguard.rules m.guard) (table_of m.seat) (seat_view m.seat) m.state m.fed m.ended in
    later_less c.loop.counter c.args.records u v c.loop.auto.counter-end c.loop.invariant.later

pub returns-clause-answer : goal.returns-clause-answer
returns-clause-answer g c = omega (arith, c.loop-test.false, c.loop.auto.counter-end, c.loop.invariant.taken)

pub returns-clause-steps : goal.returns-clause-steps
returns-clause-steps g c = c.loop.invariant.steps
