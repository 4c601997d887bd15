use Rattle.std.proofs.Common.{◌≡◌, ℕ, ◌<◌, ◌≤◌, ap, sym, ◌∙◌, arith}
use Rattle.log_clocks.specs.Clocks.{known, time}
use Rattle.log_clocks.proofs.Knowing.{known_before, known_by, not_known}
use Rattle.log_clocks.proofs.clocks.Clocks.next_knows.Goals as goal

pub returns-then-get-number : goal.returns-then-get-number
returns-then-get-number c harts g i line flow few has next need =
    known_before c.args.self.now harts g flow few i c.args.hart line next has c.args.needs.now need (time c.of-last.result)
    (λ x. c.of-last.ensures x ∙ ap (λ (z : ℕ). known c.args.self.now c.args.hart z x) (c.count.ensures ∙ has.numbers c.args.hart c.requires.hart))
    c.args.u c.args.number c.requires.other (let l : c.args.number ≤ c.get.result = c.if-get-number.true in let e : c.get.result ≡ time c.of-last.result c.args.u = c.get.ensures in omega arith)

pub returns-then-entry-number : goal.returns-then-entry-number
returns-then-entry-number c harts g i line flow few has next need =
    known_by c.args.self.now harts g flow few i c.args.hart line next has c.args.needs.now need (time c.of-last.result)
    (λ x. c.of-last.ensures x ∙ ap (λ (z : ℕ). known c.args.self.now c.args.hart z x) (c.count.ensures ∙ has.numbers c.args.hart c.requires.hart))
    c.args.u c.args.number c.requires.other c.loop-w.w c.in-Some.needed c.loop-w-test.true (sym c.get-in-loop-w.ensures ∙ c.in-Some.is)
    (let l : c.args.number ≤ c.entry.result = c.if-entry-number.true in let e : c.entry.result ≡ known c.args.self.now c.loop-w.w c.in-Some.needed c.args.u = c.entry.ensures in omega arith)

pub returns : goal.returns
returns c harts g i line flow few has next need =
    not_known c.args.self.now harts g flow few i c.args.hart line next has c.args.needs.now need (time c.of-last.result)
    (λ x. c.of-last.ensures x ∙ ap (λ (z : ℕ). known c.args.self.now c.args.hart z x) (c.count.ensures ∙ has.numbers c.args.hart c.requires.hart))
    c.args.u c.args.number c.requires.other
    (let l : c.get.result < c.args.number = c.if-get-number.false in let e : c.get.result ≡ time c.of-last.result c.args.u = c.get.ensures in omega arith)
    (λ w k low e. c.loop-w.invariant w k (let z : 8 ≤ c.loop-w.w = c.loop-w-test.false in omega arith) e)
