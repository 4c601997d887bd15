use Rattle.std.proofs.Common.{◌≡◌, get_or, None, sym, ◌∙◌, arith}
use Rattle.log_text.proofs.TallyLemmas.{is_waiting-kept, is_waiting-none}
use Rattle.log_text.proofs.judge.is_open.Goals as goal

pub returns-in-Some : goal.returns-in-Some
returns-in-Some c = λ before keeps low.
    let at : c.from.result ≡ c.args.hart = omega (arith, c.from.ensures) in
    let kept = rw at at c.in-Some.is in
    let told = keeps.there c.args.hart c.in-Some.of low kept in
    c.is_to_come.ensures before keeps (keeps.low c.args.hart c.in-Some.of told).1
    ∙ sym (is_waiting-kept c.args.tally.now before c.args.hart c.in-Some.of keeps low kept)

pub returns-in-None : goal.returns-in-None
returns-in-None c = λ before keeps low.
    let at : c.from.result ≡ c.args.hart = omega (arith, c.from.ensures) in
    let none : get_or c.args.tally.now.notices c.from.result None ≡ None = c.in-None.is in
    sym (is_waiting-none c.args.tally.now before c.args.hart keeps (rw at at none))
