use Rattle.std.proofs.Common.{◌≡◌, get_or, sym, arith}
use Rattle.std.proofs.lemmas.Bool.{le-ltb}
use Rattle.log_text.specs.WellFormed.{records_in}
use Rattle.log_text.proofs.TallyLemmas.{is_awaited-kept, is_awaited-none}
use Rattle.log_text.proofs.judge.is_expected.Goals as goal

pub returns-then-number-tally : goal.returns-then-number-tally
returns-then-number-tally c = λ before keeps low.
    let at : c.from.result ≡ c.args.hart = omega (arith, c.from.ensures) in
    let counted : get_or c.args.tally.now.numbers c.from.result 0 ≡ records_in c.args.hart before = rw at (keeps.numbers c.args.hart low) in
    is_awaited-kept c.args.tally.now before c.args.hart (get_or c.args.tally.now.numbers c.from.result 0) c.some_names.result keeps low counted
    c.some_names.ensures.yes c.some_names.ensures.no

pub returns-else-number-tally : goal.returns-else-number-tally
returns-else-number-tally c = λ before keeps low.
    let at : c.from.result ≡ c.args.hart = omega (arith, c.from.ensures) in
    let at_named : c.from-2.result ≡ c.args.hart = omega (arith, c.from-2.ensures) in
    let counted : get_or c.args.tally.now.numbers c.from.result 0 ≡ records_in c.args.hart before = rw at (keeps.numbers c.args.hart low) in
    let most = rw at_named at c.if-number-tally.false in
    rw (le-ltb _ _ c.if-number-tally.false)
    (sym (is_awaited-none c.args.tally.now before c.args.hart (get_or c.args.tally.now.numbers c.from.result 0) keeps low counted most))
