use Rattle.std.proofs.Common.{sym, ap, ◌∙◌, ◌≡◌, None, ℕ}
use Rattle.log_grammar.specs.Spelling.{page, entries_of}
use Rattle.log_text.specs.WellFormed.{broken}
use Rattle.log_text.proofs.ReaderLemmas.{by_pages, page_broken, pages_over}
use Rattle.log_text.proofs.reader.LogReader.next_pages.Goals as goal

pub returns-in_default-clause-missed : goal.returns-in_default-clause-missed
returns-in_default-clause-missed c = λ bytes later log next by. pages_over c.args.self.now bytes c.args.text.now later log next by c.in_default.ensures.missed

pub returns-in-Some-judge_page-clause-fault : goal.returns-in-Some-judge_page-clause-fault
returns-in-Some-judge_page-clause-fault c = λ bytes later log next by.
    rw c.fault.ensures
    (page_broken c.args.self.now bytes c.args.text.now later c.in-Some.rest.now log c.in-Some.run' c.in-Some-judge_page.cause by c.in-Some.ensures.found
    (sym (c.in-Some-judge_page.ensures (entries_of log) by.keeps)))

pub returns-clause-found : goal.returns-clause-found
returns-clause-found c = λ bytes later log bare next by.
    let unbroken : broken c.args.self.now.tally.harts (entries_of log) (page c.in-Some.run') ≡ None = sym (c.in_default-judge_page.ensures (entries_of log) by.keeps) in
    let kept = ap (λ (h : ℕ). broken h (entries_of log) (page c.in-Some.run')) (sym by.harts) ∙ unbroken in
    rw c.count_line.ensures
    (by_pages c.args.self.now c.add_page.new.self c.args.self.now.arcs bytes c.args.text.now later c.in-Some.rest.now log c.in-Some.run' bare next by c.in-Some.ensures.found kept c.add_page.ensures.harts
    (c.add_page.ensures.keeps (entries_of log) by.keeps unbroken))
