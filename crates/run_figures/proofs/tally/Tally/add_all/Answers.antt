use Rattle.std.proofs.Common.{◌++◌, List, take, subst}
use Rattle.std.proofs.lemmas.List.{take_all}
use Rattle.pl_event.specs.declared.log.Line.{Line}
use Rattle.run_figures.specs.Tallies.{HasTallied}
use Rattle.run_figures.proofs.Tallying.{may_tally, tallied_more}
use Rattle.run_figures.proofs.tally.Tally.add_all.Goals as goal

pub add-requires : goal.add-requires
add-requires c =
    let more = c.args.more.now in
    let i = c.loop-line.line-index in
    let r = c.requires in
    (r.0, r.1, r.2 ++ take i more, may_tally r.0 r.1 r.2 more c.args.self.now c.loop-line.self i c.line-item.result c.loop-line-test.true c.line-item.is r.3 (c.loop-line.invariant r.0 r.1 r.2 r.3))

pub loop-line-preserved : goal.loop-line-preserved
loop-line-preserved c harts pages lines may =
    let more = c.args.more.now in
    let i = c.loop-line.line-index in
    let line = c.line-item.result in
    let next = may_tally harts pages lines more c.args.self.now c.loop-line.self i line c.loop-line-test.true c.line-item.is may (c.loop-line.invariant harts pages lines may) in
    tallied_more harts pages lines more c.add.new.self i line c.loop-line-test.true c.line-item.is (c.in_ok-add.ensures harts pages (lines ++ take i more) next)

pub returns : goal.returns
returns c harts pages lines may =
    subst (λ (ls : List Line). HasTallied harts pages (lines ++ ls) c.loop-line.self) (take_all c.loop-line.line-index c.args.more.now c.loop-line-test.false) (c.loop-line.invariant harts pages lines may)
