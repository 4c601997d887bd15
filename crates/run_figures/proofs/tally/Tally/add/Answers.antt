use Rattle.std.proofs.Common.{◌+◌, ◌++◌, ◌∷◌, [], ℕ, List, refl, ap, arith, ◌∙◌}
use Rattle.std.proofs.lemmas.Result.{IfOk-weaker}
use Rattle.pl_event.specs.declared.event.Event.{Event}
use Rattle.pl_event.specs.declared.log.Line.{Line}
use Rattle.pl_event.specs.declared.log.PageRun.{PageRun}
use Rattle.pl_event.specs.Numbers.{events_of}
use Rattle.run_figures.specs.declared.tally.Tally.{Tally}
use Rattle.run_figures.specs.Tallies.{HasPlayed, HasTallied, MayPlay, MayTally}
use Rattle.run_figures.proofs.Tallying.{may_play, tallied_event, tallied_notice}
use Rattle.run_figures.proofs.tally.Tally.add.Goals as goal

pub count_arcs-requires : goal.count_arcs-requires
count_arcs-requires c = c.requires.3.eight 0 c.args.line.now (omega arith)

pub play-requires : goal.play-requires
play-requires c =
    let old = c.args.self.now in
    let now : Tally = record old { records = old.records + 1; arcs = old.arcs + c.count_arcs.result } in
    (c.requires.0, c.requires.1, events_of c.requires.2, may_play c.requires.0 c.requires.1 c.requires.2 c.args.line.now old c.requires.3 c.in-Event.event now c.in-Event.is refl refl refl)

pub returns-in-Event : goal.returns-in-Event
returns-in-Event c =
    let old = c.args.self.now in
    let now : Tally = record old { records = old.records + 1; arcs = old.arcs + c.count_arcs.result } in
    let line = c.args.line.now in
    let event = c.in-Event.event in
    let new = c.play.new.self in
    IfOk-weaker c.play.result
    (λ _. (harts : ℕ) (pages : List PageRun) (events : List Event) → MayPlay harts pages events event now → HasPlayed harts pages (events ++ event ∷ []) new)
    (λ _. (harts : ℕ) (pages : List PageRun) (lines : List Line) → MayTally harts pages lines (line ∷ []) old → HasTallied harts pages (lines ++ line ∷ []) new)
    (λ _ played harts pages lines may.
    tallied_event harts pages lines line old may event new c.in-Event.is c.play.ensures.records (c.play.ensures.arcs ∙ ap (λ (n : ℕ). old.arcs + n) c.count_arcs.ensures.count) (omega (arith, c.count_arcs.ensures.count, c.count_arcs.ensures.few))
    (played harts pages (events_of lines) (may_play harts pages lines line old may event now c.in-Event.is refl refl refl)))
    c.play.ensures.played

pub returns-in-Notice : goal.returns-in-Notice
returns-in-Notice c harts pages lines may =
    let old = c.args.self.now in
    let now : Tally = record old { records = old.records + 1; arcs = old.arcs + c.count_arcs.result } in
    tallied_notice harts pages lines c.args.line.now old may c.in-Notice.hart c.in-Notice.of now c.in-Notice.is refl (ap (λ (n : ℕ). old.arcs + n) c.count_arcs.ensures.count) (omega (arith, c.count_arcs.ensures.count, c.count_arcs.ensures.few)) refl refl refl
