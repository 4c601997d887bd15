use Rattle.std.proofs.Common.{◌≡◌, ◌+◌, ◌++◌, ◌∙◌, List, inr, take, sym, ap, subst, arith}
use Rattle.std.proofs.lemmas.List.{take_all}
use Rattle.pl_event.specs.declared.event.Event.{Event}
use Rattle.pl_event.specs.declared.log.Line.{Line}
use Rattle.run_record.specs.Recording.{HasLines}
use Rattle.run_record.proofs.Feeding.{may_feed, fed_more}
use Rattle.run_record.proofs.recording.Recording.feed_all.Goals as goal

pub feed_into-requires : goal.feed_into-requires
feed_into-requires c =
    let first = c.args.self.now.recorder in
    let now = c.events.self.recorder in
    let before = c.requires.0 in
    let made = c.requires.1 in
    let may = c.requires.2 in
    let events = c.args.events.now in
    let lines = c.events.lines.items in
    inr (16, before ++ take c.events.i events, made ++ lines, may_feed first now before made events c.events.i c.at.result lines c.at.ensures c.events.invariant.harts may (c.events.invariant.has before made may))

pub events-preserved : goal.events-preserved
events-preserved c = record {
  harts = c.feed_into.ensures.harts ∙ c.events.invariant.harts;
  machine = c.events.invariant.machine;
  has = λ before made may.
      let first = c.args.self.now.recorder in
      let now = c.events.self.recorder in
      let events = c.args.events.now in
      let lines = c.events.lines.items in
      let has = c.events.invariant.has before made may in
      let fed = may_feed first now before made events c.events.i c.at.result lines c.at.ensures c.events.invariant.harts may has in
      let more = c.feed_into.new.lines.items in
      subst (λ (all : List Line). HasLines c.feed_into.new.self (before ++ take (c.events.i + 1) events) (made ++ all)) (sym (c.in_ok-extend_from_slice.ensures.items ∙ ap (λ (ls : List Line). lines ++ ls) c.deref.ensures.value))
      (fed_more first now before made events c.events.i c.at.result lines c.at.ensures c.events.invariant.harts may has c.feed_into.new.self more
      (c.in_ok-feed_into.ensures.ok 16 (before ++ take c.events.i events) (made ++ lines) fed));
}

pub returns-clause-ok : goal.returns-clause-ok
returns-clause-ok c before made may =
    let events = c.args.events.now in
    let all : take c.events.i events ≡ events = take_all c.events.i events (omega (arith, c.events-test.false, c.len-i-end.ensures.count)) in
    subst (λ (es : List Event). HasLines c.events.self.recorder (before ++ es) (made ++ c.events.lines.items)) all (c.events.invariant.has before made may)
