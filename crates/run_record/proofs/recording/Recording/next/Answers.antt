use Rattle.std.proofs.Common.{◌∷◌, subst}
use Rattle.core_sim.specs.RunEvents.{events_of_run}
use Rattle.core_sim.specs.Stands.{Comes, GoesOn}
use Rattle.run_record.proofs.Stepping.{may_feed_all, stepped}
use Rattle.run_record.proofs.recording.Recording.next.Goals as goal

pub feed-requires : goal.feed-requires
feed-requires c =
    let job = c.requires.0 in
    let made = c.requires.1 in
    let r = c.requires.2 in
    let goes : GoesOn job r.entries c.in-Ok-Did.events c.step.new.self = subst (Comes job r.entries c.args.self.now.machine c.step.new.self) c.in-Ok-Did.field-0-is (c.in-Ok-Did.ensures.comes job r.entries r.stands) in (
      events_of_run r.entries,
      made,
      may_feed_all job made c.args.self.now r c.in-Ok-Did.events c.step.new.self goes
          (c.run_events.ensures.next job r.entries goes.entry r.stands.valid goes.stands.prefix) (c.run_events.ensures.count r.entries) (c.run_events.ensures.limit job (goes.entry ∷ r.entries) goes.stands.prefix),
    )

pub returns-in_ok-feed-in-Ok-Did-clause-more : goal.returns-in_ok-feed-in-Ok-Did-clause-more
returns-in_ok-feed-in-Ok-Did-clause-more c job made r ok =
    let goes : GoesOn job r.entries c.in-Ok-Did.events c.step.new.self = subst (Comes job r.entries c.args.self.now.machine c.step.new.self) c.in-Ok-Did.field-0-is (c.in-Ok-Did.ensures.comes job r.entries r.stands) in
    let follow = c.run_events.ensures.next job r.entries goes.entry r.stands.valid goes.stands.prefix in
    let count = c.run_events.ensures.count r.entries in
    let steps = c.run_events.ensures.limit job (goes.entry ∷ r.entries) goes.stands.prefix in
    let may = may_feed_all job made c.args.self.now r c.in-Ok-Did.events c.step.new.self goes follow count steps in
    stepped job made c.args.self.now r c.in-Ok-Did.events c.step.new.self goes follow count steps c.feed.new.self c.feed.new.lines.items c.feed.ensures.machine c.feed.ensures.harts
    (c.in_ok-feed-in-Ok-Did.ensures.ok (events_of_run r.entries) made may)
