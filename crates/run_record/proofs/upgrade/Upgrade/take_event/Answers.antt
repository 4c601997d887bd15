use Rattle.std.proofs.Common.{◌∙◌, ◌≡◌, List, inr, length, sym, ap, subst}
use Rattle.std.specs.Prelude.{All}
use Rattle.std.proofs.lemmas.Result.{on_ok_weaker}
use Rattle.pl_event.specs.declared.log.Line.{Line}
use Rattle.pl_event.specs.declared.log.Log.{Log}
use Rattle.pl_event.specs.Numbers.{events_of}
use Rattle.log_grammar.specs.Spelling.{log_spelling}
use Rattle.run_record.specs.Writing.{with_lines}
use Rattle.run_record.proofs.Upgrading.{may_feed, event_written}
use Rattle.run_record.proofs.Writing.{eight_behind}
use Rattle.run_record.proofs.upgrade.Upgrade.take_event.Goals as goal

pub feed_into-requires : goal.feed_into-requires
feed_into-requires c =
    let log = c.requires.0 in
    let may = c.requires.1 in
    inr (4, events_of log.lines, may.upgraded.lines, may_feed log c.args.self.now c.args.event.now may)

pub add_lines-requires : goal.add_lines-requires
add_lines-requires c =
    let log = c.requires.0 in
    let may = c.requires.1 in
    let made = may.upgraded.lines in
    let fed = c.in_ok-feed_into.ensures.ok 4 (events_of log.lines) made (may_feed log c.args.self.now c.args.event.now may) in
    subst (λ (lines : List Line). All (λ line. length line.arcs ≡ 8) lines) (sym c.deref.ensures.value) (eight_behind made c.feed_into.new.lines.items fed.marked.eight)

pub returns : goal.returns
returns c log line is may =
    let more = c.feed_into.new.lines.items in
    let fed = c.in_ok-feed_into.ensures.ok 4 (events_of log.lines) may.upgraded.lines (may_feed log c.args.self.now c.args.event.now may) in
    on_ok_weaker c.add_lines.result
    (λ added. event_written log c.args.self.now c.args.event.now may line
    (record { recorder = c.feed_into.new.self; more = c.feed_into.new.lines; text = c.add_lines.new.text }) more is c.feed_into.ensures.harts fed
    (λ (l : Log) before. added l before ∙ ap (λ (lines : List Line). log_spelling (with_lines l lines)) c.deref.ensures.value))
    c.add_lines.ensures
