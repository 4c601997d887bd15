use Rattle.std.proofs.Common.{◌∙◌, ◌++◌, ℕ, List, ap, map}
use Rattle.std.specs.List.{flat_map}
use Rattle.pl_event.specs.Numbers.{events_of}
use Rattle.paralog_top.specs.Results.{line_at}
use Rattle.paralog_top.proofs.probe.told_lines.Goals as goal

pub returns : goal.returns
returns g c = λ meanings bytes played.
    let result = c.in_ok-answer.ensures in
    let told = rw c.in_ok-replayed.ensures.stands at result in
    let report = c.in_ok-answer.answer.text.items in
    let places = c.args.places.now in
    let events = events_of played.log.lines in
    record {
      log = played.log;
      read = played.only.text;
      report = report;
      result = told played.log played.same played.played.stands;
      told = c.in_ok-push_lines.ensures
          ∙ ap (λ lines. report ++ flat_map (line_at (map (λ line. line.items) lines)) places) c.deref.ensures.value
          ∙ ap (λ (lines : List (List ℕ)). report ++ flat_map (line_at lines) places)
          (c.in_ok-replayed.ensures.lines (g.L.Lifeguard.rules c.args.guard) played.log.pages meanings events
          played.played);
    }
