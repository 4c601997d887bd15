use Rattle.std.proofs.Common.{◌∙◌, sym, ap, subst, arith, take, [], ◌++◌, map}
use Rattle.std.specs.List.{cons_option}
use Rattle.lifeguard.specs.Rules.{Rules}
use Rattle.pl_event.specs.declared.log.Line.{Line}
use Rattle.pl_event.specs.Numbers.{events_of, event_of}
use Rattle.pl_event.specs.Valid.{HasValidEvent}
use Rattle.replay_probes.specs.Plays.{Plays}
use Rattle.pl_event.proofs.EventLemmas.{events-more, few_before}
use Rattle.replay_probes.proofs.played.play.Goals as goal

pub step_record-requires-clause-room : goal.step_record-requires-clause-room
step_record-requires-clause-room g c = omega (arith, c.loop-i.invariant.plays.stands.place, few_before c.args.lines.now c.loop-i.i, c.loop-i-test.true, c.requires.short)

pub step_record-requires-clause-valid : goal.step_record-requires-clause-valid
step_record-requires-clause-valid g c =
    let d : Line = record { what = c.record.result; arcs = [] } in
    rw c.loop-i.invariant.harts (subst (HasValidEvent c.args.harts) (sym (c.record.ensures d)) (c.requires.valid c.loop-i.i d (omega (arith, c.len-i-end.ensures, c.loop-i-test.true))))

pub loop-i-preserved : goal.loop-i-preserved
loop-i-preserved g c =
    let p = g.B.Probe in
    let rules = ap g.L.Lifeguard.rules c.loop-i.invariant.guard in
    let pages = c.args.pages.now in
    let meanings = map p.meaning c.args.probes.items in
    let events = events_of (take c.loop-i.i c.args.lines.now) in
    let before = subst (λ (r : Rules). Plays p.meaning p.has_seen r pages meanings events c.loop-i.replayer.monitor.shadow c.loop-i.replayer.audience) (sym rules) c.loop-i.invariant.plays in
    let after = c.in_ok-step_record.ensures.plays pages meanings events before in
    let more = events-more c.args.lines.now c.loop-i.i c.record.result (omega (arith, c.len-i-end.ensures, c.loop-i-test.true)) c.record.ensures in
    record {
      plays = rw more (subst (λ (r : Rules). Plays p.meaning p.has_seen r pages meanings (events ++ cons_option (event_of c.record.result) []) c.step_record.new.replayer.monitor.shadow c.step_record.new.replayer.audience) rules after);
      guard = c.step_record.ensures.guard ∙ c.loop-i.invariant.guard;
      harts = c.step_record.ensures.harts ∙ c.loop-i.invariant.harts;
    }
