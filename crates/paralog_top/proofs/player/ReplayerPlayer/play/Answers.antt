use Rattle.std.proofs.Common.{◌++◌, ◌∷◌, [], List, ap, sym, subst}
use Rattle.pl_event.specs.declared.event.Event.{Event}
use Rattle.pl_event.specs.declared.log.PageRun.{PageRun}
use Rattle.lifeguard.specs.Rules.{Rules}
use Rattle.replay_probes.specs.Meaning.{Meaning}
use Rattle.replay_probes.specs.Plays.{Plays}
use Rattle.paralog_top.specs.inner.Playing.{HasWatched}
use Rattle.paralog_top.proofs.PlayLemmas.{on_ok_as}
use Rattle.paralog_top.proofs.player.ReplayerPlayer.play.Goals as goal

pub returns-clause-plays : goal.returns-clause-plays
returns-clause-plays g c =
    let p = g.B.Probe in
    let rules = g.L.Lifeguard.rules in
    let old = c.args.self.now in
    let new = c.step.new.self in
    let event = c.args.event.now in
    let under = rules old.monitor.guard in
    on_ok_as c.step.result
    ((pages : List PageRun) (meanings : List Meaning) (events : List Event)
    → Plays p.meaning p.has_seen under pages meanings events old.monitor.shadow old.audience
    → Plays p.meaning p.has_seen under pages meanings (events ++ event ∷ []) new.monitor.shadow new.audience)
    ((meanings : List Meaning) (pages : List PageRun) (events : List Event)
    → HasWatched p.meaning p.has_seen under old.monitor.shadow old.audience meanings pages events
    → HasWatched p.meaning p.has_seen (rules new.monitor.guard) new.monitor.shadow new.audience meanings pages
    (events ++ event ∷ []))
    (λ plays meanings pages events before. subst
    (λ (r : Rules).
    Plays p.meaning p.has_seen r pages meanings (events ++ event ∷ []) new.monitor.shadow new.audience)
    (ap rules (sym c.step.ensures.guard)) (plays pages meanings events before))
    c.step.ensures.plays
