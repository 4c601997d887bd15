use Rattle.std.proofs.Common.{◌≡◌, ◌∙◌, List, length, get_or, refl, sym, ap, subst, arith}
use Rattle.std.specs.Vec.{with_items}
use Rattle.std.proofs.lemmas.List.{with_items_is}
use Rattle.replay_probes.specs.declared.watch.Watch.{Watch}
use Rattle.replay_probes.specs.Watches.{IsShown}
use Rattle.replay_probes.proofs.Going.{watched_next, next_shown}
use Rattle.replay_probes.proofs.audience.Audience.show.Goals as goal

pub returns-clause-watched : goal.returns-clause-watched
returns-clause-watched g c = λ meanings events watched.
    let p = g.B.Probe in
    let old = c.args.self.now.watches in
    let after = c.show_all.new.watches in
    let is : (with_items old after).items ≡ after = with_items_is old after (omega arith) in
    let shown = next_shown c.args.self.now c.args.event.now in
    watched_next p.meaning p.has_seen meanings events c.args.event.now c.args.self.now _ c.requires.hart (omega arith) refl refl
    (ap length is ∙ c.show_all.auto.watches ∙ ap length c.deref_mut.ensures.value)
    (λ k watch lt.
    subst (λ (watches : List (Watch g.row.B.Denot)). IsShown p.meaning p.has_seen shown (get_or old.items k watch) (get_or watches k watch)) (sym is)
    (subst (λ (watches : List (Watch g.row.B.Denot)). IsShown p.meaning p.has_seen shown (get_or watches k watch) (get_or after k watch)) c.deref_mut.ensures.value
    (c.in_ok-show_all.ensures k watch (omega (arith, ap length c.deref_mut.ensures.value)))))
    watched
