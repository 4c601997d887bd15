use Rattle.std.proofs.Common.{◌∙◌, [], map, ap, sym, subst}
use Rattle.std.specs.Prelude.{All}
use Rattle.std.proofs.lemmas.List.Elements.{All-map}
use Rattle.pl_event.specs.Numbers.{events_of}
use Rattle.replay_probes.specs.Meaning.{line_over}
use Rattle.replay_probes.proofs.Lists.{map_map}
use Rattle.replay_probes.proofs.played.replay.Goals as goal

pub play-requires-clause-fresh : goal.play-requires-clause-fresh
play-requires-clause-fresh g c =
    subst (All (λ b. (goal.Probe-dyn g (b.probe.vtable, b.probe.value)).has_seen b.probe.value [])) (sym c.in_ok-boxes.ensures)
    (All-map (λ b. (goal.Probe-dyn g (b.probe.vtable, b.probe.value)).has_seen b.probe.value []) _ c.args.probes.items c.requires.fresh)

pub returns-clause-lines : goal.returns-clause-lines
returns-clause-lines g c =
    let events = events_of c.args.log.now.lines in
    c.in_ok-replayed.ensures.lines _ _ _ events c.in_ok-replayer.ensures.plays
    ∙ ap (map (line_over events)) (ap (map _) c.in_ok-boxes.ensures ∙ map_map _ _ c.args.probes.items)
