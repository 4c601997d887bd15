use Rattle.std.proofs.Common.{◌∙◌, [], List, map, ap, sym, subst}
use Rattle.std.specs.Prelude.{All, IfOk}
use Rattle.std.proofs.lemmas.List.Elements.{All-map}
use Rattle.std.proofs.lemmas.Result.{err_from_is_err_and}
use Rattle.pl_base.specs.declared.layout.TheConstants.{MAX_LOG_BYTES}
use Rattle.log_text.specs.Streaming.{WasRead}
use Rattle.replay_probes.specs.Meaning.{Meaning}
use Rattle.replay_probes.proofs.Lists.{map_map}
use Rattle.paralog_top.specs.Results.{IsProbed}
use Rattle.paralog_top.proofs.Refusals.{none_taken}
use Rattle.paralog_top.proofs.probe.probe_boxed.Goals as goal

pub probe_named-requires : goal.probe_named-requires
probe_named-requires g c = record {
  fresh = subst (All (λ b. (goal.Probe-dyn g (b.probe.vtable, b.probe.value)).has_seen b.probe.value []))
      (sym c.in_ok-boxes.ensures)
      (All-map (λ b. (goal.Probe-dyn g (b.probe.vtable, b.probe.value)).has_seen b.probe.value []) _
      c.args.probes.items c.requires.fresh);
}

pub returns-in_err-boxes-clause-end : goal.returns-in_err-boxes-clause-end
returns-in_err-boxes-clause-end g c =
    let p = err_from_is_err_and c.from_residual.result c.from_residual.ensures.1 in
    rw (p.1, p.2) (none_taken (g.S.Source.left c.args.source.now) MAX_LOG_BYTES)

pub returns-clause-ok : goal.returns-clause-ok
returns-clause-ok g c =
    subst (λ (meanings : List Meaning). IfOk c.probe_named.result (λ answer. WasRead MAX_LOG_BYTES
    (g.S.Source.left c.args.source.now) (g.S.Source.left c.probe_named.new.source)
    (λ bytes. IsProbed meanings c.args.guard c.args.places.now bytes answer.text.items answer.verdict)))
    (ap (map _) c.in_ok-boxes.ensures ∙ map_map _ _ c.args.probes.items) c.probe_named.ensures.ok
