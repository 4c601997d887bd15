use Rattle.std.proofs.Common.{◌≡◌, ◌∙◌, ◌<◌, ◌++◌, ◌∷◌, [], ℕ, List, length, map, get_or, ap, sym, subst, rules, arith}
use Rattle.std.proofs.lemmas.Iterator.Adapters.{YieldsList-from_vec}
use Rattle.std.proofs.lemmas.Iterator.Consumers.{YieldsList-end}
use Rattle.std.proofs.lemmas.List.{map_push, length_push, length-map}
use Rattle.replay_probes.specs.declared.watch.Watch.{Watch}
use Rattle.replay_probes.specs.Watches.{IsLineOf}
use Rattle.replay_probes.proofs.Lists.{pushed_more, map_same}
use Rattle.replay_probes.proofs.watches.end_all.Goals as goal

pub loop-watch-preserved : goal.loop-watch-preserved
loop-watch-preserved g c = let p = g.B.Probe in let told = map (λ v. v.items) c.loop-watch.lines.items in record {
  long = omega (arith, ap length c.in_ok-push.ensures.items, length_push c.loop-watch.lines.items c.in_ok-end.field-0, length_push c.loop-watch.yielded c.in-Some.watch, c.loop-watch.invariant.long);
  told =
      let e : map (λ v. v.items) c.push.new.self.items ≡ told ++ c.in_ok-end.field-0.items ∷ [] =
      ap (map (λ v. v.items)) c.in_ok-push.ensures.items ∙ map_push (λ v. v.items) c.loop-watch.lines.items c.in_ok-end.field-0 in
      subst (λ (lines : List (List ℕ)). (k : ℕ) (watch : Watch g.row.B.Denot) → k < length (c.loop-watch.yielded ++ c.in-Some.watch ∷ [])
      → IsLineOf p.meaning p.has_seen (get_or (c.loop-watch.yielded ++ c.in-Some.watch ∷ []) k watch) (get_or lines k [])) (sym e)
      (pushed_more (IsLineOf p.meaning p.has_seen) c.loop-watch.yielded told c.in-Some.watch c.in_ok-end.field-0.items []
      (length-map c.loop-watch.lines.items (λ v. v.items) ∙ c.loop-watch.invariant.long) c.loop-watch.invariant.told c.in_ok-end.ensures);
}

pub returns-clause-told : goal.returns-clause-told
returns-clause-told g c =
    let p = g.B.Probe in
    let vec = YieldsList-from_vec c.args.watches.items (search rules) (search rules) in
    let all : c.loop-watch.yielded ≡ c.args.watches.items =
    sym (map_same c.loop-watch.yielded) ∙ (YieldsList-end vec c.loop-watch.yielded c.loop-watch.watch-iterator c.loop-watch.yielded_by _ c.next.new.self c.in-None.is c.next.ensures.steps).0 in
    subst (λ (watches : List (Watch g.row.B.Denot)). (k : ℕ) (watch : Watch g.row.B.Denot) → k < length watches
    → IsLineOf p.meaning p.has_seen (get_or watches k watch) (get_or (map (λ v. v.items) c.loop-watch.lines.items) k [])) all c.loop-watch.invariant.told
