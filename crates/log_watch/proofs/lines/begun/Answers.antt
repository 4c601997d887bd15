use Rattle.std.proofs.Common.{rules, ◌≡◌, ◌∷◌, [], ◌++◌, ℕ, zero, suc, List, map, sym, ap, ◌∙◌, subst}
use Rattle.std.proofs.lemmas.Iterator.Adapters.{YieldsList-from_vec}
use Rattle.std.proofs.lemmas.Iterator.Consumers.{YieldsList-end}
use Rattle.std.proofs.lemmas.List.{map-append}
use mathlib.Core.Option.{some, some-injective, some-ne-none}
use lib.ListN.{get_elem?}
use Rattle.pl_event.specs.declared.fed.Fed.{Fed}
use Rattle.ring_feed.proofs.Pairs.{map_self}
use Rattle.log_watch.specs.Feeding.{AreEmpty}
use Rattle.log_watch.proofs.lines.begun.Goals as goal

-- one more with an empty piece
empty_more : {F : Type 0} (piece : F → List Fed) (fs : List F) (f : F) → AreEmpty piece fs → piece f ≡ [] → AreEmpty piece (fs ++ f ∷ [])
empty_more piece [] f old new zero x at = subst (λ z. piece z ≡ []) (some-injective f x at) new
empty_more piece [] f old new (suc k) x at = absurd (some-ne-none x (sym at))
empty_more piece (y ∷ fs) f old new zero x at = old zero x at
empty_more piece (y ∷ fs) f old new (suc k) x at = empty_more piece fs f (λ j. old (suc j)) new k x at

pub loop-worker-preserved : goal.loop-worker-preserved
loop-worker-preserved g c = (
  ap (map (λ f. f.worker)) c.in_ok-push.ensures.items ∙ (map-append (λ f. f.worker) c.loop-worker.feedings.items (c.new.result ∷ []) ∙ (λ i. c.loop-worker.invariant.0 i ++ c.new.ensures.worker i ∷ [])),
  subst (AreEmpty (λ f. f.piece.items)) (sym c.in_ok-push.ensures.items) (empty_more (λ f. f.piece.items) c.loop-worker.feedings.items c.new.result c.loop-worker.invariant.1 c.new.ensures.piece),
)

pub returns-clause-workers : goal.returns-clause-workers
returns-clause-workers g c =
    let vec = YieldsList-from_vec c.args.workers.items (search rules) (search rules) in
    let last = YieldsList-end vec c.loop-worker.yielded c.loop-worker.worker-iterator c.loop-worker.yielded_by _ c.next.new.self c.in-None.is c.next.ensures.steps in
    c.loop-worker.invariant.0 ∙ (sym (map_self c.loop-worker.yielded) ∙ last.0)
