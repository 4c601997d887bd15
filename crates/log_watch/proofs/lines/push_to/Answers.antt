use Rattle.std.proofs.Common.{◌≡◌, get_or, refl, sym, ◌∙◌, subst}
use mathlib.Core.Option.{some, some-injective}
use lib.ListN.{get_elem?}
use Rattle.ring_feed.proofs.Pairs.{at_get}
use Rattle.log_watch.specs.Feeding.{IsFedBy}
use Rattle.log_watch.proofs.lines.push_to.Goals as goal

pub push-requires : goal.push-requires
push-requires g c = c.requires.may _ (at_get c.args.feedings.now c.args.hart c.index-feedings-hart.result c.requires.hart)

pub returns : goal.returns
returns g c = record {
  feeding = c.push.new.self;
  set = refl;
  grown = λ f here start told by. c.in_ok-push.ensures start told
      (subst (λ z. IsFedBy start (g.W.TurnWorker.view z.worker) z.piece.items told) (some-injective f _ (sym here ∙ at_get c.args.feedings.now c.args.hart c.index-feedings-hart.result c.requires.hart)) by);
}
