use Rattle.std.proofs.Common.{◌∙◌, subst, arith}
use Rattle.std.proofs.lemmas.List.{get_or-set_other, get_or_default}
use Rattle.replay_probes.specs.Watches.{IsShown}
use Rattle.replay_probes.proofs.Lists.{changed_more}
use Rattle.replay_probes.proofs.watches.show_all.Goals as goal

pub loop-k-preserved : goal.loop-k-preserved
loop-k-preserved g c = let p = g.B.Probe in let k = c.loop-k.k in let before = c.loop-k.watches in record {
  done = changed_more (IsShown p.meaning p.has_seen c.args.shown.now) c.args.watches.now before k c.show.new.watch (omega arith) c.loop-k.invariant.done
      (λ d. subst (λ old. IsShown p.meaning p.has_seen c.args.shown.now old c.show.new.watch)
      (get_or_default before k c.index-watches-k.result d (omega arith) ∙ c.loop-k.invariant.later k d (omega arith)) c.in_ok-show.ensures);
  later = λ j d high. get_or-set_other before k j c.show.new.watch d (omega arith) ∙ c.loop-k.invariant.later j d (omega arith);
}

pub returns : goal.returns
returns g c = λ k watch lt. c.loop-k.invariant.done k watch (omega arith)
