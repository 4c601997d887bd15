use Rattle.std.proofs.Common.{◌≡◌, List, IfOk, subst}
use Rattle.replay_probes.specs.declared.probe.Shown.{Shown}
use Rattle.replay_probes.proofs.boxed.BoxedProbe.finish.Goals as goal

-- the box that is read is the one behind `self`
pub returns : goal.returns
returns g c =
    subst (λ p. IfOk c.finish.result (λ line. (seen : List Shown) → (goal.Probe-dyn g p).has_seen p.1 seen → line.items ≡ ((goal.Probe-dyn g p).meaning p.1).line seen))
    c.deref_box-1.ensures.1 c.finish.ensures
