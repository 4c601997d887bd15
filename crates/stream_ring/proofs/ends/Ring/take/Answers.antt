use Rattle.std.proofs.Common.{ap}
use Rattle.stream_ring.specs.declared.view.View.{View}
use Rattle.stream_ring.proofs.Keeps.{takes, some_sent}
use Rattle.stream_ring.proofs.ends.Ring.take.Goals as goal

pub pop_as-requires-clause-rule : goal.pop_as-requires-clause-rule
pop_as-requires-clause-rule g c =
    let is = c.args.pass.now.takes in
    let may = ap (λ (v : View). v.takes) is in
    (takes g.N.RunName.log _ _ may is, some_sent g.N.RunName.log _ _ may)
