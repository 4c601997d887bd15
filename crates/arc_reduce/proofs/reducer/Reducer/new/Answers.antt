use Rattle.std.proofs.Common.{[], refl}
use Rattle.arc_reduce.proofs.Matching.{empty_flow}
use Rattle.arc_reduce.proofs.reducer.Reducer.new.Goals as goal

pub returns : goal.returns
returns c = (refl, record { heads = c.new.ensures []; clocks = c.in_ok-new.ensures c.args.harts [] (empty_flow c.args.harts) })
