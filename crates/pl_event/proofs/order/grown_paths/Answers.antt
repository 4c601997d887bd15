use Rattle.pl_event.proofs.Growth.{flow_first, path_on, path_back, clock_on, clock_back}
use Rattle.pl_event.proofs.order.grown_paths.Goals as goal

pub returns-clause-flow : goal.returns-clause-flow
returns-clause-flow c = flow_first

pub returns-clause-paths : goal.returns-clause-paths
returns-clause-paths c harts lines more flow u n h m low = (path_back harts lines more flow u n h m low, path_on harts lines more flow u n h m low)

pub returns-clause-clocks : goal.returns-clause-clocks
returns-clause-clocks c harts lines more flow h m clock low = (clock_back harts lines more flow h m clock low, clock_on harts lines more flow h m clock low)
