-- The state of the core beside its feeder that a run comes to.
use Rattle.order_core.specs.declared.fed_state.FedState.{FedState}
use Rattle.order_core.specs.FedCore.{FedCore}
use Rattle.order_core.specs.HartFeeds.{fed_in}

abbrev pub fed_of : FedState → FedCore
fed_of s = fed_in s.core s.produced s.feeds
