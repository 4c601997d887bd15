-- What is kept of the chunks of the harts.
use Rattle.std.specs.Prelude.{ℕ, List, [], take, slice_index_or}
use Rattle.order_core.specs.declared.feed.HartFeed.{HartFeed}
use Rattle.order_core.specs.declared.state.CoreState.{CoreState}
use Rattle.order_core.specs.FedCore.{Feed, FedCore}
use Rattle.order_core.specs.States.{core_of}

-- what is read of a hart that is not there
abbrev pub idle_feed : HartFeed
idle_feed = record { partial = 0; chunks = []; count = 0; taken = 0 }

abbrev pub feed_in : List HartFeed → ℕ → HartFeed
feed_in feeds h = slice_index_or feeds h idle_feed

-- the ring has the first `count` of the chunks
abbrev pub feed_of : HartFeed → Feed
feed_of x = record { partial = x.partial; ring = take x.count x.chunks; taken = x.taken }

abbrev pub fed_in : CoreState → ℕ → List HartFeed → FedCore
fed_in core produced feeds = record { core = core_of core; produced = produced; feed = λ h. feed_of (feed_in feeds h) }
