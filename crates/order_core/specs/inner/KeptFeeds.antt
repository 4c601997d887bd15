-- Chunks that are kept in places of an array.
use Rattle.std.specs.Prelude.{◌≡◌, ℕ, ◌<◌, ◌≤◌, List, length}
use Rattle.pl_base.specs.declared.layout.TheConstants.{MAX_HARTS, RING_CHUNKS}
use Rattle.order_core.specs.declared.feed.HartFeed.{HartFeed}
use Rattle.order_core.specs.HartFeeds.{feed_in}

-- there is a place for each chunk of a ring
pub record IsKeptFeed (x : HartFeed) : Type 0 where
  pub places : length x.chunks ≡ RING_CHUNKS
  pub count : x.count ≤ RING_CHUNKS

pub record AreKeptFeeds (feeds : List HartFeed) : Type 0 where
  pub eight : length feeds ≡ MAX_HARTS
  pub each : (h : ℕ) → h < MAX_HARTS → IsKeptFeed (feed_in feeds h)
