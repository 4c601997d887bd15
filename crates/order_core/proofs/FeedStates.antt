-- Each step on the chunks that are kept is the step of the core and its feeder.
use Rattle.std.proofs.Common.{◌≡◌, ℕ, ◌<◌, ◌≤◌, List, length, slice_set, take, sym, ap, ◌∙◌, subst, arith}
use Rattle.std.proofs.lemmas.List.{get_or-set_other, get_or-set_same, length-set, length-take-le}
use mathlib.Core.Logic.{dite}
use native.Mathlib.Decide.{ℕ_discrete}
use Rattle.order_core.specs.declared.feed.HartFeed.{HartFeed}
use Rattle.order_core.specs.declared.state.CoreState.{CoreState}
use Rattle.order_core.specs.Core.{Core, put}
use Rattle.order_core.specs.FedCore.{Feed}
use Rattle.order_core.specs.HartFeeds.{feed_in, feed_of, fed_in, idle_feed}
use Rattle.order_core.specs.States.{core_of}
use Rattle.order_core.specs.inner.KeptFeeds.{IsKeptFeed, AreKeptFeeds}
use Rattle.order_core.proofs.Ranks.{put_here, put_else}

pub ring_long : (x : HartFeed) → IsKeptFeed x → length (take x.count x.chunks) ≡ x.count
ring_long x kept = let p : length x.chunks ≡ 16 = kept.places in let l : x.count ≤ 16 = kept.count in length-take-le x.count x.chunks (omega arith)

-- what was handed out to each hart, after one of them is set
feed_set : (feeds : List HartFeed) (g : ℕ) (x : HartFeed) (y : Feed) → g < length feeds → feed_of x ≡ y → (λ h. feed_of (feed_in (slice_set feeds g x) h)) ≡ put (λ h. feed_of (feed_in feeds h)) g y
feed_set feeds g x y low is = λ i h. at h i
  where
    at : (h : ℕ) → feed_of (feed_in (slice_set feeds g x) h) ≡ put (λ u. feed_of (feed_in feeds u)) g y h
    at h = dite (ℕ_discrete h g)
        (λ e. subst (λ (z : ℕ). feed_of (feed_in (slice_set feeds g x) z) ≡ put (λ u. feed_of (feed_in feeds u)) g y z) (sym e)
        (ap feed_of (get_or-set_same feeds g x idle_feed low) ∙ (is ∙ sym (put_here (λ u. feed_of (feed_in feeds u)) g y))))
        (λ ne. ap feed_of (get_or-set_other feeds g h x idle_feed ne) ∙ sym (put_else (λ u. feed_of (feed_in feeds u)) g h y ne))

pub fed_set : (core : Core) (s : CoreState) (produced : ℕ) (feeds : List HartFeed) (g : ℕ) (x : HartFeed) (y : Feed) → g < length feeds → core_of s ≡ core → feed_of x ≡ y
    → fed_in s produced (slice_set feeds g x) ≡ record { core = core; produced = produced; feed = put (λ h. feed_of (feed_in feeds h)) g y }
fed_set core s produced feeds g x y low same is = λ i. record { core = same i; produced = produced; feed = feed_set feeds g x y low is i }

pub feeds_set : (feeds : List HartFeed) (g : ℕ) (x : HartFeed) → AreKeptFeeds feeds → g < length feeds → IsKeptFeed x → AreKeptFeeds (slice_set feeds g x)
feeds_set feeds g x are low kept = record {
  eight = length-set feeds g x ∙ are.eight;
  each = λ h l. dite (ℕ_discrete h g)
      (λ e. subst (λ (z : ℕ). IsKeptFeed (feed_in (slice_set feeds g x) z)) (sym e) (subst IsKeptFeed (sym (get_or-set_same feeds g x idle_feed low)) kept))
      (λ ne. subst IsKeptFeed (sym (get_or-set_other feeds g h x idle_feed ne)) (are.each h l));
}
