use Rattle.std.proofs.Common.{rules, ◌≡◌, [], ◌∷◌, List, subst}
use Rattle.pl_event.specs.declared.fed.Fed.{Fed}
use Rattle.ring_feed.specs.Outlets.{AreOutlets}
use Rattle.ring_feed.proofs.Outlets.{all_whole}
use Rattle.ring_feed.proofs.feeder.feed_one.Goals as goal

pub returns-then-branch-clause-outlets : goal.returns-then-branch-clause-outlets
returns-then-branch-clause-outlets g c =
    let next : g.F.Feed.rest c.args.feed.now ≡ c.in-Some.fed ∷ g.F.Feed.rest c.next.new.self = rw c.in-Some.is at c.in_ok-fed.ensures.ok in
    let log = g.N.RunName.log in
    c.in_ok-append-in-Some.ensures.outlets (g.F.Feed.rest c.next.new.self)
    (subst (λ (z : List Fed). AreOutlets log z c.args.outlets.now) next c.requires.outlets)

pub offer_all-requires : goal.offer_all-requires
offer_all-requires g c =
    let next : g.F.Feed.rest c.args.feed.now ≡ c.in-Some.fed ∷ g.F.Feed.rest c.next.new.self = rw c.in-Some.is at c.in_ok-fed.ensures.ok in
    let log = g.N.RunName.log in (
      g.F.Feed.rest c.next.new.self,
      c.in_ok-append-in-Some.ensures.outlets (g.F.Feed.rest c.next.new.self)
          (subst (λ (z : List Fed). AreOutlets log z c.args.outlets.now) next c.requires.outlets),
    )

pub returns-then-offer_all-clause-outlets : goal.returns-then-offer_all-clause-outlets
returns-then-offer_all-clause-outlets g c =
    let next : g.F.Feed.rest c.args.feed.now ≡ c.in-Some.fed ∷ g.F.Feed.rest c.next.new.self = rw c.in-Some.is at c.in_ok-fed.ensures.ok in
    let log = g.N.RunName.log in
    c.offer_all.ensures.keeps (g.F.Feed.rest c.next.new.self)
    (c.in_ok-append-in-Some.ensures.outlets (g.F.Feed.rest c.next.new.self)
    (subst (λ (z : List Fed). AreOutlets log z c.args.outlets.now) next c.requires.outlets))

pub returns-else-offer_all-clause-outlets : goal.returns-else-offer_all-clause-outlets
returns-else-offer_all-clause-outlets g c =
    let next : g.F.Feed.rest c.args.feed.now ≡ c.in-Some.fed ∷ g.F.Feed.rest c.next.new.self = rw c.in-Some.is at c.in_ok-fed.ensures.ok in
    let log = g.N.RunName.log in
    c.offer_all.ensures.keeps (g.F.Feed.rest c.next.new.self)
    (c.in_ok-append-in-Some.ensures.outlets (g.F.Feed.rest c.next.new.self)
    (subst (λ (z : List Fed). AreOutlets log z c.args.outlets.now) next c.requires.outlets))

pub returns-then-offer_all-2-clause-outlets : goal.returns-then-offer_all-2-clause-outlets
returns-then-offer_all-2-clause-outlets g c =
    let none : (g.F.Feed.rest c.args.feed.now ≡ []) × (g.F.Feed.rest c.next.new.self ≡ []) = rw c.in-None.is at c.in_ok-fed.ensures.ok in
    let same : g.F.Feed.rest c.args.feed.now ≡ g.F.Feed.rest c.next.new.self = cc in
    c.offer_all-in-None.ensures.keeps (g.F.Feed.rest c.next.new.self)
    (subst (λ (z : List Fed). AreOutlets g.N.RunName.log z c.args.outlets.now) same c.requires.outlets)

pub returns-then-offer_all-2-clause-ended : goal.returns-then-offer_all-2-clause-ended
returns-then-offer_all-2-clause-ended g c e =
    let none : (g.F.Feed.rest c.args.feed.now ≡ []) × (g.F.Feed.rest c.next.new.self ≡ []) = rw c.in-None.is at c.in_ok-fed.ensures.ok in
    let log = g.N.RunName.log in
    let are = c.offer_all-in-None.ensures.keeps [] (subst (λ (z : List Fed). AreOutlets log z c.args.outlets.now) none.0 c.requires.outlets) in
    (none.1, all_whole log c.offer_all-in-None.new.outlets are (c.offer_all-in-None.ensures.none (search rules)))

pub returns-else-offer_all-2-clause-outlets : goal.returns-else-offer_all-2-clause-outlets
returns-else-offer_all-2-clause-outlets g c =
    let none : (g.F.Feed.rest c.args.feed.now ≡ []) × (g.F.Feed.rest c.next.new.self ≡ []) = rw c.in-None.is at c.in_ok-fed.ensures.ok in
    let same : g.F.Feed.rest c.args.feed.now ≡ g.F.Feed.rest c.next.new.self = cc in
    c.offer_all-in-None.ensures.keeps (g.F.Feed.rest c.next.new.self)
    (subst (λ (z : List Fed). AreOutlets g.N.RunName.log z c.args.outlets.now) same c.requires.outlets)
