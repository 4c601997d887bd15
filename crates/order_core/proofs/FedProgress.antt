-- In each consistent state of the core and its feeder that is not finished a step moves.
use Rattle.std.proofs.Common.{◌≡◌, ◌≢◌, ℕ, ◌+◌, ◌<◌, ◌≤◌, List, [], ◌∷◌, length, drop, min, sum, Option, Some, None, refl, sym, ap, ◌∙◌, subst, inl, inr, arith, lt_of_not-le}
use mathlib.Core.Logic.{dite}
use native.Mathlib.Decide.{dec_le}
use Rattle.pl_event.specs.declared.log.Line.{Line}
use Rattle.pl_event.specs.Records.{records_before, IsRecord}
use Rattle.pl_event.proofs.Places.{before_own, before_up}
use Rattle.order_core.specs.declared.course.Course.{Course}
use Rattle.order_core.specs.declared.fed_step.FedStep.{FedStep}
use Rattle.order_core.specs.declared.fed_step.FedStep.TheVariants as step
use Rattle.order_core.specs.declared.steps.Act.{Act}
use Rattle.order_core.specs.declared.steps.Act.TheVariants.{See, Advertise, Perform}
use Rattle.order_core.specs.Core.{IsCursor, IsPassed, IsFinished, put}
use Rattle.order_core.specs.Course.{length_of}
use Rattle.order_core.specs.FedCore.{Feed, FedCore, after_offer, after_take, hart_at, with_feed, with_record, IsFullChunk, IsFullRing, IsUpTo, MayOffer, MayProduce, MayTake, FedMakes}
use Rattle.order_core.specs.Feeds.{IsFedConsistent, IsFedCursor, HasFedMove, IsHandingOut}
use Rattle.order_core.specs.Lawful.{IsLawful}
use Rattle.order_core.proofs.FeedLemmas.{hart_low}
use Rattle.order_core.proofs.Keeps.{met_less}
use Rattle.order_core.proofs.LineHarts.{no_line}
use Rattle.order_core.proofs.Progress.{Told, told_before, first_untold, line_inside, moves_here}
use Rattle.order_core.proofs.Ranks.{put_here}
use Rattle.order_core.proofs.Whole.{MovesUpTo, moving, short_hart}

pub passed_less : (c : Course) (w : ℕ) (s : ℕ → ℕ) (h m n : ℕ) → n ≤ m → IsPassed c w s h m → IsPassed c w s h n
passed_less c w s h m n le p = (
  (let l : m ≤ length_of c h = p.0 in omega arith),
  met_less c s h m n le p.1,
  λ q a at own wr number. p.2 q a at own wr (omega arith),
)

-- the lower of a cursor and of what the hart took is the cursor of what it took
pub fed_cursor : (c : Course) (f : FedCore) (h n : ℕ) → IsCursor c (f.core.written h) (f.core.seen h) h n → IsFedCursor c f h (min n (f.feed h).taken)
fed_cursor c f h n is = record {
  passed = (passed_less c (f.core.written h) (f.core.seen h) h n (min n (f.feed h).taken) (omega arith) is.passed, omega arith);
  most = λ m p. let a : m ≤ n = is.most m p.0 in let b : m ≤ (f.feed h).taken = p.1 in omega arith;
}

up_to_more : (m n : ℕ) (act : Act) → m ≤ n → IsUpTo m act → IsUpTo n act
up_to_more m n (See of) le upto = tt
up_to_more m n (Advertise k) le upto = let l : k ≤ m = upto in omega arith
up_to_more m n (Perform k i) le upto = let l : k ≤ m = upto in omega arith

drop_less : (xs : List ℕ) → 1 ≤ length xs → length (drop 1 xs) < length xs
drop_less [] l = absurd (omega arith)
drop_less (x ∷ xs) l = omega arith

none_left : (xs : List ℕ) → length xs < 1 → sum xs ≡ 0
none_left [] l = refl
none_left (x ∷ xs) l = absurd (omega arith)

-- each step of the feeder, and each in which a hart takes a chunk, changes the state
module _ (c : Course) (f : FedCore) where
  offer_moves : (h : ℕ) → MayOffer c f h → with_feed f h (after_offer (f.feed h)) ≢ f
  offer_moves h may e =
      let same : after_offer (f.feed h) ≡ f.feed h = sym (put_here f.feed h (after_offer (f.feed h))) ∙ ap (λ (z : FedCore). z.feed h) e in
      let none : 0 ≡ (f.feed h).partial = ap (λ (z : Feed). z.partial) same in
      let some : 1 ≤ (f.feed h).partial = may.some in
      omega arith

  take_moves : (h : ℕ) → MayTake c f h → with_feed f h (after_take (f.feed h)) ≢ f
  take_moves h may e =
      let same : after_take (f.feed h) ≡ f.feed h = sym (put_here f.feed h (after_take (f.feed h))) ∙ ap (λ (z : FedCore). z.feed h) e in
      let long : length (drop 1 (f.feed h).ring) ≡ length (f.feed h).ring = ap (λ (z : Feed). length z.ring) same in
      let less : length (drop 1 (f.feed h).ring) < length (f.feed h).ring = drop_less (f.feed h).ring may.some in
      omega arith

  produce_moves : (h : ℕ) → record f { produced = f.produced + 1; feed = put f.feed h (with_record (f.feed h)) } ≢ f
  produce_moves h e = let n : f.produced + 1 ≡ f.produced = ap (λ (z : FedCore). z.produced) e in omega arith

  pub hands_out : (s : FedStep) (f' : FedCore) → IsHandingOut s → FedMakes c f s f' → f' ≢ f
  hands_out (step.Core s) f' out m e = out
  hands_out (step.Take h) f' out m e = take_moves h m.0 (sym m.1 ∙ e)
  hands_out step.Produce f' out m e = produce_moves m.0 (sym m.2 ∙ e)
  hands_out (step.Offer h) f' out m e = offer_moves h m.0 (sym m.1 ∙ e)

  offers : (h : ℕ) → MayOffer c f h → HasFedMove c f
  offers h may = (step.Offer h, with_feed f h (after_offer (f.feed h)), (may, refl), offer_moves h may)

  takes : (h : ℕ) → MayTake c f h → HasFedMove c f
  takes h may = (step.Take h, with_feed f h (after_take (f.feed h)), (may, refl), take_moves h may)

  produces : (h : ℕ) → MayProduce c f h → HasFedMove c f
  produces h may = (step.Produce, record f { produced = f.produced + 1; feed = put f.feed h (with_record (f.feed h)) }, (h, may, refl), produce_moves h)

  core_moves : (law : IsLawful c) (h m : ℕ) → m ≤ (f.feed h).taken → MovesUpTo c law f.core h m → HasFedMove c f
  core_moves law h m low (s, k, makes, changes, own, upto) = (
    step.Core s,
    record f { core = k },
    (subst (λ (z : ℕ). IsUpTo (f.feed z).taken s.act) (sym own) (up_to_more m (f.feed h).taken s.act low upto), (k, makes, refl)),
    λ e. changes (ap (λ (z : FedCore). z.core) e),
  )

module _ (c : Course) (law : IsLawful c) (f : FedCore) (st : IsFedConsistent c f) where
  abbrev g : List Line
  g = c.log.lines

  -- record m of hart h, at position i, is not advertised, all before it are, and the hart has not taken it
  module _ (i h m : ℕ) (l : Line) (told : Told c law f.core st.core i) (is : IsRecord g i h m l) (next : m ≡ f.core.progress h + 1) (high : (f.feed h).taken < m) where
    abbrev own : Feed
    own = f.feed h

    own_low : h < c.log.harts
    own_low = law.log.flow.within i h m l is

    passed : IsPassed c (f.core.written h) (f.core.seen h) h own.taken
    passed = passed_less c (f.core.written h) (f.core.seen h) h (f.core.progress h) own.taken (omega arith) (st.core.1.passed h)

    module _ (empty : length own.ring < 1) where
      -- what was produced for it and not taken is in its partial chunk
      left : own.taken + own.partial ≡ records_before h g f.produced
      left = let r : own.taken + sum own.ring + own.partial ≡ records_before h g f.produced = (st.feeds h).records in let z : sum own.ring ≡ 0 = none_left own.ring empty in omega arith

      all_produced : hart_at g f.produced ≡ None → HasFedMove c f
      all_produced e =
          let most : length g ≤ f.produced = no_line g f.produced e in
          let low : f.produced ≤ length g = st.produced in
          let all : records_before h g f.produced ≡ length_of c h = ap (records_before h g) (let s : f.produced ≡ length g = omega arith in s) in
          let top : m ≤ length_of c h = line_inside c law i h m l is in
          let left_is : own.taken + own.partial ≡ records_before h g f.produced = left in
          offers c f h (record { hart = own_low; some = omega arith; room = omega arith; due = inr (inl e) })

      -- the next line's hart can take in no more, and nothing is left for hart h
      held_up : (u : ℕ) → IsFullChunk (f.feed u) → own.partial < 1 → ⊥
      held_up u full none =
          let left_is : own.taken + own.partial ≡ records_before h g f.produced = left in
          let number : records_before h g i + 1 ≡ m = is.number in
          let one : records_before h g (i + 1) ≡ records_before h g i + 1 = before_own g i h l is.at is.hart in
          let after : f.produced ≤ i = dite (dec_le f.produced i) (λ le. le)
          (λ n. let lt : i < f.produced = lt_of_not-le n in
          let up : records_before h g (i + 1) ≤ records_before h g f.produced = before_up g (i + 1) f.produced h (omega arith) in absurd (omega arith)) in
          let up : records_before u g f.produced ≤ records_before u g i = before_up g f.produced i u after in
          let advertised : records_before u g f.produced ≤ f.core.progress u = told_before c law f.core st.core i u (records_before u g f.produced) told up in
          let taken : f.core.progress u ≤ (f.feed u).taken = st.advertised u in
          let records : (f.feed u).taken + sum (f.feed u).ring + (f.feed u).partial ≡ records_before u g f.produced = (st.feeds u).records in
          omega arith

      line_left : (u : ℕ) → hart_at g f.produced ≡ Some u → HasFedMove c f
      line_left u e = dite (dec_le 64 (f.feed u).partial)
          (λ big. let most : (f.feed u).partial ≤ 64 = (st.feeds u).partial in
          let full : IsFullChunk (f.feed u) = omega arith in dite (dec_le 16 (length (f.feed u).ring))
          (λ long. let top : length (f.feed u).ring ≤ 16 = (st.feeds u).room in
          let full_ring : IsFullRing (f.feed u) = omega arith in dite (dec_le 1 own.partial)
          (λ some. offers c f h (record { hart = own_low; some = some; room = omega arith; due = inr (inr (u, e, full, full_ring)) }))
          (λ n. absurd (held_up u full (lt_of_not-le n))))
          (λ n. let room : length (f.feed u).ring < 16 = lt_of_not-le n in
          offers c f u (record { hart = hart_low c law f.produced u e; some = omega arith; room = room; due = inl full })))
          (λ n. produces c f u (e, lt_of_not-le n))

      feeder_moves : HasFedMove c f
      feeder_moves = by (hart_at g f.produced) refl
        where
          by : (o : Option ℕ) → hart_at g f.produced ≡ o → HasFedMove c f
          by None e = all_produced e
          by (Some u) e = line_left u e

    waits : HasFedMove c f
    waits = dite (dec_le 1 (length own.ring))
        (λ some. takes c f h (record { hart = own_low; some = some; passed = passed }))
        (λ n. feeder_moves (lt_of_not-le n))

  pub fed_moves : (IsFinished c f.core → ⊥) → HasFedMove c f
  fed_moves unfinished =
      let t = short_hart c law f.core st.core unfinished in
      first_untold c law f.core st.core (HasFedMove c f)
      (λ i h m l told is next. dite (dec_le m (f.feed h).taken)
      (λ low. core_moves c f law h m low (moving c law f.core h m (moves_here c law f.core st.core i h m l told is next)))
      (λ n. waits i h m l told is next (lt_of_not-le n)))
      t.0 t.1
