-- Each allowed step of the core or its feeder keeps a state consistent.
use Rattle.std.proofs.Common.{◌≡◌, ◌≢◌, ℕ, ◌+◌, ◌<◌, ◌≤◌, List, [], ◌∷◌, ◌++◌, length, get_or, drop, slice_index, sum, All, Some, refl, sym, ◌∙◌, subst, inl, inr, arith}
use Rattle.std.proofs.lemmas.List.{length-append}
use Rattle.std.proofs.lemmas.List.Elements.{All-append, All-drop, All-nil}
use Rattle.std.proofs.lemmas.List.Sums.{sum_by-append, sum_by-cons}
use mathlib.Core.Option.{some}
use mathlib.Core.Logic.{dite}
use native.Mathlib.Decide.{ℕ_discrete}
use lib.ListN.{get_elem?}
use Rattle.pl_event.specs.declared.log.Line.{Line}
use Rattle.pl_event.specs.Numbers.{hart_of}
use Rattle.pl_event.specs.Records.{records_before}
use Rattle.pl_event.proofs.Places.{inside, before_most, before_none, before_other, before_own}
use Rattle.order_core.specs.declared.course.Course.{Course}
use Rattle.order_core.specs.declared.fed_step.FedStep.{FedStep}
use Rattle.order_core.specs.declared.fed_step.FedStep.TheVariants as step
use Rattle.order_core.specs.declared.steps.Act.{Act}
use Rattle.order_core.specs.declared.steps.Act.TheVariants.{See, Advertise, Perform}
use Rattle.order_core.specs.Core.{Core, put}
use Rattle.order_core.specs.FedCore.{Feed, FedCore, opening_fed, empty_feed, hart_at, with_record, after_offer, after_take, IsUpTo, FedMakes, FedRuns, IsFedReached}
use Rattle.order_core.specs.Feeds.{IsChunkSize, IsFeedOf, IsFedConsistent}
use Rattle.order_core.specs.Lawful.{IsLawful}
use Rattle.order_core.specs.Runs.{Makes, Performs}
use Rattle.order_core.proofs.Keeps.{opens}
use Rattle.order_core.proofs.LineHarts.{line_there}
use Rattle.order_core.proofs.Ranks.{put_here, put_else}
use Rattle.order_core.proofs.Whole.{one_step}

-- what holds of x at h and of each other value holds of each value once x is put at h
put_each : {A : Type 0} (P : ℕ → A → Type 0) (f : ℕ → A) (h : ℕ) (x : A) → P h x → ((u : ℕ) → u ≢ h → P u (f u)) → (u : ℕ) → P u (put f h x u)
put_each P f h x here others u = dite (ℕ_discrete u h)
    (λ e. subst (λ (z : ℕ). P z (put f h x z)) (sym e) (subst (P h) (sym (put_here f h x)) here))
    (λ ne. subst (P u) (sym (put_else f h u x ne)) (others u ne))

sum_last : (xs : List ℕ) (n : ℕ) → sum (xs ++ (n ∷ [])) ≡ sum xs + n
sum_last xs n = let e : sum (xs ++ (n ∷ [])) ≡ sum xs + (0 + n) = sum_by-append (λ x. x) xs (n ∷ []) in omega arith

sum_front : (xs : List ℕ) → 1 ≤ length xs → sum xs ≡ slice_index xs 0 + sum (drop 1 xs)
sum_front [] l = absurd (omega arith)
sum_front (x ∷ xs) l = sum_by-cons (λ x. x) x xs

drop_short : (xs : List ℕ) → length (drop 1 xs) ≤ length xs
drop_short [] = omega arith
drop_short (x ∷ xs) = omega arith

one_size : (n : ℕ) → IsChunkSize n → All IsChunkSize (n ∷ [])
one_size n is k d l = subst (λ (z : ℕ). IsChunkSize (get_or (n ∷ []) z d)) (let e : 0 ≡ k = omega arith in e) is

module _ (c : Course) where
  abbrev g : List Line
  g = c.log.lines

  fresh_feed : (h : ℕ) → IsFeedOf c 0 h empty_feed
  fresh_feed h = record {
    records = (let z : records_before h g 0 ≡ 0 = before_none g h in omega arith);
    partial = omega arith;
    chunks = All-nil IsChunkSize;
    room = omega arith;
  }

  produced_own : (n h : ℕ) (l : Line) (x : Feed) → get_elem? g n ≡ some l → hart_of l.what ≡ h → x.partial < 64 → IsFeedOf c n h x → IsFeedOf c (n + 1) h (with_record x)
  produced_own n h l x at own low is = record {
    records = (let e : records_before h g (n + 1) ≡ records_before h g n + 1 = before_own g n h l at own in let r : x.taken + sum x.ring + x.partial ≡ records_before h g n = is.records in omega arith);
    partial = omega arith;
    chunks = is.chunks;
    room = is.room;
  }

  produced_other : (n h : ℕ) (l : Line) (x : Feed) → get_elem? g n ≡ some l → hart_of l.what ≢ h → IsFeedOf c n h x → IsFeedOf c (n + 1) h x
  produced_other n h l x at other is = record {
    records = (let e : records_before h g (n + 1) ≡ records_before h g n = before_other g n h l at other in let r : x.taken + sum x.ring + x.partial ≡ records_before h g n = is.records in omega arith);
    partial = is.partial;
    chunks = is.chunks;
    room = is.room;
  }

  offered : (n h : ℕ) (x : Feed) → 1 ≤ x.partial → length x.ring < 16 → IsFeedOf c n h x → IsFeedOf c n h (after_offer x)
  offered n h x least low is = record {
    records = (let e : sum (x.ring ++ (x.partial ∷ [])) ≡ sum x.ring + x.partial = sum_last x.ring x.partial in let r : x.taken + sum x.ring + x.partial ≡ records_before h g n = is.records in omega arith);
    partial = omega arith;
    chunks = All-append IsChunkSize x.ring (x.partial ∷ []) is.chunks (one_size x.partial (least, is.partial));
    room = (let e : length (x.ring ++ (x.partial ∷ [])) ≡ length x.ring + 1 = length-append x.ring (x.partial ∷ []) in omega arith);
  }

  taken : (n h : ℕ) (x : Feed) → 1 ≤ length x.ring → IsFeedOf c n h x → IsFeedOf c n h (after_take x)
  taken n h x least is = record {
    records = (let e : sum x.ring ≡ slice_index x.ring 0 + sum (drop 1 x.ring) = sum_front x.ring least in let r : x.taken + sum x.ring + x.partial ≡ records_before h g n = is.records in omega arith);
    partial = is.partial;
    chunks = All-drop IsChunkSize 1 x.ring is.chunks;
    room = (let s : length (drop 1 x.ring) ≤ length x.ring = drop_short x.ring in let r : length x.ring ≤ 16 = is.room in omega arith);
  }

  -- a hart advertises no record that it has not taken
  tells : (f : FedCore) (h : ℕ) (act : Act) (k : Core) → ((u : ℕ) → f.core.progress u ≤ (f.feed u).taken) → IsUpTo (f.feed h).taken act → Makes c f.core h act k → (u : ℕ) → k.progress u ≤ (f.feed u).taken
  tells f h (See of) k all upto m = subst (λ (z : Core). (u : ℕ) → z.progress u ≤ (f.feed u).taken) (sym m.1) all
  tells f h (Advertise n) k all upto m = subst (λ (z : Core). (u : ℕ) → z.progress u ≤ (f.feed u).taken) (sym m.1)
      (put_each (λ u z. z ≤ (f.feed u).taken) f.core.progress h n upto (λ u ne. all u))
  tells f h (Perform number op) k all upto m = by m.3
    where
      by : Performs c h f.core m.0 m.1 k → (u : ℕ) → k.progress u ≤ (f.feed u).taken
      by (inl w) = subst (λ (z : Core). (u : ℕ) → z.progress u ≤ (f.feed u).taken) (sym w.3) all
      by (inr r) = subst (λ (z : Core). (u : ℕ) → z.progress u ≤ (f.feed u).taken) (sym r.1) all

  -- a hart takes no more records than there are lines
  pub taken_within : (f : FedCore) → IsFedConsistent c f → (h : ℕ) → 1 ≤ length (f.feed h).ring → (f.feed h).taken + slice_index (f.feed h).ring 0 ≤ length g
  taken_within f st h least =
      let x : Feed = f.feed h in
      let r : x.taken + sum x.ring + x.partial ≡ records_before h g f.produced = (st.feeds h).records in
      let e : sum x.ring ≡ slice_index x.ring 0 + sum (drop 1 x.ring) = sum_front x.ring least in
      let most : records_before h g f.produced ≤ f.produced = before_most g h f.produced in
      let low : f.produced ≤ length g = st.produced in
      omega arith

  pub line_low : (n h : ℕ) → hart_at g n ≡ Some h → n < length g
  line_low n h e = let t = line_there g n h e in inside g n t.0 t.1

  module _ (law : IsLawful c) where
    pub hart_low : (n h : ℕ) → hart_at g n ≡ Some h → h < c.log.harts
    hart_low n h e = let t = line_there g n h e in
        law.log.flow.within n h (records_before h g n + 1) t.0 (record { at = t.1; hart = t.2; number = refl })

    pub opens_fed : IsFedConsistent c (opening_fed c)
    opens_fed = record { core = opens c law; produced = omega arith; feeds = fresh_feed; advertised = λ h. omega arith }

    pub fed_step : (f : FedCore) (s : FedStep) (f' : FedCore) → IsFedConsistent c f → FedMakes c f s f' → IsFedConsistent c f'
    fed_step f (step.Core s) f' st m = subst (IsFedConsistent c) (sym m.1.2) (record {
      core = one_step c law s.hart f.core s.act m.1.0 st.core m.1.1;
      produced = st.produced;
      feeds = st.feeds;
      advertised = tells f s.hart s.act m.1.0 st.advertised m.0 m.1.1;
    })
    fed_step f (step.Take h) f' st m = subst (IsFedConsistent c) (sym m.1) (record {
      core = st.core;
      produced = st.produced;
      feeds = put_each (λ u x. IsFeedOf c f.produced u x) f.feed h (after_take (f.feed h)) (taken f.produced h (f.feed h) m.0.some (st.feeds h)) (λ u ne. st.feeds u);
      advertised = put_each (λ u x. f.core.progress u ≤ x.taken) f.feed h (after_take (f.feed h)) (let l : f.core.progress h ≤ (f.feed h).taken = st.advertised h in omega arith) (λ u ne. st.advertised u);
    })
    fed_step f step.Produce f' st m =
        let h : ℕ = m.0 in
        let t = line_there g f.produced h m.1.0 in
        let low : f.produced < length g = line_low f.produced h m.1.0 in
        subst (IsFedConsistent c) (sym m.2) (record {
          core = st.core;
          produced = omega arith;
          feeds = put_each (λ u x. IsFeedOf c (f.produced + 1) u x) f.feed h (with_record (f.feed h)) (produced_own f.produced h t.0 (f.feed h) t.1 t.2 m.1.1 (st.feeds h))
              (λ u ne. produced_other f.produced u t.0 (f.feed u) t.1 (λ e. ne (sym e ∙ t.2)) (st.feeds u));
          advertised = put_each (λ u x. f.core.progress u ≤ x.taken) f.feed h (with_record (f.feed h)) (st.advertised h) (λ u ne. st.advertised u);
        })
    fed_step f (step.Offer h) f' st m = subst (IsFedConsistent c) (sym m.1) (record {
      core = st.core;
      produced = st.produced;
      feeds = put_each (λ u x. IsFeedOf c f.produced u x) f.feed h (after_offer (f.feed h)) (offered f.produced h (f.feed h) m.0.some m.0.room (st.feeds h)) (λ u ne. st.feeds u);
      advertised = put_each (λ u x. f.core.progress u ≤ x.taken) f.feed h (after_offer (f.feed h)) (st.advertised h) (λ u ne. st.advertised u);
    })

    fed_runs : (f : FedCore) (steps : List FedStep) (f' : FedCore) → IsFedConsistent c f → FedRuns c f steps f' → IsFedConsistent c f'
    fed_runs f [] f' st e = subst (IsFedConsistent c) e st
    fed_runs f (s ∷ steps) f' st r = fed_runs r.0 steps f' (fed_step f s r.0 st r.1) r.2

    pub reached_fed : (steps : List FedStep) (f : FedCore) → IsFedReached c steps f → IsFedConsistent c f
    reached_fed steps f r = fed_runs (opening_fed c) steps f opens_fed r
