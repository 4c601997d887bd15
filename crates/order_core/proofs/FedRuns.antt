-- Runs of steps of the core and its feeder: their parts, and what two runs of the same steps share.
use Rattle.std.proofs.Common.{◌≡◌, ◌⊎◌, ℕ, zero, suc, ◌+◌, ◌<◌, ◌≤◌, List, [], ◌∷◌, length, take, Some, None, slice_get, refl, sym, ap, ◌∙◌, subst, arith, lt_of_not-le}
use Rattle.std.proofs.Math.Seq.{take-length}
use mathlib.Core.Logic.{dite}
use native.Mathlib.Decide.{ℕ_discrete, dec_le}
use Rattle.order_core.specs.declared.course.Course.{Course}
use Rattle.order_core.specs.declared.course.Operation.{Operation}
use Rattle.order_core.specs.declared.fed_step.FedStep.{FedStep}
use Rattle.order_core.specs.declared.fed_step.FedStep.TheVariants as step
use Rattle.order_core.specs.Core.{IsPassed, put}
use Rattle.order_core.specs.Course.{At}
use Rattle.order_core.specs.FedCore.{Feed, FedCore, opening_fed, hart_at, with_record, after_offer, after_take, IsUpTo, IsFedAllowed, FedMakes, FedRuns, IsFedReached}
use Rattle.order_core.specs.FedOutcomes.{IsFirstFedRefused}
use Rattle.order_core.specs.Lawful.{InOrder}
use Rattle.order_core.proofs.RunLemmas.{Alike, allowed, alike_after, alike_allowed, step_writes, there_low}

-- two states that differ in the words of the core alone
record FedAlike (f g : FedCore) : Type 0 where
  core : Alike f.core g.core
  produced : f.produced ≡ g.produced
  feed : f.feed ≡ g.feed

module _ (c : Course) where
  fed_allowed : (f : FedCore) (s : FedStep) (f' : FedCore) → FedMakes c f s f' → IsFedAllowed c f s
  fed_allowed f (step.Core s) f' m = (m.0, allowed c s.hart f.core s.act m.1.0 m.1.1)
  fed_allowed f (step.Take h) f' m = m.0
  fed_allowed f step.Produce f' m = (m.0, m.1)
  fed_allowed f (step.Offer h) f' m = m.0

  -- the first steps of a run, and the next of them
  pub fed_next : (f : FedCore) (steps : List FedStep) (i : ℕ) (s : FedStep) (m m' : FedCore) → slice_get steps i ≡ Some s → FedRuns c f (take i steps) m → FedMakes c m s m' → FedRuns c f (take (suc i) steps) m'
  fed_next f [] i s m m' e r makes = absurd (let n : None ≡ Some s = e in cc)
  fed_next f (x ∷ steps) zero s m m' e r makes =
      let same : x ≡ s = (let n : Some x ≡ Some s = e in cc) in
      (m', subst (λ (z : FedCore × FedStep). FedMakes c z.0 z.1 m') (λ d. (sym r d, sym same d)) makes, refl)
  fed_next f (x ∷ steps) (suc i) s m m' e r makes = (r.0, r.1, fed_next r.0 steps i s m m' e r.2 makes)

  -- each step of a run is made where the steps before it lead
  fed_within : (f : FedCore) (steps : List FedStep) (i j : ℕ) (s : FedStep) (f' : FedCore) → i < j → slice_get steps i ≡ Some s → FedRuns c f (take j steps) f' → (m : FedCore) × (m' : FedCore) × FedRuns c f (take i steps) m × FedMakes c m s m'
  fed_within f [] i j s f' l e r = absurd (let n : None ≡ Some s = e in cc)
  fed_within f (x ∷ steps) i zero s f' l e r = absurd (omega arith)
  fed_within f (x ∷ steps) zero (suc j) s f' l e r =
      let same : x ≡ s = (let n : Some x ≡ Some s = e in cc) in
      (f, r.0, refl, subst (λ (z : FedStep). FedMakes c f z r.0) same r.1)
  fed_within f (x ∷ steps) (suc i) (suc j) s f' l e r =
      let t = fed_within r.0 steps i j s f' (omega arith) e r.2 in
      (t.0, t.1, (r.0, r.1, t.2), t.3)

  -- a step performs one write at most
  fed_writes : (h : ℕ) (f : FedCore) (s : FedStep) (f' : FedCore) → FedMakes c f s f' → f'.core.written h ≤ f.core.written h + 1
  fed_writes h f (step.Core s) f' m =
      let up : m.1.0.written h ≤ f.core.written h + 1 = step_writes c s.hart h f.core s.act m.1.0 m.1.1 in
      let e : f'.core.written h ≡ m.1.0.written h = ap (λ (z : FedCore). z.core.written h) m.1.2 in omega arith
  fed_writes h f (step.Take u) f' m = let e : f'.core.written h ≡ f.core.written h = ap (λ (z : FedCore). z.core.written h) m.1 in omega arith
  fed_writes h f step.Produce f' m = let e : f'.core.written h ≡ f.core.written h = ap (λ (z : FedCore). z.core.written h) m.2 in omega arith
  fed_writes h f (step.Offer u) f' m = let e : f'.core.written h ≡ f.core.written h = ap (λ (z : FedCore). z.core.written h) m.1 in omega arith

  pub few_fed_writes : (h : ℕ) (f : FedCore) (steps : List FedStep) (f' : FedCore) → FedRuns c f steps f' → f'.core.written h ≤ f.core.written h + length steps
  few_fed_writes h f [] f' r = let e : f.core.written h ≡ f'.core.written h = ap (λ (z : FedCore). z.core.written h) r in omega arith
  few_fed_writes h f (s ∷ steps) f' r =
      let one : r.0.core.written h ≤ f.core.written h + 1 = fed_writes h f s r.0 r.1 in
      let more : f'.core.written h ≤ r.0.core.written h + length steps = few_fed_writes h r.0 steps f' r.2 in
      omega arith

  same_allowed : (f g : FedCore) (s : FedStep) → FedAlike f g → IsFedAllowed c f s → IsFedAllowed c g s
  same_allowed f g (step.Core s) e t = (subst (λ (z : ℕ → Feed). IsUpTo (z s.hart).taken s.act) e.feed t.0, alike_allowed c s.hart f.core g.core s.act e.core t.1)
  same_allowed f g (step.Take h) e t = record {
    hart = t.hart;
    some = subst (λ (z : ℕ → Feed). 1 ≤ length (z h).ring) e.feed t.some;
    passed = subst (λ (z : (ℕ → ℕ) × (ℕ → ℕ → ℕ) × (ℕ → Feed)). IsPassed c (z.0 h) (z.1 h) h (z.2 h).taken) (λ i. (e.core.written i, e.core.seen i, e.feed i)) t.passed;
  }
  same_allowed f g step.Produce e (h, may) = (h, subst (λ (z : ℕ × (ℕ → Feed)). (hart_at c.log.lines z.0 ≡ Some h) × ((z.1 h).partial < 64)) (λ i. (e.produced i, e.feed i)) may)
  same_allowed f g (step.Offer h) e t = record {
    hart = t.hart;
    some = subst (λ (z : ℕ → Feed). 1 ≤ (z h).partial) e.feed t.some;
    room = subst (λ (z : ℕ → Feed). length (z h).ring < 16) e.feed t.room;
    due = subst (λ (z : ℕ × (ℕ → Feed)). ((z.1 h).partial ≡ 64) ⊎ ((hart_at c.log.lines z.0 ≡ None) ⊎ ((u : ℕ) × (hart_at c.log.lines z.0 ≡ Some u) × ((z.1 u).partial ≡ 64) × (length (z.1 u).ring ≡ 16)))) (λ i. (e.produced i, e.feed i)) t.due;
  }

  module _ (names : InOrder c) (short : (p : ℕ) (a : Operation) → At c p a → a.op < 4294967295) where
    fed_after : (f g : FedCore) (s : FedStep) (f' g' : FedCore) → FedAlike f g → FedMakes c f s f' → FedMakes c g s g' → FedAlike f' g'
    fed_after f g (step.Core s) f' g' e x y = subst (λ (z : FedCore × FedCore). FedAlike z.0 z.1) (λ i. (sym x.1.2 i, sym y.1.2 i))
        (record { core = alike_after c names short s.hart f.core g.core s.act x.1.0 y.1.0 e.core x.1.1 y.1.1; produced = e.produced; feed = e.feed })
    fed_after f g (step.Take h) f' g' e x y = subst (λ (z : FedCore × FedCore). FedAlike z.0 z.1) (λ i. (sym x.1 i, sym y.1 i))
        (record { core = e.core; produced = e.produced; feed = λ i. put (e.feed i) h (after_take (e.feed i h)) })
    fed_after f g step.Produce f' g' e x y =
        let here : hart_at c.log.lines f.produced ≡ Some x.0 = x.1.0 in
        let there : hart_at c.log.lines g.produced ≡ Some y.0 = y.1.0 in
        let both : Some x.0 ≡ Some y.0 = sym here ∙ (ap (hart_at c.log.lines) e.produced ∙ there) in
        let same : x.0 ≡ y.0 = cc in
        subst (λ (z : FedCore × FedCore). FedAlike z.0 z.1) (λ i. (sym x.2 i, sym y.2 i))
        (record { core = e.core; produced = ap (λ (n : ℕ). n + 1) e.produced; feed = λ i. put (e.feed i) (same i) (with_record (e.feed i (same i))) })
    fed_after f g (step.Offer h) f' g' e x y = subst (λ (z : FedCore × FedCore). FedAlike z.0 z.1) (λ i. (sym x.1 i, sym y.1 i))
        (record { core = e.core; produced = e.produced; feed = λ i. put (e.feed i) h (after_offer (e.feed i h)) })

    same_runs : (f g : FedCore) (steps : List FedStep) (f' g' : FedCore) → FedAlike f g → FedRuns c f steps f' → FedRuns c g steps g' → FedAlike f' g'
    same_runs f g [] f' g' e x y = subst (λ (z : FedCore × FedCore). FedAlike z.0 z.1) (λ i. (x i, y i)) e
    same_runs f g (s ∷ steps) f' g' e x y = same_runs x.0 y.0 steps f' g' (fed_after f g s x.0 y.0 e x.1 y.1) x.2 y.2

    -- no run goes past a step that is not allowed
    fed_stops : (steps : List FedStep) (i j : ℕ) (f : FedCore) → IsFirstFedRefused c steps i → i < j → IsFedReached c (take j steps) f → ⊥
    fed_stops steps i j f first l r =
        let t = fed_within (opening_fed c) steps i j first.step f l first.there r in
        let e = same_runs (opening_fed c) (opening_fed c) (take i steps) t.0 first.before (record { core = record { written = refl; progress = refl; seen = refl }; produced = refl; feed = refl }) t.2 first.reached in
        first.refused (same_allowed t.0 first.before first.step e (fed_allowed t.0 first.step t.1 t.3))

    pub fed_not_whole : (steps : List FedStep) (i : ℕ) (f : FedCore) → IsFirstFedRefused c steps i → IsFedReached c steps f → ⊥
    fed_not_whole steps i f first r = fed_stops steps i (length steps) f first (there_low steps i first.step first.there) (subst (λ (z : List FedStep). IsFedReached c z f) (sym (take-length steps)) r)

    -- there is one first step that is not allowed
    pub fed_one_first : (steps : List FedStep) (i j : ℕ) → IsFirstFedRefused c steps i → IsFirstFedRefused c steps j → i ≡ j
    fed_one_first steps i j a b = dite (ℕ_discrete i j) (λ e. e) (λ ne. let o : i ≡ j → ⊥ = ne in absurd (dite (dec_le i j)
        (λ le. fed_stops steps i j b.before a (omega arith) b.reached)
        (λ n. fed_stops steps j i a.before b (lt_of_not-le n) a.reached)))
