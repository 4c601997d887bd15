-- Runs of steps: their parts, and what two runs of the same steps share.
use Rattle.std.proofs.Common.{◌≡◌, ℕ, zero, suc, ◌+◌, ◌<◌, ◌≤◌, true, false, List, [], ◌∷◌, length, get_or, take, Some, None, slice_get, refl, sym, ap, ◌∙◌, subst, inl, inr, arith, lt_of_not-le}
use Rattle.std.proofs.Math.Seq.{take-length}
use Rattle.std.specs.Prelude.{◌⊎◌, Result, Ok, Err, IsErrAnd, MatchResult}
use mathlib.Core.Option.{some-injective}
use mathlib.Core.Logic.{dite}
use native.Mathlib.Decide.{ℕ_discrete, dec_le}
use Rattle.order_core.specs.declared.course.Course.{Course}
use Rattle.order_core.specs.declared.course.Operation.{Operation}
use Rattle.order_core.specs.declared.steps.Act.{Act}
use Rattle.order_core.specs.declared.steps.Act.TheVariants.{See, Advertise, Perform}
use Rattle.order_core.specs.declared.steps.CoreStep.{CoreStep}
use Rattle.order_core.specs.declared.refused.CoreRefused.{CoreRefused}
use Rattle.order_core.specs.declared.refused.CoreRefused.TheVariants.{NotAble, NoMemory}
use Rattle.order_core.specs.Course.{At}
use Rattle.order_core.specs.Core.{Core, IsPassed, MayWrite, MayRead, put, opening_core}
use Rattle.order_core.specs.Lawful.{InOrder, IsName}
use Rattle.order_core.specs.Runs.{IsAllowed, Makes, Performs, MayPerform, Runs, IsReached}
use Rattle.order_core.specs.Outcomes.{IsFirstRefused}
use Rattle.order_core.proofs.Counts.{once}
use Rattle.order_core.proofs.Ranks.{put_here, put_else}

pub get_there : {A : Type 0} (xs : List A) (i : ℕ) (d : A) → i < length xs → slice_get xs i ≡ Some (get_or xs i d)
get_there [] i d l = absurd (omega arith)
get_there (x ∷ xs) zero d l = refl
get_there (x ∷ xs) (suc i) d l = get_there xs i d (omega arith)

pub there_low : {A : Type 0} (xs : List A) (i : ℕ) (x : A) → slice_get xs i ≡ Some x → i < length xs
there_low [] i x e = absurd (let f : None ≡ Some x = e in cc)
there_low (y ∷ xs) zero x e = omega arith
there_low (y ∷ xs) (suc i) x e = let l : i < length xs = there_low xs i x e in omega arith

-- an error that names a step names any that is the same
pub refused_at : {A : Type 0} (r : Result A CoreRefused) (i j : ℕ) → IsErrAnd r (λ e. e ≡ NotAble i) → i ≡ j → MatchResult r (λ _. ⊥) (λ e. (e ≡ NotAble j) ⊎ (e ≡ NoMemory))
refused_at (Ok s) i j is same = is
refused_at (Err e) i j is same = inl (is ∙ ap (λ (z : ℕ). NotAble z) same)

-- two states of the core that differ in their words alone
pub record Alike (k m : Core) : Type 0 where
  pub written : k.written ≡ m.written
  pub progress : k.progress ≡ m.progress
  pub seen : k.seen ≡ m.seen

module _ (c : Course) where
  may_perform : (h : ℕ) (k : Core) (p : ℕ) (a : Operation) (k' : Core) → Performs c h k p a k' → MayPerform c h k p a
  may_perform h k p a k' (inl w) = inl w.0
  may_perform h k p a k' (inr r) = inr r.0

  pub allowed : (h : ℕ) (k : Core) (act : Act) (k' : Core) → Makes c k h act k' → IsAllowed c k h act
  allowed h k (See of) k' m = m.0
  allowed h k (Advertise upto) k' m = m.0
  allowed h k (Perform number op) k' m = (m.0, m.1, m.2, may_perform h k m.0 m.1 k' m.3)

  -- the first steps of a run, and the next of them
  pub run_next : (k : Core) (steps : List CoreStep) (i : ℕ) (s : CoreStep) (m m' : Core) → slice_get steps i ≡ Some s → Runs c k (take i steps) m → Makes c m s.hart s.act m' → Runs c k (take (suc i) steps) m'
  run_next k [] i s m m' e r makes = absurd (let f : None ≡ Some s = e in cc)
  run_next k (x ∷ steps) zero s m m' e r makes =
      let same : x ≡ s = (let f : Some x ≡ Some s = e in cc) in
      (m', subst (λ (z : Core × CoreStep). Makes c z.0 z.1.hart z.1.act m') (λ d. (sym r d, sym same d)) makes, refl)
  run_next k (x ∷ steps) (suc i) s m m' e r makes = (r.0, r.1, run_next r.0 steps i s m m' e r.2 makes)

  -- each step of a run is made where the steps before it lead
  run_within : (k : Core) (steps : List CoreStep) (i j : ℕ) (s : CoreStep) (k' : Core) → i < j → slice_get steps i ≡ Some s → Runs c k (take j steps) k' → (m : Core) × (m' : Core) × Runs c k (take i steps) m × Makes c m s.hart s.act m'
  run_within k [] i j s k' l e r = absurd (let f : None ≡ Some s = e in cc)
  run_within k (x ∷ steps) i zero s k' l e r = absurd (omega arith)
  run_within k (x ∷ steps) zero (suc j) s k' l e r =
      let same : x ≡ s = (let f : Some x ≡ Some s = e in cc) in
      (k, r.0, refl, subst (λ (z : CoreStep). Makes c k z.hart z.act r.0) same r.1)
  run_within k (x ∷ steps) (suc i) (suc j) s k' l e r =
      let t = run_within r.0 steps i j s k' (omega arith) e r.2 in
      (t.0, t.1, (r.0, r.1, t.2), t.3)

  -- a step performs one write at most
  pub step_writes : (g h : ℕ) (k : Core) (act : Act) (k' : Core) → Makes c k g act k' → k'.written h ≤ k.written h + 1
  step_writes g h k (See of) k' m = let e : k'.written h ≡ k.written h = ap (λ (z : Core). z.written h) m.1 in omega arith
  step_writes g h k (Advertise upto) k' m = let e : k'.written h ≡ k.written h = ap (λ (z : Core). z.written h) m.1 in omega arith
  step_writes g h k (Perform number op) k' m = by m.3
    where
      by : Performs c g k m.0 m.1 k' → k'.written h ≤ k.written h + 1
      by (inl w) = let e : k'.written h ≡ put k.written m.1.hart (k.written m.1.hart + 1) h = ap (λ (z : Core). z.written h) w.3 in
          dite (ℕ_discrete h m.1.hart)
          (λ s. let t : put k.written m.1.hart (k.written m.1.hart + 1) h ≡ k.written h + 1 = subst (λ (z : ℕ). put k.written m.1.hart (k.written m.1.hart + 1) z ≡ k.written z + 1) (sym s) (put_here k.written m.1.hart (k.written m.1.hart + 1)) in omega arith)
          (λ ne. let t : put k.written m.1.hart (k.written m.1.hart + 1) h ≡ k.written h = put_else k.written m.1.hart h (k.written m.1.hart + 1) ne in omega arith)
      by (inr r) = let e : k'.written h ≡ k.written h = ap (λ (z : Core). z.written h) r.1 in omega arith

  pub few_writes : (h : ℕ) (k : Core) (steps : List CoreStep) (k' : Core) → Runs c k steps k' → k'.written h ≤ k.written h + length steps
  few_writes h k [] k' r = let e : k.written h ≡ k'.written h = ap (λ (z : Core). z.written h) r in omega arith
  few_writes h k (s ∷ steps) k' r =
      let one : r.0.written h ≤ k.written h + 1 = step_writes s.hart h k s.act r.0 r.1 in
      let more : k'.written h ≤ r.0.written h + length steps = few_writes h r.0 steps k' r.2 in
      omega arith

  pub alike_allowed : (h : ℕ) (k m : Core) (act : Act) → Alike k m → IsAllowed c k h act → IsAllowed c m h act
  alike_allowed h k m (See of) e t = t
  alike_allowed h k m (Advertise upto) e t = subst (λ (z : (ℕ → ℕ) × (ℕ → ℕ) × (ℕ → ℕ → ℕ)). (h < c.log.harts) × (z.0 h ≤ upto) × IsPassed c (z.1 h) (z.2 h) h upto) (λ i. (e.progress i, e.written i, e.seen i)) t
  alike_allowed h k m (Perform number op) e (p, a, name, inl w) = (p, a, name, inl (subst (λ (z : (ℕ → ℕ) × (ℕ → ℕ → ℕ)). MayWrite c h (z.0 h) (z.1 h) p a) (λ i. (e.written i, e.seen i)) w))
  alike_allowed h k m (Perform number op) e (p, a, name, inr r) = (p, a, name, inr (subst (λ (z : (ℕ → ℕ) × (ℕ → ℕ) × (ℕ → ℕ → ℕ)). MayRead c h (z.0 h) (z.1 h) (z.2 h) p a) (λ i. (e.written i, e.progress i, e.seen i)) r))

  module _ (names : InOrder c) (short : (p : ℕ) (a : Operation) → At c p a → a.op < 4294967295) where
    same_op : (p q : ℕ) (a b : Operation) (h n i : ℕ) → At c p a → At c q b → IsName h n i a → IsName h n i b → a ≡ b
    same_op p q a b h n i x y s t =
        let e : p ≡ q = once c names short p q a b x y (s.0 ∙ sym t.0) (s.1 ∙ sym t.1) (s.2 ∙ sym t.2) in
        some-injective a b (sym x ∙ subst (λ (z : ℕ). At c z b) (sym e) y)

    pub alike_after : (h : ℕ) (k m : Core) (act : Act) (k' m' : Core) → Alike k m → Makes c k h act k' → Makes c m h act m' → Alike k' m'
    alike_after h k m (See of) k' m' e x y = subst (λ (z : Core × Core). Alike z.0 z.1) (λ i. (sym x.1 i, sym y.1 i))
        (record { written = e.written; progress = e.progress; seen = λ i. put (e.seen i) h (put (e.seen i h) of (e.progress i of)) })
    alike_after h k m (Advertise upto) k' m' e x y = subst (λ (z : Core × Core). Alike z.0 z.1) (λ i. (sym x.1 i, sym y.1 i))
        (record { written = e.written; progress = λ i. put (e.progress i) h upto; seen = e.seen })
    alike_after h k m (Perform number op) k' m' e (p, a, s, inl w) (q, b, t, inl v) =
        let hart : a.hart ≡ b.hart = s.0 ∙ sym t.0 in
        subst (λ (z : Core × Core). Alike z.0 z.1) (λ i. (sym w.3 i, sym v.3 i))
        (record { written = λ i. put (e.written i) (hart i) (e.written i (hart i) + 1); progress = e.progress; seen = e.seen })
    alike_after h k m (Perform number op) k' m' e (p, a, s, inl w) (q, b, t, inr v) =
        let same : a ≡ b = same_op p q a b h number op w.0.0 v.0.0 s t in
        absurd (let f : true ≡ false = sym w.0.1 ∙ (ap (λ (z : Operation). z.what.write) same ∙ v.0.1) in cc)
    alike_after h k m (Perform number op) k' m' e (p, a, s, inr w) (q, b, t, inl v) =
        let same : a ≡ b = same_op p q a b h number op w.0.0 v.0.0 s t in
        absurd (let f : false ≡ true = sym w.0.1 ∙ (ap (λ (z : Operation). z.what.write) same ∙ v.0.1) in cc)
    alike_after h k m (Perform number op) k' m' e (p, a, s, inr w) (q, b, t, inr v) =
        subst (λ (z : Core × Core). Alike z.0 z.1) (λ i. (sym w.1 i, sym v.1 i)) e

    alike_runs : (k m : Core) (steps : List CoreStep) (k' m' : Core) → Alike k m → Runs c k steps k' → Runs c m steps m' → Alike k' m'
    alike_runs k m [] k' m' e x y = subst (λ (z : Core × Core). Alike z.0 z.1) (λ i. (x i, y i)) e
    alike_runs k m (s ∷ steps) k' m' e x y = alike_runs x.0 y.0 steps k' m' (alike_after s.hart k m s.act x.0 y.0 e x.1 y.1) x.2 y.2

    -- no run goes past a step that is not allowed
    stops : (steps : List CoreStep) (i j : ℕ) (k : Core) → IsFirstRefused c steps i → i < j → IsReached c (take j steps) k → ⊥
    stops steps i j k first l r =
        let t = run_within (opening_core c) steps i j first.step k l first.there r in
        let e = alike_runs (opening_core c) (opening_core c) (take i steps) t.0 first.before (record { written = refl; progress = refl; seen = refl }) t.2 first.reached in
        first.refused (alike_allowed first.step.hart t.0 first.before first.step.act e (allowed first.step.hart t.0 first.step.act t.1 t.3))

    pub not_whole : (steps : List CoreStep) (i : ℕ) (k : Core) → IsFirstRefused c steps i → IsReached c steps k → ⊥
    not_whole steps i k first r = stops steps i (length steps) k first (there_low steps i first.step first.there) (subst (λ (z : List CoreStep). IsReached c z k) (sym (take-length steps)) r)

    -- there is one first step that is not allowed
    pub one_first : (steps : List CoreStep) (i j : ℕ) → IsFirstRefused c steps i → IsFirstRefused c steps j → i ≡ j
    one_first steps i j a b = dite (ℕ_discrete i j) (λ e. e) (λ ne. let o : i ≡ j → ⊥ = ne in absurd (dite (dec_le i j)
        (λ le. stops steps i j b.before a (omega arith) b.reached)
        (λ n. stops steps j i a.before b (lt_of_not-le n) a.reached)))
