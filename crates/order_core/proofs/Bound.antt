-- Each step that changes the state raises a number that has a bound.
use Rattle.std.proofs.Common.{◌≡◌, ◌≢◌, ℕ, zero, suc, ◌+◌, ◌<◌, ◌≤◌, Bool, true, false, List, [], ◌∷◌, length, sym, ap, subst, arith, eqb, ne_eqb, if◌then◌else◌}
use mathlib.Core.Logic.{dite}
use mathlib.Core.Option.{some, some-ne-none}
use native.Mathlib.Decide.{ℕ_discrete}
use lib.ListN.{get_elem?}
use Rattle.order_core.specs.declared.course.Course.{Course}
use Rattle.order_core.specs.declared.course.Operation.{Operation}
use Rattle.order_core.specs.Course.{rank, length_of, writes_of}
use Rattle.order_core.specs.Core.{Core, MayWrite, IsConsistent, put, after_write, after_advertise, after_see}
use Rattle.order_core.specs.Runs.{total, total_but, most_moves}
use Rattle.order_core.proofs.Ranks.{put_here, put_else, is_write, rank_lt}

pub total_up : (n : ℕ) (f g : ℕ → ℕ) → ((i : ℕ) → f i ≤ g i) → total n f ≤ total n g
total_up zero f g le = omega arith
total_up (suc n) f g le = let a : f n ≤ g n = le n in let b : total n f ≤ total n g = total_up n f g le in omega arith

pub total_lt : (n i : ℕ) (f g : ℕ → ℕ) → ((j : ℕ) → f j ≤ g j) → i < n → f i < g i → total n f < total n g
total_lt zero i f g le l lt = absurd (omega arith)
total_lt (suc n) i f g le l lt = dite (ℕ_discrete i n)
    (λ e. let a : f n < g n = subst (λ (z : ℕ). f z < g z) e lt in let b : total n f ≤ total n g = total_up n f g le in omega arith)
    (λ e. let o : i ≡ n → ⊥ = e in let a : f n ≤ g n = le n in let b : total n f < total n g = total_lt n i f g le (omega arith) lt in omega arith)

abbrev but : ℕ → (ℕ → ℕ) → ℕ → ℕ
but h f u = if eqb u h then 0 else f u

but_up : (h : ℕ) (f g : ℕ → ℕ) → ((u : ℕ) → f u ≤ g u) → (u : ℕ) → but h f u ≤ but h g u
but_up h f g le u = by (eqb u h) (le u)
  where
    by : (b : Bool) → f u ≤ g u → (if b then 0 else f u) ≤ (if b then 0 else g u)
    by true l = omega arith
    by false l = l

but_lt : (h u : ℕ) (f g : ℕ → ℕ) → u ≢ h → f u < g u → but h f u < but h g u
but_lt h u f g ne l =
    let x : but h f u ≡ f u = ap (λ (b : Bool). if b then 0 else f u) (ne_eqb u h ne) in
    let y : but h g u ≡ g u = ap (λ (b : Bool). if b then 0 else g u) (ne_eqb u h ne) in
    omega arith

pub at_inside : {A : Type 0} (xs : List A) (p : ℕ) (a : A) → get_elem? xs p ≡ some a → p < length xs
at_inside [] p a e = absurd (some-ne-none a (sym e))
at_inside (x ∷ xs) zero a e = omega arith
at_inside (x ∷ xs) (suc p) a e = let l : p < length xs = at_inside xs p a e in omega arith

module _ (c : Course) where
  -- how far all harts are
  abbrev pub height : Core → ℕ
  height k = total c.log.harts k.written + total c.log.harts (λ h. total_but h c.log.harts (k.seen h)) + total c.log.harts k.progress

  pub below : (k : Core) → IsConsistent c k → ((h : ℕ) → k.written h ≤ writes_of c h) → height k ≤ most_moves c
  below k st all =
      let told : (h : ℕ) → k.progress h ≤ length_of c h = λ h. (st.1.passed h).0 in
      let seen : (h u : ℕ) → k.seen h u ≤ length_of c u = λ h u. (let s : k.seen h u ≤ k.progress u = st.1.seen h u in let t : k.progress u ≤ length_of c u = told u in omega arith) in
      let a : total c.log.harts k.written ≤ total c.log.harts (writes_of c) = total_up c.log.harts k.written (writes_of c) all in
      let b : total c.log.harts k.progress ≤ total c.log.harts (length_of c) = total_up c.log.harts k.progress (length_of c) told in
      let d : total c.log.harts (λ h. total_but h c.log.harts (k.seen h)) ≤ total c.log.harts (λ h. total_but h c.log.harts (length_of c)) =
      total_up c.log.harts (λ h. total_but h c.log.harts (k.seen h)) (λ h. total_but h c.log.harts (length_of c))
      (λ h. total_up c.log.harts (but h (k.seen h)) (but h (length_of c)) (but_up h (k.seen h) (length_of c) (seen h))) in
      omega arith

  put_up : (f : ℕ → ℕ) (h x : ℕ) → f h ≤ x → (u : ℕ) → f u ≤ put f h x u
  put_up f h x le u = dite (ℕ_discrete u h) (λ e. subst (λ (z : ℕ). f z ≤ put f h x z) (sym e) (let n : put f h x h ≡ x = put_here f h x in omega arith)) (λ e. let n : put f h x u ≡ f u = put_else f h u x e in omega arith)

  pub advertise_raises : (k : Core) (h m : ℕ) → h < c.log.harts → k.progress h < m → height k < height (after_advertise k h m)
  advertise_raises k h m inside up =
      let a : total c.log.harts k.progress < total c.log.harts (put k.progress h m) = total_lt c.log.harts h k.progress (put k.progress h m) (put_up k.progress h m (omega arith)) inside (let n : put k.progress h m h ≡ m = put_here k.progress h m in omega arith) in
      omega arith

  pub write_raises : (k : Core) (a : Operation) (n : ℕ) → a.hart < c.log.harts → height k < height (after_write k a n)
  write_raises k a n inside =
      let w : ℕ = k.written a.hart + 1 in
      let b : total c.log.harts k.written < total c.log.harts (put k.written a.hart w) = total_lt c.log.harts a.hart k.written (put k.written a.hart w) (put_up k.written a.hart w (omega arith)) inside (let e : put k.written a.hart w a.hart ≡ w = put_here k.written a.hart w in omega arith) in
      omega arith

  pub see_raises : (k : Core) (h u : ℕ) → h < c.log.harts → u < c.log.harts → u ≢ h → k.seen h u < k.progress u → height k < height (after_see k h u)
  see_raises k h u inside other apart up =
      let f : ℕ → ℕ = put (k.seen h) u (k.progress u) in
      let F : ℕ → ℕ = λ v. total_but v c.log.harts (k.seen v) in
      let G : ℕ → ℕ = λ v. total_but v c.log.harts (put k.seen h f v) in
      let more : (v : ℕ) → k.seen h v ≤ f v = put_up (k.seen h) u (k.progress u) (omega arith) in
      let each : (v : ℕ) → F v ≤ G v = λ v. dite (ℕ_discrete v h)
      (λ e. subst (λ (z : ℕ). F z ≤ G z) (sym e) (subst (λ (w : ℕ → ℕ). F h ≤ total_but h c.log.harts w) (sym (put_here k.seen h f)) (total_up c.log.harts (but h (k.seen h)) (but h f) (but_up h (k.seen h) f more))))
      (λ e. subst (λ (w : ℕ → ℕ). F v ≤ total_but v c.log.harts w) (sym (put_else k.seen h v f e)) (omega arith)) in
      let here : F h < G h = subst (λ (w : ℕ → ℕ). F h < total_but h c.log.harts w) (sym (put_here k.seen h f))
      (total_lt c.log.harts u (but h (k.seen h)) (but h f) (but_up h (k.seen h) f more) other (but_lt h u (k.seen h) f apart (let e : f u ≡ k.progress u = put_here (k.seen h) u (k.progress u) in omega arith))) in
      let all : total c.log.harts F < total c.log.harts G = total_lt c.log.harts h F G each inside here in
      omega arith

  -- a write that may be performed is one of its hart's writes
  pub write_counts : (h w p : ℕ) (f : ℕ → ℕ) (a : Operation) → MayWrite c h w f p a → w + 1 ≤ writes_of c h
  write_counts h w p f a m =
      let low : p < length c.operations = at_inside c.operations p a m.0 in
      let up : rank h c.operations p < rank h c.operations (length c.operations) = rank_lt h c.operations p (length c.operations) a m.0 (is_write h a m.1 m.2) low in
      let e : rank h c.operations p ≡ w = m.3 in
      omega arith
