-- What workers have learnt of each other.
use Rattle.std.proofs.Common.{◌≡◌, ◌≢◌, ℕ, zero, suc, [], ◌∷◌, ◌+◌, ◌<◌, ◌≤◌, List, length, map, set, max, slice_index, get_or-set_same, get_or-set_other, refl, sym, ap, ◌∙◌, subst, arith, ⊎_elim, length-set}
use mathlib.Core.Option.{some, some-injective}
use mathlib.Core.Logic.{dite}
use native.Mathlib.Decide.{ℕ_discrete}
use lib.ListN.{get_elem?}
use Rattle.atomic_table.proofs.Lists.{at_set, set_else, set_again, at_map}
use Rattle.order_core.proofs.Flatten.{inside}
use Rattle.guard_table.specs.declared.view.View.{View}
use Rattle.guard_table.specs.Views.{told_by, learnt_from, HasEight}
use Rattle.turn_worker.specs.Workers.{WorkerView}
use Rattle.lifeguard_crew.specs.inner.Rounds.{lasting, AreSame, taught, heard_from, HasHeard, HaveHeardAll}
use Rattle.lifeguard_crew.proofs.Same.{at_place}

pub map_set : {A B : Type 0} (f : A → B) (xs : List A) (i : ℕ) (x : A) → map f (set xs i x) ≡ set (map f xs) i (f x)
map_set f [] i x = refl
map_set f (y ∷ ys) zero x = refl
map_set f (y ∷ ys) (suc i) x = ap (λ zs. f y ∷ zs) (map_set f ys i x)

-- worker j told worker i
pub told_one : {W : Type 0} (view : W → WorkerView) (ws : List W) (i j : ℕ) (teller teller' pupil' : W) (note : View)
    → get_elem? ws j ≡ some teller → view teller' ≡ view teller → note ≡ told_by (view teller).seat
    → (pupil : W) → get_elem? (set ws j teller') i ≡ some pupil
    → view pupil' ≡ record (view pupil) { seat = learnt_from note (view pupil).seat }
    → (v w : WorkerView) → get_elem? (map view ws) i ≡ some v → get_elem? (map view ws) j ≡ some w
    → map view (set (set ws j teller') i pupil') ≡ set (map view ws) i (heard_from w v)
told_one view ws i j teller teller' pupil' note at same told pupil here learns v w at_i at_j =
    let same_list : map view (set ws j teller') ≡ map view ws =
    map_set view ws j teller' ∙ (ap (set (map view ws) j) same ∙ set_again (map view ws) j (view teller) (at_map view ws j teller at)) in
    let own : view pupil ≡ v = some-injective (view pupil) v
    (sym (at_map view (set ws j teller') i pupil here) ∙ (ap (λ (z : List WorkerView). get_elem? z i) same_list ∙ at_i)) in
    let of : view teller ≡ w = some-injective (view teller) w (sym (at_map view ws j teller at) ∙ at_j) in
    let is : view pupil' ≡ heard_from w v = learns
    ∙ (λ t. record (own t) { seat = learnt_from ((told ∙ ap (λ (z : WorkerView). told_by z.seat) of) t) (own t).seat }) in
    map_set view (set ws j teller') i pupil' ∙ (ap (λ (z : List WorkerView). set z i (view pupil')) same_list ∙ ap (set (map view ws) i) is)

pub none_heard : (i : ℕ) (vs : List WorkerView) → HasHeard i 0 vs vs
none_heard i vs = record {
  size = refl;
  same = λ k v w was now.
      let e : w ≡ v = some-injective w v (sym now ∙ was) in
      e ∙ ap (λ (z : WorkerView). taught z.seat.learnt v) (sym e);
  others = λ k n. refl;
  heard = λ j v w lt. absurd (omega arith);
}

-- worker i hears of worker j
pub heard_more : (i j : ℕ) (vs ws : List WorkerView) (v w : WorkerView) → HasHeard i j vs ws → j ≢ i
    → get_elem? ws i ≡ some v → get_elem? ws j ≡ some w → HasEight v.seat → j < 8 → w.seat.hart ≡ j
    → HasHeard i (j + 1) vs (set ws i (heard_from w v))
heard_more i j vs ws v w o ne own at wide few hart = record {
  size = length-set ws i (heard_from w v) ∙ o.size;
  same = λ k a b was now. ⊎_elim
      (λ (p : (k ≡ i) × (heard_from w v ≡ b)).
      let e : v ≡ taught v.seat.learnt a = o.same k a v was (subst (λ (z : ℕ). get_elem? ws z ≡ some v) (sym p.0) own) in
      sym p.1 ∙ (ap (λ (z : WorkerView). taught (heard_from w v).seat.learnt z) e
      ∙ ap (λ (z : WorkerView). taught z.seat.learnt a) p.1))
      (λ (p : (k ≢ i) × (get_elem? ws k ≡ some b)). o.same k a b was p.1)
      (at_set ws i k (heard_from w v) b now);
  others = λ k n. set_else ws i k (heard_from w v) n ∙ o.others k n;
  heard = λ k a b lt n was now. ⊎_elim
      (λ (p : (i ≡ i) × (heard_from w v ≡ b)). subst (λ (z : WorkerView). a.seat.progress ≤ slice_index z.seat.learnt k) p.1
      (dite (ℕ_discrete k j)
      (λ e.
      let there : get_elem? ws j ≡ some a = o.others j ne ∙ subst (λ (z : ℕ). get_elem? vs z ≡ some a) e was in
      let same : w ≡ a = some-injective w a (sym at ∙ there) in
      let most : ℕ = max (slice_index v.seat.learnt w.seat.hart) w.seat.progress in
      let places : length v.seat.learnt ≡ 8 = wide.1 in
      let here : slice_index (set v.seat.learnt w.seat.hart most) k ≡ most =
      ap (λ (z : ℕ). slice_index (set v.seat.learnt w.seat.hart most) z) (e ∙ sym hart)
      ∙ get_or-set_same v.seat.learnt w.seat.hart most 0 (omega arith) in
      let told : w.seat.progress ≡ a.seat.progress = ap (λ (z : WorkerView). z.seat.progress) same in
      omega arith)
      (λ d.
      let most : ℕ = max (slice_index v.seat.learnt w.seat.hart) w.seat.progress in
      let there : slice_index (set v.seat.learnt w.seat.hart most) k ≡ slice_index v.seat.learnt k =
      get_or-set_other v.seat.learnt w.seat.hart k most 0 (λ e. d (e ∙ hart)) in
      let old : a.seat.progress ≤ slice_index v.seat.learnt k = o.heard k a v (omega arith) n was own in
      omega arith)))
      (λ (p : (i ≢ i) × (get_elem? ws i ≡ some b)). absurd (p.0 refl))
      (at_set ws i i (heard_from w v) b now);
}

-- worker i need not hear of itself
pub heard_self : (i : ℕ) (vs ws : List WorkerView) → HasHeard i i vs ws → HasHeard i (i + 1) vs ws
heard_self i vs ws o = record {
  size = o.size;
  same = o.same;
  others = o.others;
  heard = λ j v w lt n. o.heard j v w (let d : j ≢ i = n in omega arith) n;
}

pub none_heard_all : (vs : List WorkerView) → HaveHeardAll 0 vs vs
none_heard_all vs = record {
  size = refl;
  same = (none_heard 0 vs).same;
  heard = λ i j v w lt. absurd (omega arith);
}

-- one worker more has heard
pub heard_one : (i n : ℕ) (us vs ws : List WorkerView) → length vs ≤ n → HaveHeardAll i us vs → HasHeard i n vs ws
    → HaveHeardAll (i + 1) us ws
heard_one i n us vs ws all a b = record {
  size = b.size ∙ a.size;
  same = λ k u w was now.
      let lt : k < length us = inside us k u was in
      let sizes : length vs ≡ length us = a.size in
      let v = at_place vs k (omega arith) in
      b.same k v.0 w v.1 now ∙ ap (taught w.seat.learnt) (a.same k u v.0 was v.1);
  heard = λ k j u w lt other was now.
      let low : j < length us = inside us j u was in
      let sizes : length vs ≡ length us = a.size in
      let v = at_place vs j (omega arith) in
      let told : v.0.seat.progress ≡ u.seat.progress = ap (λ (z : WorkerView). z.seat.progress) (a.same j u v.0 was v.1) in
      dite (ℕ_discrete k i)
      (λ e.
      let here : get_elem? ws i ≡ some w = subst (λ (z : ℕ). get_elem? ws z ≡ some w) e now in
      let more : v.0.seat.progress ≤ slice_index w.seat.learnt j = b.heard j v.0 w (omega arith) (λ x. other (x ∙ sym e)) v.1 here in
      omega arith)
      (λ d. a.heard k j u w (omega arith) other was (sym (b.others k d) ∙ now));
}

-- who has heard is who was there
pub taught_same : (vs ws : List WorkerView) → length ws ≡ length vs
    → ((k : ℕ) (v w : WorkerView) → get_elem? vs k ≡ some v → get_elem? ws k ≡ some w → w ≡ taught w.seat.learnt v)
    → AreSame vs ws
taught_same vs ws sizes same = record { size = sizes; each = λ k v w was now. ap lasting (same k v w was now) }
