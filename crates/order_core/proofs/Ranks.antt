-- Ranks of writes, and what chosen writes leave in a word.
use Rattle.std.proofs.Common.{◌≡◌, ◌≢◌, ℕ, zero, suc, ◌+◌, ◌<◌, ◌≤◌, Bool, true, false, ◌&&◌, ltb, eqb, List, [], ◌∷◌, refl, sym, ap, ◌∙◌, subst, arith, eq-eqb, ne_eqb, if◌then◌else◌}
use Rattle.std.proofs.lemmas.Bool.Decides.{nat_tests}
use mathlib.Core.Logic.{dite}
use native.Mathlib.Decide.{ℕ_discrete}
use mathlib.Core.Option.{some, some-injective, some-ne-none}
use lib.ListN.{get_elem?}
use Rattle.order_core.specs.declared.course.Operation.{Operation}
use Rattle.order_core.specs.Lanes.{lane, covers}
use Rattle.order_core.specs.Course.{is_write_of, rank, left_in}
use Rattle.order_core.specs.Core.{put}

pub put_here : {A : Type 0} (f : ℕ → A) (h : ℕ) (x : A) → put f h x h ≡ x
put_here f h x = ap (λ (b : Bool). if b then x else f h) (eq-eqb h h refl)

pub put_else : {A : Type 0} (f : ℕ → A) (h u : ℕ) (x : A) → u ≢ h → put f h x u ≡ f u
put_else f h u x n = ap (λ (b : Bool). if b then x else f u) (ne_eqb u h n)

-- f with its own value at h is f
pub put_same : {A : Type 0} (f : ℕ → A) (h : ℕ) (x : A) → x ≡ f h → put f h x ≡ f
put_same f h x e = λ i u. at u i
  where
    at : (u : ℕ) → put f h x u ≡ f u
    at u = dite (ℕ_discrete u h) (λ s. subst (λ (z : ℕ). put f h x z ≡ f z) (sym s) (put_here f h x ∙ e)) (λ n. put_else f h u x n)

pub same_test : (a b c d : ℕ) → (a < b → c < d) → (c < d → a < b) → ltb a b ≡ ltb c d
same_test a b c d f g = grind (arith, nat_tests)

pub and_true : (a b : Bool) → a ≡ true → b ≡ true → (a && b) ≡ true
and_true a b p q = ap (λ (x : Bool). x && b) p ∙ q

pub is_write : (h : ℕ) (a : Operation) → a.what.write ≡ true → a.hart ≡ h → is_write_of h a ≡ true
is_write h a w e = and_true a.what.write (eqb a.hart h) w (eq-eqb a.hart h e)

pub rank_up : (h : ℕ) (xs : List Operation) (p q : ℕ) → p ≤ q → rank h xs p ≤ rank h xs q
rank_up h [] p q l = omega arith
rank_up h (a ∷ rest) zero q l = omega arith
rank_up h (a ∷ rest) (suc p) zero l = absurd (omega arith)
rank_up h (a ∷ rest) (suc p) (suc q) l = let i : rank h rest p ≤ rank h rest q = rank_up h rest p q (omega arith) in omega arith

pub rank_lt : (h : ℕ) (xs : List Operation) (p q : ℕ) (a : Operation) → get_elem? xs p ≡ some a → is_write_of h a ≡ true → p < q → rank h xs p < rank h xs q
rank_lt h [] p q a e w l = absurd (some-ne-none a (sym e))
rank_lt h (x ∷ rest) zero zero a e w l = absurd (omega arith)
rank_lt h (x ∷ rest) zero (suc q) a e w l =
    let is : is_write_of h x ≡ true = ap (is_write_of h) (some-injective x a e) ∙ w in
    let P : Bool → Type 0 = λ b. 0 < (if b then 1 else 0) + rank h rest q in
    subst P (sym is) (omega arith)
rank_lt h (x ∷ rest) (suc p) zero a e w l = absurd (omega arith)
rank_lt h (x ∷ rest) (suc p) (suc q) a e w l = let i : rank h rest p < rank h rest q = rank_lt h rest p q a e w (omega arith) in omega arith

cond_same : (b d t : Bool) (x v : ℕ) → (t ≡ true → b ≡ d) → (if b && t then x else v) ≡ (if d && t then x else v)
cond_same b d true x v h = ap (λ (z : Bool). if z && true then x else v) (h refl)
cond_same true true false x v h = refl
cond_same true false false x v h = refl
cond_same false true false x v h = refl
cond_same false false false x v h = refl

and_left : (a b : Bool) → (a && b) ≡ true → a ≡ true
and_left true b e = refl
and_left false b e = e

and_right : (a b : Bool) → (a && b) ≡ true → b ≡ true
and_right true b e = e
and_right false b e = cc

pub eqb_is : (a b : ℕ) → eqb a b ≡ true → a ≡ b
eqb_is a b e = grind (arith, nat_tests)

-- two choices that agree on the writes of a word leave the same in it
pub left_same : (f g : ℕ → Operation → Bool) (k : ℕ) (xs : List Operation) (w l v : ℕ)
    → ((i j : ℕ) (a : Operation) → get_elem? xs i ≡ some a → j ≡ k + i → a.what.write ≡ true → a.what.word ≡ w → covers a.what.lanes l ≡ true → f j a ≡ g j a)
    → left_in f k xs w l v ≡ left_in g k xs w l v
left_same f g k [] w l v h = refl
left_same f g k (x ∷ rest) w l v h =
    let t : Bool = x.what.write && (eqb x.what.word w && covers x.what.lanes l) in
    let head = cond_same (f k x) (g k x) t (lane l x.what.value) v (λ e. h 0 k x refl (omega arith) (and_left x.what.write (eqb x.what.word w && covers x.what.lanes l) e) (eqb_is x.what.word w (and_left (eqb x.what.word w) (covers x.what.lanes l) (and_right x.what.write (eqb x.what.word w && covers x.what.lanes l) e))) (and_right (eqb x.what.word w) (covers x.what.lanes l) (and_right x.what.write (eqb x.what.word w && covers x.what.lanes l) e))) in
    ap (left_in f (suc k) rest w l) head ∙ left_same f g (suc k) rest w l (if g k x && t then lane l x.what.value else v) (λ i j a at e. h (suc i) j a at (omega arith))

pub left_none : (f : ℕ → Operation → Bool) (k : ℕ) (xs : List Operation) (w l v : ℕ)
    → ((i j : ℕ) (a : Operation) → get_elem? xs i ≡ some a → j ≡ k + i → a.what.write ≡ true → a.what.word ≡ w → covers a.what.lanes l ≡ true → f j a ≡ false)
    → left_in f k xs w l v ≡ v
left_none f k [] w l v h = refl
left_none f k (x ∷ rest) w l v h =
    let t : Bool = x.what.write && (eqb x.what.word w && covers x.what.lanes l) in
    let head = cond_same (f k x) false t (lane l x.what.value) v (λ e. h 0 k x refl (omega arith) (and_left x.what.write (eqb x.what.word w && covers x.what.lanes l) e) (eqb_is x.what.word w (and_left (eqb x.what.word w) (covers x.what.lanes l) (and_right x.what.write (eqb x.what.word w && covers x.what.lanes l) e))) (and_right (eqb x.what.word w) (covers x.what.lanes l) (and_right x.what.write (eqb x.what.word w && covers x.what.lanes l) e))) in
    ap (left_in f (suc k) rest w l) head ∙ left_none f (suc k) rest w l v (λ i j a at e. h (suc i) j a at (omega arith))

-- the last chosen write of a word is what it holds
pub left_last : (f : ℕ → Operation → Bool) (k p : ℕ) (xs : List Operation) (w l v : ℕ) (a : Operation) → get_elem? xs p ≡ some a → a.what.write ≡ true → a.what.word ≡ w → covers a.what.lanes l ≡ true
    → ((j : ℕ) → j ≡ k + p → f j a ≡ true)
    → ((i j : ℕ) (b : Operation) → p < i → get_elem? xs i ≡ some b → j ≡ k + i → b.what.write ≡ true → b.what.word ≡ w → covers b.what.lanes l ≡ true → f j b ≡ false)
    → left_in f k xs w l v ≡ lane l a.what.value
left_last f k p [] w l v a e is on cov here later = absurd (some-ne-none a (sym e))
left_last f k zero (x ∷ rest) w l v a e is on cov here later =
    let same : x ≡ a = some-injective x a e in
    let chosen : f k x ≡ true = ap (f k) same ∙ here k (omega arith) in
    let t : (x.what.write && (eqb x.what.word w && covers x.what.lanes l)) ≡ true = and_true x.what.write (eqb x.what.word w && covers x.what.lanes l) (ap (λ (z : Operation). z.what.write) same ∙ is) (and_true (eqb x.what.word w) (covers x.what.lanes l) (eq-eqb x.what.word w (ap (λ (z : Operation). z.what.word) same ∙ on)) (ap (λ (z : Operation). covers z.what.lanes l) same ∙ cov)) in
    let head : (if f k x && (x.what.write && (eqb x.what.word w && covers x.what.lanes l)) then lane l x.what.value else v) ≡ lane l x.what.value = ap (λ (b : Bool). if b then lane l x.what.value else v) (and_true (f k x) (x.what.write && (eqb x.what.word w && covers x.what.lanes l)) chosen t) in
    ap (left_in f (suc k) rest w l) head ∙ (left_none f (suc k) rest w l (lane l x.what.value) (λ i j b at e'. later (suc i) j b (omega arith) at (omega arith)) ∙ ap (λ (z : Operation). lane l z.what.value) same)
left_last f k (suc p) (x ∷ rest) w l v a e is on cov here later =
    left_last f (suc k) p rest w l (if f k x && (x.what.write && (eqb x.what.word w && covers x.what.lanes l)) then lane l x.what.value else v) a e is on cov (λ j s. here j (omega arith)) (λ i j b lt at s. later (suc i) j b (omega arith) at (omega arith))
