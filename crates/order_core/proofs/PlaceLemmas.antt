-- Places in the stream of a hart, its writes before them, and the executed order.
use Rattle.std.proofs.Common.{◌≡◌, ℕ, ◌+◌, ◌<◌, ◌≤◌, Bool, true, false, ◌⊎◌, List, [], ◌∷◌, refl, sym, ap, ◌∙◌, subst, inl, inr, ⊎_elim, arith, lt_of_not-le}
use Rattle.std.specs.List.{count_by}
use mathlib.Core.Option.{some-injective}
use mathlib.Core.Logic.{dite}
use native.Mathlib.Decide.{ℕ_discrete, dec_le}
use Rattle.order_core.specs.declared.course.Course.{Course}
use Rattle.order_core.specs.declared.course.Operation.{Operation}
use Rattle.order_core.specs.Course.{At, rank, is_write_of}
use Rattle.order_core.specs.Counts.{is_before, writes_before}
use Rattle.order_core.specs.Lawful.{InOrder}
use Rattle.order_core.specs.inner.Places.{place, operation_place}
use Rattle.order_core.proofs.Counts.{bit, count_cons, before_true, before_false, rank_by_name, next_write}

-- a test that passes where another does counts no less
count_less : (f g : Operation → Bool) (xs : List Operation) → ((a : Operation) → bit (f a) ≤ bit (g a)) → count_by f xs ≤ count_by g xs
count_less f g [] h = omega arith
count_less f g (x ∷ xs) h = let c = count_cons f x xs in let d = count_cons g x xs in let a : bit (f x) ≤ bit (g x) = h x in let b : count_by f xs ≤ count_by g xs = count_less f g xs h in omega arith

bit_true : (b : Bool) → bit b ≤ 1
bit_true true = omega arith
bit_true false = omega arith

abbrev Below : ℕ → ℕ → Operation → Type 0
Below n i a = (a.number < n) ⊎ ((a.number ≡ n) × (a.op < i))

below_or_not : (n i : ℕ) (a : Operation) → Below n i a ⊎ (Below n i a → ⊥)
below_or_not n i a = dite (dec_le n a.number)
    (λ l. dite (ℕ_discrete a.number n)
    (λ e. dite (dec_le i a.op)
    (λ o. inr (⊎_elim (λ (t : a.number < n). omega arith) (λ (t : (a.number ≡ n) × (a.op < i)). let u : a.op < i = t.1 in omega arith)))
    (λ o. inl (inr (e, lt_of_not-le o))))
    (λ ne. inr (⊎_elim (λ (t : a.number < n). omega arith) (λ (t : (a.number ≡ n) × (a.op < i)). ne t.0))))
    (λ l. inl (inl (lt_of_not-le l)))

-- no more writes are before an earlier place
pub before_up : (c : Course) (h n i m j : ℕ) → i ≤ 4294967295 → j ≤ 4294967295 → place n i ≤ place m j → writes_before c h n i ≤ writes_before c h m j
before_up c h n i m j small short le = count_less (is_before h n i) (is_before h m j) c.operations (λ a. ⊎_elim
    (λ (t : Below n i a). let x : bit (is_before h n i a) ≡ bit (is_write_of h a) = ap bit (before_true h n i a t) in
    let y : bit (is_before h m j a) ≡ bit (is_write_of h a) = ap bit (before_true h m j a (moved a t)) in omega arith)
    (λ (t : Below n i a → ⊥). let x : bit (is_before h n i a) ≡ 0 = ap bit (before_false h n i a t) in omega arith)
    (below_or_not n i a))
  where
    moved : (a : Operation) → Below n i a → Below m j a
    moved a (inl t) = dite (ℕ_discrete n m) (λ e. inl (omega arith)) (λ ne. inl (let o : n ≡ m → ⊥ = ne in omega arith))
    moved a (inr t) = let s : a.number ≡ n = t.0 in let u : a.op < i = t.1 in dite (ℕ_discrete n m) (λ e. inr (s ∙ e, omega arith)) (λ ne. inl (let o : n ≡ m → ⊥ = ne in omega arith))

-- a place has one name
pub one_name : (n i m j : ℕ) → i ≤ 4294967295 → j ≤ 4294967295 → place n i ≡ place m j → (n ≡ m) × (i ≡ j)
one_name n i m j small short e = let s : n ≡ m = omega arith in (s, omega arith)

module _ (c : Course) (names : InOrder c) (short : (p : ℕ) (a : Operation) → At c p a → a.op < 4294967295) where
  -- of two operations of a hart the one with the earlier place comes first
  pub in_place : (p q : ℕ) (a b : Operation) → At c p a → At c q b → a.hart ≡ b.hart → p < q → operation_place a < operation_place b
  in_place p q a b x y same l =
      let s : a.op < 4294967295 = short p a x in
      ⊎_elim (λ (t : a.number < b.number). omega arith) (λ (t : (a.number ≡ b.number) × (a.op < b.op)). let u : a.number ≡ b.number = t.0 in let v : a.op < b.op = t.1 in omega arith) (names.order p q a b x y l same)

  pub by_place : (p q : ℕ) (a b : Operation) → At c p a → At c q b → a.hart ≡ b.hart → operation_place a < operation_place b → p < q
  by_place p q a b x y same l = dite (ℕ_discrete p q)
      (λ e. let one : a ≡ b = some-injective a b (sym x ∙ subst (λ (z : ℕ). At c z b) (sym e) y) in
      let f : operation_place a ≡ operation_place b = ap (λ (z : Operation). operation_place z) one in absurd (omega arith))
      (λ ne. let o : p ≡ q → ⊥ = ne in dite (dec_le p q) (λ le. omega arith)
      (λ n. let s : q < p = lt_of_not-le n in let back : operation_place b < operation_place a = in_place q p b a y x (sym same) s in absurd (omega arith)))

  -- where a count is that of the writes before a place, the writes that it counts are those before the place
  pub counted : (h n i w q : ℕ) (b : Operation) → i ≤ 4294967295 → w ≡ writes_before c h n i → At c q b → b.hart ≡ h → b.what.write ≡ true → (rank h c.operations q < w → operation_place b < place n i) × (operation_place b < place n i → rank h c.operations q < w)
  counted h n i w q b small e at own wr =
      let s : b.op < 4294967295 = short q b at in
      let r : rank h c.operations q ≡ writes_before c h b.number b.op = rank_by_name c names short h b.number b.op q b at (own, refl, refl) in
      let more : writes_before c h b.number (b.op + 1) ≡ writes_before c h b.number b.op + 1 = next_write c names short h b.number b.op q b at (own, refl, refl) wr in (
        (λ l. dite (dec_le (place n i) (operation_place b))
            (λ le. let up : writes_before c h n i ≤ writes_before c h b.number b.op = before_up c h n i b.number b.op small (omega arith) le in absurd (omega arith))
            lt_of_not-le),
        (λ l. let up : writes_before c h b.number (b.op + 1) ≤ writes_before c h n i = before_up c h b.number (b.op + 1) n i (omega arith) small (omega arith) in omega arith),
      )
