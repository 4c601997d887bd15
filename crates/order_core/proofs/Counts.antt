-- The writes of a hart before one of its operations, counted by names and by places.
use Rattle.std.proofs.Common.{◌≡◌, ◌≢◌, ℕ, zero, suc, ◌+◌, ◌<◌, ◌≤◌, Bool, true, false, ◌&&◌, ◌||◌, ltb, eqb, ◌⊎◌, List, [], ◌∷◌, refl, sym, ap, ◌∙◌, subst, inl, inr, ⊎_elim, arith, lt_of_not-le, if◌then◌else◌}
use Rattle.std.specs.List.{count_by}
use Rattle.std.proofs.lemmas.List.Sums.{sum_by-cons}
use Rattle.std.proofs.lemmas.Bool.Decides.{nat_tests}
use mathlib.Core.Option.{some, some-injective, some-ne-none}
use mathlib.Core.Logic.{dite}
use native.Mathlib.Decide.{ℕ_discrete, dec_le}
use lib.ListN.{get_elem?}
use Rattle.order_core.specs.declared.course.Operation.{Operation}
use Rattle.order_core.specs.declared.course.Course.{Course}
use Rattle.order_core.specs.Course.{At, rank, is_write_of}
use Rattle.order_core.specs.Counts.{is_before}
use Rattle.order_core.specs.Lawful.{IsName, InOrder}
use Rattle.order_core.proofs.Ranks.{is_write}

abbrev pub bit : Bool → ℕ
bit b = if b then 1 else 0

-- one element more, that counts or not
pub count_cons : (f : Operation → Bool) (x : Operation) (xs : List Operation) → count_by f (x ∷ xs) ≡ bit (f x) + count_by f xs
count_cons f x xs = sum_by-cons (λ (a : Operation). if f a then 1 else 0) x xs

-- two tests that agree on a list count the same
pub count_same : (f g : Operation → Bool) (xs : List Operation) → ((p : ℕ) (a : Operation) → get_elem? xs p ≡ some a → f a ≡ g a) → count_by f xs ≡ count_by g xs
count_same f g [] h = refl
count_same f g (x ∷ xs) h = let c = count_cons f x xs in let d = count_cons g x xs in let e : bit (f x) ≡ bit (g x) = ap bit (h 0 x refl) in let t : count_by f xs ≡ count_by g xs = count_same f g xs (λ p a at. h (suc p) a at) in omega arith

-- a test that passes one element more counts one more
pub count_more : (f g : Operation → Bool) (xs : List Operation) (p : ℕ) (a : Operation) → get_elem? xs p ≡ some a → f a ≡ false → g a ≡ true
    → ((q : ℕ) (b : Operation) → get_elem? xs q ≡ some b → q ≢ p → f b ≡ g b) → count_by g xs ≡ count_by f xs + 1
count_more f g [] p a e miss hit h = absurd (some-ne-none a (sym e))
count_more f g (x ∷ xs) zero a e miss hit h =
    let c = count_cons f x xs in
    let d = count_cons g x xs in
    let s : x ≡ a = some-injective x a e in
    let u : bit (f x) ≡ 0 = ap bit (ap f s ∙ miss) in
    let v : bit (g x) ≡ 1 = ap bit (ap g s ∙ hit) in
    let t : count_by f xs ≡ count_by g xs = count_same f g xs (λ q b at. h (suc q) b at (λ z. omega arith)) in omega arith
count_more f g (x ∷ xs) (suc p) a e miss hit h =
    let c = count_cons f x xs in
    let d = count_cons g x xs in
    let u : bit (f x) ≡ bit (g x) = ap bit (h 0 x refl (λ z. omega arith)) in
    let t : count_by g xs ≡ count_by f xs + 1 = count_more f g xs p a e miss hit (λ q b at n. h (suc q) b at (λ z. n (let y : suc q ≡ suc p = z in omega arith))) in omega arith

-- a rank counts the elements before a place that a test passes
pub rank_counts : (h : ℕ) (f : Operation → Bool) (xs : List Operation) (p : ℕ)
    → ((q : ℕ) (b : Operation) → get_elem? xs q ≡ some b → (q < p → f b ≡ is_write_of h b) × (p ≤ q → f b ≡ false)) → rank h xs p ≡ count_by f xs
rank_counts h f [] p t = refl
rank_counts h f (x ∷ xs) zero t =
    let c = count_cons f x xs in
    let u : bit (f x) ≡ 0 = ap bit ((t 0 x refl).1 (omega arith)) in
    let z : rank h xs zero ≡ count_by f xs = rank_counts h f xs zero (λ q b at. ((λ l. absurd (omega arith)), λ l. (t (suc q) b at).1 (omega arith))) in
    let y : rank h xs zero ≡ 0 = none h xs in omega arith
  where
    none : (h : ℕ) (xs : List Operation) → rank h xs zero ≡ 0
    none h [] = refl
    none h (x ∷ xs) = refl
rank_counts h f (x ∷ xs) (suc p) t =
    let c = count_cons f x xs in
    let u : bit (f x) ≡ bit (is_write_of h x) = ap bit ((t 0 x refl).0 (omega arith)) in
    let z : rank h xs p ≡ count_by f xs = rank_counts h f xs p (λ q b at. ((λ l. (t (suc q) b at).0 (omega arith)), λ l. (t (suc q) b at).1 (omega arith))) in omega arith

pub before_true : (h n i : ℕ) (a : Operation) → (a.number < n) ⊎ ((a.number ≡ n) × (a.op < i)) → is_before h n i a ≡ is_write_of h a
before_true h n i a o = and_one (is_write_of h a) (ltb a.number n || (eqb a.number n && ltb a.op i)) (test o)
  where
    and_one : (b t : Bool) → t ≡ true → (b && t) ≡ b
    and_one true t e = e
    and_one false t e = refl

    test : (a.number < n) ⊎ ((a.number ≡ n) × (a.op < i)) → (ltb a.number n || (eqb a.number n && ltb a.op i)) ≡ true
    test o = grind (arith, nat_tests)

pub before_false : (h n i : ℕ) (a : Operation) → ((a.number < n) ⊎ ((a.number ≡ n) × (a.op < i)) → ⊥) → is_before h n i a ≡ false
before_false h n i a o = and_none (is_write_of h a) (ltb a.number n || (eqb a.number n && ltb a.op i)) (test o)
  where
    and_none : (b t : Bool) → t ≡ false → (b && t) ≡ false
    and_none true t e = e
    and_none false t e = refl

    test : ((a.number < n) ⊎ ((a.number ≡ n) × (a.op < i)) → ⊥) → (ltb a.number n || (eqb a.number n && ltb a.op i)) ≡ false
    test o = grind (arith, nat_tests)

module _ (c : Course) (names : InOrder c) (short : (p : ℕ) (a : Operation) → At c p a → a.op < 4294967295) where
  -- the rank of an operation is the number of its hart's writes before its name
  pub rank_by_name : (h n i p : ℕ) (a : Operation) → At c p a → IsName h n i a → rank h c.operations p ≡ count_by (is_before h n i) c.operations
  rank_by_name h n i p a at name = rank_counts h (is_before h n i) c.operations p (λ q b x. (early q b x, late q b x))
    where
      other : (b : Operation) → b.hart ≢ h → is_write_of h b ≡ false
      other b n = and_no b.what.write (eqb b.hart h) (grind (arith, nat_tests))
        where
          and_no : (b t : Bool) → t ≡ false → (b && t) ≡ false
          and_no true t e = e
          and_no false t e = refl

      no_write : (b : Operation) → is_write_of h b ≡ false → is_before h n i b ≡ false
      no_write b e = ap (λ (z : Bool). z && (ltb b.number n || (eqb b.number n && ltb b.op i))) e

      early : (q : ℕ) (b : Operation) → At c q b → q < p → is_before h n i b ≡ is_write_of h b
      early q b x l = dite (ℕ_discrete b.hart h)
          (λ own. before_true h n i b (⊎_elim (λ (t : b.number < a.number). inl (let e : a.number ≡ n = name.1 in omega arith))
          (λ (t : (b.number ≡ a.number) × (b.op < a.op)). inr (t.0 ∙ name.1, let e : a.op ≡ i = name.2 in let u : b.op < a.op = t.1 in omega arith)) (names.order q p b a x at l (own ∙ sym name.0))))
          (λ ne. no_write b (other b ne) ∙ sym (other b ne))

      late : (q : ℕ) (b : Operation) → At c q b → p ≤ q → is_before h n i b ≡ false
      late q b x l = dite (ℕ_discrete b.hart h)
          (λ own. before_false h n i b (λ o. dite (ℕ_discrete p q)
          (λ e. let same : a ≡ b = some-injective a b (sym (subst (λ (z : ℕ). At c z a) e at) ∙ x) in
          let f : b.number ≡ n = ap (λ (z : Operation). z.number) (sym same) ∙ name.1 in let g : b.op ≡ i = ap (λ (z : Operation). z.op) (sym same) ∙ name.2 in
          ⊎_elim (λ (t : b.number < n). omega arith) (λ (t : (b.number ≡ n) × (b.op < i)). let u : b.op < i = t.1 in omega arith) o)
          (λ ne. let f : a.number ≡ n = name.1 in let g : a.op ≡ i = name.2 in
          ⊎_elim (λ (t : a.number < b.number). ⊎_elim (λ (u : b.number < n). omega arith) (λ (u : (b.number ≡ n) × (b.op < i)). let v : b.number ≡ n = u.0 in omega arith) o)
          (λ (t : (a.number ≡ b.number) × (a.op < b.op)). let s : a.number ≡ b.number = t.0 in let r : a.op < b.op = t.1 in
          ⊎_elim (λ (u : b.number < n). omega arith) (λ (u : (b.number ≡ n) × (b.op < i)). let v : b.op < i = u.1 in omega arith) o)
          (names.order p q a b at x (omega arith) (name.0 ∙ sym own)))))
          (λ ne. no_write b (other b ne))

  -- two places with one name are one
  pub once : (p q : ℕ) (a b : Operation) → At c p a → At c q b → a.hart ≡ b.hart → a.number ≡ b.number → a.op ≡ b.op → p ≡ q
  once p q a b x y h n i = dite (ℕ_discrete p q) (λ e. e) (λ ne. absurd (dite (dec_le p q)
      (λ l. ⊎_elim (λ (t : a.number < b.number). omega arith) (λ (t : (a.number ≡ b.number) × (a.op < b.op)). let u : a.op < b.op = t.1 in omega arith) (names.order p q a b x y (omega arith) h))
      (λ l. ⊎_elim (λ (t : b.number < a.number). omega arith) (λ (t : (b.number ≡ a.number) × (b.op < a.op)). let u : b.op < a.op = t.1 in omega arith) (names.order q p b a y x (lt_of_not-le l) (sym h)))))

  -- at another operation the two tests agree
  agree_else : (h n i p q : ℕ) (a b : Operation) → At c p a → IsName h n i a → At c q b → q ≢ p → is_before h n i b ≡ is_before h n (i + 1) b
  agree_else h n i p q a b x name y ne = dite (ℕ_discrete b.hart h)
      (λ own. dite (ℕ_discrete b.number n)
      (λ here. dite (dec_le (i + 1) b.op)
      (λ l. before_false h n i b (λ o. ⊎_elim (λ (t : b.number < n). omega arith) (λ (t : (b.number ≡ n) × (b.op < i)). let u : b.op < i = t.1 in omega arith) o)
      ∙ sym (before_false h n (i + 1) b (λ o. ⊎_elim (λ (t : b.number < n). omega arith) (λ (t : (b.number ≡ n) × (b.op < i + 1)). let u : b.op < i + 1 = t.1 in omega arith) o)))
      (λ l. let u : b.op < i + 1 = lt_of_not-le l in dite (ℕ_discrete b.op i)
      (λ s. absurd (ne (once q p b a y x (own ∙ sym name.0) (here ∙ sym name.1) (s ∙ sym name.2))))
      (λ s. before_true h n i b (inr (here, omega arith)) ∙ sym (before_true h n (i + 1) b (inr (here, u))))))
      (λ apart. dite (dec_le b.number n)
      (λ l. before_true h n i b (inl (omega arith)) ∙ sym (before_true h n (i + 1) b (inl (omega arith))))
      (λ l. let u : n < b.number = lt_of_not-le l in before_false h n i b (λ o. ⊎_elim (λ (t : b.number < n). omega arith) (λ (t : (b.number ≡ n) × (b.op < i)). apart t.0) o)
      ∙ sym (before_false h n (i + 1) b (λ o. ⊎_elim (λ (t : b.number < n). omega arith) (λ (t : (b.number ≡ n) × (b.op < i + 1)). apart t.0) o)))))
      (λ far. let e : is_write_of h b ≡ false = stranger h b far in ap (λ (z : Bool). z && (ltb b.number n || (eqb b.number n && ltb b.op i))) e ∙ sym (ap (λ (z : Bool). z && (ltb b.number n || (eqb b.number n && ltb b.op (i + 1)))) e))
    where
      and_no : (b t : Bool) → t ≡ false → (b && t) ≡ false
      and_no true t e = e
      and_no false t e = refl

      stranger : (h : ℕ) (b : Operation) → b.hart ≢ h → is_write_of h b ≡ false
      stranger h b n = and_no b.what.write (eqb b.hart h) (grind (arith, nat_tests))

  pub next_write : (h n i p : ℕ) (a : Operation) → At c p a → IsName h n i a → a.what.write ≡ true → count_by (is_before h n (i + 1)) c.operations ≡ count_by (is_before h n i) c.operations + 1
  next_write h n i p a x name w = count_more (is_before h n i) (is_before h n (i + 1)) c.operations p a x
      (before_false h n i a (λ o. let s : a.number ≡ n = name.1 in let t : a.op ≡ i = name.2 in ⊎_elim (λ (z : a.number < n). omega arith) (λ (z : (a.number ≡ n) × (a.op < i)). let u : a.op < i = z.1 in omega arith) o))
      (before_true h n (i + 1) a (inr (name.1, let t : a.op ≡ i = name.2 in omega arith)) ∙ is_write h a w name.0)
      (λ q b y ne. agree_else h n i p q a b x name y ne)

  pub next_read : (h n i p : ℕ) (a : Operation) → At c p a → IsName h n i a → a.what.write ≡ false → count_by (is_before h n (i + 1)) c.operations ≡ count_by (is_before h n i) c.operations
  next_read h n i p a x name r = count_same (is_before h n (i + 1)) (is_before h n i) c.operations (λ q b y. dite (ℕ_discrete q p)
      (λ e. let same : b ≡ a = some-injective b a (sym (subst (λ (z : ℕ). At c z b) e y) ∙ x) in
      let f : is_write_of h b ≡ false = ap (is_write_of h) same ∙ ap (λ (z : Bool). z && eqb a.hart h) r in
      ap (λ (z : Bool). z && (ltb b.number n || (eqb b.number n && ltb b.op (i + 1)))) f ∙ sym (ap (λ (z : Bool). z && (ltb b.number n || (eqb b.number n && ltb b.op i))) f))
      (λ ne. sym (agree_else h n i p q a b x name y ne)))

  -- past the last operation of a record nothing more is counted
  pub no_more : (h n i m : ℕ) → i ≤ m → ((p : ℕ) (a : Operation) → At c p a → IsName h n i a → ⊥) → count_by (is_before h n m) c.operations ≡ count_by (is_before h n i) c.operations
  no_more h n i m le none = count_same (is_before h n m) (is_before h n i) c.operations (λ q b y. dite (ℕ_discrete b.hart h)
      (λ own. dite (ℕ_discrete b.number n)
      (λ here. dite (dec_le i b.op)
      (λ l. absurd (dite (ℕ_discrete b.op i) (λ e. none q b y (own, here, e)) (λ ne. let t = names.dense q b i y (omega arith) in none t.0 t.1 t.2 (t.3.0 ∙ own, t.3.1 ∙ here, t.3.2))))
      (λ l. before_true h n m b (inr (here, let u : b.op < i = lt_of_not-le l in omega arith)) ∙ sym (before_true h n i b (inr (here, lt_of_not-le l)))))
      (λ apart. dite (dec_le b.number n)
      (λ l. before_true h n m b (inl (omega arith)) ∙ sym (before_true h n i b (inl (omega arith))))
      (λ l. let u : n < b.number = lt_of_not-le l in before_false h n m b (λ o. ⊎_elim (λ (t : b.number < n). omega arith) (λ (t : (b.number ≡ n) × (b.op < m)). apart t.0) o)
      ∙ sym (before_false h n i b (λ o. ⊎_elim (λ (t : b.number < n). omega arith) (λ (t : (b.number ≡ n) × (b.op < i)). apart t.0) o)))))
      (λ far. let e : is_write_of h b ≡ false = stranger h b far in ap (λ (z : Bool). z && (ltb b.number n || (eqb b.number n && ltb b.op m))) e ∙ sym (ap (λ (z : Bool). z && (ltb b.number n || (eqb b.number n && ltb b.op i))) e)))
    where
      and_no : (b t : Bool) → t ≡ false → (b && t) ≡ false
      and_no true t e = e
      and_no false t e = refl

      stranger : (h : ℕ) (b : Operation) → b.hart ≢ h → is_write_of h b ≡ false
      stranger h b n = and_no b.what.write (eqb b.hart h) (grind (arith, nat_tests))

  -- all operations of a record are before the next record
  pub next_record : (h n : ℕ) → count_by (is_before h n 4294967295) c.operations ≡ count_by (is_before h (n + 1) 0) c.operations
  next_record h n = count_same (is_before h n 4294967295) (is_before h (n + 1) 0) c.operations (λ q b y. dite (dec_le b.number n)
      (λ l. before_true h n 4294967295 b (low q b y l) ∙ sym (before_true h (n + 1) 0 b (inl (omega arith))))
      (λ l. let u : n < b.number = lt_of_not-le l in before_false h n 4294967295 b (λ o. ⊎_elim (λ (t : b.number < n). omega arith) (λ (t : (b.number ≡ n) × (b.op < 4294967295)). let v : b.number ≡ n = t.0 in omega arith) o)
      ∙ sym (before_false h (n + 1) 0 b (λ o. ⊎_elim (λ (t : b.number < n + 1). omega arith) (λ (t : (b.number ≡ n + 1) × (b.op < 0)). let v : b.op < 0 = t.1 in omega arith) o))))
    where
      low : (q : ℕ) (b : Operation) → At c q b → b.number ≤ n → (b.number < n) ⊎ ((b.number ≡ n) × (b.op < 4294967295))
      low q b y l = dite (ℕ_discrete b.number n) (λ e. inr (e, short q b y)) (λ ne. inl (omega arith))

  count_false : (xs : List Operation) → count_by (λ a. false) xs ≡ 0
  count_false [] = refl
  count_false (x ∷ xs) = let c = count_cons (λ a. false) x xs in let t : count_by (λ a. false) xs ≡ 0 = count_false xs in omega arith

  pub first_record : ((p : ℕ) (a : Operation) → At c p a → 1 ≤ a.number) → (h : ℕ) → count_by (is_before h 1 0) c.operations ≡ 0
  first_record from h = count_same (is_before h 1 0) (λ a. false) c.operations (λ q b y. before_false h 1 0 b (λ o. let u : 1 ≤ b.number = from q b y in
      ⊎_elim (λ (t : b.number < 1). omega arith) (λ (t : (b.number ≡ 1) × (b.op < 0)). let v : b.op < 0 = t.1 in omega arith) o)) ∙ count_false c.operations
