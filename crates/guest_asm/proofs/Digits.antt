-- A number from its digits, one by one.
use Rattle.std.proofs.Common.{◌≡◌, ℕ, ◌+◌, ◌*◌, ◌^◌, ◌<◌, ◌≤◌, Bool, true, false, cond, ◌&&◌, not, eqb, ltb, List, [], ◌∷◌, length, get_or, drop, fold, subst, Option, Some, None, refl, ap, ◌∙◌, sym, arith, lit<}
use Rattle.std.specs.List.{list_all}
use Rattle.std.proofs.lemmas.List.{at_drop_more, at_drop_all}
use Rattle.std.proofs.Math.Nat.{mul-le-mul_left}
use Rattle.std.proofs.lemmas.Bool.{cond-true, cond-false, lt-ltb, le-ltb, ltb-true, ltb-false, and_right}
use Rattle.guest_asm.specs.Numbers.{digit_value, is_digit, digits_of}

abbrev step : ℕ → ℕ → ℕ → ℕ
step base n b = n * base + digit_value b

-- the number that digits make after a value
abbrev pub run : ℕ → ℕ → List ℕ → Option ℕ
run base value [] = Some value
run base value (b ∷ bs) = cond (ltb (digit_value b) base && ltb (value * base + digit_value b) (2 ^ 32)) (run base (value * base + digit_value b) bs) None

abbrev whole : ℕ → ℕ → List ℕ → Option ℕ
whole base value text = cond (list_all (is_digit base) text && ltb (fold (step base) value text) (2 ^ 32)) (Some (fold (step base) value text)) None

grows : (f : ℕ → ℕ → ℕ) → ((n b : ℕ) → n ≤ f n b) → (bs : List ℕ) (n : ℕ) → n ≤ fold f n bs
grows f up [] n = omega arith
grows f up (b ∷ bs) n = omega (arith, up n b, grows f up bs (f n b))

up_by : (base n d : ℕ) → 1 ≤ base → n ≤ n * base + d
up_by base n d some = omega (arith, mul-le-mul_left n some)

merged : (d n a f : Bool) (r x : Option ℕ) → (n ≡ true → r ≡ cond (a && f) x None) → (n ≡ false → f ≡ false) → cond (d && n) r None ≡ cond ((d && a) && f) x None
merged false n a f r x h k = refl
merged true true a f r x h k = h refl
merged true false a f r x h k = sym (cond-false (a && f) x None (and_right a f (k refl)))

above : (a b c : ℕ) → a ≤ b → b ≤ c → a ≤ c
above a b c h k = omega arith

run-is : (base : ℕ) → 1 ≤ base → (text : List ℕ) (value : ℕ) → value < 2 ^ 32 → run base value text ≡ whole base value text
run-is base some [] value fits = sym (cond-true (ltb value (2 ^ 32)) (Some value) None (lt-ltb value (2 ^ 32) fits))
run-is base some (b ∷ bs) value fits =
    merged (ltb (digit_value b) base) (ltb (step base value b) (2 ^ 32)) (list_all (is_digit base) bs) (ltb (fold (step base) (step base value b) bs) (2 ^ 32))
    (run base (step base value b) bs) (Some (fold (step base) (step base value b) bs))
    (λ e. run-is base some bs (step base value b) (ltb-true _ _ e))
    (λ e. le-ltb _ _ (above _ _ _ (ltb-false _ _ e) (grows (step base) (λ n c. up_by base n (digit_value c) some) bs (step base value b))))

pub digits-run : (base : ℕ) (text : List ℕ) → 1 ≤ base → eqb (length text) 0 ≡ false → digits_of base text ≡ run base 0 text
unfolding digits_of
digits-run base text some full =
    ap (λ (t : Bool). cond ((not t && list_all (is_digit base) text) && ltb (fold (step base) 0 text) (2 ^ 32)) (Some (fold (step base) 0 text)) None) full
    ∙ sym (run-is base some text 0 (lit< tt))

pub digits-none : (base : ℕ) (text : List ℕ) → eqb (length text) 0 ≡ true → digits_of base text ≡ None
unfolding digits_of
digits-none base text empty =
    ap (λ (t : Bool). cond ((not t && list_all (is_digit base) text) && ltb (fold (step base) 0 text) (2 ^ 32)) (Some (fold (step base) 0 text)) None) empty

-- where the next digit makes the number too large
pub run-over : (base value : ℕ) (text : List ℕ) (i digit factor added : ℕ) → i < length text → digit ≡ digit_value (get_or text i 0) → factor ≡ base → added ≡ digit
    → 4294967295 < value * factor + added → run base value (drop i text) ≡ None
run-over base value text i digit factor added inside is same again over =
    let more : 4294967295 < value * base + added = subst (λ (x : ℕ). 4294967295 < value * x + added) same over in
    let high : 2 ^ 32 ≤ value * base + digit_value (get_or text i 0) = omega (arith, again ∙ is) in
    at_drop_more (run base value) text i 0 inside
    ∙ cond-false _ (run base (value * base + digit_value (get_or text i 0)) (drop (i + 1) text)) None (and_right _ _ (le-ltb _ _ high))

pub run-end : (base value : ℕ) (text : List ℕ) (i : ℕ) → length text ≤ i → run base value (drop i text) ≡ Some value
run-end base value text i end = at_drop_all (run base value) text i end
