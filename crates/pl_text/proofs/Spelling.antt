-- A word that is read is what is written, and what is written is read.
use Rattle.std.proofs.Common.{◌≡◌, ℕ, zero, suc, ◌+◌, ◌-◌, ◌*◌, ◌/◌, ◌%◌, ◌^◌, ◌<◌, ◌≤◌, Bool, true, false, cond, ltb, leb, eqb, ◌&&◌, List, [], ◌∷◌, ◌++◌, length, Option, Some, None, refl, sym, ap, ◌∙◌, inl, inr, arith}
use Rattle.std.proofs.lemmas.Bool.{ltb-true, lt-ltb, le-ltb, leb-true, le-leb, eqb-false, eq-eqb, ne_eqb, cases_lt, cases_eq}
use Rattle.std.proofs.lemmas.Nat.{div-mul-add, mod-mul-add, div-add-mod', div_below}
use Rattle.std.proofs.Common.{pow-suc}
use Rattle.std.proofs.Math.Nat.{pow-zero, pow-le-pow_left}
use Rattle.std.proofs.lemmas.List.{append-nil}
use Rattle.std.proofs.Math.Nat.{mul-le-mul_left, mul-le-mul_right}
use Rattle.std.proofs.Math.Nat.{pow-le-pow_right}
use Rattle.std.specs.Fmt.{digits_onto, digit_glyph}
use Rattle.pl_text.proofs.Reading.{digit, read_from, number_of}

pub both : (a b : Bool) (x : Option ℕ) (m : ℕ) → cond (a && b) x None ≡ Some m → (a ≡ true) × (b ≡ true) × (x ≡ Some m)
both true true x m e = (refl, refl, e)
both true false x m e = absurd cc
both false b x m e = absurd cc

some_is : (m n : ℕ) → Some m ≡ Some n → m ≡ n
some_is m n e = cc

-- one more digit is read
pub read_step : (base high n c : ℕ) (cs : List ℕ) (m : ℕ) → read_from base high n (c ∷ cs) ≡ Some m → (digit c < base) × (n * base + digit c ≤ high) × (read_from base high (n * base + digit c) cs ≡ Some m)
read_step base high n c cs m e =
    let h = both (ltb (digit c) base) (leb (n * base + digit c) high) (read_from base high (n * base + digit c) cs) m e in
    (ltb-true _ _ h.0, leb-true _ _ h.1, h.2)

pub glyph_digit : (c : ℕ) → digit c < 16 → digit_glyph false (digit c) ≡ c
glyph_digit c =
    elim (cases_lt c 48) as (λ _. digit c < 16 → digit_glyph false (digit c) ≡ c) [
      | inl a ↦ rw (lt-ltb c 48 a) (λ h. absurd (omega arith))
      | inr a ↦ rw (le-ltb c 48 a) (elim (cases_lt c 58) as (λ _. cond (ltb c 58) (c - 48) (cond (ltb c 97) 16 (cond (ltb c 103) (c - 87) 16)) < 16 → digit_glyph false (cond (ltb c 58) (c - 48) (cond (ltb c 97) 16 (cond (ltb c 103) (c - 87) 16))) ≡ c) [
        | inl b ↦ rw (lt-ltb c 58 b) (λ h. rw (lt-ltb (c - 48) 10 (omega arith)) (omega arith))
        | inr b ↦ rw (le-ltb c 58 b) (elim (cases_lt c 97) as (λ _. cond (ltb c 97) 16 (cond (ltb c 103) (c - 87) 16) < 16 → digit_glyph false (cond (ltb c 97) 16 (cond (ltb c 103) (c - 87) 16)) ≡ c) [
          | inl d ↦ rw (lt-ltb c 97 d) (λ h. absurd (omega arith))
          | inr d ↦ rw (le-ltb c 97 d) (elim (cases_lt c 103) as (λ _. cond (ltb c 103) (c - 87) 16 < 16 → digit_glyph false (cond (ltb c 103) (c - 87) 16) ≡ c) [
            | inl f ↦ rw (lt-ltb c 103 f) (λ h. rw (le-ltb (c - 87) 10 (omega arith)) (omega arith))
            | inr f ↦ rw (le-ltb c 103 f) (λ h. absurd (omega arith))
          ])
        ])
      ])
    ]

quotient_pos : (p base d : ℕ) → 0 < p → 2 ≤ base → 0 < p * base + d
quotient_pos p base d pos two =
    let wide : 1 * base ≤ p * base = mul-le-mul_right base pos in
    omega (arith, wide)

-- a number that goes on from p is written as p and the digits after it
goes : (base high : ℕ) → 2 ≤ base → base ≤ 16 → (p n k j : ℕ) (cs acc : List ℕ) → 0 < p → j ≡ k + length cs → read_from base high p cs ≡ Some n → digits_onto j base false n acc ≡ digits_onto k base false p (cs ++ acc)
goes base high two low p n k j [] acc pos len e = ap (λ (i : ℕ). digits_onto i base false n acc) (omega arith) ∙ ap (λ (i : ℕ). digits_onto k base false i acc) (sym (some_is p n e))
goes base high two low p n k j (c ∷ cs) acc pos len e =
    let h = read_step base high p c cs n e in
    let q = p * base + digit c in
    let quotient : q / base ≡ p = div-mul-add p base (digit c) h.0 in
    let rest : q % base ≡ digit c = mod-mul-add p base (digit c) h.0 in
    let some : eqb (q / base) 0 ≡ false = ne_eqb _ _ (λ z. omega (arith, quotient)) in
    goes base high two low q n (suc k) j cs acc (omega (arith, quotient_pos p base (digit c) pos two)) (omega arith) h.2
    ∙ rw (some, quotient, rest, glyph_digit c (omega arith)) refl

within : (base high p n : ℕ) (cs : List ℕ) → p ≤ high → read_from base high p cs ≡ Some n → n ≤ high
within base high p n [] le e = omega (arith, some_is p n e)
within base high p n (c ∷ cs) le e =
    let h = read_step base high p c cs n e in
    within base high (p * base + digit c) n cs h.1 h.2

pow-succ-two : (k : ℕ) → 2 ^ suc k ≡ 2 * 2 ^ k
pow-succ-two k = omega arith

-- each digit doubles the number at least
grows : (base high : ℕ) → 2 ≤ base → (p n : ℕ) (cs : List ℕ) → read_from base high p cs ≡ Some n → p * 2 ^ length cs ≤ n
grows base high two p n [] e = omega (arith, some_is p n e)
grows base high two p n (c ∷ cs) e =
    let h = read_step base high p c cs n e in
    let later : (p * base + digit c) * 2 ^ length cs ≤ n = grows base high two (p * base + digit c) n cs h.2 in
    let wide : p * 2 ≤ p * base = mul-le-mul_left p two in
    let twice : p * 2 * 2 ^ length cs ≤ (p * base + digit c) * 2 ^ length cs = mul-le-mul_right (2 ^ length cs) (omega arith) in
    omega (arith, later, twice, pow-succ-two (length cs), ap (λ (k : ℕ). p * k) (pow-succ-two (length cs)))

short : (base high : ℕ) → 2 ≤ base → high < 2 ^ 32 → (p n : ℕ) (cs : List ℕ) → 0 < p → n ≤ high → read_from base high p cs ≡ Some n → length cs < 32
short base high two small p n cs pos le e =
    elim (cases_lt (length cs) 32) [
      | inl lt ↦ lt
      | inr long ↦
          let big : 2 ^ 32 ≤ 2 ^ length cs = pow-le-pow_right {n = 2} (omega arith) long in
          let more : 1 * 2 ^ length cs ≤ p * 2 ^ length cs = mul-le-mul_right (2 ^ length cs) pos in
          absurd (omega (arith, big, more, grows base high two p n cs e))
    ]

pub not_zero : (c : ℕ) → digit c < 16 → (eqb c 48 ≡ false) → 0 < digit c
not_zero c lt e =
    elim (cases_lt 0 (digit c)) [
      | inl pos ↦ pos
      | inr none ↦
          let none_is : digit c ≡ 0 = omega arith in
          let is : 48 ≡ c = sym (ap (digit_glyph false) none_is) ∙ glyph_digit c lt in
          absurd (eqb-false c 48 e (sym is))
    ]

zero_more : (base d : ℕ) → 0 * base + d ≡ d
zero_more base d = omega arith

pub small_div : (base d : ℕ) → d < base → d / base ≡ 0
small_div base d lt = ap (λ (x : ℕ). x / base) (sym (zero_more base d)) ∙ div-mul-add 0 base d lt

pub small_mod : (base d : ℕ) → d < base → d % base ≡ d
small_mod base d lt = ap (λ (x : ℕ). x % base) (sym (zero_more base d)) ∙ mod-mul-add 0 base d lt

pub first_step : (base high c : ℕ) (cs : List ℕ) (n : ℕ) → read_from base high 0 (c ∷ cs) ≡ Some n → (digit c < base) × (digit c ≤ high) × (read_from base high (digit c) cs ≡ Some n)
first_step base high c cs n e =
    let h = read_step base high 0 c cs n e in
    (h.0, omega (arith, h.1), ap (λ (p : ℕ). read_from base high p cs) (sym (zero_more base (digit c))) ∙ h.2)

pub first_back : (base high c : ℕ) (cs : List ℕ) (n : ℕ) → digit c < base → digit c ≤ high → read_from base high (digit c) cs ≡ Some n → read_from base high 0 (c ∷ cs) ≡ Some n
first_back base high c cs n small few e = rw (zero_more base (digit c), lt-ltb _ _ small, le-leb _ _ few) e

-- one digit
pub one_digit : (k base d : ℕ) → d < base → digits_onto (suc k) base false d [] ≡ digit_glyph false d ∷ []
one_digit k base d lt =
    let quotient : d / base ≡ 0 = small_div base d lt in
    let rest : d % base ≡ d = small_mod base d lt in
    rw (quotient, rest) refl

pub cond_none : (b : Bool) (x : Option ℕ) (n : ℕ) → cond b None x ≡ Some n → (b ≡ false) × (x ≡ Some n)
cond_none true x n e = absurd cc
cond_none false x n e = (refl, e)

-- what is read is spelled so
pub takes : (base high n : ℕ) (word : List ℕ) → 2 ≤ base → base ≤ 16 → high < 2 ^ 32 → number_of base high word ≡ Some n → (word ≡ digits_onto 64 base false n []) × (n ≤ high)
takes base high n [] two low small e = absurd cc
takes base high n (c ∷ []) two low small e =
    let h = first_step base high c [] n e in
    let is : digit c ≡ n = some_is (digit c) n h.2 in
    (sym (ap (λ (m : ℕ). digits_onto 64 base false m []) (sym is) ∙ one_digit 63 base (digit c) h.0 ∙ ap (λ (g : ℕ). g ∷ []) (glyph_digit c (omega arith))), omega (arith, h.1, is))
takes base high n (c ∷ d ∷ cs) two low small e =
    let g = cond_none (eqb c 48) (read_from base high 0 (c ∷ d ∷ cs)) n e in
    let h = first_step base high c (d ∷ cs) n g.1 in
    let pos : 0 < digit c = not_zero c (omega arith) g.0 in
    let le : n ≤ high = within base high (digit c) n (d ∷ cs) h.1 h.2 in
    let few : length (d ∷ cs) < 32 = short base high two small (digit c) n (d ∷ cs) pos le h.2 in
    let rest : digits_onto 64 base false n [] ≡ digits_onto (suc (63 - length (d ∷ cs))) base false (digit c) ((d ∷ cs) ++ []) = goes base high two low (digit c) n (suc (63 - length (d ∷ cs))) 64 (d ∷ cs) [] pos (omega arith) h.2 in
    let quotient : digit c / base ≡ 0 = small_div base (digit c) h.0 in
    let last : digit c % base ≡ digit c = small_mod base (digit c) h.0 in
    let front : digits_onto (suc (63 - length (d ∷ cs))) base false (digit c) ((d ∷ cs) ++ []) ≡ c ∷ (d ∷ cs) ++ [] = rw (quotient, last, glyph_digit c (omega arith)) refl in
    (sym (rest ∙ front ∙ ap (λ (t : List ℕ). c ∷ t) (append-nil (d ∷ cs))), le)

pub digit_glyph_is : (d : ℕ) → d < 16 → digit (digit_glyph false d) ≡ d
digit_glyph_is d lt =
    elim (cases_lt d 10) [
      | inl few ↦ rw (lt-ltb d 10 few, le-ltb (48 + d) 48 (omega arith), lt-ltb (48 + d) 58 (omega arith)) (omega arith)
      | inr many ↦ rw (le-ltb d 10 many, le-ltb (87 + d) 48 (omega arith), le-ltb (87 + d) 58 (omega arith), le-ltb (87 + d) 97 (omega arith), lt-ltb (87 + d) 103 (omega arith)) (omega arith)
    ]

pow_turned : (base k : ℕ) → base ^ suc k ≡ base ^ k * base
pow_turned base k = pow-suc base k

not_none : (base k q : ℕ) → q < base ^ k → (q ≡ 0 → ⊥) → 0 < k
not_none base zero q lt nz = absurd (nz (omega (arith, pow-zero base)))
not_none base (suc k) q lt nz = omega arith

-- what is written is read, after a number's first digits
again : (base high : ℕ) → 2 ≤ base → base ≤ 16 → (k n : ℕ) (acc : List ℕ) → 0 < k → n < base ^ k → n ≤ high → read_from base high 0 (digits_onto k base false n acc) ≡ read_from base high n acc
again base high two low zero n acc pos lt le = absurd (omega arith)
again base high two low (suc k) n acc pos lt le =
    let below : n / base < base ^ k = div_below n base (base ^ k) (omega arith) (omega (arith, lt, pow_turned base k)) in
    let smaller : n / base * 1 ≤ n / base * base = mul-le-mul_left (n / base) (omega arith) in
    let small : n % base < base = omega arith in
    let whole : n / base * base + n % base ≡ n = div-add-mod' n base in
    let next : (p : ℕ) → p * base + n % base ≡ n → read_from base high p (digit_glyph false (n % base) ∷ acc) ≡ read_from base high n acc =
    λ p is. rw (digit_glyph_is (n % base) (omega arith), lt-ltb (n % base) base small, is, le-leb n high le) refl in
    elim (cases_eq (n / base) 0) as (λ _. read_from base high 0 (cond (eqb (n / base) 0) (digit_glyph false (n % base) ∷ acc) (digits_onto k base false (n / base) (digit_glyph false (n % base) ∷ acc))) ≡ read_from base high n acc) [
      | inl z ↦ rw (eq-eqb _ _ z) (next 0 (omega (arith, whole, ap (λ (q : ℕ). q * base) z)))
      | inr nz ↦ rw (ne_eqb _ _ nz) (again base high two low k (n / base) (digit_glyph false (n % base) ∷ acc) (not_none base k (n / base) below nz) below (omega (arith, smaller, whole)) ∙ next (n / base) whole)
    ]

-- a number above 0 begins with no zero
head_is : (base : ℕ) → 2 ≤ base → base ≤ 16 → (k n : ℕ) (acc : List ℕ) → 0 < n → n < base ^ k → (c : ℕ) × (cs : List ℕ) × (digits_onto k base false n acc ≡ c ∷ cs) × (eqb c 48 ≡ false)
head_is base two low zero n acc pos lt = absurd (omega (arith, pow-zero base))
head_is base two low (suc k) n acc pos lt =
    let below : n / base < base ^ k = div_below n base (base ^ k) (omega arith) (omega (arith, lt, pow_turned base k)) in
    let small : n % base < base = omega arith in
    let whole : n / base * base + n % base ≡ n = div-add-mod' n base in
    elim (cases_eq (n / base) 0) as (λ _. (c : ℕ) × (cs : List ℕ) × (cond (eqb (n / base) 0) (digit_glyph false (n % base) ∷ acc) (digits_onto k base false (n / base) (digit_glyph false (n % base) ∷ acc)) ≡ c ∷ cs) × (eqb c 48 ≡ false)) [
      | inl z ↦
          let some : 0 < n % base = omega (arith, whole, ap (λ (q : ℕ). q * base) z) in
          (digit_glyph false (n % base), acc, rw (eq-eqb _ _ z) refl, ne_eqb _ _ (λ e. omega (arith, some, sym (digit_glyph_is (n % base) (omega arith)) ∙ ap digit e)))
      | inr nz ↦ rw (ne_eqb _ _ nz) (head_is base two low k (n / base) (digit_glyph false (n % base) ∷ acc) (omega arith) below)
    ]

number_of_head : (base high c : ℕ) (cs : List ℕ) → eqb c 48 ≡ false → number_of base high (c ∷ cs) ≡ read_from base high 0 (c ∷ cs)
number_of_head base high c [] e = refl
number_of_head base high c (d ∷ cs) e = rw e refl

-- what is spelled so is read
pub reads_again : (base high n : ℕ) → 2 ≤ base → base ≤ 16 → high < 2 ^ 32 → n ≤ high → number_of base high (digits_onto 64 base false n []) ≡ Some n
reads_again base high n two low small le =
    let wide : 2 ^ 64 ≤ base ^ 64 = pow-le-pow_left two 64 in
    let read : read_from base high 0 (digits_onto 64 base false n []) ≡ Some n = again base high two low 64 n [] (omega arith) (omega (arith, wide)) le in
    elim (cases_eq n 0) [
      | inl z ↦
          let one : digits_onto 64 base false n [] ≡ digit_glyph false n ∷ [] = one_digit 63 base n (omega arith) in
          ap (number_of base high) one ∙ ap (read_from base high 0) (sym one) ∙ read
      | inr nz ↦
          let h = head_is base two low 64 n [] (omega arith) (omega (arith, wide)) in
          ap (number_of base high) h.2 ∙ number_of_head base high h.0 h.1 h.3 ∙ ap (read_from base high 0) (sym h.2) ∙ read
    ]
