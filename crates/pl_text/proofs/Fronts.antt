-- What is read at the start of a text is what is spelled there, and what is spelled there is read.
use Rattle.std.proofs.Common.{◌≡◌, ℕ, ◌+◌, ◌-◌, ◌*◌, ◌^◌, ◌<◌, ◌≤◌, Bool, true, false, cond, not, ltb, leb, eqb, ◌&&◌, List, [], ◌∷◌, ◌++◌, ◌⊎◌, Option, Some, None, refl, sym, ap, ◌∙◌, inl, inr, arith}
use Rattle.std.proofs.lemmas.Bool.{ltb-true, ltb-false, lt-ltb, le-ltb, leb-true, le-leb, eq-eqb, ne_eqb, cases_lt, cases_eq}
use Rattle.std.proofs.Math.Nat.{mul-le-mul_left}
use Rattle.std.specs.Fmt.{digits, digit_glyph}
use Rattle.pl_text.specs.Number.{BeginsWithDigit, BeginsWithNumber}
use Rattle.pl_text.proofs.Reading.{digit, read_from, number_of, front, read_on, goes_on, front_of}
use Rattle.pl_text.proofs.Spelling.{glyph_digit, digit_glyph_is, not_zero, first_step, first_back, read_step, cond_none, takes, reads_again}

abbrev first_of : Option (ℕ × List ℕ) → ℕ
first_of None = 0
first_of (Some x) = x.0

abbrev rest_of : Option (ℕ × List ℕ) → List ℕ
rest_of None = []
rest_of (Some x) = x.1

front_number : (p n : ℕ) (s t : List ℕ) → front p s ≡ front n t → p ≡ n
front_number p n s t e = ap first_of e ∙ refl

front_rest : (p n : ℕ) (s t : List ℕ) → front p s ≡ front n t → s ≡ t
front_rest p n s t e = ap rest_of e ∙ refl

cond_some : (b : Bool) (x : Option (ℕ × List ℕ)) (n : ℕ) (t : List ℕ) → cond b x None ≡ front n t → (b ≡ true) × (x ≡ front n t)
cond_some true x n t e = (refl, e)
cond_some false x n t e = absurd cc

pub record Split (base high p : ℕ) (text : List ℕ) (n : ℕ) (rest : List ℕ) : Type 0 where
  pub word : List ℕ
  pub joined : text ≡ word ++ rest
  pub read : read_from base high p word ≡ Some n
  pub stops : goes_on base rest ≡ false

split_stop : (base high p n : ℕ) (text rest : List ℕ) → goes_on base text ≡ false → front p text ≡ front n rest → Split base high p text n rest
split_stop base high p n text rest stops e =
    let rest_is : text ≡ rest = front_rest p n text rest e in
    record { word = []; joined = rest_is; read = ap Some (front_number p n text rest e); stops = ap (goes_on base) (sym rest_is) ∙ stops }

split_more : (base high p n c : ℕ) (cs rest : List ℕ) → ltb (digit c) base ≡ true → leb (p * base + digit c) high ≡ true → Split base high (p * base + digit c) cs n rest → Split base high p (c ∷ cs) n rest
split_more base high p n c cs rest small few s = record {
  word = c ∷ s.word;
  joined = ap (λ (t : List ℕ). c ∷ t) s.joined;
  read = rw (small, few) s.read;
  stops = s.stops;
}

-- a prefix is a word and what follows it
split : (base high p n : ℕ) (text rest : List ℕ) → read_on base high p text ≡ front n rest → Split base high p text n rest
split base high p n [] rest e = split_stop base high p n [] rest refl e
split base high p n (c ∷ cs) rest e =
    elim (cases_lt (digit c) base) [
      | inl small ↦
          let chosen = cond_some (leb (p * base + digit c) high) (read_on base high (p * base + digit c) cs) n rest (rw (lt-ltb (digit c) base small) at e) in
          split_more base high p n c cs rest (lt-ltb (digit c) base small) chosen.0 (split base high (p * base + digit c) n cs rest chosen.1)
      | inr large ↦ split_stop base high p n (c ∷ cs) rest (le-ltb (digit c) base large) (rw (le-ltb (digit c) base large) at e)
    ]

-- and the other way round
join : (base high p n : ℕ) (word rest : List ℕ) → read_from base high p word ≡ Some n → goes_on base rest ≡ false → read_on base high p (word ++ rest) ≡ front n rest
join base high p n [] [] e stops = ap (λ (m : ℕ). front m []) (let n_is : p ≡ n = cc in n_is)
join base high p n [] (c ∷ cs) e stops = rw stops (ap (λ (m : ℕ). front m (c ∷ cs)) (let n_is : p ≡ n = cc in n_is))
join base high p n (c ∷ cs) rest e stops =
    let h = read_step base high p c cs n e in
    rw (lt-ltb _ _ h.0, le-leb _ _ h.1) (join base high (p * base + digit c) n cs rest h.2 stops)

no_digit : (base : ℕ) (rest : List ℕ) → base ≤ 16 → goes_on base rest ≡ false → BeginsWithDigit base rest → ⊥
no_digit base [] low e h = h
no_digit base (c ∷ cs) low e h =
    let is : digit c ≡ h.0 = ap digit h.2 ∙ digit_glyph_is h.0 (omega (arith, h.1)) in
    omega (arith, is, h.1, ltb-false _ _ e)

stops_there : (base : ℕ) (rest : List ℕ) → base ≤ 16 → (BeginsWithDigit base rest → ⊥) → goes_on base rest ≡ false
stops_there base [] low h = refl
stops_there base (c ∷ cs) low h =
    elim (cases_lt (digit c) base) [
      | inl small ↦ absurd (h (digit c, small, sym (glyph_digit c (omega arith))))
      | inr large ↦ le-ltb (digit c) base large
    ]

and_true : (a b : Bool) → a && b ≡ true → (a ≡ true) × (b ≡ true)
and_true true true e = (refl, refl)
and_true true false e = absurd cc
and_true false b e = absurd cc

not_both : (a b : Bool) → not (a && b) ≡ true → a ≡ true → b ≡ false
not_both true true e h = absurd cc
not_both true false e h = refl
not_both false b e h = absurd cc

-- a word of two digits or more begins with no zero
more_than_zero : (c d base : ℕ) (cs rest : List ℕ) → digit d < base → not (eqb (digit c) 0 && goes_on base (d ∷ cs ++ rest)) ≡ true → eqb c 48 ≡ false
more_than_zero c d base cs rest small e =
    elim (cases_eq c 48) [
      | inl z ↦
          let zero_is : digit c ≡ 0 = ap digit z in
          let stops = not_both _ _ e (eq-eqb _ _ zero_is) in
          absurd (omega (arith, small, ltb-false _ _ stops))
      | inr nz ↦ ne_eqb _ _ nz
    ]

word_of : (base high c n : ℕ) (word rest : List ℕ) → digit c < base → digit c ≤ high → not (eqb (digit c) 0 && goes_on base (word ++ rest)) ≡ true → read_from base high (digit c) word ≡ Some n → number_of base high (c ∷ word) ≡ Some n
word_of base high c n [] rest small few alone e = first_back base high c [] n small few e
word_of base high c n (d ∷ ds) rest small few alone e =
    rw (more_than_zero c d base ds rest (read_step base high (digit c) d ds n e).0 alone) (first_back base high c (d ∷ ds) n small few e)

-- what is read is spelled so
pub takes_front : (base high n : ℕ) (text rest : List ℕ) → 2 ≤ base → base ≤ 16 → high < 2 ^ 32 → front_of base high text ≡ front n rest → BeginsWithNumber base high text n rest
unfolding digits
takes_front base high n [] rest two low small e = absurd cc
takes_front base high n (c ∷ cs) rest two low small e =
    let h = cond_some (ltb (digit c) base && (leb (digit c) high && not (eqb (digit c) 0 && goes_on base cs))) (read_on base high (digit c) cs) n rest e in
    let a = and_true (ltb (digit c) base) (leb (digit c) high && not (eqb (digit c) 0 && goes_on base cs)) h.0 in
    let b = and_true (leb (digit c) high) (not (eqb (digit c) 0 && goes_on base cs)) a.1 in
    let s = split base high (digit c) n cs rest h.1 in
    let alone : not (eqb (digit c) 0 && goes_on base (s.word ++ rest)) ≡ true = ap (λ (t : List ℕ). not (eqb (digit c) 0 && goes_on base t)) (sym s.joined) ∙ b.1 in
    let word_is = word_of base high c n s.word rest (ltb-true _ _ a.0) (leb-true _ _ b.0) alone s.read in
    let t = takes base high n (c ∷ s.word) two low small word_is in
    record { low = t.1; spelled = ap (λ (t : List ℕ). c ∷ t) s.joined ∙ ap (λ (t : List ℕ). t ++ rest) t.0; ends = no_digit base rest low s.stops }

alone : (b : Bool) (x : Option (ℕ × List ℕ)) (n : ℕ) (t : List ℕ) → x ≡ front n t → cond (not (b && false)) x None ≡ front n t
alone true x n t e = e
alone false x n t e = e

-- what is read as a word is read at the start
front_again : (base high n : ℕ) (word rest : List ℕ) → base ≤ 16 → number_of base high word ≡ Some n → goes_on base rest ≡ false → front_of base high (word ++ rest) ≡ front n rest
front_again base high n [] rest low e stops = absurd cc
front_again base high n (c ∷ []) rest low e stops =
    let h = first_step base high c [] n e in
    rw (lt-ltb _ _ h.0, le-leb _ _ h.1, stops) (alone (eqb (digit c) 0) (read_on base high (digit c) rest) n rest (join base high (digit c) n [] rest h.2 stops))
front_again base high n (c ∷ d ∷ cs) rest low e stops =
    let g = cond_none (eqb c 48) (read_from base high 0 (c ∷ d ∷ cs)) n e in
    let h = first_step base high c (d ∷ cs) n g.1 in
    let pos : 0 < digit c = not_zero c (omega (arith, h.0)) g.0 in
    rw (lt-ltb _ _ h.0, le-leb _ _ h.1, ne_eqb (digit c) 0 (λ z. omega arith)) (join base high (digit c) n (d ∷ cs) rest h.2 stops)

-- what is spelled so is read
pub reads_front : (base high n : ℕ) (text rest : List ℕ) → 2 ≤ base → base ≤ 16 → high < 2 ^ 32 → BeginsWithNumber base high text n rest → front_of base high text ≡ front n rest
unfolding digits
reads_front base high n text rest two low small b =
    ap (front_of base high) b.spelled ∙ front_again base high n (digits base false n) rest low (reads_again base high n two low small b.low) (stops_there base rest low b.ends)

-- there is one prefix
pub one_front : (base n m : ℕ) (rest other : List ℕ) → 2 ≤ base → base ≤ 16 → n < 2 ^ 32 → m < 2 ^ 32 → (BeginsWithDigit base rest → ⊥) → (BeginsWithDigit base other → ⊥) → digits base false n ++ rest ≡ digits base false m ++ other → (n ≡ m) × (rest ≡ other)
one_front base n m rest other two low small big here there e =
    let first = reads_front base (2 ^ 32 - 1) n (digits base false n ++ rest) rest two low (omega arith) (record { low = omega arith; spelled = refl; ends = here }) in
    let second = reads_front base (2 ^ 32 - 1) m (digits base false n ++ rest) other two low (omega arith) (record { low = omega arith; spelled = e; ends = there }) in
    let same : front n rest ≡ front m other = sym first ∙ second in
    (front_number n m rest other same, front_rest n m rest other same)

-- each step of the reader, as the code sees it
leb_cases : (b : Bool) → (b ≡ true) ⊎ (b ≡ false)
leb_cases true = inl refl
leb_cases false = inr refl

gt-leb : (n high : ℕ) → high < n → leb n high ≡ false
gt-leb n high h = elim (leb_cases (leb n high)) [ inl t ↦ absurd (omega (arith, h, leb-true _ _ t)) | inr f ↦ f ]

pub refused : (base high n : ℕ) (text rest : List ℕ) → 2 ≤ base → base ≤ 16 → high < 2 ^ 32 → front_of base high text ≡ None → BeginsWithNumber base high text n rest → ⊥
refused base high n text rest two low small e b =
    let again : front_of base high text ≡ front n rest = reads_front base high n text rest two low small b in
    absurd cc

pub known : (base high n p : ℕ) (text rest other : List ℕ) → 2 ≤ base → base ≤ 16 → high < 2 ^ 32 → front_of base high text ≡ front p other → BeginsWithNumber base high text n rest → (p ≡ n) × (other ≡ rest)
known base high n p text rest other two low small e b =
    let same : front p other ≡ front n rest = sym e ∙ reads_front base high n text rest two low small b in
    (front_number p n other rest same, front_rest p n other rest same)

pub front_empty : (base high : ℕ) (text : List ℕ) → text ≡ [] → front_of base high text ≡ None
front_empty base high text e = ap (front_of base high) e

digit_large : (base c : ℕ) → base ≤ 16 → ((value : ℕ) → value < base → c ≡ digit_glyph false value → ⊥) → ltb (digit c) base ≡ false
digit_large base c low none =
    elim (cases_lt (digit c) base) [
      | inl small ↦ absurd (none (digit c) small (sym (glyph_digit c (omega arith))))
      | inr large ↦ le-ltb (digit c) base large
    ]

digit_is : (base c v : ℕ) → base ≤ 16 → v < base → c ≡ digit_glyph false v → digit c ≡ v
digit_is base c v low small e = ap digit e ∙ digit_glyph_is v (omega arith)

pub front_no_digit : (base high c : ℕ) (text cs : List ℕ) → base ≤ 16 → text ≡ c ∷ cs → ((value : ℕ) → value < base → c ≡ digit_glyph false value → ⊥) → front_of base high text ≡ None
front_no_digit base high c text cs low e none = ap (front_of base high) e ∙ rw (digit_large base c low none) refl

goes_there : (base : ℕ) (rest : List ℕ) → base ≤ 16 → BeginsWithDigit base rest → goes_on base rest ≡ true
goes_there base [] low h = absurd h
goes_there base (c ∷ cs) low h =
    let is : digit c ≡ h.0 = digit_is base c h.0 low h.1 h.2 in
    lt-ltb (digit c) base (omega (arith, is, h.1))

pub front_zero_more : (base high c v : ℕ) (text cs : List ℕ) → base ≤ 16 → text ≡ c ∷ cs → v < base → c ≡ digit_glyph false v → v ≡ 0 → BeginsWithDigit base cs → front_of base high text ≡ None
front_zero_more base high c v text cs low e small is zero_is more =
    let value_is : digit c ≡ 0 = digit_is base c v low small is ∙ zero_is in
    let within : 0 < base = omega arith in
    ap (front_of base high) e ∙ rw (value_is, lt-ltb 0 base within, le-leb 0 high (omega arith), goes_there base cs low more) refl

stops_on : (base high p : ℕ) (text : List ℕ) → goes_on base text ≡ false → read_on base high p text ≡ front p text
stops_on base high p [] e = refl
stops_on base high p (c ∷ cs) e = rw e refl

pub front_zero : (base high c v : ℕ) (text cs : List ℕ) → base ≤ 16 → text ≡ c ∷ cs → v < base → c ≡ digit_glyph false v → v ≡ 0 → (BeginsWithDigit base cs → ⊥) → front_of base high text ≡ front 0 cs
front_zero base high c v text cs low e small is zero_is none =
    let value_is : digit c ≡ 0 = digit_is base c v low small is ∙ zero_is in
    let within : 0 < base = omega arith in
    ap (front_of base high) e ∙ rw (value_is, lt-ltb 0 base within, le-leb 0 high (omega arith), stops_there base cs low none) (stops_on base high 0 cs (stops_there base cs low none))

pub front_high : (base high c v : ℕ) (text cs : List ℕ) → base ≤ 16 → text ≡ c ∷ cs → v < base → c ≡ digit_glyph false v → high < v → front_of base high text ≡ None
front_high base high c v text cs low e small is many =
    let value_is : digit c ≡ v = digit_is base c v low small is in
    ap (front_of base high) e ∙ rw (value_is, lt-ltb v base small, gt-leb v high many) refl

pub front_begins : (base high c v : ℕ) (text cs : List ℕ) → base ≤ 16 → text ≡ c ∷ cs → v < base → c ≡ digit_glyph false v → (v ≡ 0 → ⊥) → v ≤ high → read_on base high v cs ≡ front_of base high text
front_begins base high c v text cs low e small is some few =
    let value_is : digit c ≡ v = digit_is base c v low small is in
    sym (ap (front_of base high) e ∙ rw (value_is, lt-ltb v base small, le-leb v high few, ne_eqb v 0 some) refl)

pub on_empty : (base high p : ℕ) (text : List ℕ) → text ≡ [] → read_on base high p text ≡ front p text
on_empty base high p text e = stops_on base high p text (ap (goes_on base) e)

pub on_no_digit : (base high p c : ℕ) (text cs : List ℕ) → base ≤ 16 → text ≡ c ∷ cs → ((value : ℕ) → value < base → c ≡ digit_glyph false value → ⊥) → read_on base high p text ≡ front p text
on_no_digit base high p c text cs low e none = stops_on base high p text (ap (goes_on base) e ∙ digit_large base c low none)

pub on_high : (base high p c v : ℕ) (text cs : List ℕ) → base ≤ 16 → text ≡ c ∷ cs → v < base → c ≡ digit_glyph false v → high < p * base + v → read_on base high p text ≡ None
on_high base high p c v text cs low e small is many =
    let value_is : digit c ≡ v = digit_is base c v low small is in
    ap (read_on base high p) e ∙ rw (value_is, lt-ltb v base small, gt-leb (p * base + v) high many) refl

pub on_more : (base high p c v : ℕ) (text cs : List ℕ) → base ≤ 16 → text ≡ c ∷ cs → v < base → c ≡ digit_glyph false v → p * base + v ≤ high → read_on base high (p * base + v) cs ≡ read_on base high p text
on_more base high p c v text cs low e small is few =
    let value_is : digit c ≡ v = digit_is base c v low small is in
    sym (ap (read_on base high p) e ∙ rw (value_is, lt-ltb v base small, le-leb (p * base + v) high few) refl)

-- a number of one digit, and what it is with a second digit, where one comes first
pub record Second (base v w : ℕ) (text rest : List ℕ) : Type 0 where
  pub taken : (byte digit : ℕ) (more : List ℕ) → text ≡ byte ∷ more → digit < base → byte ≡ digit_glyph false digit → (w ≡ v * base + digit) × (rest ≡ more)
  pub left : (BeginsWithDigit base text → ⊥) → (w ≡ v) × (rest ≡ text)

same_reading : (base high v w : ℕ) (text rest : List ℕ) → (w ≡ v) × (rest ≡ text) → read_on base high w rest ≡ read_on base high v text
same_reading base high v w text rest h = ap (read_on base high w) h.1 ∙ ap (λ (n : ℕ). read_on base high n text) h.0

second_on : (base high v w : ℕ) (text rest : List ℕ) → base ≤ 16 → Second base v w text rest → w ≤ high → read_on base high w rest ≡ read_on base high v text
second_on base high v w [] rest low s few = same_reading base high v w [] rest (s.left (λ b. b))
second_on base high v w (c ∷ cs) rest low s few =
    elim (cases_lt (digit c) base) [
      | inl small ↦
          let glyph : c ≡ digit_glyph false (digit c) = sym (glyph_digit c (omega arith)) in
          let h = s.taken c (digit c) cs refl small glyph in
          same_reading base high (v * base + digit c) w cs rest h ∙ on_more base high v c (digit c) (c ∷ cs) cs low refl small glyph (omega (arith, few, h.0))
      | inr large ↦ same_reading base high v w (c ∷ cs) rest (s.left (no_digit base (c ∷ cs) low (le-ltb (digit c) base large)))
    ]

second_high : (base high v w : ℕ) (text rest : List ℕ) → base ≤ 16 → Second base v w text rest → v ≤ high → high < w → read_on base high v text ≡ None
second_high base high v w [] rest low s few many = absurd (omega (arith, few, many, (s.left (λ b. b)).0))
second_high base high v w (c ∷ cs) rest low s few many =
    elim (cases_lt (digit c) base) [
      | inl small ↦
          let glyph : c ≡ digit_glyph false (digit c) = sym (glyph_digit c (omega arith)) in
          let h = s.taken c (digit c) cs refl small glyph in
          on_high base high v c (digit c) (c ∷ cs) cs low refl small glyph (omega (arith, many, h.0))
      | inr large ↦ absurd (omega (arith, few, many, (s.left (no_digit base (c ∷ cs) low (le-ltb (digit c) base large))).0))
    ]

second_least : (base v w : ℕ) (text rest : List ℕ) → 2 ≤ base → base ≤ 16 → Second base v w text rest → v ≤ w
second_least base v w [] rest two low s = omega (arith, (s.left (λ b. b)).0)
second_least base v w (c ∷ cs) rest two low s =
    elim (cases_lt (digit c) base) [
      | inl small ↦
          let wide : v * 1 ≤ v * base = mul-le-mul_left v (omega (arith, two)) in
          omega (arith, wide, (s.taken c (digit c) cs refl small (sym (glyph_digit c (omega arith)))).0)
      | inr large ↦ omega (arith, (s.left (no_digit base (c ∷ cs) low (le-ltb (digit c) base large))).0)
    ]

pub front_second : (base high c v w : ℕ) (text cs rest : List ℕ) → 2 ≤ base → base ≤ 16 → text ≡ c ∷ cs → v < base → c ≡ digit_glyph false v → (v ≡ 0 → ⊥) → Second base v w cs rest → w ≤ high → read_on base high w rest ≡ front_of base high text
front_second base high c v w text cs rest two low e small is some s few =
    second_on base high v w cs rest low s few ∙ front_begins base high c v text cs low e small is some (omega (arith, few, second_least base v w cs rest two low s))

pub front_second_high : (base high c v w : ℕ) (text cs rest : List ℕ) → base ≤ 16 → text ≡ c ∷ cs → v < base → c ≡ digit_glyph false v → (v ≡ 0 → ⊥) → Second base v w cs rest → high < w → front_of base high text ≡ None
front_second_high base high c v w text cs rest low e small is some s many =
    elim (cases_lt high v) [
      | inl above ↦ front_high base high c v text cs low e small is above
      | inr few ↦ sym (front_begins base high c v text cs low e small is some few) ∙ second_high base high v w cs rest low s few many
    ]
