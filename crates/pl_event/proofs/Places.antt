-- Which line has which record.
use Rattle.std.proofs.Common.{◌≡◌, ◌≢◌, ℕ, zero, suc, ◌+◌, ◌-◌, ◌<◌, ◌≤◌, Bool, true, false, eqb, List, [], ◌∷◌, length, refl, sym, ap, ◌∙◌, subst, arith, eq-eqb, ne_eqb, if◌then◌else◌}
use Rattle.std.proofs.lemmas.Bool.Decides.{nat_tests}
use mathlib.Core.Option.{some, some-injective, some-ne-none}
use mathlib.Core.Logic.{dite}
use native.Mathlib.Decide.{ℕ_discrete}
use lib.ListN.{get_elem?}
use Rattle.pl_event.specs.declared.log.Line.{Line}
use Rattle.pl_event.specs.Numbers.{hart_of, is_of}
use Rattle.pl_event.specs.Records.{records_before, IsRecord, line_number}

pub eqb_is : (a b : ℕ) → eqb a b ≡ true → a ≡ b
eqb_is a b e = grind (arith, nat_tests)

pub line_number_zero : (g : List Line) (h : ℕ) → line_number g h 0 ≡ 0
line_number_zero [] h = refl
line_number_zero (l ∷ g) h = refl

pub line_number_next : (g : List Line) (h m : ℕ) → line_number g h m < line_number g h (m + 1)
line_number_next g h m = subst (λ (z : ℕ). line_number g h m < line_number g h z) (omega arith) (up g h m)
  where
    up : (g : List Line) (h m : ℕ) → line_number g h m < line_number g h (suc m)
    up [] h m = omega arith
    up (l ∷ g) h zero = omega arith
    up (l ∷ g) h (suc m) = by (is_of h l) (up g h m) (up g h (suc m))
      where
        by : (b : Bool) → line_number g h m < line_number g h (suc m) → line_number g h (suc m) < line_number g h (suc (suc m)) → suc (if b then line_number g h m else line_number g h (suc m)) < suc (if b then line_number g h (suc m) else line_number g h (suc (suc m)))
        by true a b = omega arith
        by false a b = omega arith

-- which line has a record
pub line_number_of : (g : List Line) (i h m : ℕ) (l : Line) → IsRecord g i h m l → line_number g h m ≡ i + 1
line_number_of g i h m l is = go g i h m l is.at is.hart is.number
  where
    go : (g : List Line) (i h m : ℕ) (l : Line) → get_elem? g i ≡ some l → hart_of l.what ≡ h → records_before h g i + 1 ≡ m → line_number g h m ≡ i + 1
    go [] i h m l at own number = absurd (some-ne-none l (sym at))
    go (x ∷ g) zero h m l at own number =
        let t : is_of h x ≡ true = eq-eqb (hart_of x.what) h (ap (λ (z : Line). hart_of z.what) (some-injective x l at) ∙ own) in
        let one : 1 ≡ m = number in
        subst (λ (z : ℕ). line_number (x ∷ g) h z ≡ 1) one (ap (λ (b : Bool). suc (if b then line_number g h 0 else line_number g h 1)) t ∙ ap suc (line_number_zero g h))
    go (x ∷ g) (suc i) h m l at own number = by (λ m e. go g i h m l at own e) (is_of h x) refl number
      where
        by : ((m : ℕ) → records_before h g i + 1 ≡ m → line_number g h m ≡ i + 1) → (b : Bool) → is_of h x ≡ b → (if b then 1 else 0) + records_before h g i + 1 ≡ m → line_number (x ∷ g) h m ≡ suc i + 1
        by deep true e n =
            let there : suc (records_before h g i + 1) ≡ m = omega arith in
            let d : line_number g h (records_before h g i + 1) ≡ i + 1 = deep (records_before h g i + 1) refl in
            subst (λ (z : ℕ). line_number (x ∷ g) h z ≡ suc i + 1) there (ap (λ (b : Bool). suc (if b then line_number g h (records_before h g i + 1) else line_number g h (suc (records_before h g i + 1)))) e ∙ (let d : suc (line_number g h (records_before h g i + 1)) ≡ suc i + 1 = omega arith in d))
        by deep false e n =
            let there : suc (records_before h g i) ≡ m = omega arith in
            let d : line_number g h (suc (records_before h g i)) ≡ i + 1 = deep (suc (records_before h g i)) (omega arith) in
            subst (λ (z : ℕ). line_number (x ∷ g) h z ≡ suc i + 1) there (ap (λ (b : Bool). suc (if b then line_number g h (records_before h g i) else line_number g h (suc (records_before h g i)))) e ∙ (let d : suc (line_number g h (suc (records_before h g i))) ≡ suc i + 1 = omega arith in d))

-- the records among the first i lines have line numbers up to i
pub line_number_within : (g : List Line) (i h n : ℕ) → n ≤ records_before h g i → line_number g h n ≤ i
line_number_within [] i h n l = omega arith
line_number_within (x ∷ g) i h zero l = omega arith
line_number_within (x ∷ g) zero h (suc n) l = absurd (omega arith)
line_number_within (x ∷ g) (suc i) h (suc n) l = by (is_of h x) (line_number_within g i h n) (line_number_within g i h (suc n)) l
  where
    by : (b : Bool) → (n ≤ records_before h g i → line_number g h n ≤ i) → (suc n ≤ records_before h g i → line_number g h (suc n) ≤ i) → suc n ≤ (if b then 1 else 0) + records_before h g i → suc (if b then line_number g h n else line_number g h (suc n)) ≤ suc i
    by true f e l = let t : line_number g h n ≤ i = f (omega arith) in omega arith
    by false f e l = let t : line_number g h (suc n) ≤ i = e (omega arith) in omega arith

pub line_number_after : (g : List Line) (i h n : ℕ) → i ≤ length g → records_before h g i < n → i < line_number g h n
line_number_after [] i h n le l = omega arith
line_number_after (x ∷ g) i h zero le l = absurd (omega arith)
line_number_after (x ∷ g) zero h (suc n) le l = omega arith
line_number_after (x ∷ g) (suc i) h (suc n) le l = by (is_of h x) (line_number_after g i h n (omega arith)) (line_number_after g i h (suc n) (omega arith)) l
  where
    by : (b : Bool) → (records_before h g i < n → i < line_number g h n) → (records_before h g i < suc n → i < line_number g h (suc n)) → (if b then 1 else 0) + records_before h g i < suc n → suc i < suc (if b then line_number g h n else line_number g h (suc n))
    by true f e l = let t : i < line_number g h n = f (omega arith) in omega arith
    by false f e l = let t : i < line_number g h (suc n) = e (omega arith) in omega arith

pub inside : (g : List Line) (i : ℕ) (l : Line) → get_elem? g i ≡ some l → i < length g
inside [] i l at = absurd (some-ne-none l (sym at))
inside (x ∷ g) zero l at = omega arith
inside (x ∷ g) (suc i) l at = let t : i < length g = inside g i l at in omega arith

abbrev bit : Bool → ℕ
bit b = if b then 1 else 0

pub before_none : (g : List Line) (h : ℕ) → records_before h g 0 ≡ 0
before_none [] h = refl
before_none (y ∷ g) h = refl

-- one line more
before_more : (g : List Line) (i h : ℕ) (l : Line) → get_elem? g i ≡ some l → records_before h g (suc i) ≡ bit (is_of h l) + records_before h g i
before_more [] i h l at = absurd (some-ne-none l (sym at))
before_more (x ∷ g) zero h l at =
    let e : bit (is_of h x) ≡ bit (is_of h l) = ap (λ (z : Line). bit (is_of h z)) (some-injective x l at) in
    let z : records_before h g 0 ≡ 0 = before_none g h in
    omega arith
before_more (x ∷ g) (suc i) h l at = let t : records_before h g (suc i) ≡ bit (is_of h l) + records_before h g i = before_more g i h l at in omega arith

-- a line of another hart is not counted
pub before_other : (g : List Line) (i h : ℕ) (l : Line) → get_elem? g i ≡ some l → hart_of l.what ≢ h → records_before h g (i + 1) ≡ records_before h g i
before_other g i h l at n =
    let e : records_before h g (suc i) ≡ bit (is_of h l) + records_before h g i = before_more g i h l at in
    let z : bit (is_of h l) ≡ 0 = ap bit (ne_eqb (hart_of l.what) h n) in
    ap (records_before h g) (omega arith) ∙ (let t : records_before h g (suc i) ≡ records_before h g i = omega arith in t)

pub before_own : (g : List Line) (i h : ℕ) (l : Line) → get_elem? g i ≡ some l → hart_of l.what ≡ h → records_before h g (i + 1) ≡ records_before h g i + 1
before_own g i h l at own =
    let e : records_before h g (suc i) ≡ bit (is_of h l) + records_before h g i = before_more g i h l at in
    let z : bit (is_of h l) ≡ 1 = ap bit (eq-eqb (hart_of l.what) h own) in
    ap (records_before h g) (omega arith) ∙ (let t : records_before h g (suc i) ≡ records_before h g i + 1 = omega arith in t)

-- a record is one line
pub one_place : (g : List Line) (h m i j : ℕ) (l k : Line) → IsRecord g i h m l → IsRecord g j h m k → (i ≡ j) × (l ≡ k)
one_place g h m i j l k a b =
    let p : line_number g h m ≡ i + 1 = line_number_of g i h m l a in
    let q : line_number g h m ≡ j + 1 = line_number_of g j h m k b in
    let e : i ≡ j = omega arith in
    (e, some-injective l k (sym a.at ∙ (ap (get_elem? g) e ∙ b.at)))

pub before_up : (g : List Line) (i j h : ℕ) → i ≤ j → records_before h g i ≤ records_before h g j
before_up [] i j h l = omega arith
before_up (x ∷ g) zero j h l = omega arith
before_up (x ∷ g) (suc i) zero h l = absurd (omega arith)
before_up (x ∷ g) (suc i) (suc j) h l = let t : records_before h g i ≤ records_before h g j = before_up g i j h (omega arith) in omega arith

-- each number up to the count is a record's
pub record_at : (g : List Line) (i h n : ℕ) → 1 ≤ n → n ≤ records_before h g i → (j : ℕ) × (l : Line) × (j < i) × IsRecord g j h n l
record_at [] i h n least l = absurd (omega arith)
record_at (x ∷ g) zero h n least l = absurd (omega arith)
record_at (x ∷ g) (suc i) h n least l = by (record_at g i h) (is_of h x) refl l
  where
    by : ((n : ℕ) → 1 ≤ n → n ≤ records_before h g i → (j : ℕ) × (l : Line) × (j < i) × IsRecord g j h n l)
        → (b : Bool) → is_of h x ≡ b → n ≤ bit b + records_before h g i → (j : ℕ) × (l : Line) × (j < suc i) × IsRecord (x ∷ g) j h n l
    by deep true e l = dite (ℕ_discrete n 1)
        (λ one. (0, x, omega arith, record { at = refl; hart = eqb_is (hart_of x.what) h e; number = omega arith }))
        (λ more. let t = deep (n - 1) (omega arith) (omega arith) in
        (suc t.0, t.1, (let s : t.0 < i = t.2 in omega arith), record { at = t.3.at; hart = t.3.hart; number = (let k : records_before h g t.0 + 1 ≡ n - 1 = t.3.number in let b : bit (is_of h x) ≡ 1 = ap bit e in omega arith) }))
    by deep false e l = let t = deep n least (omega arith) in
        (suc t.0, t.1, (let s : t.0 < i = t.2 in omega arith), record { at = t.3.at; hart = t.3.hart; number = (let k : records_before h g t.0 + 1 ≡ n = t.3.number in let b : bit (is_of h x) ≡ 0 = ap bit e in omega arith) })

pub before_most : (g : List Line) (h i : ℕ) → records_before h g i ≤ i
before_most [] h i = omega arith
before_most (x ∷ g) h zero = omega arith
before_most (x ∷ g) h (suc i) = let t : records_before h g i ≤ i = before_most g h i in by (is_of h x) t
  where
    by : (b : Bool) → records_before h g i ≤ i → bit b + records_before h g i ≤ suc i
    by true t = omega arith
    by false t = omega arith
