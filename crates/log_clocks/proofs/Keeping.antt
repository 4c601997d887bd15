-- One record more: its clock is kept, and those of the records before it stay.
use Rattle.std.proofs.Common.{◌≡◌, ℕ, zero, suc, ◌+◌, ◌<◌, ◌≤◌, Bool, eqb, List, [], ◌∷◌, ◌++◌, length, get_or, refl, sym, ap, ◌∙◌, subst, arith, lt_of_not-le, eq-eqb, ne_eqb, length-append, if◌then◌else◌}
use Rattle.std.proofs.lemmas.List.{get_or_append_left, get_or_past}
use Rattle.std.specs.declared.result.Result.{Result}
use Rattle.std.specs.declared.result.Result.TheVariants.{Ok, Err}
use Rattle.std.specs.Prelude.{OnErr, take}
use lib.Seq.{get_or-append_seam}
use mathlib.Core.Logic.{dite}
use native.Mathlib.Decide.{ℕ_discrete, dec_le}
use Rattle.pl_event.specs.declared.log.Line.{Line}
use Rattle.pl_event.specs.Edges.{Into, IsFlow}
use Rattle.pl_event.specs.Graph.{IsClock}
use Rattle.pl_event.specs.Heads.{IsNext}
use Rattle.pl_event.specs.Records.{records_before}
use Rattle.pl_event.proofs.Places.{before_own, before_other, before_none}
use Rattle.log_clocks.specs.declared.clock.Clock.{Clock}
use Rattle.log_clocks.specs.declared.clocks.Clocks.{Clocks}
use Rattle.log_clocks.specs.Clocks.{time, slots, slot_in, slot_of, clock_at, kept_at, known_in, known, HasClocks}
use Rattle.log_clocks.proofs.RecordClocks.{same_clock, clock_start}

-- what stays whatever is answered stays without memory
pub kept_anyway : {T E : Type 0} (r : Result T E) (P : Type 0) → P → OnErr r P
kept_anyway (Ok x) P p = tt
kept_anyway (Err x) P p = p

-- the clocks that were kept before
pub front_again : (xs ys : List Clock) → take (length xs) (xs ++ ys) ≡ xs
front_again [] ys = refl
front_again (x ∷ xs) ys = ap (λ (z : List Clock). x ∷ z) (front_again xs ys)

pub whole_again : (xs : List Clock) → take (length xs) xs ≡ xs
whole_again [] = refl
whole_again (x ∷ xs) = ap (λ (z : List Clock). x ∷ z) (whole_again xs)

slot_old : (xs : List ℕ) (slot m : ℕ) → m ≤ length xs → slot_in (xs ++ slot ∷ []) m ≡ slot_in xs m
slot_old xs slot zero l = refl
slot_old xs slot (suc m) l = get_or_append_left xs (slot ∷ []) 0 m (omega arith)

slot_new : (xs : List ℕ) (slot m : ℕ) → m ≡ length xs + 1 → slot_in (xs ++ slot ∷ []) m ≡ slot
slot_new xs slot zero e = absurd (omega arith)
slot_new xs slot (suc m) e = let s : m ≡ length xs = omega arith in ap (λ (z : ℕ). get_or (xs ++ slot ∷ []) z 0) s ∙ get_or-append_seam xs slot [] 0

slot_past : (xs : List ℕ) (m : ℕ) → length xs < m → slot_in xs m ≡ 0
slot_past xs zero l = absurd (omega arith)
slot_past xs (suc m) l = get_or_past xs m 0 (omega arith)

known_same : (xs ys : List ℕ) (kept more : List Clock) (h m u : ℕ) → slot_in ys m ≡ slot_in xs m → clock_at more (slot_in xs m) ≡ clock_at kept (slot_in xs m) → known_in ys more h m u ≡ known_in xs kept h m u
known_same xs ys kept more h zero u e f = refl
known_same xs ys kept more h (suc m) u e f = ap (λ (z : Clock). if eqb u h then suc m else time z u) (ap (clock_at more) e ∙ f)

known_new : (ys : List ℕ) (kept : List Clock) (h m u slot : ℕ) (c : Clock) → slot_in ys (m + 1) ≡ slot → (time c h ≡ m + 1) → ((u ≡ h → ⊥) → time (clock_at kept slot) u ≡ time c u) → known_in ys kept h (m + 1) u ≡ time c u
known_new ys kept h m u slot c e here others = subst (λ (z : ℕ). known_in ys kept h z u ≡ time c u) up (dite (ℕ_discrete u h)
    (λ same. ap (λ (b : Bool). if b then suc m else time (clock_at kept (slot_in ys (suc m))) u) (eq-eqb u h same) ∙ (let o : suc m ≡ time c h = omega arith in o ∙ ap (time c) (sym same)))
    (λ ne. ap (λ (b : Bool). if b then suc m else time (clock_at kept (slot_in ys (suc m))) u) (ne_eqb u h ne) ∙ (ap (λ (z : ℕ). time (clock_at kept z) u) (ap (slot_in ys) up ∙ e) ∙ others ne)))
  where
    up : suc m ≡ m + 1
    up = omega arith

-- the clock of the last record, as it is kept, is right but for its own hart
pub known_last : (clocks : Clocks) (lines : List Line) (i h m u : ℕ) → HasClocks clocks lines i → (u ≡ h → ⊥) → time (kept_at clocks (slot_of clocks h m)) u ≡ known clocks h m u
known_last clocks lines i h zero u has ne = has.first u
known_last clocks lines i h (suc m) u has ne = ap (λ (b : Bool). if b then suc m else time (kept_at clocks (slot_of clocks h (suc m))) u) (sym (ne_eqb u h ne))

pub no_clocks : (harts : ℕ) (g : List Line) → IsFlow harts g → (clocks : Clocks) (c : Clock) → ((h : ℕ) → slots clocks h ≡ []) → clocks.kept.items ≡ c ∷ [] → ((u : ℕ) → time c u ≡ 0) → HasClocks clocks g 0
no_clocks harts g flow clocks c none only zeros = record {
  numbers = λ h l. ap (λ (z : List ℕ). length z) (none h) ∙ sym (before_none g h);
  right = λ h m le. (let z : m ≡ 0 = let b : records_before h g 0 ≡ 0 = before_none g h in omega arith in
      subst (λ (z : ℕ). IsClock (Into g) h z (known clocks h z)) (sym z) (clock_start harts g flow h (known clocks h 0) (λ u. refl)));
  first = λ u. ap (λ (z : List Clock). time (clock_at z 0) u) only ∙ zeros u;
  within = λ h m. (let a : slot_of clocks h m ≡ 0 = ap (λ (z : List ℕ). slot_in z m) (none h) ∙ empty m in let b : length clocks.kept.items ≡ 1 = ap (λ (z : List Clock). length z) only in omega arith);
}
  where
    empty : (m : ℕ) → slot_in [] m ≡ 0
    empty zero = refl
    empty (suc m) = refl

module _ (g : List Line) (i h : ℕ) (line : Line) (next : IsNext g i h line) (low : h < 8) (old new : Clocks) (has : HasClocks old g i) (c : Clock) (slot : ℕ)
    (here : slots new h ≡ slots old h ++ slot ∷ []) (others : (u : ℕ) → (u ≡ h → ⊥) → slots new u ≡ slots old u)
    (kept : (s : ℕ) → s < length old.kept.items → kept_at new s ≡ kept_at old s) (longer : length old.kept.items ≤ length new.kept.items) (there : slot < length new.kept.items)
    (clock : IsClock (Into g) h (records_before h g i + 1) (time c)) (itself : time c h ≡ records_before h g i + 1)
    (same : (u : ℕ) → (u ≡ h → ⊥) → time (kept_at new slot) u ≡ time c u) where
  abbrev m : ℕ
  m = records_before h g i

  long : length (slots old h) ≡ m
  long = has.numbers h low

  own : records_before h g (i + 1) ≡ m + 1
  own = before_own g i h line next.at next.hart

  other : (x : ℕ) → (x ≡ h → ⊥) → records_before x g (i + 1) ≡ records_before x g i
  other x ne = before_other g i x line next.at (λ z. ne (sym z ∙ next.hart))

  slot_here : (y : ℕ) → y ≤ m → slot_of new h y ≡ slot_of old h y
  slot_here y le = ap (λ (z : List ℕ). slot_in z y) here ∙ slot_old (slots old h) slot y (omega (arith, long))

  numbers : (x : ℕ) → x < 8 → length (slots new x) ≡ records_before x g (i + 1)
  numbers x lx = dite (ℕ_discrete x h)
      (λ e. subst (λ (z : ℕ). length (slots new z) ≡ records_before z g (i + 1)) (sym e)
      (ap (λ (z : List ℕ). length z) here ∙ (length-append (slots old h) (slot ∷ []) ∙ (let l : length (slots old h) ≡ m = long in let o : records_before h g (i + 1) ≡ m + 1 = own in let t : length (slots old h) + 1 ≡ records_before h g (i + 1) = omega arith in t))))
      (λ ne. ap (λ (z : List ℕ). length z) (others x ne) ∙ (has.numbers x lx ∙ sym (other x ne)))

  clocks : (x y : ℕ) → y ≤ records_before x g (i + 1) → IsClock (Into g) x y (known new x y)
  clocks x y le = dite (ℕ_discrete x h)
      (λ e. subst (λ (z : ℕ). IsClock (Into g) z y (known new z y)) (sym e) (of_own y (subst (λ (z : ℕ). y ≤ records_before z g (i + 1)) e le)))
      (λ ne. same_clock (Into g) x y (known old x y) (known new x y)
      (λ u. known_same (slots old x) (slots new x) old.kept.items new.kept.items x y u (ap (λ (z : List ℕ). slot_in z y) (others x ne)) (kept (slot_of old x y) (has.within x y)))
      (has.right x y (let e : records_before x g (i + 1) ≡ records_before x g i = other x ne in omega arith)))
    where
      of_own : (y : ℕ) → y ≤ records_before h g (i + 1) → IsClock (Into g) h y (known new h y)
      of_own y le = dite (dec_le y m)
          (λ before. same_clock (Into g) h y (known old h y) (known new h y)
          (λ u. known_same (slots old h) (slots new h) old.kept.items new.kept.items h y u (slot_here y before) (kept (slot_of old h y) (has.within h y)))
          (has.right h y before))
          (λ no. let more : m < y = lt_of_not-le no in let o : records_before h g (i + 1) ≡ m + 1 = own in let e : m + 1 ≡ y = omega arith in
          subst (λ (z : ℕ). IsClock (Into g) h z (known new h z)) e
          (same_clock (Into g) h (m + 1) (time c) (known new h (m + 1))
          (λ u. known_new (slots new h) new.kept.items h m u slot c (ap (λ (z : List ℕ). slot_in z (m + 1)) here ∙ slot_new (slots old h) slot (m + 1) (let l : length (slots old h) ≡ m = long in omega arith)) itself (same u))
          clock))

  some : 0 < length old.kept.items
  some = let l : slot_of old h 0 < length old.kept.items = has.within h 0 in omega arith

  within : (x y : ℕ) → slot_of new x y < length new.kept.items
  within x y = dite (ℕ_discrete x h)
      (λ e. subst (λ (z : ℕ). slot_of new z y < length new.kept.items) (sym e) (of_own y))
      (λ ne. let l : slot_of old x y < length old.kept.items = has.within x y in let e : slot_of new x y ≡ slot_of old x y = ap (λ (z : List ℕ). slot_in z y) (others x ne) in omega arith)
    where
      of_own : (y : ℕ) → slot_of new h y < length new.kept.items
      of_own y = dite (dec_le y m)
          (λ before. let l : slot_of old h y < length old.kept.items = has.within h y in let e : slot_of new h y ≡ slot_of old h y = slot_here y before in omega arith)
          (λ no. let more : m < y = lt_of_not-le no in let l : length (slots old h) ≡ m = long in dite (ℕ_discrete y (m + 1))
          (λ e. let s : slot_of new h y ≡ slot = ap (λ (z : List ℕ). slot_in z y) here ∙ slot_new (slots old h) slot y (omega arith) in omega arith)
          (λ ne. let n : length (slots old h ++ slot ∷ []) ≡ length (slots old h) + 1 = length-append (slots old h) (slot ∷ []) in
          let s : slot_of new h y ≡ 0 = ap (λ (z : List ℕ). slot_in z y) here ∙ slot_past (slots old h ++ slot ∷ []) y (omega arith) in
          let p : 0 < length old.kept.items = some in omega arith))

  pub has_more : HasClocks new g (i + 1)
  has_more = record {
    numbers = numbers;
    right = clocks;
    first = λ u. ap (λ (z : Clock). time z u) (kept 0 some) ∙ has.first u;
    within = within;
  }
