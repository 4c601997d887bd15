-- Arcs as they are added, one after the other.
use Rattle.std.proofs.Common.{◌≡◌, ℕ, zero, suc, ◌+◌, ◌<◌, ◌≤◌, max, ◌&&◌, ◌||◌, Bool, true, false, leb, ltb, List, [], ◌∷◌, ◌++◌, length, get_or, set, drop, Option, Some, None, fold, inl, inr, refl, sym, ap, ◌∙◌, arith}
use Rattle.std.proofs.Math.Bool.{and_assoc, and-true, or_assoc, or-false}
use Rattle.std.proofs.lemmas.Bool.{and_parts, and_from, and_right, or_cases, or_left, or_right, leb-true, le-leb, lt-leb, lt-ltb, le-ltb, cases_lt, cases_Bool}
use Rattle.std.specs.List.{list_any}
use Rattle.std.proofs.lemmas.List.{ext_get_or, length-map, length-set, get_or-set_other, drop_more, drop_all}
use Rattle.std.proofs.lemmas.List.Sums.{fold_push}
use Rattle.pl_event.specs.declared.log.Point.{Point}
use Rattle.log_grammar.specs.declared.points.ArcList.{ArcList}
use Rattle.pl_event.specs.Edges.{some_number}
use Rattle.log_grammar.specs.Arcs.{arcs_in, rises_from, is_rising, highest_hart, next_hart, Sums}
use Rattle.log_grammar.specs.Spelling.{points_from}

-- two tests that imply each other give one answer
pub same_tests : (a b : Bool) → (a ≡ true → b ≡ true) → (b ≡ true → a ≡ true) → a ≡ b
same_tests true b there back = sym (there refl)
same_tests false true there back = back refl
same_tests false false there back = refl

-- one more arc rises if those before it do and its hart can follow
rises_from_push : (least : ℕ) (points : List Point) (point : Point) →
    rises_from least (points ++ point ∷ []) ≡ (rises_from least points && leb (fold (λ (l : ℕ) (p : Point). suc p.hart) least points) point.hart)
rises_from_push least [] point = and-true (leb least point.hart)
rises_from_push least (first ∷ points) point =
    rw (rises_from_push (suc first.hart) points point)
    (sym (and_assoc (leb least first.hart) (rises_from (suc first.hart) points) (leb (fold (λ (l : ℕ) (p : Point). suc p.hart) (suc first.hart) points) point.hart)))

is_rising_push : (points : List Point) (point : Point) → is_rising (points ++ point ∷ []) ≡ (is_rising points && leb (next_hart points) point.hart)
is_rising_push points point = rises_from_push 0 points point

highest_hart_push : (points : List Point) (point : Point) → highest_hart (points ++ point ∷ []) ≡ max (highest_hart points) point.hart
highest_hart_push points point = fold_push (λ (high : ℕ) (p : Point). max high p.hart) 0 points point

next_hart_push : (points : List Point) (point : Point) → next_hart (points ++ point ∷ []) ≡ suc point.hart
next_hart_push points point = fold_push (λ (l : ℕ) (p : Point). suc p.hart) 0 points point

-- no arc
points_from_none : (base : ℕ) (numbers : List ℕ) → ((k : ℕ) → get_or numbers k 0 ≡ 0) → points_from base (arcs_in numbers) ≡ []
points_from_none base [] none = refl
points_from_none base (zero ∷ numbers) none = points_from_none (suc base) numbers (λ k. none (suc k))
points_from_none base (suc n ∷ numbers) none = absurd (omega (arith, none zero))

-- a number is set after which none is
points_from-set : (base k number : ℕ) (numbers : List ℕ) (point : Point) → k < length numbers → ((j : ℕ) → k ≤ j → get_or numbers j 0 ≡ 0) →
    point.hart ≡ base + k → point.number ≡ suc number →
    points_from base (arcs_in (set numbers k (suc number))) ≡ points_from base (arcs_in numbers) ++ point ∷ []
points_from-set base k number [] point within clear at counted = absurd (omega arith)
points_from-set base zero number (zero ∷ numbers) point within clear at counted =
    let none : points_from (suc base) (arcs_in numbers) ≡ [] = points_from_none (suc base) numbers (λ j. clear (suc j) (omega arith)) in
    let same : base ≡ point.hart = omega arith in
    rw (none, same, sym counted) refl
points_from-set base zero number (suc other ∷ numbers) point within clear at counted = absurd (omega (arith, clear zero (omega arith)))
points_from-set base (suc k) number (zero ∷ numbers) point within clear at counted =
    points_from-set (suc base) k number numbers point (omega arith) (λ j from. clear (suc j) (omega arith)) (omega arith) counted
points_from-set base (suc k) number (suc other ∷ numbers) point within clear at counted =
    ap (λ (rest : List Point). record { hart = base; number = suc other } ∷ rest)
    (points_from-set (suc base) k number numbers point (omega arith) (λ j from. clear (suc j) (omega arith)) (omega arith) counted)

points_from-put : (k number : ℕ) (numbers : List ℕ) (point : Point) → k < length numbers → ((j : ℕ) → k ≤ j → get_or numbers j 0 ≡ 0) →
    point.hart ≡ k → point.number ≡ number → 1 ≤ number →
    points_from 0 (arcs_in (set numbers k number)) ≡ points_from 0 (arcs_in numbers) ++ point ∷ []
points_from-put k zero numbers point within clear at counted some = absurd (omega arith)
points_from-put k (suc number) numbers point within clear at counted some = points_from-set 0 k number numbers point within clear (omega arith) counted

-- the summary of one more arc, which is kept where the harts rise and are below 8
pub Sums-push : (old new : ArcList) (points : List Point) (point : Point) → 1 ≤ point.number → Sums old points →
    new.rising ≡ (old.rising && leb old.next point.hart) → new.highest ≡ max old.highest point.hart → new.next ≡ point.hart + 1 →
    ((new.rising && ltb point.hart 8) ≡ true → new.numbers ≡ set old.numbers point.hart point.number) →
    ((new.rising && ltb point.hart 8) ≡ false → new.numbers ≡ old.numbers) →
    Sums new (points ++ point ∷ [])
Sums-push old new points point some sums rises high next set_there kept_there =
    let rising_is : new.rising ≡ is_rising (points ++ point ∷ []) = rises ∙ rw (sums.rising, sums.next) (sym (is_rising_push points point)) in
    let parts_of = λ (e : is_rising (points ++ point ∷ []) ≡ true). and_parts (is_rising points) (leb (next_hart points) point.hart) (sym (is_rising_push points point) ∙ e) in
    let least_of = λ (e : is_rising (points ++ point ∷ []) ≡ true). leb-true (next_hart points) point.hart (parts_of e).1 in
    let put = λ (e : is_rising (points ++ point ∷ []) ≡ true) (low : point.hart < 8). set_there (and_from new.rising (ltb point.hart 8) (rising_is ∙ e) (lt-ltb point.hart 8 low)) in
    record {
      eight = elim (cases_Bool (new.rising && ltb point.hart 8)) [
        | inl there ↦ ap length (set_there there) ∙ length-set old.numbers point.hart point.number ∙ sums.eight
        | inr not_there ↦ ap length (kept_there not_there) ∙ sums.eight
      ];
      highest = high ∙ ap (λ (n : ℕ). max n point.hart) sums.highest ∙ sym (highest_hart_push points point);
      next = next ∙ omega arith ∙ sym (next_hart_push points point);
      rising = rising_is;
      kept = λ e below.
          let most : max (highest_hart points) point.hart < 8 = rw (← highest_hart_push points point) below in
          let low : point.hart < 8 = omega arith in
          let lower : highest_hart points < 8 = omega arith in
          let long : length old.numbers ≡ 8 = sums.eight in
          let least : next_hart points ≤ point.hart = least_of e in
          ap (λ (l : List ℕ). points_from 0 (arcs_in l)) (put e low)
          ∙ points_from-put point.hart point.number old.numbers point (omega arith) (λ j from. sums.clear (parts_of e).0 j (omega arith)) refl refl some
          ∙ ap (λ (l : List Point). l ++ point ∷ []) (sums.kept (parts_of e).0 lower);
      clear = λ e hart from.
          let behind : suc point.hart ≤ hart = rw (← next_hart_push points point) from in
          let least : next_hart points ≤ point.hart = least_of e in
          let before : get_or old.numbers hart 0 ≡ 0 = sums.clear (parts_of e).0 hart (omega arith) in
          elim (cases_lt point.hart 8) [
            | inl low ↦ ap (λ (l : List ℕ). get_or l hart 0) (put e low) ∙ get_or-set_other old.numbers point.hart hart point.number 0 (omega arith) ∙ before
            | inr past ↦ ap (λ (l : List ℕ). get_or l hart 0) (kept_there (and_right new.rising (ltb point.hart 8) (le-ltb point.hart 8 past))) ∙ before
          ];
    }

-- the highest hart is past the harts of a run where one of them is
any_past_from : (harts high : ℕ) (points : List Point) →
    leb harts (fold (λ (h : ℕ) (p : Point). max h p.hart) high points) ≡ (leb harts high || list_any (λ (p : Point). leb harts p.hart) points)
any_past_from harts high [] = sym (or-false (leb harts high))
any_past_from harts high (point ∷ points) =
    rw (any_past_from harts (max high point.hart) points, le-max harts high point.hart)
    (or_assoc (leb harts high) (leb harts point.hart) (list_any (λ (p : Point). leb harts p.hart) points))
  where
    le-max : (n a b : ℕ) → leb n (max a b) ≡ (leb n a || leb n b)
    le-max n a b = same_tests (leb n (max a b)) (leb n a || leb n b)
        (λ below. let most = leb-true n (max a b) below in elim (cases_lt a n) [
          | inl less ↦ or_right (leb n a) (leb n b) (le-leb n b (omega arith))
          | inr from ↦ or_left (leb n a) (leb n b) (le-leb n a from)
        ])
        (λ either. elim (or_cases (leb n a) (leb n b) either) [
          | inl first ↦ let low = leb-true n a first in le-leb n (max a b) (omega arith)
          | inr second ↦ let low = leb-true n b second in le-leb n (max a b) (omega arith)
        ])

pub any_past : (harts : ℕ) (points : List Point) → 1 ≤ harts → leb harts (highest_hart points) ≡ list_any (λ (p : Point). leb harts p.hart) points
any_past harts points some = any_past_from harts 0 points ∙ rw (lt-leb harts 0 (omega arith)) refl

-- the arcs from a hart on, where that hart has one and where it has none
points_from_some : (numbers : List ℕ) (hart : ℕ) (point : Point) → hart < length numbers → some_number (get_or numbers hart 0) ≡ Some point.number → point.hart ≡ hart →
    points_from hart (arcs_in (drop hart numbers)) ≡ point ∷ points_from (hart + 1) (arcs_in (drop (hart + 1) numbers))
points_from_some numbers hart point within there same =
    let next : suc hart ≡ hart + 1 = omega arith in
    ap (λ (l : List ℕ). points_from hart (arcs_in l)) (drop_more numbers hart 0 within)
    ∙ ap (λ (o : Option ℕ). points_from hart (o ∷ arcs_in (drop (hart + 1) numbers))) there
    ∙ ap (λ (h : ℕ). record { hart = h; number = point.number } ∷ points_from (suc hart) (arcs_in (drop (hart + 1) numbers))) (sym same)
    ∙ ap (λ (n : ℕ). point ∷ points_from n (arcs_in (drop (hart + 1) numbers))) next

points_from_next : (numbers : List ℕ) (hart : ℕ) → hart < length numbers → some_number (get_or numbers hart 0) ≡ None →
    points_from hart (arcs_in (drop hart numbers)) ≡ points_from (hart + 1) (arcs_in (drop (hart + 1) numbers))
points_from_next numbers hart within there =
    let next : suc hart ≡ hart + 1 = omega arith in
    ap (λ (l : List ℕ). points_from hart (arcs_in l)) (drop_more numbers hart 0 within)
    ∙ ap (λ (o : Option ℕ). points_from hart (o ∷ arcs_in (drop (hart + 1) numbers))) there
    ∙ ap (λ (n : ℕ). points_from n (arcs_in (drop (hart + 1) numbers))) next

-- one hart more, in a look for an arc that fails
pub any_from : (test : Point → Bool) (numbers : List ℕ) (hart : ℕ) (bad : Bool) → hart < length numbers →
    ((number : ℕ) → some_number (get_or numbers hart 0) ≡ Some number → bad ≡ test (record { hart = hart; number = number })) → (some_number (get_or numbers hart 0) ≡ None → bad ≡ false) →
    list_any test (points_from hart (arcs_in (drop hart numbers))) ≡ (bad || list_any test (points_from (hart + 1) (arcs_in (drop (hart + 1) numbers))))
any_from test numbers hart bad within some none = by_arc (some_number (get_or numbers hart 0)) refl
  where
    by_arc : (arc : Option ℕ) → some_number (get_or numbers hart 0) ≡ arc →
        list_any test (points_from hart (arcs_in (drop hart numbers))) ≡ (bad || list_any test (points_from (hart + 1) (arcs_in (drop (hart + 1) numbers))))
    by_arc None at = rw (none at) (ap (list_any test) (points_from_next numbers hart within at))
    by_arc (Some number) at =
        rw (some number at) (ap (list_any test) (points_from_some numbers hart (record { hart = hart; number = number }) within at refl))

pub any_from_end : (test : Point → Bool) (numbers : List ℕ) (hart : ℕ) → length numbers ≤ hart → list_any test (points_from hart (arcs_in (drop hart numbers))) ≡ false
any_from_end test numbers hart past = ap (λ (l : List ℕ). list_any test (points_from hart (arcs_in l))) (drop_all hart numbers past)

-- arcs are known by the numbers of the eight harts
pub same_arcs : (arcs : List (Option ℕ)) (numbers : List ℕ) → length arcs ≡ 8 → length numbers ≡ 8 → ((k : ℕ) → k < 8 → get_or arcs k None ≡ some_number (get_or numbers k 0)) → arcs ≡ arcs_in numbers
same_arcs arcs numbers eight long each =
    ext_get_or None arcs (arcs_in numbers) (eight ∙ sym (length-map numbers some_number ∙ long)) (λ k within. each k (omega arith) ∙ sym (get_or-map k numbers (omega arith)))
  where
    get_or-map : (k : ℕ) (list : List ℕ) → k < length list → get_or (arcs_in list) k None ≡ some_number (get_or list k 0)
    get_or-map k [] within = absurd (omega arith)
    get_or-map zero (number ∷ list) within = refl
    get_or-map (suc k) (number ∷ list) within = get_or-map k list (omega arith)
