-- The edits of the list of holes, each seen as a prefix, one hole and the rest.
use Rattle.std.proofs.Common.{◌≡◌, ℕ, zero, suc, ◌+◌, ◌-◌, ◌<◌, ◌≤◌, ◌⊎◌, inl, inr, List, [], ◌∷◌, ◌++◌, length, get_or, set, take, drop, insert, remove, arith, sym, ap, ◌∙◌, subst}
use Rattle.std.proofs.lemmas.Bool.{cases_lt}
use Rattle.std.proofs.lemmas.List.{take-append-drop, drop_more, set_split, take_more_set, drop-set-lt, append_assoc, length-take-le, get_or-take, get_or_default, drop_all}
use Rattle.guest_heap.specs.declared.holes.Hole.{Hole}
use Rattle.guest_heap.specs.Holes.{IsApart, In, AllIn, Loses, Gains, start_of, end_of, room}
use Rattle.guest_heap.proofs.Apart.{after, apart_front, apart_rest, apart_join, apart_lower, in_front, in_rest, in_split, in_above, in_below, after_below, starts_above, starts_rise, in_one}

-- the start of a hole is taken, or the whole of it
pub loses_front : (front rest : List Hole) (hole : Hole) (need : ℕ) → IsApart 0 (front ++ hole ∷ rest) → hole.start + need < hole.end →
    Loses (front ++ hole ∷ rest) (front ++ record { start = hole.start + need; end = hole.end } ∷ rest) hole.start need
loses_front front rest hole need apart short =
    let first = apart_front 0 front (hole ∷ rest) apart in
    let then = apart_rest 0 front (hole ∷ rest) apart in
    let cut : Hole = record { start = hole.start + need; end = hole.end } in
    record {
      apart = apart_join 0 front (cut ∷ rest) first (omega (arith, then.0), short, then.2);
      only = λ unit is_in. elim (in_split front (cut ∷ rest) unit is_in) [
        | inl early ↦ in_front front (hole ∷ rest) unit early
        | inr (inl here) ↦ in_rest front (hole ∷ rest) unit (inl (omega (arith, here.0), here.1))
        | inr (inr later) ↦ in_rest front (hole ∷ rest) unit (inr later)
      ];
      gone = λ unit is_in from before. elim (in_split front (cut ∷ rest) unit is_in) [
        | inl early ↦ omega (arith, in_below 0 front unit first early, then.0, from)
        | inr (inl here) ↦ omega (arith, here.0, before)
        | inr (inr later) ↦ omega (arith, in_above (hole.end + 1) rest unit then.2 later, before, short)
      ];
      kept = λ unit is_in out. elim (in_split front (hole ∷ rest) unit is_in) [
        | inl early ↦ in_front front (cut ∷ rest) unit early
        | inr (inl here) ↦ in_rest front (cut ∷ rest) unit (elim out [ inl below ↦ absurd (omega (arith, below, here.0)) | inr above ↦ inl (above, here.1) ])
        | inr (inr later) ↦ in_rest front (cut ∷ rest) unit (inr later)
      ];
    }

pub loses_whole : (front rest : List Hole) (hole : Hole) (need : ℕ) → IsApart 0 (front ++ hole ∷ rest) → hole.end - hole.start ≡ need →
    Loses (front ++ hole ∷ rest) (front ++ rest) hole.start need
loses_whole front rest hole need apart same =
    let first = apart_front 0 front (hole ∷ rest) apart in
    let then = apart_rest 0 front (hole ∷ rest) apart in
    record {
      apart = apart_join 0 front rest first (apart_lower (hole.end + 1) (after 0 front) rest (omega (arith, then.0, then.1)) then.2);
      only = λ unit is_in. elim (in_split front rest unit is_in) [
        | inl early ↦ in_front front (hole ∷ rest) unit early
        | inr later ↦ in_rest front (hole ∷ rest) unit (inr later)
      ];
      gone = λ unit is_in from before. elim (in_split front rest unit is_in) [
        | inl early ↦ omega (arith, in_below 0 front unit first early, then.0, from)
        | inr later ↦ omega (arith, in_above (hole.end + 1) rest unit then.2 later, before, then.1, same)
      ];
      kept = λ unit is_in out. elim (in_split front (hole ∷ rest) unit is_in) [
        | inl early ↦ in_front front rest unit early
        | inr (inl here) ↦ elim out [ inl below ↦ absurd (omega (arith, below, here.0)) | inr above ↦ absurd (omega (arith, above, here.1, then.1, same)) ]
        | inr (inr later) ↦ in_rest front rest unit later
      ];
    }

-- units become a hole of their own
pub gains_alone : (front rest : List Hole) (start end : ℕ) → IsApart 0 (front ++ rest) → after 0 front ≤ start → start < end → IsApart (end + 1) rest →
    Gains (front ++ rest) (front ++ record { start = start; end = end } ∷ rest) start end
gains_alone front rest start end apart below some above =
    let hole : Hole = record { start = start; end = end } in
    record {
      apart = apart_join 0 front (hole ∷ rest) (apart_front 0 front rest apart) (below, some, above);
      only = λ unit is_in. elim (in_split front (hole ∷ rest) unit is_in) [
        | inl early ↦ inl (in_front front rest unit early)
        | inr (inl here) ↦ inr here
        | inr (inr later) ↦ inl (in_rest front rest unit later)
      ];
      kept = λ unit is_in. elim (in_split front rest unit is_in) [
        | inl early ↦ in_front front (hole ∷ rest) unit early
        | inr later ↦ in_rest front (hole ∷ rest) unit (inr later)
      ];
      added = λ unit from before. in_rest front (hole ∷ rest) unit (inl (from, before));
    }

-- units lengthen the hole before or after them, or close the gap between two
pub gains_joined : (front rest : List Hole) (hole joined : Hole) (start end : ℕ) → IsApart 0 (front ++ hole ∷ rest) → IsApart (after 0 front) (joined ∷ rest) →
    ((unit : ℕ) → hole.start ≤ unit → unit < hole.end → (joined.start ≤ unit) × (unit < joined.end)) →
    ((unit : ℕ) → start ≤ unit → unit < end → (joined.start ≤ unit) × (unit < joined.end)) →
    ((unit : ℕ) → joined.start ≤ unit → unit < joined.end → ((hole.start ≤ unit) × (unit < hole.end)) ⊎ ((start ≤ unit) × (unit < end))) →
    Gains (front ++ hole ∷ rest) (front ++ joined ∷ rest) start end
gains_joined front rest hole joined start end apart then old new only = record {
  apart = apart_join 0 front (joined ∷ rest) (apart_front 0 front (hole ∷ rest) apart) then;
  only = λ unit is_in. elim (in_split front (joined ∷ rest) unit is_in) [
    | inl early ↦ inl (in_front front (hole ∷ rest) unit early)
    | inr (inl here) ↦ elim (only unit here.0 here.1) [ inl was ↦ inl (in_rest front (hole ∷ rest) unit (inl was)) | inr is ↦ inr is ]
    | inr (inr later) ↦ inl (in_rest front (hole ∷ rest) unit (inr later))
  ];
  kept = λ unit is_in. elim (in_split front (hole ∷ rest) unit is_in) [
    | inl early ↦ in_front front (joined ∷ rest) unit early
    | inr (inl here) ↦ in_rest front (joined ∷ rest) unit (inl (old unit here.0 here.1))
    | inr (inr later) ↦ in_rest front (joined ∷ rest) unit (inr later)
  ];
  added = λ unit from before. in_rest front (joined ∷ rest) unit (inl (new unit from before));
}

pub gains_both : (front rest : List Hole) (low high : Hole) (start end : ℕ) → IsApart 0 (front ++ low ∷ high ∷ rest) → low.end ≡ start → start < end → high.start ≡ end →
    Gains (front ++ low ∷ high ∷ rest) (front ++ record { start = low.start; end = high.end } ∷ rest) start end
gains_both front rest low high start end apart touches some touched =
    let joined : Hole = record { start = low.start; end = high.end } in
    let then = apart_rest 0 front (low ∷ high ∷ rest) apart in
    record {
      apart = apart_join 0 front (joined ∷ rest) (apart_front 0 front (low ∷ high ∷ rest) apart) (then.0, omega (arith, then.1, then.2.0, then.2.1), then.2.2);
      only = λ unit is_in. elim (in_split front (joined ∷ rest) unit is_in) [
        | inl early ↦ inl (in_front front (low ∷ high ∷ rest) unit early)
        | inr (inl here) ↦
            elim (cases_lt unit start) [
              | inl below ↦ inl (in_rest front (low ∷ high ∷ rest) unit (inl (here.0, omega (arith, below, touches))))
              | inr from ↦ elim (cases_lt unit end) [
                | inl before ↦ inr (from, before)
                | inr past ↦ inl (in_rest front (low ∷ high ∷ rest) unit (inr (inl (omega (arith, past, touched), here.1))))
              ]
            ]
        | inr (inr later) ↦ inl (in_rest front (low ∷ high ∷ rest) unit (inr (inr later)))
      ];
      kept = λ unit is_in. elim (in_split front (low ∷ high ∷ rest) unit is_in) [
        | inl early ↦ in_front front (joined ∷ rest) unit early
        | inr (inl here) ↦ in_rest front (joined ∷ rest) unit (inl (here.0, omega (arith, here.1, touches, some, touched, then.2.1)))
        | inr (inr (inl here)) ↦ in_rest front (joined ∷ rest) unit (inl (omega (arith, here.0, touches, some, touched, then.1), here.1))
        | inr (inr (inr later)) ↦ in_rest front (joined ∷ rest) unit (inr later)
      ];
      added = λ unit from before. in_rest front (joined ∷ rest) unit (inl (omega (arith, from, touches, then.1), omega (arith, before, touched, then.2.1)));
    }

-- a list at one of its places
pub split_at : (holes : List Hole) (i : ℕ) (other : Hole) → i < length holes → holes ≡ take i holes ++ (get_or holes i other ∷ drop (i + 1) holes)
split_at holes i other within = sym (take-append-drop i holes) ∙ ap (λ rest. take i holes ++ rest) (drop_more holes i other within)

pub set_is : (holes : List Hole) (i : ℕ) (hole : Hole) → i < length holes → set holes i hole ≡ take i holes ++ (hole ∷ drop (i + 1) holes)
set_is holes i hole within = let e : suc i ≡ i + 1 = omega arith in set_split holes i hole within ∙ ap (λ n. take i holes ++ (hole ∷ drop n holes)) e

pub set_remove_is : (holes : List Hole) (i next : ℕ) (hole : Hole) → i < length holes → next ≡ i + 1 → remove (set holes i hole) next ≡ take i holes ++ (hole ∷ drop (i + 1 + 1) holes)
set_remove_is holes i next hole within is =
    let front : take next (set holes i hole) ≡ take i holes ++ hole ∷ [] = ap (λ n. take n (set holes i hole)) is ∙ take_more_set holes i hole within in
    let rest : drop (suc next) (set holes i hole) ≡ drop (i + 1 + 1) holes = (let e : suc next ≡ i + 1 + 1 = omega arith in drop-set-lt (suc next) holes i hole (omega arith) ∙ ap (λ n. drop n holes) e) in
    rw (front, rest) (append_assoc (take i holes) (hole ∷ []) (drop (i + 1 + 1) holes))

pub remove_is : (holes : List Hole) (i : ℕ) → remove holes i ≡ take i holes ++ drop (i + 1) holes
remove_is holes i = let e : suc i ≡ i + 1 = omega arith in ap (λ n. take i holes ++ drop n holes) e

-- the prefix before a place, where each hole ends below a unit
pub front_below : (holes : List Hole) (i unit : ℕ) → i ≤ length holes → ((k : ℕ) → k < i → end_of holes k < unit) → after 0 (take i holes) ≤ unit
front_below holes i unit within ends =
    let long : length (take i holes) ≡ i = length-take-le i holes within in
    after_below 0 unit (take i holes) (omega arith) (λ k below.
    let under : k < i = omega (arith, below, long) in
    let same : end_of (take i holes) k ≡ end_of holes k = ap (λ (hole : Hole). hole.end) (get_or-take i holes k _ under) in
    omega (arith, same, ends k under))

-- the hole at a place, as it was read
pub read_start : (holes : List Hole) (i : ℕ) (hole : Hole) → hole ≡ get_or holes i hole → i < length holes → start_of holes i ≡ hole.start
read_start holes i hole read within = ap (λ (h : Hole). h.start) (get_or_default holes i _ hole within ∙ sym read)

pub read_end : (holes : List Hole) (i : ℕ) (hole : Hole) → hole ≡ get_or holes i hole → i < length holes → end_of holes i ≡ hole.end
read_end holes i hole read within = ap (λ (h : Hole). h.end) (get_or_default holes i _ hole within ∙ sym read)

pub in_at : (holes : List Hole) (i unit : ℕ) → i < length holes → start_of holes i ≤ unit → unit < end_of holes i → In holes unit
in_at [] i unit within from before = absurd (omega arith)
in_at (hole ∷ holes) zero unit within from before = inl (from, before)
in_at (hole ∷ holes) (suc i) unit within from before = inr (in_at holes i unit (omega arith) from before)

pub not_empty : (from : ℕ) (holes : List Hole) (i : ℕ) → IsApart from holes → i < length holes → start_of holes i < end_of holes i
not_empty from [] i apart within = absurd (omega arith)
not_empty from (hole ∷ holes) zero apart within = apart.1
not_empty from (hole ∷ holes) (suc i) apart within = not_empty (hole.end + 1) holes i apart.2 (omega arith)

-- the next hole does not touch
pub gap : (from : ℕ) (holes : List Hole) (i next : ℕ) → IsApart from holes → next ≡ i + 1 → next < length holes → end_of holes i < start_of holes next
gap from [] i next apart is within = absurd (omega arith)
gap from (hole ∷ holes) zero zero apart is within = absurd (omega arith)
gap from (hole ∷ holes) zero (suc next) apart is within = omega (arith, starts_above (hole.end + 1) holes next apart.2 (omega arith))
gap from (hole ∷ holes) (suc i) zero apart is within = absurd (omega arith)
gap from (hole ∷ holes) (suc i) (suc next) apart is within = gap (hole.end + 1) holes i next apart.2 (omega arith) (omega arith)

-- the rest of the list lies above
pub rest_above : (holes : List Hole) (i end : ℕ) → IsApart 0 holes → (i < length holes → end < start_of holes i) → IsApart (end + 1) (drop i holes)
rest_above holes i end apart above =
    elim (cases_lt i (length holes)) [
      | inl within ↦
          let other : Hole = record { start = 0; end = 0 } in
          let is : drop i holes ≡ get_or holes i other ∷ drop (i + 1) holes = drop_more holes i other within in
          let then : IsApart (after 0 (take i holes)) (drop i holes) = apart_rest 0 (take i holes) (drop i holes) (rw (take-append-drop i holes) apart) in
          let parts : IsApart (after 0 (take i holes)) (get_or holes i other ∷ drop (i + 1) holes) = subst (λ xs. IsApart (after 0 (take i holes)) xs) is then in
          let over = above within in
          subst (λ xs. IsApart (end + 1) xs) (sym is) (omega (arith, over), parts.1, parts.2)
      | inr past ↦ subst (λ xs. IsApart (end + 1) xs) (sym (drop_all i holes past)) tt
    ]

pub whole_apart : (holes : List Hole) (i : ℕ) → IsApart 0 holes → IsApart 0 (take i holes ++ drop i holes)
whole_apart holes i apart = rw (take-append-drop i holes) apart

-- units that touch no hole
pub gain_alone : (holes : List Hole) (i start end : ℕ) → IsApart 0 holes → i ≤ length holes → ((k : ℕ) → k < i → end_of holes k < start) → start < end →
    (i < length holes → end < start_of holes i) → Gains holes (insert holes i (record { start = start; end = end })) start end
gain_alone holes i start end apart within ends some above =
    subst (λ old. Gains old (insert holes i (record { start = start; end = end })) start end) (take-append-drop i holes)
    (gains_alone (take i holes) (drop i holes) start end (whole_apart holes i apart) (front_below holes i start within ends) some (rest_above holes i end apart above))

-- the list split at a place, with what is known there
pub splits : (holes : List Hole) (i : ℕ) (hole : Hole) → i < length holes → hole ≡ get_or holes i hole → holes ≡ take i holes ++ (hole ∷ drop (i + 1) holes)
splits holes i hole within read = split_at holes i hole within ∙ ap (λ h. take i holes ++ (h ∷ drop (i + 1) holes)) (sym read)

split_apart : (holes : List Hole) (i : ℕ) (hole : Hole) → IsApart 0 holes → i < length holes → hole ≡ get_or holes i hole → IsApart 0 (take i holes ++ (hole ∷ drop (i + 1) holes))
split_apart holes i hole apart within read = subst (IsApart 0) (splits holes i hole within read) apart

-- units that touch the next hole alone
pub gain_low : (holes : List Hole) (i start end : ℕ) (hole : Hole) → IsApart 0 holes → i < length holes → hole ≡ get_or holes i hole → ((k : ℕ) → k < i → end_of holes k < start) → start < end →
    hole.start ≡ end → Gains holes (set holes i (record { start = start; end = hole.end })) start end
gain_low holes i start end hole apart within read ends some touches =
    let joined : Hole = record { start = start; end = hole.end } in
    let whole = split_apart holes i hole apart within read in
    let then : IsApart (after 0 (take i holes)) (hole ∷ drop (i + 1) holes) = apart_rest 0 (take i holes) (hole ∷ drop (i + 1) holes) whole in
    subst (λ old. Gains old (set holes i joined) start end) (sym (splits holes i hole within read))
    (subst (λ new. Gains (take i holes ++ (hole ∷ drop (i + 1) holes)) new start end) (sym (set_is holes i joined within))
    (gains_joined (take i holes) (drop (i + 1) holes) hole joined start end whole
    (front_below holes i start (omega arith) ends, omega (arith, then.1, touches, some), then.2)
    (λ unit from before. (omega arith, before))
    (λ unit from before. (from, omega (arith, then.1, touches)))
    (λ unit from before. elim (cases_lt unit end) [ inl under ↦ inr (from, under) | inr over ↦ inl (omega arith, before) ])))

-- units that touch the hole before them alone
pub gain_high : (holes : List Hole) (i start end : ℕ) (hole : Hole) → IsApart 0 holes → i < length holes → hole ≡ get_or holes i hole → start < end →
    hole.end ≡ start → (i + 1 < length holes → end < start_of holes (i + 1)) → Gains holes (set holes i (record { start = hole.start; end = end })) start end
gain_high holes i start end hole apart within read some touches above =
    let joined : Hole = record { start = hole.start; end = end } in
    let whole = split_apart holes i hole apart within read in
    let then : IsApart (after 0 (take i holes)) (hole ∷ drop (i + 1) holes) = apart_rest 0 (take i holes) (hole ∷ drop (i + 1) holes) whole in
    subst (λ old. Gains old (set holes i joined) start end) (sym (splits holes i hole within read))
    (subst (λ new. Gains (take i holes ++ (hole ∷ drop (i + 1) holes)) new start end) (sym (set_is holes i joined within))
    (gains_joined (take i holes) (drop (i + 1) holes) hole joined start end whole
    (then.0, omega (arith, then.1, touches, some), rest_above holes (i + 1) end apart above)
    (λ unit from before. (from, omega arith))
    (λ unit from before. (omega (arith, then.1, touches), before))
    (λ unit from before. elim (cases_lt unit start) [ inl under ↦ inl (from, omega arith) | inr over ↦ inr (over, before) ])))

-- units that close the gap between two holes
pub gain_both : (holes : List Hole) (i next start end : ℕ) (low high : Hole) → IsApart 0 holes → next ≡ i + 1 → next < length holes → low ≡ get_or holes i low → high ≡ get_or holes next high → start < end →
    low.end ≡ start → high.start ≡ end → Gains holes (remove (set holes i (record { start = low.start; end = high.end })) next) start end
gain_both holes i next start end low high apart is within read_low read_high some touches touched =
    let joined : Hole = record { start = low.start; end = high.end } in
    let inside : i < length holes = omega arith in
    let second : drop (i + 1) holes ≡ high ∷ drop (i + 1 + 1) holes =
    ap (λ n. drop n holes) (sym is) ∙ drop_more holes next high within ∙ ap (λ h. h ∷ drop (next + 1) holes) (sym read_high) ∙ ap (λ n. high ∷ drop (n + 1) holes) is in
    let both : holes ≡ take i holes ++ (low ∷ high ∷ drop (i + 1 + 1) holes) = splits holes i low inside read_low ∙ ap (λ xs. take i holes ++ (low ∷ xs)) second in
    subst (λ old. Gains old (remove (set holes i joined) next) start end) (sym both)
    (subst (λ new. Gains (take i holes ++ (low ∷ high ∷ drop (i + 1 + 1) holes)) new start end) (sym (set_remove_is holes i next joined inside is))
    (gains_both (take i holes) (drop (i + 1 + 1) holes) low high start end (subst (IsApart 0) both apart) touches some touched))

-- a hole that units reach and that holds none of them ends where they start, unless it starts where they end
pub touch : (holes : List Hole) (i start end : ℕ) → IsApart 0 holes → i < length holes → start < end → start ≤ end_of holes i → start_of holes i < end →
    ((unit : ℕ) → start ≤ unit → unit < end → In holes unit → ⊥) → end_of holes i ≡ start
touch holes i start end apart within some reaches reached none =
    let filled = not_empty 0 holes i apart within in
    elim (cases_lt start (end_of holes i)) [
      | inl over ↦
          elim (cases_lt start (start_of holes i)) [
            | inl later ↦ absurd (none (start_of holes i) (omega arith) reached (in_at holes i (start_of holes i) within (omega arith) filled))
            | inr from ↦ absurd (none start (omega arith) some (in_at holes i start within from over))
          ]
      | inr same ↦ omega arith
    ]

-- the hole after it starts where they end, or after
pub behind : (holes : List Hole) (i next start end : ℕ) → IsApart 0 holes → next ≡ i + 1 → next < length holes → end_of holes i ≡ start → start_of holes next ≤ end →
    ((unit : ℕ) → start ≤ unit → unit < end → In holes unit → ⊥) → start_of holes next ≡ end
behind holes i next start end apart is within ends by none =
    let far = gap 0 holes i next apart is within in
    elim (cases_lt (start_of holes next) end) [
      | inl under ↦ absurd (none (start_of holes next) (omega arith) under (in_at holes next (start_of holes next) within (omega arith) (not_empty 0 holes next apart within)))
      | inr over ↦ omega arith
    ]

-- a hole's start, or the whole of it, is taken
pub lose_whole : (holes : List Hole) (i need : ℕ) (hole : Hole) → IsApart 0 holes → i < length holes → hole ≡ get_or holes i hole → hole.end - hole.start ≡ need →
    Loses holes (remove holes i) hole.start need
lose_whole holes i need hole apart within read same =
    subst (λ old. Loses old (remove holes i) hole.start need) (sym (splits holes i hole within read))
    (subst (λ new. Loses (take i holes ++ (hole ∷ drop (i + 1) holes)) new hole.start need) (sym (remove_is holes i))
    (loses_whole (take i holes) (drop (i + 1) holes) hole need (split_apart holes i hole apart within read) same))

pub lose_front : (holes : List Hole) (i need : ℕ) (hole : Hole) → IsApart 0 holes → i < length holes → hole ≡ get_or holes i hole → hole.start + need < hole.end →
    Loses holes (set holes i (record { start = hole.start + need; end = hole.end })) hole.start need
lose_front holes i need hole apart within read short =
    let cut : Hole = record { start = hole.start + need; end = hole.end } in
    subst (λ old. Loses old (set holes i cut) hole.start need) (sym (splits holes i hole within read))
    (subst (λ new. Loses (take i holes ++ (hole ∷ drop (i + 1) holes)) new hole.start need) (sym (set_is holes i cut within))
    (loses_front (take i holes) (drop (i + 1) holes) hole need (split_apart holes i hole apart within read) short))

-- the first hole with room starts lowest of all places for so many units
pub lowest_place : (holes : List Hole) (i need unit : ℕ) → IsApart 0 holes → i < length holes → 0 < need → ((k : ℕ) → k < i → room holes k < need) → AllIn holes unit need → start_of holes i ≤ unit
lowest_place holes i need unit apart within some shorts all =
    let found = in_one 0 holes unit need apart some all in
    elim (cases_lt found.0 i) [
      | inl early ↦ absurd (omega (arith, shorts found.0 early, found.3))
      | inr later ↦ omega (arith, starts_rise 0 holes i found.0 apart later found.1, found.2)
    ]

-- and where no hole has room, none has a place for them
pub no_place : (holes : List Hole) (need unit : ℕ) → IsApart 0 holes → 0 < need → ((k : ℕ) → k < length holes → room holes k < need) → AllIn holes unit need → ⊥
no_place holes need unit apart some shorts all =
    let found = in_one 0 holes unit need apart some all in
    omega (arith, shorts found.0 found.1, found.3)
