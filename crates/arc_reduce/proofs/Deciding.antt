-- What a reducer's heads and clocks tell of the next line.
use Rattle.std.proofs.Common.{inl, inr, ◌≡◌, ℕ, ◌+◌, ◌^◌, ◌<◌, ◌≤◌, ◌++◌, List, [], ◌∷◌, length, slice_index, slice_index_or, set, get_or-set_same, get_or-set_other, Option, Some, None, refl, sym, ap, ◌∙◌, subst, arith, lt_of_not-le}
use Rattle.std.proofs.lemmas.List.{get_or_past}
use mathlib.Core.Logic.{dite}
use native.Mathlib.Decide.{dec_le}
use Rattle.pl_event.specs.declared.log.Line.{Line}
use Rattle.pl_event.specs.Edges.{Into, IsFlow, arc_of}
use Rattle.pl_event.specs.Graph.{Path, Reach, one, more, IsClock}
use Rattle.pl_event.specs.Heads.{IsNext, Tells}
use Rattle.pl_event.specs.Numbers.{hart_of}
use Rattle.pl_event.specs.Records.{records_before}
use Rattle.pl_event.proofs.Before.{room}
use Rattle.pl_event.proofs.Places.{before_most}
use Rattle.log_clocks.specs.Clocks.{slots, known, HasClocks}
use Rattle.log_clocks.proofs.Grown.{at_end, before_same, tells_on, clocks_on}
use Rattle.arc_reduce.specs.declared.reducer.Reducer.{Reducer}
use Rattle.arc_reduce.specs.Reduction.{IsSpare, IsChosen}
use Rattle.arc_reduce.specs.Taken.{MayTake, with_arcs, with_line, next_number}
use Rattle.arc_reduce.proofs.Ends.{number, last_record, longer, next_line}
use Rattle.arc_reduce.proofs.Spare.{no_some, spare_of, flow_without, known_spare, spare_known}

-- there is room for one line more
pub record HasRoom (r : Reducer) (h : ℕ) : Type 0 where
  pub hart : h < 8
  pub records : slice_index r.heads.records h + 1 < 2 ^ 32
  pub place : r.heads.place + 1 < 2 ^ 32
  pub events : slice_index r.heads.events h + 1 < 2 ^ 32
  pub slots : length (slots r.clocks h) + 1 < 2 ^ 32

module _ (r : Reducer) (full : List Line) (line : Line) (candidates : List (Option ℕ)) (may : MayTake r full line candidates) where
  abbrev F : List Line
  F = with_line full line candidates

  tells : (y : Line) → Tells r.heads (full ++ y ∷ []) (length full)
  tells y = tells_on full (y ∷ []) r.heads may.taken.heads

  pub has_room : (h : ℕ) → h ≡ hart_of line.what → HasRoom r h
  has_room h e =
      let t = room r.harts F may.flow may.harts (let l : length F ≡ length full + 1 = longer full (with_arcs line candidates) in let f : length full < 16000000 = may.few in omega arith) r.heads (length full) (with_arcs line candidates) (tells (with_arcs line candidates)) (at_end full (with_arcs line candidates)) in
      let n : length (slots r.clocks (hart_of line.what)) ≡ records_before (hart_of line.what) full (length full) = may.taken.clocks.numbers (hart_of line.what) t.0 in
      let b : records_before (hart_of line.what) full (length full) ≤ length full = before_most full (hart_of line.what) (length full) in
      let f : length full < 16000000 = may.few in
      subst (HasRoom r) (sym e) (record { hart = t.0; records = t.1; place = t.2; events = t.3; slots = omega arith })

  -- the line with some arcs, as the next of a log that begins with the lines taken
  module _ (arcs : List (Option ℕ)) (flow : IsFlow r.harts (full ++ with_arcs line arcs ∷ [])) (h : ℕ) (own : h ≡ hart_of line.what) where
    abbrev G : List Line
    G = full ++ with_arcs line arcs ∷ []

    pub told : Tells r.heads G (length full)
    told = tells (with_arcs line arcs)

    pub clocked : HasClocks r.clocks G (length full)
    clocked = clocks_on r.harts full (with_arcs line arcs ∷ []) flow r.clocks may.taken.clocks

    pub next : IsNext G (length full) h (with_arcs line arcs)
    next = subst (λ (z : ℕ). IsNext G (length full) z (with_arcs line arcs)) (sym own) (next_line full (with_arcs line arcs))

    pub number_is : records_before h G (length full) + 1 ≡ next_number full line
    number_is = ap (λ (z : ℕ). records_before z G (length full) + 1) own ∙ ap (λ (z : ℕ). z + 1) (before_same full (with_arcs line arcs ∷ []) (hart_of line.what) (length full) (omega arith))

  -- the line without its candidate from hart u
  module _ (u n : ℕ) (has : slice_index_or candidates u None ≡ Some n) (arcs : List (Option ℕ)) (is : arcs ≡ set candidates u None) where
    abbrev x : Line
    x = with_arcs line candidates

    abbrev y : Line
    y = with_arcs line arcs

    none : arc_of y u ≡ None
    none = ap (λ (z : List (Option ℕ)). slice_index_or z u None) is ∙ get_or-set_same candidates u None None low
      where
        low : u < length candidates
        low = dite (dec_le (length candidates) u) (λ le. absurd (no_some n (get_or_past candidates u None le) has)) (λ no. lt_of_not-le no)

    others : (v : ℕ) → (v ≡ u → ⊥) → arc_of y v ≡ arc_of x v
    others v ne = ap (λ (z : List (Option ℕ)). slice_index_or z v None) is ∙ get_or-set_other candidates u v None None ne

    pub flow_but : IsFlow r.harts (full ++ y ∷ [])
    flow_but = flow_without full x y refl u n has none others r.harts may.flow

    source : (u < r.harts) × (u ≡ hart_of line.what → ⊥) × (1 ≤ n)
    source =
        let a = may.flow.arcs (length full) (hart_of line.what) (number full x) x (last_record full x) u n has in
        (a.0, a.1, a.2)

    -- it is of another hart
    pub apart : (h : ℕ) → h ≡ hart_of line.what → u ≡ h → ⊥
    apart h own e = source.1 (e ∙ own)

    -- what the hart's last record knows
    pub is_spare_before : (h : ℕ) (own : h ≡ hart_of line.what) → n ≤ known r.clocks h (length (slots r.clocks h)) u → IsSpare F u n h (next_number full line)
    is_spare_before h own l = subst (λ (z : ℕ). IsSpare F u n z (next_number full line)) (sym own) (spare_of full x y refl u n has none others path)
      where
        G : List Line
        G = full ++ y ∷ []

        m : ℕ
        m = records_before h G (length full)

        has_clocks : HasClocks r.clocks G (length full)
        has_clocks = clocked arcs flow_but h own

        count : length (slots r.clocks h) ≡ m
        count = has_clocks.numbers h (has_room h own).hart

        on : Reach (Into G) u n h m → Path (Into G) u n h (m + 1)
        on (inl s) = one (inl (s.0, ap (λ (z : ℕ). z + 1) s.1))
        on (inr p) = more p (inl (refl, refl))

        known_path : Path (Into G) u n h (m + 1)
        known_path = on ((has_clocks.right h m (omega arith)).told u n source.2 (subst (λ (z : ℕ). n ≤ known r.clocks h z u) count l))

        path : Path (Into G) u n (hart_of line.what) (next_number full line)
        path = subst (λ (z : ℕ × ℕ). Path (Into G) u n z.0 z.1) (λ d. (own d, number_is arcs flow_but h own d)) known_path

    module _ (h : ℕ) (own : h ≡ hart_of line.what) (clock : ℕ → ℕ) (clocks : IsClock (Into (full ++ y ∷ [])) h (records_before h (full ++ y ∷ []) (length full) + 1) clock) where
      here : IsClock (Into (full ++ y ∷ [])) (hart_of line.what) (next_number full line) clock
      here = subst (λ (z : ℕ × ℕ). IsClock (Into (full ++ y ∷ [])) z.0 z.1 clock) (λ d. (own d, number_is arcs flow_but h own d)) clocks

      pub is_spare_by : n ≤ clock u → IsSpare F u n h (next_number full line)
      is_spare_by l = subst (λ (z : ℕ). IsSpare F u n z (next_number full line)) (sym own) (known_spare full x y refl u n has none others r.harts may.flow clock here l)

      pub is_not_spare_by : clock u < n → IsSpare F u n h (next_number full line) → ⊥
      is_not_spare_by l p =
          let k : n ≤ clock u = spare_known full x y refl u n has none others r.harts may.flow clock here (subst (λ (z : ℕ). IsSpare F u n z (next_number full line)) own p) in
          omega arith

  -- beyond the harts of the run there is no candidate
  pub past_chosen : (h m v : ℕ) (k : Option ℕ) → r.harts ≤ v → k ≡ None → IsChosen F v h m (slice_index_or candidates v None) k
  past_chosen h m v k le none = by (slice_index_or candidates v None) refl
    where
      by : (o : Option ℕ) → slice_index_or candidates v None ≡ o → IsChosen F v h m o k
      by None e = none
      by (Some n) e =
          let t = may.flow.arcs (length full) (hart_of line.what) (number full (with_arcs line candidates)) (with_arcs line candidates) (last_record full (with_arcs line candidates)) v n e in
          let b : v < r.harts = t.0 in
          absurd (omega arith)
