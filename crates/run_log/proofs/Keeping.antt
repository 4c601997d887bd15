-- What is kept of some lines goes on with the lines after them.
use Rattle.std.proofs.Common.{◌≡◌, ℕ, ◌+◌, ◌<◌, ◌≤◌, List, [], ◌∷◌, ◌++◌, append-nil, append_assoc, length, map, set, get_or-set_same, get_or-set_other, slice_index_or, Option, Some, None, inl, inr, refl, sym, ap, ◌∙◌, subst, lt_of_not-le, arith}
use Rattle.std.proofs.lemmas.List.{get_or_past}
use Rattle.std.proofs.lemmas.List.Elements.{All-from_recursion, All-push}
use mathlib.Core.Logic.{dite}
use mathlib.Core.Option.{some-ne-none}
use native.Mathlib.Decide.{dec_le}
use Rattle.pl_event.specs.declared.log.Line.{Line}
use Rattle.pl_event.specs.Edges.{Into, IsFlow, arc_of}
use Rattle.pl_event.specs.Graph.{IsClock}
use Rattle.pl_event.specs.Needs.{eight_harts}
use Rattle.pl_event.specs.Numbers.{hart_of}
use Rattle.pl_event.specs.Records.{records_before}
use Rattle.pl_event.proofs.Growth.{flow_first}
use Rattle.pl_event.proofs.Places.{before_own}
use Rattle.log_clocks.proofs.Grown.{at_end, before_same}
use Rattle.arc_reduce.specs.Reduction.{AreChosen, IsChosen, IsSpare}
use Rattle.arc_reduce.specs.Taken.{next_number, with_arcs, with_line}
use Rattle.arc_reduce.proofs.Ends.{longer}
use Rattle.arc_reduce.proofs.Longer.{longer_reduced, nothing_reduced}
use Rattle.arc_reduce.proofs.Spare.{flow_without, known_spare, no_some, spare_known}
use Rattle.arc_capture.specs.Recorded.{IsFull, IsKept}
use Rattle.arc_capture.proofs.Flow.{full_flow}
use Rattle.arc_capture.proofs.Marking.{more_full}
use Rattle.run_log.proofs.Clocks.{AreClocked, clocked}
use Rattle.run_log.proofs.Sharing.{at_eight, candidates, candidates_are, eight, past_eight}

-- which of a line's candidates are kept
module _ (harts : ℕ) (full : List Line) (line : Line) (found : List (Option ℕ)) (few : harts ≤ 8) (flow : IsFlow harts (with_line full line found)) where
  abbrev h : ℕ
  h = hart_of line.what

  abbrev m : ℕ
  m = next_number full line

  abbrev F : List Line
  F = with_line full line found

  abbrev x : Line
  x = with_arcs line found

  -- the line without its candidate from hart u
  module _ (u n : ℕ) (has : slice_index_or found u None ≡ Some n) where
    abbrev y : Line
    y = with_arcs line (set found u None)

    abbrev G : List Line
    G = full ++ y ∷ []

    without : arc_of y u ≡ None
    without = get_or-set_same found u None None (dite (dec_le (length found) u) (λ le. absurd (no_some n (get_or_past found u None le) has)) (λ no. lt_of_not-le no))

    others : (v : ℕ) → (v ≡ u → ⊥) → arc_of y v ≡ arc_of x v
    others v ne = get_or-set_other found u v None None ne

    flow_but : IsFlow harts G
    flow_but = flow_without full x y refl u n has without others harts flow

    abbrev clocks : AreClocked harts G flow_but few (length G)
    clocks = clocked harts G flow_but few

    in_log : m ≤ records_before h G (length G)
    in_log =
        let own : records_before h G (length full + 1) ≡ records_before h G (length full) + 1 = before_own G (length full) h y (at_end full y) refl in
        let same : records_before h G (length full) ≡ records_before h full (length full) = before_same full (y ∷ []) h (length full) (omega arith) in
        let long : length G ≡ length full + 1 = longer full y in
        let all : records_before h G (length G) ≡ records_before h G (length full + 1) = ap (records_before h G) long in
        omega arith

    abbrev clock : ℕ → ℕ
    clock = clocks.clock h m

    is_clock : IsClock (Into G) h m clock
    is_clock = clocks.is h m in_log

    kept_or_not : (k : Option ℕ) × IsChosen F u h m (Some n) k
    kept_or_not = dite (dec_le n (clock u))
        (λ le. (None, inr (refl, known_spare full x y refl u n has without others harts flow clock is_clock le)))
        (λ no. (Some n, inl (refl, λ spare. no (spare_known full x y refl u n has without others harts flow clock is_clock spare))))

  pub choice : (u : ℕ) → (k : Option ℕ) × IsChosen F u h m (slice_index_or found u None) k
  choice u = by (slice_index_or found u None) refl
    where
      by : (o : Option ℕ) → slice_index_or found u None ≡ o → (k : Option ℕ) × IsChosen F u h m o k
      by None e = (None, refl)
      by (Some n) e = kept_or_not u n e

  abbrev pub kept : List (Option ℕ)
  kept = map (λ u. (choice u).0) eight_harts

  pub kept_eight : length kept ≡ 8
  kept_eight = refl

  pub chosen : length found ≡ 8 → AreChosen F h m found kept
  chosen long u = dite (dec_le 8 u)
      (λ le. let none : slice_index_or found u None ≡ None = get_or_past found u None (omega arith) in
      subst (λ (o : Option ℕ). IsChosen F u h m o (slice_index_or kept u None)) (sym none) (past_eight (λ v. (choice v).0) u le))
      (λ no. subst (IsChosen F u h m (slice_index_or found u None)) (sym (at_eight (λ v. (choice v).0) u (lt_of_not-le no))) (choice u).1)

module _ (harts size : ℕ) (few : harts ≤ 8) where
  record OneMore (base : List Line) (line : Line) (lines : List Line) : Type 0 where
    marked : Line
    is : IsKept size (base ++ line ∷ []) (lines ++ marked ∷ [])

  one_more : (base : List Line) (line : Line) (lines : List Line) → IsFlow harts (base ++ line ∷ []) → IsKept size base lines → OneMore base line lines
  one_more base line lines flow is =
      let found : List (Option ℕ) = candidates size base line in
      let F : List Line = with_line is.full line found in
      let whole : IsFull size (base ++ line ∷ []) F = more_full size harts base is.full line found is.whole few flow (eight size base line) (candidates_are size base line) in
      let forward : IsFlow harts F = full_flow size harts (base ++ line ∷ []) F whole.records whole.drawn flow in
      let arcs : List (Option ℕ) = kept harts is.full line found few forward in
      record {
        marked = with_arcs line arcs;
        is = record {
          full = F;
          whole = whole;
          reduced = longer_reduced harts lines is.full line found arcs forward is.reduced (chosen harts is.full line found few forward (eight size base line));
          eight = All-push (λ (z : Line). length z.arcs ≡ 8) lines (with_arcs line arcs) is.eight (kept_eight harts is.full line found few forward);
        };
      }

  pub record GoesOn (base more lines : List Line) : Type 0 where
    pub later : List Line
    pub is : IsKept size (base ++ more) (lines ++ later)

  pub goes_on : (more base lines : List Line) → IsFlow harts (base ++ more) → IsKept size base lines → GoesOn base more lines
  goes_on [] base lines flow is = record { later = []; is = subst (λ (z : List Line × List Line). IsKept size z.0 z.1) (λ d. (sym (append-nil base) d, sym (append-nil lines) d)) is }
  goes_on (x ∷ more) base lines flow is =
      let flow' : IsFlow harts ((base ++ x ∷ []) ++ more) = subst (IsFlow harts) (sym (append_assoc base (x ∷ []) more)) flow in
      let a : OneMore base x lines = one_more base x lines (flow_first harts (base ++ x ∷ []) more flow') is in
      let r : GoesOn (base ++ x ∷ []) more (lines ++ a.marked ∷ []) = goes_on more (base ++ x ∷ []) (lines ++ a.marked ∷ []) flow' a.is in
      record {
        later = a.marked ∷ r.later;
        is = subst (λ (z : List Line × List Line). IsKept size z.0 z.1) (λ d. (append_assoc base (x ∷ []) more d, append_assoc lines (a.marked ∷ []) r.later d)) r.is;
      }

pub nothing_kept : (size : ℕ) → IsKept size [] []
nothing_kept size = record {
  full = [];
  whole = record {
    records = refl;
    drawn = λ i h m line is. absurd (some-ne-none line (sym is.at));
    eight = All-from_recursion (λ (z : Line). length z.arcs ≡ 8) [] tt;
  };
  reduced = nothing_reduced;
  eight = All-from_recursion (λ (z : Line). length z.arcs ≡ 8) [] tt;
}
