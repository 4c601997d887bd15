-- Placed lines that are marked one after the other.
use Rattle.std.proofs.Common.{◌≡◌, ℕ, zero, suc, ◌+◌, ◌<◌, ◌≤◌, List, [], ◌∷◌, ◌++◌, append_assoc, length, length-append, take, drop, get_or, refl, sym, ap, ◌∙◌, subst, arith}
use mathlib.Core.Option.{some}
use lib.ListN.{get_elem?}
use Rattle.pl_event.specs.declared.log.Line.{Line}
use Rattle.pl_event.specs.Edges.{no_arcs, IsFlow}
use Rattle.pl_event.specs.Runs.{IsSoundLine}
use Rattle.pl_event.proofs.Growth.{flow_first}
use Rattle.pl_event.proofs.MappedPages.{line_holds, take_next}
use Rattle.pl_event.proofs.Places.{inside}
use Rattle.arc_capture.specs.declared.marker.Marker.{Marker}
use Rattle.arc_capture.specs.Marker.{HasMarked, MayMark}
use Rattle.arc_capture.specs.Recorder.{MayMarkAll}

split : (xs : List Line) (i : ℕ) → take i xs ++ drop i xs ≡ xs
split xs zero = refl
split [] (suc i) = refl
split (x ∷ xs) (suc i) = ap (λ (z : List Line). x ∷ z) (split xs i)

taken : (xs : List Line) (i : ℕ) → i ≤ length xs → length (take i xs) ≡ i
taken xs zero le = refl
taken [] (suc i) le = absurd (omega (arith, le))
taken (x ∷ xs) (suc i) le = ap suc (taken xs i (omega (arith, le)))

pub at_index : (xs : List Line) (i : ℕ) (d : Line) → i < length xs → d ≡ get_or xs i d → get_elem? xs i ≡ some d
at_index [] i d low e = absurd (omega (arith, low))
at_index (x ∷ xs) zero d low e = ap some (sym e)
at_index (x ∷ xs) (suc i) d low e = at_index xs i d (omega (arith, low)) e

module _ (first now : Marker) (size : ℕ) (base lines more made : List Line) (i : ℕ) (line : Line) (at : get_elem? more i ≡ some line) (same : now.reducer.harts ≡ first.reducer.harts) where
  next : take (suc i) more ≡ take i more ++ line ∷ []
  next = take_next more i line at

  prefix : (base ++ take i more) ++ line ∷ [] ≡ base ++ take (suc i) more
  prefix = append_assoc base (take i more) (line ∷ []) ∙ ap (λ (z : List Line). base ++ z) (sym next)

  pub may_mark : MayMarkAll first size base lines more → HasMarked now size (base ++ take i more) (lines ++ made) → MayMark now size (base ++ take i more) (lines ++ made) line
  may_mark may has =
      let within : i < length more = inside more i line at in
      record {
        has = has;
        few = (let a : length (base ++ take i more) ≡ length base + length (take i more) = length-append base (take i more) in
            let b : length (take i more) ≡ i = taken more i (omega (arith, within)) in
            let c : length base + length more ≤ 16000000 = may.few in
            omega arith);
        harts = (let a : first.reducer.harts ≤ 8 = may.harts in let b : now.reducer.harts ≡ first.reducer.harts = same in omega arith);
        bare = line_holds (λ (l : Line). l.arcs ≡ no_arcs) more may.bare i line at;
        sound = line_holds (IsSoundLine 8) more may.sound i line at;
        flow = subst (λ (k : ℕ). IsFlow k ((base ++ take i more) ++ line ∷ [])) (sym same) (subst (IsFlow first.reducer.harts) (sym prefix)
            (flow_first first.reducer.harts (base ++ take (suc i) more) (drop (suc i) more)
            (subst (IsFlow first.reducer.harts) (sym (append_assoc base (take (suc i) more) (drop (suc i) more) ∙ ap (λ (z : List Line). base ++ z) (split more (suc i)))) may.flow)));
      }

  pub marked_more : (after : Marker) (x : Line) → HasMarked after size ((base ++ take i more) ++ line ∷ []) ((lines ++ made) ++ x ∷ []) → HasMarked after size (base ++ take (i + 1) more) (lines ++ (made ++ x ∷ []))
  marked_more after x has =
      let up : i + 1 ≡ suc i = omega arith in
      subst (λ (z : List Line × List Line). HasMarked after size z.0 z.1) (λ d. ((prefix ∙ ap (λ (k : ℕ). base ++ take k more) (sym up)) d, append_assoc lines made (x ∷ []) d)) has
