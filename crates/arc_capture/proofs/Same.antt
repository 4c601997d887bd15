-- Logs with the same records and the same arcs are one.
use Rattle.std.proofs.Common.{◌≡◌, ℕ, suc, ◌+◌, List, [], ◌∷◌, length, get_or, Option, Some, None, refl, sym, ap, ◌∙◌, subst, arith}
use mathlib.Core.Option.{some, some-injective}
use lib.ListN.{get_elem?}
use Rattle.pl_event.specs.declared.log.Line.{Line}
use Rattle.pl_event.specs.Candidates.{Shares}
use Rattle.pl_event.specs.Edges.{IsArc, arc_of}
use Rattle.pl_event.specs.Needs.{IsMost}
use Rattle.pl_event.specs.Numbers.{hart_of}
use Rattle.pl_event.specs.Records.{records_before, IsRecord}
use Rattle.pl_event.proofs.MappedPages.{line_holds}
use Rattle.pl_event.proofs.Places.{one_place}
use Rattle.pl_event.proofs.Sources.{same_most, one_most}
use Rattle.arc_reduce.specs.Drawn.{HaveEight, IsDrawn}
use Rattle.arc_reduce.specs.Reduction.{records_in}
use Rattle.arc_reduce.proofs.Matching.{no_cons, head_of, rest_of, record_same, event_same}
use Rattle.arc_reduce.proofs.Spare.{no_some}

pub shares_same : (size : ℕ) (g f : List Line) → records_in g ≡ records_in f → (u n h m : ℕ) → Shares size g u n h m → Shares size f u n h m
shares_same size g f same u n h m s = record {
  i = s.i;
  j = s.j;
  a = s.a;
  b = s.b;
  pair = record { before = s.pair.before; first = event_same g f same s.i n s.a s.pair.first; second = event_same g f same s.j m s.b s.pair.second; apart = s.pair.apart };
  first = s.first;
  second = s.second;
  block = s.block;
}

same_list : (xs ys : List (Option ℕ)) → length xs ≡ length ys → ((u : ℕ) → get_or xs u None ≡ get_or ys u None) → xs ≡ ys
same_list [] [] e each = refl
same_list [] (y ∷ ys) e each = absurd (omega arith)
same_list (x ∷ xs) [] e each = absurd (omega arith)
same_list (x ∷ xs) (y ∷ ys) e each = λ d. each 0 d ∷ same_list xs ys (omega arith) (λ u. each (suc u)) d

same_lines : (g f : List Line) → records_in g ≡ records_in f → ((i : ℕ) (l k : Line) → get_elem? g i ≡ some l → get_elem? f i ≡ some k → l.arcs ≡ k.arcs) → g ≡ f
same_lines [] [] e arcs = refl
same_lines [] (b ∷ f) e arcs = absurd (no_cons _ _ e)
same_lines (a ∷ g) [] e arcs = absurd (no_cons _ _ (sym e))
same_lines (a ∷ g) (b ∷ f) e arcs = λ d. (record { what = head_of e d; arcs = arcs 0 a b refl refl d }) ∷ same_lines g f (rest_of e) (λ i l k at there. arcs (suc i) l k at there) d

module _ (g f : List Line) (same : records_in g ≡ records_in f) (on : (u n h m : ℕ) → IsArc g u n h m → IsArc f u n h m) (i : ℕ) (l k : Line) (at : get_elem? g i ≡ some l) (there : get_elem? f i ≡ some k) where
  -- an arc of a line is one of the line there in the other log
  arc_there : (u n : ℕ) → arc_of l u ≡ Some n → arc_of k u ≡ Some n
  arc_there u n is =
      let h : ℕ = hart_of l.what in
      let m : ℕ = records_before h g i + 1 in
      let here : IsRecord g i h m l = record { at = at; hart = refl; number = refl } in
      let a : IsArc f u n h m = on u n h m (i, l, here, is) in
      let t = record_same g f same i h m l here in
      let p = one_place f h m a.0 i a.1 t.0 a.2 t.1 in
      let e : a.1 ≡ k = p.1 ∙ some-injective _ _ (sym t.1.at ∙ there) in
      sym (ap (λ (z : Line). arc_of z u) e) ∙ a.3

-- logs with the same records and the same arcs
pub one_log : (g f : List Line) → records_in g ≡ records_in f → HaveEight g → HaveEight f
    → ((u n h m : ℕ) → IsArc g u n h m → IsArc f u n h m) → ((u n h m : ℕ) → IsArc f u n h m → IsArc g u n h m) → g ≡ f
one_log g f same long tall on back = same_lines g f same (λ i l k at there. same_list l.arcs k.arcs
    (let x : length l.arcs ≡ 8 = line_holds (λ (z : Line). length z.arcs ≡ 8) g long i l at in let y : length k.arcs ≡ 8 = line_holds (λ (z : Line). length z.arcs ≡ 8) f tall i k there in omega arith)
    (λ u. by i l k at there u (arc_of l u) refl (arc_of k u) refl))
  where
    by : (i : ℕ) (l k : Line) → get_elem? g i ≡ some l → get_elem? f i ≡ some k → (u : ℕ) (o : Option ℕ) → arc_of l u ≡ o → (p : Option ℕ) → arc_of k u ≡ p → arc_of l u ≡ arc_of k u
    by i l k at there u (Some n) is p was = is ∙ sym (arc_there g f same on i l k at there u n is)
    by i l k at there u None is None was = is ∙ sym was
    by i l k at there u None is (Some n) was = absurd (no_some n is (arc_there f g (sym same) back i k l there at u n was))

-- logs with the same records have the same candidates
pub drawn_on : (size : ℕ) (g f : List Line) → records_in g ≡ records_in f → IsDrawn size g → IsDrawn size f → (u n h m : ℕ) → IsArc g u n h m → IsArc f u n h m
drawn_on size g f same drawn other u n h m a =
    let t = record_same g f same a.0 h m a.1 a.2 in
    let most : IsMost (λ k. Shares size f u k h m) (Some n) = same_most (λ k. Shares size g u k h m) (λ k. Shares size f u k h m) (λ k s. shares_same size g f same u k h m s) (λ k s. shares_same size f g (sym same) u k h m s) (Some n)
    (subst (IsMost (λ k. Shares size g u k h m)) a.3 (drawn a.0 h m a.1 a.2 u)) in
    (a.0, t.0, t.1, one_most (λ k. Shares size f u k h m) (arc_of t.0 u) (Some n) (other a.0 h m t.0 t.1 u) most)
