-- Each record of a log has a clock.
use Rattle.std.proofs.Common.{◌≡◌, ℕ, zero, suc, ◌+◌, ◌<◌, ◌≤◌, ◌&&◌, ◌==◌, Bool, true, false, List, length, slice_index_or, max, Option, Some, None, refl, sym, ap, ◌∙◌, subst, eq-eqb, ne_eqb, if◌then◌else◌, arith}
use mathlib.Core.Logic.{dite}
use mathlib.Core.Option.{some}
use native.Mathlib.Decide.{ℕ_discrete}
use lib.ListN.{get_elem?}
use Rattle.pl_event.specs.declared.log.Line.{Line}
use Rattle.pl_event.specs.Edges.{Into, IsFlow}
use Rattle.pl_event.specs.Graph.{IsClock}
use Rattle.pl_event.specs.Heads.{IsNext}
use Rattle.pl_event.specs.Needs.{needs_of}
use Rattle.pl_event.specs.Numbers.{hart_of}
use Rattle.pl_event.specs.Records.{records_before}
use Rattle.pl_event.proofs.MappedPages.{line_at}
use Rattle.pl_event.proofs.Places.{before_none, before_other, before_own}
use Rattle.log_clocks.specs.inner.Joins.{IsJoin}
use Rattle.log_clocks.proofs.Joining.{join_none, join_some, join_start}
use Rattle.log_clocks.proofs.RecordClocks.{clock_here, clock_start}

-- what is needed can be joined
module _ (needs : List (Option ℕ)) (table : ℕ → ℕ → ℕ → ℕ) (start : ℕ → ℕ) where
  record Joined (b : ℕ) : Type 0 where
    clock : ℕ → ℕ
    is : IsJoin needs b table start clock

  joined : (b : ℕ) → Joined b
  joined zero = record { clock = start; is = join_start needs table start start (λ u. refl) }
  joined (suc b) = by (joined b) (slice_index_or needs b None) refl
    where
      one : b + 1 ≡ suc b
      one = omega arith

      by : Joined b → (o : Option ℕ) → slice_index_or needs b None ≡ o → Joined (suc b)
      by j None e = record { clock = j.clock; is = subst (λ (z : ℕ). IsJoin needs z table start j.clock) one (join_none needs table start b j.clock (λ k is. let s : None ≡ Some k = sym e ∙ is in cc) j.is) }
      by j (Some k) e = record { clock = λ u. max (j.clock u) (table b k u); is = subst (λ (z : ℕ). IsJoin needs z table start (λ u. max (j.clock u) (table b k u))) one (join_some needs table start b k j.clock (λ u. max (j.clock u) (table b k u)) e (λ u. refl) j.is) }

module _ (harts : ℕ) (g : List Line) (flow : IsFlow harts g) (few : harts ≤ 8) where
  -- a clock for each record among the first i lines
  pub record AreClocked (i : ℕ) : Type 0 where
    pub clock : ℕ → ℕ → ℕ → ℕ
    pub is : (h m : ℕ) → m ≤ records_before h g i → IsClock (Into g) h m (clock h m)

  none : AreClocked 0
  none = record {
    clock = λ h m u. 0;
    is = λ h m le. let z : records_before h g 0 ≡ 0 = before_none g h in
        subst (λ (x : ℕ). IsClock (Into g) h x (λ u. 0)) (let e : 0 ≡ m = omega arith in e) (clock_start harts g flow h (λ u. 0) (λ u. refl));
  }

  module _ (i : ℕ) (line : Line) (at : get_elem? g i ≡ some line) (c : AreClocked i) where
    abbrev h : ℕ
    h = hart_of line.what

    abbrev m : ℕ
    m = records_before h g i

    next : IsNext g i h line
    next = record { at = at; hart = refl; number = refl }

    abbrev join : Joined (needs_of g h (m + 1)) c.clock (c.clock h m) 8
    join = joined (needs_of g h (m + 1)) c.clock (c.clock h m) 8

    abbrev here : ℕ → ℕ
    here u = if u == h then m + 1 else join.clock u

    own : here h ≡ m + 1
    own = ap (λ (b : Bool). if b then m + 1 else join.clock h) (eq-eqb h h refl)

    other : (u : ℕ) → (u ≡ h → ⊥) → here u ≡ join.clock u
    other u ne = ap (λ (b : Bool). if b then m + 1 else join.clock u) (ne_eqb u h ne)

    here_is : IsClock (Into g) h (m + 1) here
    here_is = clock_here harts g flow few i h line next c.clock c.is (c.clock h m) join.clock here (λ u ne. refl) join.is own other

    abbrev table : ℕ → ℕ → ℕ → ℕ
    table x y = if (x == h) && (y == m + 1) then here else c.clock x y

    table_here : table h (m + 1) ≡ here
    table_here = ap (λ (b : Bool). if b && (m + 1 == m + 1) then here else c.clock h (m + 1)) (eq-eqb h h refl) ∙ ap (λ (b : Bool). if b then here else c.clock h (m + 1)) (eq-eqb (m + 1) (m + 1) refl)

    table_other : (x y : ℕ) → (x ≡ h → ⊥) → table x y ≡ c.clock x y
    table_other x y ne = ap (λ (b : Bool). if b && (y == m + 1) then here else c.clock x y) (ne_eqb x h ne)

    table_old : (y : ℕ) → (y ≡ m + 1 → ⊥) → table h y ≡ c.clock h y
    table_old y ne = ap (λ (b : Bool). if b && (y == m + 1) then here else c.clock h y) (eq-eqb h h refl) ∙ ap (λ (b : Bool). if b then here else c.clock h y) (ne_eqb y (m + 1) ne)

    one_more : AreClocked (i + 1)
    one_more = record {
      clock = table;
      is = λ x y le. dite (ℕ_discrete x h)
          (λ e. subst (λ (z : ℕ). IsClock (Into g) z y (table z y)) (sym e) (of_own y (subst (λ (z : ℕ). y ≤ records_before z g (i + 1)) e le)))
          (λ ne. subst (IsClock (Into g) x y) (sym (table_other x y ne)) (c.is x y (subst (λ (z : ℕ). y ≤ z) (before_other g i x line at (λ e. ne (sym e))) le)));
    }
      where
        of_own : (y : ℕ) → y ≤ records_before h g (i + 1) → IsClock (Into g) h y (table h y)
        of_own y le =
            let grown : records_before h g (i + 1) ≡ m + 1 = before_own g i h line at refl in
            dite (ℕ_discrete y (m + 1))
            (λ e. subst (λ (z : ℕ). IsClock (Into g) h z (table h z)) (sym e) (subst (IsClock (Into g) h (m + 1)) (sym table_here) here_is))
            (λ ne. let o : y ≡ m + 1 → ⊥ = ne in subst (IsClock (Into g) h y) (sym (table_old y ne)) (c.is h y (omega arith)))

  all_clocked : (i : ℕ) → i ≤ length g → AreClocked i
  all_clocked zero le = none
  all_clocked (suc i) le =
      let t = line_at g i (omega arith) in
      subst AreClocked (let e : i + 1 ≡ suc i = omega arith in e) (one_more i t.0 t.1 (all_clocked i (omega arith)))

  pub clocked : AreClocked (length g)
  clocked = all_clocked (length g) (omega arith)
