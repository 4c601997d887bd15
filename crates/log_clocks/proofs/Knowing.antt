-- What the clock of the next record knows.
use Rattle.std.proofs.Common.{◌≡◌, ℕ, ◌+◌, ◌<◌, ◌≤◌, Bool, true, false, List, Option, Some, None, slice_index_or, eqb, eq-eqb, ne_eqb, if◌then◌else◌, refl, sym, ap, ◌∙◌, subst, inl, inr, ⊎_elim, ◌⊎◌, ◌↔◌, IsTrue, arith}
use mathlib.Core.Logic.{dite}
use native.Mathlib.Decide.{ℕ_discrete}
use Rattle.pl_event.specs.declared.log.Line.{Line}
use Rattle.pl_event.specs.Edges.{Into, IsFlow}
use Rattle.pl_event.specs.Graph.{Path, Reach, IsClock}
use Rattle.pl_event.specs.Heads.{IsNext}
use Rattle.pl_event.specs.Needs.{greatest, is_source, needs_of, IsNeed, IsMost}
use Rattle.pl_event.specs.Records.{records_before}
use Rattle.pl_event.proofs.Edges.{source_before}
use Rattle.pl_event.proofs.Paths.{joined}
use Rattle.pl_event.proofs.Sources.{need_edge, greatest_is}
use Rattle.log_clocks.specs.declared.clocks.Clocks.{Clocks}
use Rattle.log_clocks.specs.Clocks.{known, HasClocks}
use Rattle.log_clocks.specs.inner.Joins.{IsJoin, IsClosed}
use Rattle.log_clocks.proofs.Joining.{join_all}
use Rattle.log_clocks.proofs.RecordClocks.{need_at, clock_here}

-- a clock with another number for one hart
abbrev over : ℕ → ℕ → (ℕ → ℕ) → ℕ → ℕ
over h n v x = if eqb x h then n else v x

over_same : (h n : ℕ) (v : ℕ → ℕ) → over h n v h ≡ n
over_same h n v = ap (λ (b : Bool). if b then n else v h) (eq-eqb h h refl)

over_other : (h n : ℕ) (v : ℕ → ℕ) (x : ℕ) → (x ≡ h → ⊥) → over h n v x ≡ v x
over_other h n v x ne = ap (λ (b : Bool). if b then n else v x) (ne_eqb x h ne)

module _ (G : ℕ → ℕ → ℕ → ℕ → Type 0) where
  onward : (u n w k h m : ℕ) → Reach G u n w k → Reach G w k h m → Reach G u n h m
  onward u n w k h m (inl s) r = subst (λ (z : ℕ × ℕ). Reach G z.0 z.1 h m) (λ i. (sym s.0 i, sym s.1 i)) r
  onward u n w k h m (inr p) (inl s) = inr (subst (λ (z : ℕ × ℕ). Path G u n z.0 z.1) (λ i. (s.0 i, s.1 i)) p)
  onward u n w k h m (inr p) (inr q) = inr (joined G u n w k h m p q)

  -- a clock that knows a record has all that the record's clock has
  clock_within : (w k h m : ℕ) (a b : ℕ → ℕ) → IsClock G w k a → IsClock G h m b → 1 ≤ k → k ≤ b w → (u : ℕ) → a u ≤ b u
  clock_within w k h m a b x y some le u = dite (ℕ_discrete (a u) 0)
      (λ z. omega arith)
      (λ nz. y.all u (a u) (onward u (a u) w k h m (x.told u (a u) (omega arith) (omega arith)) (y.told w k some le)))

greatest_some : (test : ℕ → Bool) (n k : ℕ) → greatest test n ≡ Some k → 1 ≤ k
greatest_some test n k e = (subst (IsMost (λ x. (1 ≤ x) × (x ≤ n) × (test x ≡ true))) e (greatest_is test n)).0.0

module _ (clocks : Clocks) (harts : ℕ) (g : List Line) (flow : IsFlow harts g) (few : harts ≤ 8) (i h : ℕ) (line : Line) (next : IsNext g i h line) (has : HasClocks clocks g i) where
  abbrev m : ℕ
  m = records_before h g i

  abbrev needs : List (Option ℕ)
  needs = needs_of g h (m + 1)

  source : (w k : ℕ) → w < 8 → slice_index_or needs w None ≡ Some k → (1 ≤ k) × IsClock (Into g) w k (known clocks w k)
  source w k low e =
      let need : IsNeed g w k h (m + 1) = sym (need_at g h (m + 1) w low) ∙ e in (
        greatest_some (λ n. is_source g w n h (m + 1)) _ k need,
        has.right w k (source_before harts g flow i h (m + 1) w k line next (need_edge harts g flow w k h (m + 1) need)),
      )

  pub closed : (start : ℕ → ℕ) → ((u : ℕ) → start u ≡ known clocks h m u) → IsClosed needs (known clocks) start
  closed start same = record {
    own = λ w k low need le u. (let s = source w k low need in
        let e : start w ≡ known clocks h m w = same w in
        let l : known clocks w k u ≤ known clocks h m u = clock_within (Into g) w k h m (known clocks w k) (known clocks h m) s.1 (has.right h m (omega arith)) s.0 (omega arith) u in
        let f : start u ≡ known clocks h m u = same u in
        omega arith);
    needed = λ v n w k lv nv lw nw le u. (let s = source v n lv nv in let t = source w k lw nw in
        clock_within (Into g) w k v n (known clocks w k) (known clocks v n) t.1 s.1 t.0 le u);
  }

  -- the clock of the next record is the join, but for its own number
  pub next_clock : (start v : ℕ → ℕ) → ((u : ℕ) → start u ≡ known clocks h m u) → IsJoin needs 8 (known clocks) start v
      → (clock : ℕ → ℕ) × IsClock (Into g) h (m + 1) clock × ((u : ℕ) → (u ≡ h → ⊥) → clock u ≡ v u)
  next_clock start v same join = (
    over h (m + 1) v,
    clock_here harts g flow few i h line next (known clocks) has.right start v (over h (m + 1) v) (λ u ne. same u) join (over_same h (m + 1) v) (over_other h (m + 1) v),
    over_other h (m + 1) v,
  )

  -- whether the clock of the next record knows record n of another hart u
  module _ (given : List (Option ℕ)) (need : given ≡ needs) (start : ℕ → ℕ) (same : (x : ℕ) → start x ≡ known clocks h m x) (u n : ℕ) (other : u ≡ h → ⊥) where
    abbrev Answer : Bool → Type 0
    Answer b = (clock : ℕ → ℕ) × IsClock (Into g) h (m + 1) clock × (IsTrue b ↔ n ≤ clock u)

    all : (v : ℕ → ℕ) × IsJoin needs 8 (known clocks) start v
    all = join_all needs (known clocks) start 8

    clock : (c : ℕ → ℕ) × IsClock (Into g) h (m + 1) c × ((x : ℕ) → (x ≡ h → ⊥) → c x ≡ all.0 x)
    clock = next_clock start all.0 same all.1

    is_known : n ≤ all.0 u → Answer true
    is_known l = (clock.0, clock.1, (λ t. (let e : clock.0 u ≡ all.0 u = clock.2 u other in omega arith), λ t. refl))

    pub known_before : n ≤ start u → Answer true
    known_before l = is_known (let b : start u ≤ all.0 u = all.1.before u in omega arith)

    pub known_by : (w k : ℕ) → w < 8 → slice_index_or given w None ≡ Some k → n ≤ known clocks w k u → Answer true
    known_by w k low e l = is_known (let b : known clocks w k u ≤ all.0 u = all.1.sources w k low (ap (λ (z : List (Option ℕ)). slice_index_or z w None) (sym need) ∙ e) u in omega arith)

    pub not_known : start u < n → ((w k : ℕ) → w < 8 → slice_index_or given w None ≡ Some k → (k ≤ start w) ⊎ (known clocks w k u < n)) → Answer false
    not_known less each = (clock.0, clock.1, (λ t. absurd (let e : false ≡ true = t in cc), λ l. absurd (none (let e : clock.0 u ≡ all.0 u = clock.2 u other in omega arith))))
      where
        none : n ≤ all.0 u → ⊥
        none l = ⊎_elim
            (λ (a : n ≤ start u). omega arith)
            (λ (p : (w : ℕ) × (k : ℕ) × (w < 8) × (slice_index_or needs w None ≡ Some k) × (n ≤ known clocks w k u)). ⊎_elim
            (λ (a : p.1 ≤ start p.0). let o : known clocks p.0 p.1 u ≤ start u = (closed start same).own p.0 p.1 p.2 p.3 a u in let b : n ≤ known clocks p.0 p.1 u = p.4 in omega arith)
            (λ (a : known clocks p.0 p.1 u < n). let b : n ≤ known clocks p.0 p.1 u = p.4 in omega arith)
            (each p.0 p.1 p.2 (ap (λ (z : List (Option ℕ)). slice_index_or z p.0 None) need ∙ p.3)))
            (all.1.from u n l)
