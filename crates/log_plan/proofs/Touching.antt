-- Which words the operations of an event are on.
use Rattle.std.proofs.Common.{◌≡◌, ◌≢◌, ℕ, zero, suc, ◌+◌, ◌-◌, ◌/◌, ◌%◌, ◌^◌, ◌⊎◌, Bool, true, false, eqb, List, [], ◌∷◌, ◌++◌, slice_get, Option, Some, None, refl, sym, ap, ◌∙◌, inl, inr, arith, eq-eqb, ne_eqb, if◌then◌else◌}
use Rattle.std.proofs.Math.Nat.{zero-div}
use mathlib.Core.Logic.{dite}
use native.Mathlib.Decide.{ℕ_discrete}
use Rattle.pl_base.specs.Widths.{store_bytes}
use Rattle.pl_event.specs.declared.event.Event.{Event}
use Rattle.pl_event.specs.declared.event.Kind.{Kind}
use Rattle.pl_event.specs.declared.event.Kind.TheVariants.{Ld, St, Op, Mv, Im, Br, Jr, Al, Fr, Bf, Mp, Um, Rd, Wr, Ex, Ft}
use Rattle.pl_event.specs.declared.log.Record.{Record}
use Rattle.pl_event.specs.declared.log.Record.TheVariants as entry
use Rattle.pl_event.specs.Runs.{IsSoundRecord}
use Rattle.pl_event.specs.Valid.{HasValidFields}
use Rattle.lifeguard.specs.Rules.{Rules}
use Rattle.lifeguard.specs.State.{Masks, State}
use Rattle.order_core.specs.declared.course.Op as course
use Rattle.order_core.specs.Lanes.{covers}
use Rattle.order_core.specs.Shapes.{Shape, fill, filled_op, after_shape}
use Rattle.shadow_frames.specs.Words.{bit}
use Rattle.shadow_frames.specs.Frames.{reads_lanes, writes_lanes}
use Rattle.shadow_frames.proofs.BitLemmas.{set_bit}
use Rattle.shadow_layout.specs.Operations.{shapes, only, block_directory, block_word, lanes_of, load_shapes, store_shapes, not_taint, not_addr}
use Rattle.shadow_layout.specs.Logs.{record_shapes}
use Rattle.shadow_layout.proofs.Represented.{no_both}
use Rattle.log_plan.specs.inner.Serving.{IsOnAddress, Touches}

abbrev some_op : course.Op → Option course.Op
some_op o = Some o

abbrev no_op : Option course.Op
no_op = None

pub none_is : (P : Type 0) (o : course.Op) → no_op ≡ some_op o → P
none_is P o e = absurd (cc)

pub op_same : (o p : course.Op) → some_op o ≡ some_op p → o ≡ p
op_same o p e = cc

abbrev AllOf : (Shape → Type 0) → List Shape → Type 0
AllOf P [] = Unit {0}
AllOf P (s ∷ ss) = P s × AllOf P ss

-- an operation is of a shape
record IsMadeOf (o : course.Op) (s : Shape) : Type 0 where
  word : o.word ≡ s.word
  lanes : o.lanes ≡ s.lanes
  write : o.write ≡ s.write

of_shape : (P : Shape → Type 0) (w : ℕ → ℕ) (ss : List Shape) (y : ℕ) (o : course.Op) → AllOf P ss → slice_get (fill w ss) y ≡ Some o → (s : Shape) × P s × IsMadeOf o s
of_shape P w [] y o all e = none_is _ o e
of_shape P w (s ∷ ss) zero o all e =
    let same : filled_op (w s.word) s ≡ o = op_same (filled_op (w s.word) s) o e in
    (s, all.0, record { word = ap (λ (z : course.Op). z.word) (sym same); lanes = ap (λ (z : course.Op). z.lanes) (sym same); write = ap (λ (z : course.Op). z.write) (sym same) })
of_shape P w (s ∷ ss) (suc y) o all e = of_shape P (after_shape w s) ss y o all.1 e

module _ (size : ℕ) (w : ℕ → ℕ) (addr : ℕ) where
  -- a shape of a load or a store
  abbrev IsAccessShape : Shape → Type 0
  IsAccessShape s = ((s.word ≡ block_directory (addr / 16)) × (s.write ≡ false))
      ⊎ ((w (block_directory (addr / 16)) ≢ 0) × (s.word ≡ block_word w (addr / 16)) × (s.lanes ≡ lanes_of size addr))

  abbrev IsLoadShape : Shape → Type 0
  IsLoadShape s = (s.write ≡ false) × IsAccessShape s

  mapped : eqb (w (block_directory (addr / 16))) 0 ≡ false → w (block_directory (addr / 16)) ≢ 0
  mapped e z = no_both (eqb (w (block_directory (addr / 16))) 0) (eq-eqb (w (block_directory (addr / 16))) 0 z) e

  module _ (rules : Rules) where
    load_all : AllOf IsLoadShape (load_shapes rules size w addr)
    unfolding load_shapes
    load_all = by (eqb (w (block_directory (addr / 16))) 0) (not_taint rules.name) (not_addr rules.name) refl
      where
        by : (c t v : Bool) → eqb (w (block_directory (addr / 16))) 0 ≡ c
            → AllOf IsLoadShape (reads_lanes false 15 (block_directory (addr / 16)) ∷ (if c then [] else (only t (reads_lanes true (lanes_of size addr) (block_word w (addr / 16)) ∷ [])
            ++ only v (reads_lanes false (lanes_of size addr) (block_word w (addr / 16)) ∷ []))))
        by true t v e = ((refl, inl (refl, refl)), tt)
        by false true true e = ((refl, inl (refl, refl)), ((refl, inr (mapped e, refl, refl)), ((refl, inr (mapped e, refl, refl)), tt)))
        by false true false e = ((refl, inl (refl, refl)), ((refl, inr (mapped e, refl, refl)), tt))
        by false false true e = ((refl, inl (refl, refl)), ((refl, inr (mapped e, refl, refl)), tt))
        by false false false e = ((refl, inl (refl, refl)), tt)

    store_all : (len mask : ℕ) → AllOf IsAccessShape (store_shapes rules size w addr len mask)
    unfolding store_shapes
    store_all len mask = by (eqb (w (block_directory (addr / 16))) 0) (not_taint rules.name) (not_addr rules.name) refl _
      where
        by : (c t v : Bool) → eqb (w (block_directory (addr / 16))) 0 ≡ c → (f : ℕ → ℕ)
            → AllOf IsAccessShape (reads_lanes false 15 (block_directory (addr / 16)) ∷ (if c then [] else (only t (reads_lanes true (lanes_of size addr) (block_word w (addr / 16)) ∷ [])
            ++ only v (reads_lanes false (lanes_of size addr) (block_word w (addr / 16)) ∷ writes_lanes (lanes_of size addr) (block_word w (addr / 16)) f ∷ []))))
        by true t v e f = (inl (refl, refl), tt)
        by false true true e f = (inl (refl, refl), (inr (mapped e, refl, refl), (inr (mapped e, refl, refl), (inr (mapped e, refl, refl), tt))))
        by false true false e f = (inl (refl, refl), (inr (mapped e, refl, refl), tt))
        by false false true e f = (inl (refl, refl), (inr (mapped e, refl, refl), (inr (mapped e, refl, refl), tt)))
        by false false false e f = (inl (refl, refl), tt)

  one_lane : (k j : ℕ) → bit (2 ^ k) j ≡ true → j ≡ k
  one_lane k j e = dite (ℕ_discrete j k) (λ s. s) (λ n.
      let zeros : (i : ℕ) → bit 0 i ≡ false = λ i. ap (λ (z : ℕ). eqb (z % 2) 1) (zero-div (2 ^ i)) in
      let sum : 0 + 2 ^ k ≡ 2 ^ k = omega arith in
      let f : bit (2 ^ k) j ≡ false = ap (λ (z : ℕ). bit z j) (sym sum) ∙ (set_bit 0 k j (zeros k) ∙ (ap (λ (b : Bool). if b then true else bit 0 j) (ne_eqb j k n) ∙ zeros j)) in
      absurd (no_both (bit (2 ^ k) j) e f))

  module _ (o : course.Op) (s : Shape) (made : IsMadeOf o s) where
    on_lane : s.lanes ≡ lanes_of size addr → size ≡ 4 → (j : ℕ) → covers o.lanes j ≡ true → j ≡ addr % 16 / 4
    unfolding covers
    on_lane l four j e = one_lane (addr % 16 / 4) j (ap (λ (z : ℕ). bit z j) (sym (made.lanes ∙ (l ∙ ap (λ (b : Bool). if b then 2 ^ (addr % 16 / 4) else 15) (eq-eqb size 4 four)))) ∙ e)

    word_of : IsAccessShape s → IsOnAddress size (λ p. w (17 + p)) addr o
    word_of (inl t) = inl ((let d : o.word ≡ block_directory (addr / 16) = made.word ∙ t.0 in omega arith), made.write ∙ t.1)
    word_of (inr t) =
        let page : 17 + addr / 4096 ≡ block_directory (addr / 16) = omega arith in
        let some : w (block_directory (addr / 16)) ≢ 0 = t.0 in
        let word : o.word ≡ block_word w (addr / 16) = made.word ∙ t.1 in
        inr (record { number = w (block_directory (addr / 16)) - 1; serves = ap w page ∙ before (w (block_directory (addr / 16))) some; word = (omega arith); lane = on_lane t.2 })
      where
        before : (d : ℕ) → d ≢ 0 → d ≡ suc (d - 1)
        before d ne = omega arith

module _ (rules : Rules) (size hart : ℕ) (masks : Masks) (w : ℕ → ℕ) (y : ℕ) (o : course.Op) where
  kind_touches : (kind : Kind) → HasValidFields kind → slice_get (fill w (shapes rules size hart masks w kind)) y ≡ Some o → Touches size (λ p. w (17 + p)) kind o
  kind_touches (Ld width rd rb addr) v e =
      let t = of_shape (IsLoadShape size w addr) w (load_shapes rules size w addr) y o (load_all size w addr rules) e in
      inr (record { addr = addr; store = false; access = refl; low = v.2.0; reads = λ _. t.2.write ∙ t.1.0; word = word_of size w addr o t.0 t.2 t.1.1 })
  kind_touches (St width rv rb addr) v e =
      let t = of_shape (IsAccessShape size w addr) w (store_shapes rules size w addr (store_bytes width) (masks hart rv)) y o (store_all size w addr rules (store_bytes width) (masks hart rv)) e in
      inr (record { addr = addr; store = true; access = refl; low = v.2.0; reads = λ f. absurd (no_both true refl f); word = word_of size w addr o t.0 t.2 t.1 })
  kind_touches (Op rd r1 r2) v e = none_is _ o e
  kind_touches (Mv rd rs) v e = none_is _ o e
  kind_touches (Im rd) v e = none_is _ o e
  kind_touches (Br r1 r2) v e = none_is _ o e
  kind_touches (Jr rd rs) v e = none_is _ o e
  kind_touches (Al addr len) v e = inl refl
  kind_touches (Fr addr len) v e = inl refl
  kind_touches (Bf addr) v e = none_is _ o e
  kind_touches (Mp page count) v e = inl refl
  kind_touches (Um page count) v e = inl refl
  kind_touches (Rd addr len) v e = inl refl
  kind_touches (Wr addr len) v e = inl refl
  kind_touches Ex v e = none_is _ o e
  kind_touches (Ft cause addr) v e = none_is _ o e

-- each operation of a record, where the words are w
pub record_touches : (rules : Rules) (size harts : ℕ) (arcs : List (Option ℕ)) (state : State) (w : ℕ → ℕ) (y : ℕ) (o : course.Op) (r : Record) → IsSoundRecord harts arcs r
    → slice_get (fill w (record_shapes rules size state w r)) y ≡ Some o → (e : Event) × (r ≡ entry.Event e) × Touches size (λ p. w (17 + p)) e.kind o
record_touches rules size harts arcs state w y o (entry.Event e) sound is = (e, refl, kind_touches rules size e.hart state.masks w y o e.kind sound.1 is)
record_touches rules size harts arcs state w y o (entry.Notice hart point) sound is = none_is _ o is
