-- The operations of a load or a store.
use Rattle.std.proofs.Common.{◌≡◌, ◌≢◌, ℕ, suc, ◌+◌, ◌%◌, ◌<◌, ◌≤◌, Bool, true, false, eqb, ◌++◌, List, [], ◌∷◌, Option, Some, None, refl, sym, ap, ◌∙◌, subst, arith, eq-eqb, ne_eqb, if◌then◌else◌}
use Rattle.std.proofs.Math.Logic.{∥∥₁_elim}
use denote.Struct.Props.{props}
use Rattle.std.specs.Prelude.{slice_get}
use Rattle.pl_base.specs.declared.widths.LoadWidth.{LoadWidth}
use Rattle.pl_base.specs.declared.widths.LoadWidth.TheVariants as load
use Rattle.pl_base.specs.declared.widths.StoreWidth.{StoreWidth}
use Rattle.pl_base.specs.declared.widths.StoreWidth.TheVariants as store
use Rattle.pl_base.specs.Widths.{load_bytes, store_bytes}
use Rattle.pl_event.specs.declared.event.Kind.{Kind}
use Rattle.pl_event.specs.declared.event.Kind.TheVariants.{Ld, St, Op as Joins, Mv, Im, Br, Jr, Al, Fr, Bf, Mp, Um, Rd, Wr, Ex, Ft}
use Rattle.pl_event.specs.declared.log.Line.{Line}
use Rattle.pl_event.specs.declared.log.Record.{Record}
use Rattle.pl_event.specs.declared.log.Record.TheVariants as entry
use Rattle.pl_event.specs.Records.{record_of, IsRecord}
use Rattle.pl_event.specs.Runs.{IsSoundLine, IsSoundRecord}
use Rattle.pl_event.specs.Valid.{HasValidFields}
use Rattle.pl_event.proofs.MappedPages.{line_holds}
use Rattle.pl_event.proofs.Sources.{at_position}
use Rattle.lifeguard.specs.declared.guard.Name.{Name}
use Rattle.lifeguard.specs.declared.guard.Name.TheVariants as name
use Rattle.order_core.specs.declared.course.Op.{Op}
use Rattle.order_core.specs.Course.{IsListed, course_of}
use Rattle.order_core.specs.Lawful.{IsLawful}
use Rattle.order_core.specs.Shapes.{Shape, fill}
use Rattle.order_core.specs.Turns.{HasComeTo}
use Rattle.order_core.proofs.Known.{Known}
use Rattle.guard_table.specs.declared.view.View.{View}
use Rattle.guard_table.specs.Views.{known_core}
use Rattle.idem_filter.specs.declared.filter.Check.{Check}
use Rattle.shadow_frames.specs.Frames.{reads, reads_lanes, writes_lanes}
use Rattle.shadow_layout.specs.Operations.{lanes_of, load_shapes, not_addr, not_taint, only, store_shapes}
use Rattle.worker_laws.specs.Runs.{Run, IsKind, IsReach, IsRun, before, kind_in, kind_of, reach_in, reach_of, size}
use Rattle.worker_laws.specs.Reads.{MayReadNow, check_read, directory_of, directory_read, stored_word, value_at, value_read, word_of}
use Rattle.worker_laws.proofs.Keeping.{operations_are, some_is}
use Rattle.worker_laws.proofs.Opening.{able_now, come_read}
use Rattle.worker_laws.proofs.Own.{a_line}

-- ---- fields

load_fits : (width : LoadWidth) (addr : ℕ) → addr % load_bytes width ≡ 0 → addr % 4 + load_bytes width ≤ 4
load_fits load.B addr e = omega arith
load_fits load.H addr e = let t : addr % 2 ≡ 0 = e in omega arith
load_fits load.W addr e = let t : addr % 4 ≡ 0 = e in omega arith
load_fits load.Bu addr e = omega arith
load_fits load.Hu addr e = let t : addr % 2 ≡ 0 = e in omega arith

store_fits : (width : StoreWidth) (addr : ℕ) → addr % store_bytes width ≡ 0 → addr % 4 + store_bytes width ≤ 4
store_fits store.B addr e = omega arith
store_fits store.H addr e = let t : addr % 2 ≡ 0 = e in omega arith
store_fits store.W addr e = let t : addr % 4 ≡ 0 = e in omega arith

abbrev pub IsNear : Check → Type 0
IsNear c = (c.addr < 16777216) × (c.addr % 4 + c.width ≤ 4)

abbrev some_check : Check → Option Check
some_check c = Some c

same_check : (s t : Check) → some_check s ≡ some_check t → s ≡ t
same_check s t e = cc

never : (P : Type 0) (c : Check) → None ≡ some_check c → P
never P c e = absurd (cc)

abbrev check_of_load : LoadWidth → ℕ → Check
check_of_load width addr = record { addr = addr; width = load_bytes width }

abbrev check_of_store : StoreWidth → ℕ → Check
check_of_store width addr = record { addr = addr; width = store_bytes width }

reach_near : (k : Kind) (c : Check) → HasValidFields k → reach_of k ≡ Some c → IsNear c
reach_near (Ld width rd rb addr) c v e = subst IsNear (same_check (check_of_load width addr) c e) (v.2.0, load_fits width addr v.2.1)
reach_near (St width rv rb addr) c v e = subst IsNear (same_check (check_of_store width addr) c e) (v.2.0, store_fits width addr v.2.1)
reach_near (Joins rd r1 r2) c v e = never _ c e
reach_near (Mv rd rs) c v e = never _ c e
reach_near (Im rd) c v e = never _ c e
reach_near (Br r1 r2) c v e = never _ c e
reach_near (Jr rd rs) c v e = never _ c e
reach_near (Al addr len) c v e = never _ c e
reach_near (Fr addr len) c v e = never _ c e
reach_near (Bf addr) c v e = never _ c e
reach_near (Mp page count) c v e = never _ c e
reach_near (Um page count) c v e = never _ c e
reach_near (Rd addr len) c v e = never _ c e
reach_near (Wr addr len) c v e = never _ c e
reach_near Ex c v e = never _ c e
reach_near (Ft cause addr) c v e = never _ c e

module _ (p : Run) (run : IsRun p) (h m : ℕ) where
  fields_in : IsLawful (course_of p.plan) → (k : Kind) → IsKind p h m k → HasValidFields k
  fields_in lawful k is = by t.0.what (line_holds (IsSoundLine p.plan.log.harts) p.plan.log.lines lawful.log.sound s.0 t.0 s.1.at).1 (sym (ap kind_in t.1) ∙ is)
    where
      t : (l : Line) × (record_of p.plan.log.lines h m ≡ Some l)
      t = a_line p run h m k is

      s : (i : ℕ) × IsRecord p.plan.log.lines i h m t.0
      s = at_position p.plan.log.lines h m t.0 t.1

      by : (x : Record) → IsSoundRecord p.plan.log.harts t.0.arcs x → kind_of x ≡ Some k → HasValidFields k
      by (entry.Event e) sound kind = subst HasValidFields (some_is e.kind k kind) sound.1
      by (entry.Notice g point) sound kind = absurd (let f : None ≡ Some k = kind in cc)

  -- a load or a store is inside memory, and inside four bytes
  pub near : (k : Kind) (c : Check) → IsKind p h m k → reach_of k ≡ Some c → IsNear c
  near k c is reach = ∥∥₁_elim run.lawful (hlevel props) (λ (l : IsLawful (course_of p.plan)). reach_near k c (fields_in l k is) reach)

  -- ---- operations

  -- the reads of a load or a store, and what follows them
  abbrev pub access : ℕ → List Shape → Name → Bool → List Op
  access addr rest n b = fill (before p h m).words (reads (directory_of addr) ∷ (if b then [] else (only (not_taint n) (reads_lanes true (lanes_of p.plan.log.block addr) (word_of (before p h m).words addr) ∷ [])
      ++ only (not_addr n) (reads_lanes false (lanes_of p.plan.log.block addr) (word_of (before p h m).words addr) ∷ rest))))

  abbrev pub IsAccess : ℕ → List Shape → Type 0
  IsAccess addr rest = p.plan.operations h m ≡ access addr rest p.rules.name (eqb ((before p h m).words (directory_of addr)) 0)

  pub load_access : (width : LoadWidth) (rd rb addr : ℕ) → 1 ≤ m → m ≤ size p h → IsKind p h m (Ld width rd rb addr) → IsAccess addr []
  unfolding load_shapes
  load_access width rd rb addr from low is = operations_are p run h m (Ld width rd rb addr) from low is

  abbrev pub store_rest : StoreWidth → ℕ → ℕ → List Shape
  store_rest width rv addr = writes_lanes (lanes_of p.plan.log.block addr) (word_of (before p h m).words addr) (stored_word p.rules ((before p h m).state.masks h rv) width addr) ∷ []

  pub store_access : (width : StoreWidth) (rv rb addr : ℕ) → 1 ≤ m → m ≤ size p h → IsKind p h m (St width rv rb addr) → IsAccess addr (store_rest width rv addr)
  unfolding store_shapes
  store_access width rv rb addr from low is = operations_are p run h m (St width rv rb addr) from low is

  -- a load or a store has such operations
  pub reach_access : 1 ≤ m → m ≤ size p h → (c : Check) (kd : Kind) → IsKind p h m kd → reach_of kd ≡ Some c → (rest : List Shape) × IsAccess c.addr rest
  reach_access from low c (Ld width rd rb addr) is e = subst (λ (z : Check). (rest : List Shape) × IsAccess z.addr rest) (same_check (check_of_load width addr) c e) ([], load_access width rd rb addr from low is)
  reach_access from low c (St width rv rb addr) is e = subst (λ (z : Check). (rest : List Shape) × IsAccess z.addr rest) (same_check (check_of_store width addr) c e) (store_rest width rv addr, store_access width rv rb addr from low is)
  reach_access from low c (Joins rd r1 r2) is e = never _ c e
  reach_access from low c (Mv rd rs) is e = never _ c e
  reach_access from low c (Im rd) is e = never _ c e
  reach_access from low c (Br r1 r2) is e = never _ c e
  reach_access from low c (Jr rd rs) is e = never _ c e
  reach_access from low c (Al addr len) is e = never _ c e
  reach_access from low c (Fr addr len) is e = never _ c e
  reach_access from low c (Bf addr) is e = never _ c e
  reach_access from low c (Mp page count) is e = never _ c e
  reach_access from low c (Um page count) is e = never _ c e
  reach_access from low c (Rd addr len) is e = never _ c e
  reach_access from low c (Wr addr len) is e = never _ c e
  reach_access from low c Ex is e = never _ c e
  reach_access from low c (Ft cause addr) is e = never _ c e

  pub reach_kind : (c : Check) → IsReach p h m c → (kd : Kind) × IsKind p h m kd × (reach_of kd ≡ Some c)
  reach_kind c = by (kind_in (record_of p.plan.log.lines h m)) refl
    where
      by : (o : Option Kind) → kind_in (record_of p.plan.log.lines h m) ≡ o → reach_in o ≡ Some c → (kd : Kind) × IsKind p h m kd × (reach_of kd ≡ Some c)
      by None e r = never _ c r
      by (Some kd) e r = (kd, e, r)

  module _ (k : Known (course_of p.plan)) (from : 1 ≤ m) (low : m ≤ size p h) (addr : ℕ) (rest : List Shape) (is : IsAccess addr rest) where
    pub listed : (i : ℕ) (o : Op) → slice_get (p.plan.operations h m) i ≡ Some o → IsListed p.plan h m i o
    listed i o there = record { from_one = from; number = low; op = there }

    pub directory_there : slice_get (p.plan.operations h m) 0 ≡ Some (directory_read (before p h m).words addr)
    directory_there = ap (λ (z : List Op). slice_get z 0) is

    -- on a page that is not mapped there is no more
    pub no_more : (before p h m).words (directory_of addr) ≡ 0 → slice_get (p.plan.operations h m) 1 ≡ None
    no_more e = ap (λ (z : List Op). slice_get z 1) (is ∙ ap (access addr rest p.rules.name) (eq-eqb ((before p h m).words (directory_of addr)) 0 e))

    pub directory_able : (v : View) → HasComeTo (course_of p.plan) (known_core v) h m 0 → MayReadNow p h v m 0 (directory_read (before p h m).words addr)
    directory_able v come = able_now p k h v m 0 (directory_read (before p h m).words addr) (listed 0 (directory_read (before p h m).words addr) directory_there) come refl

    pub come_end : (v : View) → HasComeTo (course_of p.plan) (known_core v) h m 0 → HasComeTo (course_of p.plan) (known_core v) h m 1
    come_end v come = come_read p k h v m 0 (directory_read (before p h m).words addr) (listed 0 (directory_read (before p h m).words addr) directory_there) come refl

    module _ (some : (before p h m).words (directory_of addr) ≢ 0) where
      on : p.plan.operations h m ≡ access addr rest p.rules.name false
      on = is ∙ ap (access addr rest p.rules.name) (ne_eqb ((before p h m).words (directory_of addr)) 0 some)

      by_name : (P : Name → List Op → Type 0) → P name.Addr (access addr rest name.Addr false) → P name.Taint (access addr rest name.Taint false) → P name.Mem (access addr rest name.Mem false) → P p.rules.name (p.plan.operations h m)
      by_name P a t u = subst (P p.rules.name) (sym on) (by p.rules.name)
        where
          by : (x : Name) → P x (access addr rest x false)
          by name.Addr = a
          by name.Taint = t
          by name.Mem = u

      pub check_there : p.rules.name ≢ name.Taint → slice_get (p.plan.operations h m) 1 ≡ Some (check_read p.plan.log.block (before p h m).words addr)
      check_there = by_name (λ x os. x ≢ name.Taint → slice_get os 1 ≡ Some (check_read p.plan.log.block (before p h m).words addr)) (λ o. refl) (λ o. absurd (o refl)) (λ o. refl)

      pub value_there : p.rules.name ≢ name.Addr → slice_get (p.plan.operations h m) (value_at p.rules.name) ≡ Some (value_read p.plan.log.block (before p h m).words addr)
      value_there = by_name (λ x os. x ≢ name.Addr → slice_get os (value_at x) ≡ Some (value_read p.plan.log.block (before p h m).words addr)) (λ o. absurd (o refl)) (λ o. refl) (λ o. refl)

      pub rest_there : (j : ℕ) (o : Option Op) → p.rules.name ≢ name.Addr → slice_get (fill (before p h m).words rest) j ≡ o → slice_get (p.plan.operations h m) (j + 1 + value_at p.rules.name) ≡ o
      rest_there j o other e = by_name (λ x os. x ≢ name.Addr → slice_get os (j + 1 + value_at x) ≡ o) (λ z. absurd (z refl))
          (λ z. (let n : j + 1 + 1 ≡ suc (suc j) = omega arith in ap (slice_get (access addr rest name.Taint false)) n ∙ e))
          (λ z. (let n : j + 1 + 2 ≡ suc (suc (suc j)) = omega arith in ap (slice_get (access addr rest name.Mem false)) n ∙ e)) other

      pub addr_done : p.rules.name ≡ name.Addr → slice_get (p.plan.operations h m) 2 ≡ None
      addr_done e = by_name (λ x os. x ≡ name.Addr → slice_get os 2 ≡ None) (λ z. refl) (λ z. absurd (taint_not z)) (λ z. absurd (mem_not z)) e
        where
          taint_not : name.Taint ≡ name.Addr → ⊥
          taint_not z = cc

          mem_not : name.Mem ≡ name.Addr → ⊥
          mem_not z = cc

      module _ (v : View) (come : HasComeTo (course_of p.plan) (known_core v) h m 0) where
        abbrev come_one : HasComeTo (course_of p.plan) (known_core v) h m 1
        come_one = come_end v come

        pub come_two : p.rules.name ≢ name.Taint → HasComeTo (course_of p.plan) (known_core v) h m 2
        come_two other = come_read p k h v m 1 (check_read p.plan.log.block (before p h m).words addr) (listed 1 (check_read p.plan.log.block (before p h m).words addr) (check_there other)) come_one refl

        -- the hart comes to the read of the value, whatever of the reads before it was made
        come_value : HasComeTo (course_of p.plan) (known_core v) h m (value_at p.rules.name)
        come_value = by p.rules.name refl
          where
            mem_not : name.Mem ≡ name.Taint → ⊥
            mem_not z = cc

            by : (n : Name) → n ≡ p.rules.name → HasComeTo (course_of p.plan) (known_core v) h m (value_at n)
            by name.Addr e = come_one
            by name.Taint e = come_one
            by name.Mem e = come_two (λ t. mem_not (e ∙ t))

        pub after_value : p.rules.name ≢ name.Addr → HasComeTo (course_of p.plan) (known_core v) h m (value_at p.rules.name + 1)
        after_value other = come_read p k h v m (value_at p.rules.name) (value_read p.plan.log.block (before p h m).words addr) (listed (value_at p.rules.name) (value_read p.plan.log.block (before p h m).words addr) (value_there other)) come_value refl

        pub check_able : p.rules.name ≢ name.Taint → MayReadNow p h v m 1 (check_read p.plan.log.block (before p h m).words addr)
        check_able other = able_now p k h v m 1 (check_read p.plan.log.block (before p h m).words addr) (listed 1 (check_read p.plan.log.block (before p h m).words addr) (check_there other)) come_one refl

        pub value_able : p.rules.name ≢ name.Addr → MayReadNow p h v m (value_at p.rules.name) (value_read p.plan.log.block (before p h m).words addr)
        value_able other = able_now p k h v m (value_at p.rules.name) (value_read p.plan.log.block (before p h m).words addr) (listed (value_at p.rules.name) (value_read p.plan.log.block (before p h m).words addr) (value_there other)) come_value refl
