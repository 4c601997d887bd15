-- The reads of the next record, a load or a store.
use Rattle.std.proofs.Common.{◌≡◌, ◌≢◌, ℕ, ◌+◌, ◌-◌, ◌*◌, ◌/◌, ◌%◌, ◌^◌, ◌<◌, ◌≤◌, true, false, Option, Some, None, find, refl, sym, ap, ◌∙◌, subst, arith}
use Rattle.std.proofs.Math.Logic.{∥∥₁_elim}
use denote.Struct.Props.{props}
use Rattle.pl_base.specs.declared.widths.LoadWidth.{LoadWidth}
use Rattle.pl_base.specs.declared.widths.LoadWidth.TheVariants as load
use Rattle.pl_base.specs.declared.widths.StoreWidth.{StoreWidth}
use Rattle.pl_base.specs.declared.widths.StoreWidth.TheVariants as store
use Rattle.pl_base.specs.Widths.{load_bytes, store_bytes}
use Rattle.pl_event.specs.declared.event.Kind.{Kind}
use Rattle.pl_event.specs.declared.event.Kind.TheVariants.{Ld, St, Op as Joins, Mv, Im, Br, Jr, Al, Fr, Bf, Mp, Um, Rd, Wr, Ex, Ft}
use Rattle.pl_event.specs.Records.{line_number}
use Rattle.lifeguard.specs.declared.guard.Name.TheVariants as name
use Rattle.lifeguard.specs.State.{nibble_at, span}
use Rattle.lifeguard.proofs.CellLemmas.{find_here}
use Rattle.order_core.specs.declared.course.Op.{Op}
use Rattle.order_core.specs.Course.{Planned, course_of}
use Rattle.order_core.specs.Lanes.{HasValueOf}
use Rattle.order_core.specs.Turns.{HasComeTo}
use Rattle.order_core.proofs.Known.{Known, known}
use Rattle.guard_table.specs.declared.view.View.{View}
use Rattle.guard_table.specs.Views.{known_core}
use Rattle.idem_filter.specs.declared.filter.Check.{Check}
use Rattle.shadow_frames.specs.Words.{WordsRepresent, nibble_of, shadow_word}
use Rattle.worker_laws.specs.Runs.{IsReach, IsRun, Run, before, reach_of}
use Rattle.worker_laws.specs.Folds.{failed}
use Rattle.worker_laws.specs.Reads.{check_read, directory_of, directory_read, value_at, value_read, word_of}
use Rattle.worker_laws.specs.Kept.{IsReady, Parts}
use Rattle.worker_laws.proofs.Access.{check_able, directory_able, near, reach_access, reach_kind, value_able}
use Rattle.worker_laws.proofs.Reading.{no_page_nibble, own_lane, read_nibble, whole_word}
use Rattle.worker_laws.proofs.Steady.{nibble_below}
use Rattle.worker_laws.proofs.Taking.{come}
use Rattle.worker_records.specs.Checks.{check_of}
use Rattle.worker_records.specs.Steps.{IsReadOf}
use Rattle.worker_records.specs.Words.{TellsOf}

-- the shadow word of an address, by its block
pub word_is : (w : ℕ → ℕ) (addr : ℕ) → word_of w addr ≡ shadow_word (w (directory_of addr)) addr
word_is w addr =
    let place : 16 * (addr / 16) % 4096 / 16 ≡ addr % 4096 / 16 = omega arith in
    ap (λ (z : ℕ). 4113 + 256 * (w (directory_of addr) - 1) + z) place

module _ (p : Run) (h m : ℕ) (run : IsRun p) (c : Check) (reach : IsReach p h m c) where
  pub fits : (c.addr < 16777216) × (c.addr % 4 + c.width ≤ 4)
  fits = let kd = reach_kind p run h m c reach in near p run h m kd.0 c kd.1 kd.2

  pub directory_low : (before p h m).words (directory_of c.addr) ≤ 512
  directory_low = ∥∥₁_elim (run.represents (line_number p.plan.log.lines h m - 1)) (hlevel props) (λ (st : WordsRepresent (before p h m).words (before p h m).state.bytes).
      st.low (c.addr / 16 / 256) (let l : c.addr < 16777216 = fits.0 in omega arith))

  pub directory_is : (x : ℕ) → x < 2 ^ 64 → HasValueOf (directory_read (before p h m).words c.addr) x → x ≡ (before p h m).words (directory_of c.addr)
  directory_is x wide has = whole_word (directory_read (before p h m).words c.addr) x refl wide (run.wide_words (line_number p.plan.log.lines h m - 1) (directory_of c.addr)) has

  pub low_nibble : (a : ℕ) → nibble_at (before p h m).state.bytes a < 8
  low_nibble a = nibble_below (before p h m).state.bytes (run.range (line_number p.plan.log.lines h m - 1)).nibbles a

  -- a word with the value of the read tells of the bytes
  pub tells : (x : ℕ) → (before p h m).words (directory_of c.addr) ≢ 0 → HasValueOf (value_read p.plan.log.block (before p h m).words c.addr) x → TellsOf x (before p h m).state.bytes c.addr c.width
  tells x some has i lt =
      let f : c.addr % 4 + c.width ≤ 4 = fits.1 in
      let e : nibble_at (before p h m).state.bytes (c.addr + i) ≡ nibble_of x (c.addr % 16 + i)
      = ∥∥₁_elim (run.represents (line_number p.plan.log.lines h m - 1)) (hlevel props) (λ (st : WordsRepresent (before p h m).words (before p h m).state.bytes).
      read_nibble (before p h m).words (before p h m).state.bytes st c.addr fits.0 some x (has (c.addr % 16 / 4) (omega arith) (own_lane p.plan.log.block c.addr)) i (omega arith)) in
      (e, subst (λ (z : ℕ). z < 8) e (low_nibble (c.addr + i)))

  pub no_nibble : (before p h m).words (directory_of c.addr) ≡ 0 → (i : ℕ) → i < c.width → nibble_at (before p h m).state.bytes (c.addr + i) ≡ 0
  no_nibble none i lt =
      let f : c.addr % 4 + c.width ≤ 4 = fits.1 in
      ∥∥₁_elim (run.represents (line_number p.plan.log.lines h m - 1)) (hlevel props) (λ (st : WordsRepresent (before p h m).words (before p h m).state.bytes).
      no_page_nibble (before p h m).words (before p h m).state.bytes st c.addr fits.0 none i (omega arith))

module _ (p : Run) (v : View) (n : ℕ) (parts : Parts) (ready : IsReady p v.hart v n parts) (c : Check) (reach : IsReach p v.hart (n + 1) c) (plan : Planned) (same : p.plan ≡ plan) where
  from : 1 ≤ n + 1
  from = omega arith

  k : Known (course_of p.plan)
  k = known (course_of p.plan) ready.run.lawful

  at : HasComeTo (course_of p.plan) (known_core v) v.hart (n + 1) 0
  at = come p ready.run k v.hart v n ready.kept.taken ready.next

  pub directory_now : (word : ℕ) → word ≡ directory_of c.addr → IsReadOf plan v (n + 1) 0 word false p (directory_read (before p v.hart (n + 1)).words c.addr)
  directory_now word e =
      let kd = reach_kind p ready.run v.hart (n + 1) c reach in
      let is = reach_access p ready.run v.hart (n + 1) from ready.next.within c kd.0 kd.1 kd.2 in
      record {
        plan_is = same;
        able = directory_able p ready.run v.hart (n + 1) k from ready.next.within c.addr is.0 is.1 v at;
        word_is = sym e;
        check_is = refl;
      }

  pub check_now : (before p v.hart (n + 1)).words (directory_of c.addr) ≢ 0 → p.rules.name ≢ name.Taint → (word : ℕ) → word ≡ shadow_word ((before p v.hart (n + 1)).words (directory_of c.addr)) c.addr
      → IsReadOf plan v (n + 1) 1 word true p (check_read p.plan.log.block (before p v.hart (n + 1)).words c.addr)
  check_now some other word e =
      let kd = reach_kind p ready.run v.hart (n + 1) c reach in
      let is = reach_access p ready.run v.hart (n + 1) from ready.next.within c kd.0 kd.1 kd.2 in
      record {
        plan_is = same;
        able = check_able p ready.run v.hart (n + 1) k from ready.next.within c.addr is.0 is.1 some v at other;
        word_is = word_is (before p v.hart (n + 1)).words c.addr ∙ sym e;
        check_is = refl;
      }

  pub value_now : (before p v.hart (n + 1)).words (directory_of c.addr) ≢ 0 → p.rules.name ≢ name.Addr → (op word : ℕ) → op ≡ value_at p.rules.name → word ≡ shadow_word ((before p v.hart (n + 1)).words (directory_of c.addr)) c.addr
      → IsReadOf plan v (n + 1) op word false p (value_read p.plan.log.block (before p v.hart (n + 1)).words c.addr)
  value_now some other op word o e =
      let kd = reach_kind p ready.run v.hart (n + 1) c reach in
      let is = reach_access p ready.run v.hart (n + 1) from ready.next.within c kd.0 kd.1 kd.2 in
      subst (λ (z : ℕ). IsReadOf plan v (n + 1) z word false p (value_read p.plan.log.block (before p v.hart (n + 1)).words c.addr)) (sym o)
      (record {
        plan_is = same;
        able = value_able p ready.run v.hart (n + 1) k from ready.next.within c.addr is.0 is.1 some v at other;
        word_is = word_is (before p v.hart (n + 1)).words c.addr ∙ sym e;
        check_is = refl;
      })

-- ---- an access has a byte, and on a page that is not mapped its first byte is bad

abbrev some_check : Check → Option Check
some_check c = Some c

never : (P : Type 0) (c : Check) → None ≡ some_check c → P
never P c e = absurd (cc)

load_some : (width : LoadWidth) → 1 ≤ load_bytes width
load_some load.B = omega arith
load_some load.H = omega arith
load_some load.W = omega arith
load_some load.Bu = omega arith
load_some load.Hu = omega arith

store_some : (width : StoreWidth) → 1 ≤ store_bytes width
store_some store.B = omega arith
store_some store.H = omega arith
store_some store.W = omega arith

same_width : (a w : ℕ) (c : Check) → Some (check_of a w) ≡ Some c → w ≡ c.width
same_width a w c e = cc

of_kind : (k : Kind) (c : Check) → reach_of k ≡ Some c → 1 ≤ c.width
of_kind (Ld width rd rb addr) c e = subst (λ (z : ℕ). 1 ≤ z) (same_width addr (load_bytes width) c e) (load_some width)
of_kind (St width rv rb addr) c e = subst (λ (z : ℕ). 1 ≤ z) (same_width addr (store_bytes width) c e) (store_some width)
of_kind (Joins rd r1 r2) c e = never _ c e
of_kind (Mv rd rs) c e = never _ c e
of_kind (Im rd) c e = never _ c e
of_kind (Br r1 r2) c e = never _ c e
of_kind (Jr rd rs) c e = never _ c e
of_kind (Al addr len) c e = never _ c e
of_kind (Fr addr len) c e = never _ c e
of_kind (Bf addr) c e = never _ c e
of_kind (Mp page count) c e = never _ c e
of_kind (Um page count) c e = never _ c e
of_kind (Rd addr len) c e = never _ c e
of_kind (Wr addr len) c e = never _ c e
of_kind Ex c e = never _ c e
of_kind (Ft cause addr) c e = never _ c e

module _ (p : Run) (h m : ℕ) (run : IsRun p) (c : Check) (reach : IsReach p h m c) where
  pub has_byte : 1 ≤ c.width
  has_byte = let kd = reach_kind p run h m c reach in of_kind kd.0 c kd.2

  pub unmapped_bad : p.rules.name ≢ name.Taint → (before p h m).words (directory_of c.addr) ≡ 0 → Some c.addr ≡ failed p.rules (before p h m) c
  unmapped_bad other none =
      let one : 1 ≤ c.width = has_byte in
      let all : c.addr + c.width - c.addr ≡ c.width = omega arith in
      let here : c.addr + 0 ≡ c.addr = omega arith in
      let zeroth : nibble_at (before p h m).state.bytes c.addr ≡ 0 = ap (nibble_at (before p h m).state.bytes) (sym here) ∙ no_nibble p h m run c reach none 0 (omega arith) in
      sym (find_here (λ a. p.rules.bad_access (nibble_at (before p h m).state.bytes a)) c.addr (c.addr + c.width) (omega arith) (ap p.rules.bad_access zeroth ∙ run.laws.unmapped_access other))
      ∙ ap (λ (z : ℕ). find (λ a. p.rules.bad_access (nibble_at (before p h m).state.bytes a)) (span c.addr z)) all

-- ---- with the directory's word at hand

module _ (p : Run) (v : View) (n : ℕ) (parts : Parts) (ready : IsReady p v.hart v n parts) (c : Check) (reach : IsReach p v.hart (n + 1) c) (plan : Planned) (same : plan ≡ p.plan)
    (d : ℕ) (is : d ≡ (before p v.hart (n + 1)).words (directory_of c.addr)) (some : d ≢ 0) (word : ℕ) (at_word : word ≡ shadow_word d c.addr) where
  mapped : (before p v.hart (n + 1)).words (directory_of c.addr) ≢ 0
  mapped e = some (is ∙ e)

  shadow : word ≡ shadow_word ((before p v.hart (n + 1)).words (directory_of c.addr)) c.addr
  shadow = at_word ∙ ap (λ (z : ℕ). shadow_word z c.addr) is

  pub check_may : p.rules.name ≢ name.Taint → IsReadOf plan v (n + 1) 1 word true p (check_read p.plan.log.block (before p v.hart (n + 1)).words c.addr)
  check_may other = check_now p v n parts ready c reach plan (sym same) mapped other word shadow

  pub check_told : p.rules.name ≢ name.Taint → (x : ℕ) → ((q : Run) (o : Op) → IsReadOf plan v (n + 1) 1 word true q o → HasValueOf o x) → TellsOf x (before p v.hart (n + 1)).state.bytes c.addr c.width
  check_told other x has = tells p v.hart (n + 1) ready.run c reach x mapped (has p (check_read p.plan.log.block (before p v.hart (n + 1)).words c.addr) (check_may other))

  pub value_may : p.rules.name ≢ name.Addr → (op : ℕ) → op ≡ value_at p.rules.name → IsReadOf plan v (n + 1) op word false p (value_read p.plan.log.block (before p v.hart (n + 1)).words c.addr)
  value_may other op o = value_now p v n parts ready c reach plan (sym same) mapped other op word o shadow

  pub value_has : p.rules.name ≢ name.Addr → (op : ℕ) → op ≡ value_at p.rules.name → (x : ℕ) → ((q : Run) (o : Op) → IsReadOf plan v (n + 1) op word false q o → HasValueOf o x)
      → HasValueOf (value_read p.plan.log.block (before p v.hart (n + 1)).words c.addr) x
  value_has other op o x has = has p (value_read p.plan.log.block (before p v.hart (n + 1)).words c.addr) (value_may other op o)

  pub value_told : p.rules.name ≢ name.Addr → (op : ℕ) → op ≡ value_at p.rules.name → (x : ℕ) → ((q : Run) (o : Op) → IsReadOf plan v (n + 1) op word false q o → HasValueOf o x)
      → TellsOf x (before p v.hart (n + 1)).state.bytes c.addr c.width
  value_told other op o x has = tells p v.hart (n + 1) ready.run c reach x mapped (value_has other op o x has)
