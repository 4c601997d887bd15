-- What is known of registers, record by record.
use Rattle.std.proofs.Common.{◌≡◌, ℕ, ◌+◌, ◌<◌, ◌≤◌, Bool, true, false, not, ◌&&◌, eqb, length, Option, Some, None, refl, sym, ap, ◌∙◌, subst, arith, eq-eqb, if◌then◌else◌}
use mathlib.Core.Logic.{dite}
use native.Mathlib.Decide.{ℕ_discrete}
use Rattle.pl_base.specs.declared.widths.LoadWidth.{LoadWidth}
use Rattle.pl_event.specs.declared.event.Kind.{Kind}
use Rattle.pl_event.specs.declared.log.Line.{Line}
use Rattle.pl_event.specs.declared.log.Record.{Record}
use Rattle.pl_event.specs.declared.log.Record.TheVariants as entry
use Rattle.pl_event.specs.Alerts.{is_alert_kind}
use Rattle.pl_event.specs.Numbers.{hart_of}
use Rattle.pl_event.specs.Records.{line_number, record_of, IsRecord}
use Rattle.pl_event.proofs.Places.{line_number_of, record_at}
use Rattle.pl_event.proofs.Sources.{found}
use Rattle.lifeguard.specs.Plain.{loaded_mask}
use Rattle.lifeguard.specs.State.{Masks, with_mask}
use Rattle.order_core.specs.declared.course.Op.{Op}
use Rattle.order_core.specs.declared.course.Operation.{Operation}
use Rattle.order_core.specs.Core.{IsNextWrite}
use Rattle.order_core.specs.Course.{course_of}
use Rattle.order_core.specs.Lanes.{Meets}
use Rattle.order_core.specs.Shapes.{fill}
use Rattle.order_core.proofs.Known.{Known}
use Rattle.guard_table.specs.declared.view.View.{View}
use Rattle.guard_table.specs.Views.{known_core, looked, advertised, learnt_from, wrote}
use Rattle.std.specs.Prelude.{slice_index}
use Rattle.idem_filter.specs.declared.filter.Check.{Check}
use Rattle.inherit_track.specs.declared.state.Held.{Held}
use Rattle.inherit_track.specs.declared.state.RegState.{RegState}
use Rattle.inherit_track.specs.declared.state.RegState.TheVariants as reg
use Rattle.inherit_track.specs.States.{IsResolved, with_state}
use Rattle.shadow_layout.specs.Operations.{shapes}
use Rattle.shadow_layout.specs.Logs.{record_shapes}
use Rattle.worker_laws.specs.Runs.{Moment, Run, IsFlush, IsKind, IsReach, IsRun, Lasts, before, flushes, flushes_in, kind_in, kind_of, masks_before, size}
use Rattle.worker_laws.specs.Reads.{AreRight, IsHeld, MayReadNow, directory_of, directory_read, load_in, value_at, value_read}
use Rattle.worker_laws.proofs.Opening.{able_advertised, able_looked, able_wrote}

pub some_is : {A : Type 0} (x y : A) → Some x ≡ Some y → x ≡ y
some_is x y e = cc

with_mask_is : (h rd y r : ℕ) (masks : Masks) → with_mask h rd y masks h r ≡ (if eqb rd 0 then masks h r else if eqb r rd then y else masks h r)
unfolding with_mask
with_mask_is h rd y r masks = by (eqb h h) (eqb r rd) (eqb rd 0) (eq-eqb h h refl)
  where
    by : (a b z : Bool) → a ≡ true → (if a && b && not z then y else masks h r) ≡ (if z then masks h r else if b then y else masks h r)
    by true true true e = refl
    by true true false e = refl
    by true false true e = refl
    by true false false e = refl
    by false b z e = absurd (let f : false ≡ true = e in cc)

-- the record of a held load
abbrev number_of : RegState → ℕ
number_of (reg.Known y) = 0
number_of (reg.Held s) = s.number

-- a record of a kind that is no alert flushes nothing
pub calm : (p : Run) (h m : ℕ) (kd : Kind) → IsKind p h m kd → is_alert_kind kd ≡ false → IsFlush p h m → ⊥
calm p h m kd is quiet flush = by (record_of p.plan.log.lines h m) is flush
  where
    on : (x : Record) → kind_of x ≡ Some kd → flushes x ≡ true → ⊥
    on (entry.Event e) s f = let t : is_alert_kind e.kind ≡ is_alert_kind kd = ap is_alert_kind (some_is e.kind kd s) in let g : false ≡ true = sym quiet ∙ (sym t ∙ f) in cc
    on (entry.Notice g point) s f = absurd (let t : None ≡ Some kd = s in cc)

    by : (x : Option Line) → kind_in x ≡ Some kd → flushes_in x ≡ true → ⊥
    by None s f = absurd (let t : None ≡ Some kd = s in cc)
    by (Some line) s f = on line.what s f

module _ (p : Run) (h : ℕ) where
  -- ---- what lasts until a flush

  pub lasts_next : (n : ℕ) (P : Moment → Type 0) → Lasts p h n P → (IsFlush p h (n + 1) → ⊥) → Lasts p h (n + 1) P
  lasts_next n P l quiet m c lt le calm reach = l m c (omega arith) le
      (λ i a b f. dite (ℕ_discrete i (n + 1)) (λ e. quiet (subst (IsFlush p h) e f)) (λ ne. (let o : i ≡ n + 1 → ⊥ = ne in calm i (omega arith) b f))) reach

  pub lasts_now : (n : ℕ) (c : Check) (P : Moment → Type 0) → Lasts p h n P → n + 1 ≤ size p h → IsReach p h (n + 1) c → P (before p h (n + 1))
  lasts_now n c P l le reach = l (n + 1) c (omega arith) le (λ i a b f. absurd (omega arith)) reach

  -- ---- states of registers

  -- a state represents a mask
  abbrev pub IsRight : View → ℕ → RegState → ℕ → Type 0
  IsRight v n (reg.Known y) mask = y ≡ mask
  IsRight v n (reg.Held s) mask = IsHeld p h v n s mask

  abbrev pub AllRight : View → ℕ → ℕ → (ℕ → RegState) → Type 0
  AllRight v n m states = (r : ℕ) → r < 34 → IsRight v n (states r) (masks_before p h m r)

  pub all_right : (v : View) (n m : ℕ) (states : ℕ → RegState) → AreRight p h v n m states → AllRight v n m states
  all_right v n m states are r lt = by (states r) refl
    where
      by : (x : RegState) → states r ≡ x → IsRight v n x (masks_before p h m r)
      by (reg.Known y) e = are.known r y lt e
      by (reg.Held s) e = are.held r s lt e

  pub are_right : (v : View) (n m : ℕ) (states : ℕ → RegState) → AllRight v n m states → AreRight p h v n m states
  are_right v n m states all = record {
    known = λ r y lt e. subst (λ (z : RegState). IsRight v n z (masks_before p h m r)) e (all r lt);
    held = λ r s lt e. subst (λ (z : RegState). IsRight v n z (masks_before p h m r)) e (all r lt);
  }

  -- a known state needs nothing of the seat; of a held one it is enough to follow its load
  right_map : (v w : View) (n n' m : ℕ) (states : ℕ → RegState) → ((r : ℕ) (s : Held) (y : ℕ) → r < 34 → states r ≡ reg.Held s → IsHeld p h v n s y → IsHeld p h w n' s y) → AreRight p h v n m states → AreRight p h w n' m states
  right_map v w n n' m states f are = record {
    known = are.known;
    held = λ r s lt e. f r s (masks_before p h m r) lt e (are.held r s lt e);
  }

  -- a record that flushes nothing was taken
  held_next : (v : View) (s : Held) (n y : ℕ) → (IsFlush p h (n + 1) → ⊥) → IsHeld p h v n s y → IsHeld p h v (n + 1) s y
  held_next v s n y quiet i = record {
    source = i.source;
    near = i.near;
    narrow = i.narrow;
    past = (let l : s.number ≤ n = i.past in omega arith);
    some_page = i.some_page;
    directory = i.directory;
    value = i.value;
    mask_is = i.mask_is;
    lasts = lasts_next n (λ q. q.words (directory_of s.addr) ≡ (before p h s.number).words (directory_of s.addr)) i.lasts quiet;
  }

  pub right_next : (v : View) (n m : ℕ) (states : ℕ → RegState) → (IsFlush p h (n + 1) → ⊥) → AreRight p h v n m states → AreRight p h v (n + 1) m states
  right_next v n m states quiet are = right_map v v n (n + 1) m states (λ r s y lt e i. held_next v s n y quiet i) are

  -- by another view, which still allows both reads
  held_by : (v w : View) (n y : ℕ) (s : Held) → ((i : ℕ) (o : Op) → MayReadNow p h v s.number i o → MayReadNow p h w s.number i o) → IsHeld p h v n s y → IsHeld p h w n s y
  held_by v w n y s f i = record {
    source = i.source;
    near = i.near;
    narrow = i.narrow;
    past = i.past;
    some_page = i.some_page;
    directory = f 0 (directory_read (before p h s.number).words s.addr) i.directory;
    value = f (value_at p.rules.name) (value_read p.plan.log.block (before p h s.number).words s.addr) i.value;
    mask_is = i.mask_is;
    lasts = i.lasts;
  }

  -- what is learnt of another hart changes nothing
  pub right_learnt : (note v : View) (n m : ℕ) (states : ℕ → RegState) → AreRight p h v n m states → AreRight p h (learnt_from note v) n m states
  right_learnt note v n m states are = right_map v (learnt_from note v) n n m states (λ r s y lt e i. held_by v (learnt_from note v) n y s (λ j o may. record { listed = may.listed; able = may.able }) i) are

  module _ (k : Known (course_of p.plan)) where
    pub right_looked : (v : View) (u x n m : ℕ) (states : ℕ → RegState) → slice_index v.seen u ≤ x → AreRight p h v n m states → AreRight p h (looked u x v) n m states
    right_looked v u x n m states le are = right_map v (looked u x v) n n m states (λ r s y lt e i. held_by v (looked u x v) n y s (λ j o. able_looked p k h v u x s.number j o le) i) are

    pub right_advertised : (v : View) (upto n m : ℕ) (states : ℕ → RegState) → ((r : ℕ) (s : Held) → states r ≡ reg.Held s → upto < s.number) → AreRight p h v n m states → AreRight p h (advertised upto v) n m states
    right_advertised v upto n m states low are = right_map v (advertised upto v) n n m states (λ r s y lt e i. held_by v (advertised upto v) n y s (λ j o. able_advertised p k h v upto s.number j o (low r s e)) i) are

    -- a write that clashes with no held read
    pub right_wrote : (v : View) (n m x : ℕ) (d : Operation) (states : ℕ → RegState) → IsNextWrite (course_of p.plan) (known_core v) h x d
        → ((r : ℕ) (s : Held) (y : ℕ) → states r ≡ reg.Held s → IsHeld p h v n s y → (Meets d.what (directory_read (before p h s.number).words s.addr) → ⊥) × (Meets d.what (value_read p.plan.log.block (before p h s.number).words s.addr) → ⊥))
        → AreRight p h v n m states → AreRight p h (wrote v) n m states
    right_wrote v n m x d states next apart are = right_map v (wrote v) n n m states
        (λ r s y lt e i. record {
          source = i.source;
          near = i.near;
          narrow = i.narrow;
          past = i.past;
          some_page = i.some_page;
          directory = able_wrote p k h v x s.number 0 d (directory_read (before p h s.number).words s.addr) next (apart r s y e i).0 i.directory;
          value = able_wrote p k h v x s.number (value_at p.rules.name) d (value_read p.plan.log.block (before p h s.number).words s.addr) next (apart r s y e i).1 i.value;
          mask_is = i.mask_is;
          lasts = i.lasts;
        }) are

  -- register rd takes the state x, which represents its new mask
  pub right_set : (v : View) (n m m' rd y : ℕ) (x : RegState) (states : ℕ → RegState) → AreRight p h v n m states → IsRight v n x y
      → ((r : ℕ) → masks_before p h m' r ≡ with_mask h rd y (before p h m).state.masks h r) → AreRight p h v n m' (with_state states rd x)
  right_set v n m m' rd y x states are is same = are_right v n m' (with_state states rd x)
      (λ r lt. by r (eqb rd 0) (eqb r rd) (all_right v n m states are r lt) (same r ∙ with_mask_is h rd y r (before p h m).state.masks))
    where
      by : (r : ℕ) (a b : Bool) → IsRight v n (states r) (masks_before p h m r) → masks_before p h m' r ≡ (if a then masks_before p h m r else if b then y else masks_before p h m r)
          → IsRight v n (if a then states r else if b then x else states r) (masks_before p h m' r)
      by r true b old e = subst (IsRight v n (states r)) (sym e) old
      by r false true old e = subst (IsRight v n x) (sym e) is
      by r false false old e = subst (IsRight v n (states r)) (sym e) old

  -- the masks have not changed
  pub right_same : (v : View) (n m m' : ℕ) (states : ℕ → RegState) → AreRight p h v n m states → ((r : ℕ) → masks_before p h m' r ≡ masks_before p h m r) → AreRight p h v n m' states
  right_same v n m m' states are same = are_right v n m' states (λ r lt. subst (IsRight v n (states r)) (sym (same r)) (all_right v n m states are r lt))

  -- the read of a load was made: what held it is known
  pub right_resolved : (v : View) (n m y : ℕ) (s : Held) (states new : ℕ → RegState) → load_in (kind_in (record_of p.plan.log.lines h s.number)) ≡ Some (s.width, s.addr)
      → y ≡ loaded_mask p.rules s.width (before p h s.number).state.bytes s.addr → IsResolved s y states new → AreRight p h v n m states → AreRight p h v n m new
  right_resolved v n m y s states new source is resolved are = are_right v n m new (λ r lt. by r lt (states r) refl)
    where
      plain : (r : ℕ) → r < 34 → (states r ≡ reg.Held s → ⊥) → IsRight v n (new r) (masks_before p h m r)
      plain r lt other = subst (λ (z : RegState). IsRight v n z (masks_before p h m r)) (sym (resolved.others r other)) (all_right v n m states are r lt)

      never : (x : ℕ) (t : Held) → reg.Known x ≡ reg.Held t → ⊥
      never x t e = cc

      -- loads of one record are one
      one_load : (t : Held) → load_in (kind_in (record_of p.plan.log.lines h t.number)) ≡ Some (t.width, t.addr) → t.number ≡ s.number → t ≡ s
      one_load t from e =
          let same : Some (t.width, t.addr) ≡ Some (s.width, s.addr) = sym from ∙ (ap (λ (z : ℕ). load_in (kind_in (record_of p.plan.log.lines h z))) e ∙ source) in
          let pair : (t.width, t.addr) ≡ (s.width, s.addr) = some_is (t.width, t.addr) (s.width, s.addr) same in
          let w : t.width ≡ s.width = ap (λ (z : LoadWidth × ℕ). z.0) pair in
          let a : t.addr ≡ s.addr = ap (λ (z : LoadWidth × ℕ). z.1) pair in
          λ d. record { addr = a d; width = w d; number = e d }

      by : (r : ℕ) → r < 34 → (x : RegState) → states r ≡ x → IsRight v n (new r) (masks_before p h m r)
      by r lt (reg.Known x) e = plain r lt (λ f. never x s (sym e ∙ f))
      by r lt (reg.Held t) e = dite (ℕ_discrete t.number s.number)
          (λ one. (let here : states r ≡ reg.Held s = e ∙ ap (λ (z : Held). reg.Held z) (one_load t (are.held r t lt e).source one) in
          subst (λ (z : RegState). IsRight v n z (masks_before p h m r)) (sym (resolved.known r here)) (is ∙ sym (are.held r s lt here).mask_is)))
          (λ ne. plain r lt (λ f. ne (ap number_of (sym e ∙ f))))

  -- where nothing is held the registers need nothing of the seat
  pub right_known : (v w : View) (n n' m : ℕ) (states : ℕ → RegState) → ((r : ℕ) (s : Held) → states r ≡ reg.Held s → ⊥) → AreRight p h v n m states → AreRight p h w n' m states
  right_known v w n n' m states none are = right_map v w n n' m states (λ r s y lt e i. absurd (none r s e)) are

module _ (p : Run) (run : IsRun p) (h : ℕ) where
  -- the operations of a record
  pub operations_are : (m : ℕ) (kd : Kind) → 1 ≤ m → m ≤ size p h → IsKind p h m kd → p.plan.operations h m ≡ fill (before p h m).words (shapes p.rules p.plan.log.block h (before p h m).state.masks (before p h m).words kd)
  operations_are m kd from low is = run.operations t.0 h m t.1 t.3 ∙ (ap (fill (p.moment t.0).words) (by t.1.what t.3.hart what) ∙ ap (λ (q : Moment). fill q.words (shapes p.rules p.plan.log.block h q.state.masks q.words kd)) (sym here))
    where
      t : (j : ℕ) × (l : Line) × (j < length p.plan.log.lines) × IsRecord p.plan.log.lines j h m l
      t = record_at p.plan.log.lines (length p.plan.log.lines) h m from low

      what : kind_of t.1.what ≡ Some kd
      what = sym (ap kind_in (found p.plan.log.lines t.0 h m t.1 t.3)) ∙ is

      here : before p h m ≡ p.moment t.0
      here = let s : line_number p.plan.log.lines h m ≡ t.0 + 1 = line_number_of p.plan.log.lines t.0 h m t.1 t.3 in ap p.moment (omega arith)

      by : (x : Record) → hart_of x ≡ h → kind_of x ≡ Some kd → record_shapes p.rules p.plan.log.block (p.moment t.0).state (p.moment t.0).words x ≡ shapes p.rules p.plan.log.block h (p.moment t.0).state.masks (p.moment t.0).words kd
      by (entry.Event e) own s = ap (λ (z : ℕ). shapes p.rules p.plan.log.block z (p.moment t.0).state.masks (p.moment t.0).words e.kind) own
          ∙ ap (shapes p.rules p.plan.log.block h (p.moment t.0).state.masks (p.moment t.0).words) (some_is e.kind kd s)
      by (entry.Notice g point) own s = absurd (let f : None ≡ Some kd = s in cc)
