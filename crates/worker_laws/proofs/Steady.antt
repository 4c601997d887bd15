-- What stays from a record of a hart up to a later load or store of it, where nothing is flushed in between.
use Rattle.std.proofs.Common.{◌≡◌, ◌≢◌, ℕ, zero, suc, ◌+◌, ◌-◌, ◌<◌, ◌≤◌, Bool, true, false, inl, List, length, Option, Some, None, unwrap_or, option_map, refl, sym, ap, ◌∙◌, subst, arith, lt_of_not-le, if◌then◌else◌}
use Rattle.std.proofs.Math.Logic.{∥∥₁_elim}
use denote.Struct.Props.{props}
use mathlib.Core.Option.{some, some-injective}
use mathlib.Core.Logic.{dite}
use native.Mathlib.Decide.{ℕ_discrete}
use lib.ListN.{get_elem?}
use Rattle.pl_base.specs.Widths.{store_bytes}
use Rattle.pl_event.specs.declared.event.Event.{Event}
use Rattle.pl_event.specs.declared.event.Kind.{Kind}
use Rattle.pl_event.specs.declared.event.Kind.TheVariants.{Ld, St, Op, Mv, Im, Br, Jr, Al, Fr, Bf, Mp, Um, Rd, Wr, Ex, Ft}
use Rattle.pl_event.specs.declared.log.Line.{Line}
use Rattle.pl_event.specs.declared.log.Record.{Record}
use Rattle.pl_event.specs.declared.log.Record.TheVariants as entry
use Rattle.pl_event.specs.Alerts.{is_alert_kind}
use Rattle.pl_event.specs.Conflicts.{IsConcerned}
use Rattle.pl_event.specs.Numbers.{hart_of}
use Rattle.pl_event.specs.Records.{line_number, records_before, IsRecord}
use Rattle.pl_event.proofs.MappedPages.{line_at}
use Rattle.pl_event.proofs.Places.{line_number_of, record_at, before_up, before_own, inside}
use Rattle.pl_event.proofs.Sources.{found}
use Rattle.lifeguard.specs.Plain.{bytes_after, mask_bit, rule, stored}
use Rattle.lifeguard.specs.Ranges.{AreNibbles}
use Rattle.lifeguard.specs.Rules.{Rules, KeepsLaws}
use Rattle.lifeguard.specs.State.{Bytes, State, changed, is_in, nibble_at}
use Rattle.order_core.specs.Course.{course_of}
use Rattle.order_core.specs.Lawful.{IsLawful}
use Rattle.idem_filter.specs.declared.filter.Check.{Check}
use Rattle.log_plan.specs.inner.Serving.{is_mapping, maps}
use Rattle.log_plan.proofs.LowWords.{record_low}
use Rattle.worker_laws.specs.Runs.{Moment, Run, IsRun, IsFlush, IsQuiet, IsReach, Lasts, before, flushes, flushes_in, kind_in, kind_of, reach_in, reach_of, size, state_after}
use Rattle.worker_laws.proofs.Quiet.{none}

-- ---- one record that is no alert event

abbrev pub IsStill : Record → Type 0
IsStill (entry.Event e) = is_alert_kind e.kind ≡ false
IsStill (entry.Notice h point) = Unit {0}

no_alert : (P : Type 0) → true ≡ false → P
no_alert P e = absurd (cc)

maps_nothing : (k : Kind) → is_alert_kind k ≡ false → is_mapping k ≡ false
maps_nothing (Ld width rd rb addr) e = refl
maps_nothing (St width rv rb addr) e = refl
maps_nothing (Op rd r1 r2) e = refl
maps_nothing (Mv rd rs) e = refl
maps_nothing (Im rd) e = refl
maps_nothing (Br r1 r2) e = refl
maps_nothing (Jr rd rs) e = refl
maps_nothing (Al addr len) e = refl
maps_nothing (Fr addr len) e = refl
maps_nothing (Bf addr) e = refl
maps_nothing (Mp page count) e = no_alert _ e
maps_nothing (Um page count) e = no_alert _ e
maps_nothing (Rd addr len) e = refl
maps_nothing (Wr addr len) e = refl
maps_nothing Ex e = refl
maps_nothing (Ft cause addr) e = refl

still_maps_nothing : (x : Record) → IsStill x → maps x ≡ false
still_maps_nothing (entry.Event e) s = maps_nothing e.kind s
still_maps_nothing (entry.Notice h point) s = refl

pub nibble_below : (bytes : Bytes) → AreNibbles bytes → (a : ℕ) → nibble_at bytes a < 8
nibble_below bytes small a = by (bytes a) refl
  where
    by : (o : Option ℕ) → bytes a ≡ o → unwrap_or o 0 < 8
    by None e = omega arith
    by (Some n) e = small a n e

module _ (rules : Rules) (laws : KeepsLaws rules) where
  store_keeps : (mask addr len a : ℕ) (bytes : Bytes) → nibble_at bytes a < 8 → rules.bad_access (nibble_at (stored rules mask addr len bytes) a) ≡ rules.bad_access (nibble_at bytes a)
  unfolding changed
  store_keeps mask addr len a bytes low = by (is_in addr len a) (bytes a) low
    where
      by : (b : Bool) (x : Option ℕ) → unwrap_or x 0 < 8 → rules.bad_access (unwrap_or (if b then option_map (λ old. rules.store_nibble old (mask_bit mask (a - addr))) x else x) 0) ≡ rules.bad_access (unwrap_or x 0)
      by true None l = refl
      by true (Some x) l = laws.store_keeps_access x (mask_bit mask (a - addr)) l
      by false x l = refl

  kind_keeps : (h a : ℕ) (s : State) (k : Kind) → nibble_at s.bytes a < 8 → is_alert_kind k ≡ false → rules.bad_access (nibble_at (bytes_after rules h k s.bytes s.masks) a) ≡ rules.bad_access (nibble_at s.bytes a)
  kind_keeps h a s (Ld width rd rb addr) low e = refl
  kind_keeps h a s (St width rv rb addr) low e = store_keeps (s.masks h rv) addr (store_bytes width) a s.bytes low
  kind_keeps h a s (Op rd r1 r2) low e = refl
  kind_keeps h a s (Mv rd rs) low e = refl
  kind_keeps h a s (Im rd) low e = refl
  kind_keeps h a s (Br r1 r2) low e = refl
  kind_keeps h a s (Jr rd rs) low e = refl
  kind_keeps h a s (Al addr len) low e = no_alert _ e
  kind_keeps h a s (Fr addr len) low e = no_alert _ e
  kind_keeps h a s (Bf addr) low e = refl
  kind_keeps h a s (Mp page count) low e = no_alert _ e
  kind_keeps h a s (Um page count) low e = no_alert _ e
  kind_keeps h a s (Rd addr len) low e = no_alert _ e
  kind_keeps h a s (Wr addr len) low e = refl
  kind_keeps h a s Ex low e = refl
  kind_keeps h a s (Ft cause addr) low e = refl

  record_keeps : (lines : List Line) (i a : ℕ) (s : State) (x : Record) → nibble_at s.bytes a < 8 → IsStill x → rules.bad_access (nibble_at (state_after rules lines i s x).bytes a) ≡ rules.bad_access (nibble_at s.bytes a)
  unfolding rule
  record_keeps lines i a s (entry.Event e) low still = kind_keeps e.hart a s e.kind low still
  record_keeps lines i a s (entry.Notice h point) low still = refl

-- ---- a load or a store as an event

abbrev some_check : Check → Option Check
some_check c = Some c

abbrev no_check : Option Check
no_check = None

never : (P : Type 0) (c : Check) → no_check ≡ some_check c → P
never P c e = absurd (cc)

reach_concerns : (k : Kind) (c : Check) → reach_of k ≡ Some c → IsConcerned k
reach_concerns (Ld width rd rb addr) c e = inl refl
reach_concerns (St width rv rb addr) c e = inl refl
reach_concerns (Op rd r1 r2) c e = never _ c e
reach_concerns (Mv rd rs) c e = never _ c e
reach_concerns (Im rd) c e = never _ c e
reach_concerns (Br r1 r2) c e = never _ c e
reach_concerns (Jr rd rs) c e = never _ c e
reach_concerns (Al addr len) c e = never _ c e
reach_concerns (Fr addr len) c e = never _ c e
reach_concerns (Bf addr) c e = never _ c e
reach_concerns (Mp page count) c e = never _ c e
reach_concerns (Um page count) c e = never _ c e
reach_concerns (Rd addr len) c e = never _ c e
reach_concerns (Wr addr len) c e = never _ c e
reach_concerns Ex c e = never _ c e
reach_concerns (Ft cause addr) c e = never _ c e

reach_event : (x : Record) (c : Check) → reach_in (kind_of x) ≡ Some c → (b : Event) × (x ≡ entry.Event b) × IsConcerned b.kind
reach_event (entry.Event b) c e = (b, refl, reach_concerns b.kind c e)
reach_event (entry.Notice h point) c e = never _ c e

-- ---- from one record of the hart to a later load or store

module _ (p : Run) (run : IsRun p) (h m n i j : ℕ) (line line' : Line) (is : IsRecord p.plan.log.lines i h m line) (is' : IsRecord p.plan.log.lines j h n line') (less : m < n)
    (calm : (x : ℕ) → m ≤ x → x < n → IsFlush p h x → ⊥) (c : Check) (reach : IsReach p h n c) where
  abbrev lines : List Line
  lines = p.plan.log.lines

  later : (b : Event) × (line'.what ≡ entry.Event b) × IsConcerned b.kind
  later = reach_event line'.what c (sym (ap (λ (z : Option Line). reach_in (kind_in z)) (found lines j h n line' is')) ∙ reach)

  before_it : i < j
  before_it = lt_of_not-le (λ le.
      let up : records_before h lines j ≤ records_before h lines i = before_up lines j i h le in
      let a : records_before h lines i + 1 ≡ m = is.number in
      let b : records_before h lines j + 1 ≡ n = is'.number in omega arith)

  module _ (x : ℕ) (l : Line) (from : i ≤ x) (to : x < j) (at : get_elem? lines x ≡ some l) where
    own_flush : hart_of l.what ≡ h → flushes l.what ≡ true → ⊥
    own_flush own f =
        let k : ℕ = records_before h lines x + 1 in
        let r : IsRecord lines x h (records_before h lines x + 1) l = record { at = at; hart = own; number = refl } in
        let a : records_before h lines i + 1 ≡ m = is.number in
        let b : records_before h lines j + 1 ≡ n = is'.number in
        let up : records_before h lines i ≤ records_before h lines x = before_up lines i x h from in
        let past : records_before h lines (x + 1) ≤ records_before h lines j = before_up lines (x + 1) j h (omega arith) in
        let one : records_before h lines (x + 1) ≡ records_before h lines x + 1 = before_own lines x h l at own in
        calm (records_before h lines x + 1) (omega arith) (omega arith) (ap flushes_in (found lines x h (records_before h lines x + 1) l r) ∙ f)

    not_mine : hart_of l.what ≢ h → i < x
    not_mine other = dite (ℕ_discrete i x)
        (λ e. absurd (other (ap (λ (z : Line). hart_of z.what) (sym (some-injective line l (sym is.at ∙ subst (λ (z : ℕ). get_elem? lines z ≡ some l) (sym e) at))) ∙ is.hart)))
        (λ ne. (let o : i ≡ x → ⊥ = ne in omega arith))

    other_flush : (e : Event) → l.what ≡ entry.Event e → e.hart ≢ h → is_alert_kind e.kind ≡ true → ⊥
    other_flush e w other alert =
        let hart : hart_of l.what ≡ e.hart = ap hart_of w in
        let own : later.0.hart ≡ h = sym (ap hart_of later.1) ∙ is'.hart in
        ∥∥₁_elim run.lawful (hlevel props) (λ (o : IsLawful (course_of p.plan)).
        none p.plan.log.harts p.plan.log.block lines o.log.flow o.ordered i j x h m n (records_before e.hart lines x + 1) line later.0 e is
        (line', record { at = is'.at; hart = ap hart_of later.1; number = subst (λ (z : ℕ). records_before z lines j + 1 ≡ n) (sym own) is'.number }, later.1)
        own later.2 (not_mine (λ z. other (sym hart ∙ z))) to
        (λ y u z a b notice. calm y a b (ap flushes_in (found lines notice.0 h y notice.1 notice.2) ∙ ap flushes notice.3))
        (l, record { at = at; hart = hart; number = refl }, w) other (alert))

    still : IsStill l.what
    still = by l.what refl
      where
        on : (e : Event) → l.what ≡ entry.Event e → (b : Bool) → is_alert_kind e.kind ≡ b → is_alert_kind e.kind ≡ false
        on e w false a = a
        on e w true a = absurd (dite (ℕ_discrete e.hart h)
            (λ own. own_flush (ap hart_of w ∙ own) (ap flushes w ∙ a))
            (λ other. other_flush e w other a))

        by : (r : Record) → l.what ≡ r → IsStill r
        by (entry.Event e) w = on e w (is_alert_kind e.kind) refl
        by (entry.Notice g point) w = tt

  -- what each such record keeps is kept from the one to the other
  fold : (R : Moment → Type 0) → R (p.moment i) → ((x : ℕ) (l : Line) → get_elem? lines x ≡ some l → IsStill l.what → R (p.moment x) → R (p.moment (x + 1))) → R (p.moment j)
  fold R start step = go (j - i) j (omega (arith, before_it)) (omega arith)
    where
      go : (d y : ℕ) → y ≡ i + d → y ≤ j → R (p.moment y)
      go zero y e le = subst (λ (z : ℕ). R (p.moment z)) (let f : y ≡ i + 0 = e in omega arith) start
      go (suc d) y e le =
          let inner : R (p.moment (i + d)) = go d (i + d) refl (omega arith) in
          let low : j < length lines = inside lines j line' is'.at in
          let at = line_at lines (i + d) (omega arith) in
          subst (λ (z : ℕ). R (p.moment z)) (let f : i + d + 1 ≡ y = omega arith in f) (step (i + d) at.0 at.1 (still (i + d) at.0 (omega arith) (omega arith) at.1) inner)

  directory_stays : (u : ℕ) → u < 4113 → (p.moment j).words u ≡ (p.moment i).words u
  directory_stays u low = fold (λ z. z.words u ≡ (p.moment i).words u) refl
      (λ x l at st e. ap (λ (f : ℕ → ℕ). f u) (run.words x l at)
      ∙ (record_low p.rules p.plan.log.block (p.moment x).state (p.moment x).words l.what u low (still_maps_nothing l.what st) ∙ e))

  access_stays : (a : ℕ) → p.rules.bad_access (nibble_at (p.moment j).state.bytes a) ≡ p.rules.bad_access (nibble_at (p.moment i).state.bytes a)
  access_stays a = fold (λ z. p.rules.bad_access (nibble_at z.state.bytes a) ≡ p.rules.bad_access (nibble_at (p.moment i).state.bytes a)) refl
      (λ x l at st e. ap (λ (s : State). p.rules.bad_access (nibble_at s.bytes a)) (run.state x l at)
      ∙ (record_keeps p.rules run.laws lines x a (p.moment x).state l.what (nibble_below (p.moment x).state.bytes (run.range x).nibbles a) st ∙ e))

module _ (p : Run) (run : IsRun p) (h m : ℕ) (from : 1 ≤ m) (low : m ≤ size p h) (calm : IsFlush p h m → ⊥) where
  module _ (n : ℕ) (c : Check) (less : m < n) (le : n ≤ size p h) (quiet : IsQuiet p h m n) (reach : IsReach p h n c) where
    first : (y : ℕ) × (l : Line) × (y < length p.plan.log.lines) × IsRecord p.plan.log.lines y h m l
    first = record_at p.plan.log.lines (length p.plan.log.lines) h m from low

    last : (y : ℕ) × (l : Line) × (y < length p.plan.log.lines) × IsRecord p.plan.log.lines y h n l
    last = record_at p.plan.log.lines (length p.plan.log.lines) h n (omega arith) le

    all_calm : (x : ℕ) → m ≤ x → x < n → IsFlush p h x → ⊥
    all_calm x a b f = dite (ℕ_discrete m x) (λ e. calm (subst (IsFlush p h) (sym e) f)) (λ ne. (let o : m ≡ x → ⊥ = ne in quiet x (omega arith) b f))

    here : (y k : ℕ) (l : Line) → IsRecord p.plan.log.lines y h k l → before p h k ≡ p.moment y
    here y k l r = let s : line_number p.plan.log.lines h k ≡ y + 1 = line_number_of p.plan.log.lines y h k l r in ap p.moment (omega arith)

    directory_same : (u : ℕ) → u < 4113 → (before p h n).words u ≡ (before p h m).words u
    directory_same u small = ap (λ (z : Moment). z.words u) (here last.0 n last.1 last.3)
        ∙ (directory_stays p run h m n first.0 last.0 first.1 last.1 first.3 last.3 less all_calm c reach u small ∙ ap (λ (z : Moment). z.words u) (sym (here first.0 m first.1 first.3)))

    access_same : (a : ℕ) → p.rules.bad_access (nibble_at (before p h n).state.bytes a) ≡ p.rules.bad_access (nibble_at (before p h m).state.bytes a)
    access_same a = ap (λ (z : Moment). p.rules.bad_access (nibble_at z.state.bytes a)) (here last.0 n last.1 last.3)
        ∙ (access_stays p run h m n first.0 last.0 first.1 last.1 first.3 last.3 less all_calm c reach a ∙ ap (λ (z : Moment). p.rules.bad_access (nibble_at z.state.bytes a)) (sym (here first.0 m first.1 first.3)))

  -- a directory word stays as it is at record m
  pub directory_lasts : (u : ℕ) → u < 4113 → Lasts p h m (λ z. z.words u ≡ (before p h m).words u)
  directory_lasts u small n c less le quiet reach = directory_same n c less le quiet reach u small

  -- and so does what may be accessed
  pub access_lasts : (a : ℕ) → Lasts p h m (λ z. p.rules.bad_access (nibble_at z.state.bytes a) ≡ p.rules.bad_access (nibble_at (before p h m).state.bytes a))
  access_lasts a n c less le quiet reach = access_same n c less le quiet reach a
