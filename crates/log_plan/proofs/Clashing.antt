-- A path between the records of two clashing operations.
use Rattle.std.proofs.Common.{◌≡◌, ◌≢◌, ℕ, zero, suc, ◌+◌, ◌-◌, ◌*◌, ◌/◌, ◌%◌, ◌^◌, ◌<◌, ◌≤◌, ◌⊎◌, Bool, true, false, List, [], ◌∷◌, length, Option, Some, None, refl, sym, ap, ◌∙◌, subst, inl, inr, ⊎_elim, arith}
use Rattle.std.specs.Prelude.{IsTrue}
use mathlib.Core.Option.{some}
use mathlib.Core.Logic.{dite}
use native.Mathlib.Decide.{ℕ_discrete}
use lib.ListN.{get_elem?}
use Rattle.pl_event.specs.declared.event.Event.{Event}
use Rattle.pl_event.specs.declared.event.Kind.{Kind}
use Rattle.pl_event.specs.declared.event.Kind.TheVariants.{Ld, St, Op, Mv, Im, Br, Jr, Al, Fr, Bf, Mp, Um, Rd, Wr, Ex, Ft}
use Rattle.pl_event.specs.declared.log.Line.{Line}
use Rattle.pl_event.specs.declared.log.Record.{Record}
use Rattle.pl_event.specs.declared.log.Record.TheVariants as entry
use Rattle.pl_event.specs.Alerts.{is_alert_kind}
use Rattle.pl_event.specs.Conflicts.{Access, access_of, AreOrdered, IsConcerned, IsPair, ShareBlock}
use Rattle.pl_event.specs.Edges.{Into, IsFlow}
use Rattle.pl_event.specs.Graph.{Path}
use Rattle.pl_event.specs.Numbers.{hart_of}
use Rattle.pl_event.specs.Records.{IsEvent, IsRecord, records_before}
use Rattle.pl_event.proofs.Paths.{joined}
use Rattle.pl_event.proofs.Places.{before_up, before_own, inside}
use Rattle.order_core.specs.declared.course.Op as course
use Rattle.order_core.specs.Lanes.{Meets}
use Rattle.log_plan.specs.inner.Serving.{is_mapping, maps, IsServing, IsOnShadow, IsOfAccess, IsOnAddress, Touches}
use Rattle.pl_event.proofs.Noticed.{own_path, alert_path}

abbrev nothing : Option Access
nothing = None

abbrev just : Access → Option Access
just x = Some x

no_access : (P : Type 0) (x : Access) → nothing ≡ just x → P
no_access P x e = absurd (cc)

-- what accesses memory is concerned by alerts, and is none of the events that map
concerned : (size : ℕ) (k : Kind) (x : Access) → access_of size k ≡ Some x → IsConcerned k
concerned size (Ld width rd rb addr) x e = inl refl
concerned size (St width rv rb addr) x e = inl refl
concerned size (Op rd r1 r2) x e = no_access _ x e
concerned size (Mv rd rs) x e = no_access _ x e
concerned size (Im rd) x e = no_access _ x e
concerned size (Br r1 r2) x e = no_access _ x e
concerned size (Jr rd rs) x e = no_access _ x e
concerned size (Al addr len) x e = no_access _ x e
concerned size (Fr addr len) x e = no_access _ x e
concerned size (Bf addr) x e = no_access _ x e
concerned size (Mp page count) x e = no_access _ x e
concerned size (Um page count) x e = no_access _ x e
concerned size (Rd addr len) x e = no_access _ x e
concerned size (Wr addr len) x e = no_access _ x e
concerned size Ex x e = no_access _ x e
concerned size (Ft cause addr) x e = no_access _ x e

no_map : (P : Type 0) → false ≡ true → P
no_map P e = absurd (cc)

maps_none : (size : ℕ) (k : Kind) (x : Access) → access_of size k ≡ Some x → is_mapping k ≡ true → ⊥
maps_none size (Ld width rd rb addr) x e m = no_map _ m
maps_none size (St width rv rb addr) x e m = no_map _ m
maps_none size (Op rd r1 r2) x e m = no_map _ m
maps_none size (Mv rd rs) x e m = no_map _ m
maps_none size (Im rd) x e m = no_map _ m
maps_none size (Br r1 r2) x e m = no_map _ m
maps_none size (Jr rd rs) x e m = no_map _ m
maps_none size (Al addr len) x e m = no_map _ m
maps_none size (Fr addr len) x e m = no_map _ m
maps_none size (Bf addr) x e m = no_map _ m
maps_none size (Mp page count) x e m = no_access _ x e
maps_none size (Um page count) x e m = no_access _ x e
maps_none size (Rd addr len) x e m = no_map _ m
maps_none size (Wr addr len) x e m = no_map _ m
maps_none size Ex x e m = no_map _ m
maps_none size (Ft cause addr) x e m = no_map _ m

alerts : (k : Kind) → is_mapping k ≡ true → IsTrue (is_alert_kind k)
alerts (Ld width rd rb addr) m = no_map _ m
alerts (St width rv rb addr) m = no_map _ m
alerts (Op rd r1 r2) m = no_map _ m
alerts (Mv rd rs) m = no_map _ m
alerts (Im rd) m = no_map _ m
alerts (Br r1 r2) m = no_map _ m
alerts (Jr rd rs) m = no_map _ m
alerts (Al addr len) m = no_map _ m
alerts (Fr addr len) m = no_map _ m
alerts (Bf addr) m = no_map _ m
alerts (Mp page count) m = refl
alerts (Um page count) m = refl
alerts (Rd addr len) m = no_map _ m
alerts (Wr addr len) m = no_map _ m
alerts Ex m = no_map _ m
alerts (Ft cause addr) m = no_map _ m

mapping_event : (r : Record) → maps r ≡ true → (e : Event) × (r ≡ entry.Event e) × IsTrue (is_alert_kind e.kind)
mapping_event (entry.Event e) m = (e, refl, alerts e.kind m)
mapping_event (entry.Notice hart point) m = no_map _ m

pub line_at : (g : List Line) (x : ℕ) → x < length g → (l : Line) × (get_elem? g x ≡ some l)
line_at [] x lt = absurd (omega arith)
line_at (l ∷ g) zero lt = (l, refl)
line_at (l ∷ g) (suc x) lt = line_at g x (omega arith)

both : (P : Type 0) (b : Bool) → (b ≡ true → P) → (b ≡ false → P) → P
both P true f g = f refl
both P false f g = g refl

no_both : (b : Bool) → b ≡ true → b ≡ false → ⊥
no_both b t f = cc

module _ (g : List Line) (frame : ℕ → ℕ → ℕ) (serving : IsServing g frame) (p : ℕ) (low : p < 4096) where
  -- where another frame serves a page, pages were mapped or unmapped in between
  changed : (i d : ℕ) → i + d ≤ length g → frame (i + d) p ≢ frame i p → (x : ℕ) × (l : Line) × (i ≤ x) × (x < i + d) × (get_elem? g x ≡ some l) × (maps l.what ≡ true)
  changed i zero le ne = absurd (ne (ap (λ (z : ℕ). frame z p) (omega arith)))
  changed i (suc d) le ne = dite (ℕ_discrete (frame (i + d) p) (frame i p))
      (λ e. let here = line_at g (i + d) (omega arith) in
      both ((x : ℕ) × (l : Line) × (i ≤ x) × (x < i + suc d) × (get_elem? g x ≡ some l) × (maps l.what ≡ true)) (maps here.0.what)
      (λ m. (i + d, here.0, omega arith, omega arith, here.1, m))
      (λ m. let next : i + suc d ≡ suc (i + d) = omega arith in absurd (ne (ap (λ (z : ℕ). frame z p) next ∙ (serving.same (i + d) p here.0 here.1 m low ∙ e)))))
      (λ n. let t = changed i d (omega arith) n in (t.0, t.1, t.2, (let s : t.0 < i + d = t.3 in omega arith), t.4, t.5))

-- two shadow words of one frame
same_place : (f g x y w : ℕ) → w ≡ 4113 + 256 * f + x % 4096 / 16 → w ≡ 4113 + 256 * g + y % 4096 / 16 → (f ≡ g) × (x % 4096 / 16 ≡ y % 4096 / 16)
same_place f g x y w a b = (omega arith, omega arith)

one_block : (size x y : ℕ) → (size ≡ 16) ⊎ (size ≡ 4) → x / 4096 ≡ y / 4096 → x % 4096 / 16 ≡ y % 4096 / 16 → (size ≡ 4 → x % 16 / 4 ≡ y % 16 / 4) → x / size ≡ y / size
one_block size x y (inl s) p q r = subst (λ (z : ℕ). x / z ≡ y / z) (sym s) (let t : x / 16 ≡ y / 16 = omega arith in t)
one_block size x y (inr s) p q r = subst (λ (z : ℕ). x / z ≡ y / z) (sym s) (let u : x % 16 / 4 ≡ y % 16 / 4 = r s in let t : x / 4 ≡ y / 4 = omega arith in t)

module _ (harts size : ℕ) (g : List Line) (frame : ℕ → ℕ → ℕ) (flow : IsFlow harts g) (ordered : AreOrdered size g (length g)) (sized : (size ≡ 16) ⊎ (size ≡ 4)) (serving : IsServing g frame)
    (i j n m : ℕ) (a b : Event) (pair : IsPair g i j a n b m) where
  abbrev Goal : Type 0
  Goal = Path (Into g) a.hart n b.hart m

  long : j < length g
  long = inside g j pair.second.0 pair.second.1.at

  -- over an alert event between the two
  over : IsConcerned a.kind → IsConcerned b.kind → (x k : ℕ) (e : Event) → i < x → x < j → IsEvent g x k e → IsTrue (is_alert_kind e.kind) → Goal
  over ca cb x k e after before stands alert = dite (ℕ_discrete a.hart e.hart)
      (λ s. joined (Into g) a.hart n e.hart k b.hart m (subst (λ (z : ℕ). Path (Into g) a.hart n z k) s (own_path (Into g) a.hart n k (earlier s))) (second (λ z. pair.apart (s ∙ z))))
      (λ ne. joined (Into g) a.hart n e.hart k b.hart m (first ne) (dite (ℕ_discrete e.hart b.hart)
      (λ s. subst (λ (z : ℕ). Path (Into g) e.hart k z m) s (own_path (Into g) e.hart k m (later s)))
      (λ nb. second nb)))
    where
      first : a.hart ≢ e.hart → Path (Into g) a.hart n e.hart k
      first apart = alert_path harts size g flow ordered i x a n e k (record { before = after; first = pair.first; second = stands; apart = apart }) (inr (ca, alert))

      second : e.hart ≢ b.hart → Path (Into g) e.hart k b.hart m
      second apart = alert_path harts size g flow ordered x j e k b m (record { before = before; first = stands; second = pair.second; apart = apart }) (inl (alert, cb))

      ordered_numbers : (y z h v w : ℕ) (l o : Line) → y < z → IsRecord g y h v l → IsRecord g z h w o → v < w
      ordered_numbers y z h v w l o less s t =
          let up : records_before h g (y + 1) ≤ records_before h g z = before_up g (y + 1) z h (omega arith) in
          let c : records_before h g (y + 1) ≡ records_before h g y + 1 = before_own g y h l s.at s.hart in
          let v' : records_before h g y + 1 ≡ v = s.number in
          let w' : records_before h g z + 1 ≡ w = t.number in
          omega arith

      earlier : a.hart ≡ e.hart → n < k
      earlier s = ordered_numbers i x e.hart n k pair.first.0 stands.0 after (subst (λ (z : ℕ). IsRecord g i z n pair.first.0) s pair.first.1) stands.1

      later : e.hart ≡ b.hart → k < m
      later s = ordered_numbers x j b.hart k m stands.0 pair.second.0 before (subst (λ (z : ℕ). IsRecord g x z k stands.0) s stands.1) pair.second.1

  module _ (o d : course.Op) (clash : Meets o d × ((o.write ≡ true) ⊎ (d.write ≡ true))) where
    of_access : Touches size (frame j) b.kind d → IsConcerned b.kind
    of_access (inl t) = inr t
    of_access (inr t) = concerned size b.kind _ t.access

    module _ (x : IsOfAccess size (frame i) a.kind o) (y : IsOfAccess size (frame j) b.kind d) where
      ca : IsConcerned a.kind
      ca = concerned size a.kind _ x.access

      cb : IsConcerned b.kind
      cb = concerned size b.kind _ y.access

      -- one block, and one of the two is a store
      same_page : IsOnShadow size (frame i) x.addr o → IsOnShadow size (frame j) y.addr d → x.addr / 4096 ≡ y.addr / 4096 → Goal
      same_page s t page = ordered.accesses i j a n b m long pair
          (subst (λ (z : Option Access × Option Access). ShareBlock z.0 z.1) (λ e. (sym x.access e, sym y.access e)) (blocks, stores))
        where
          place : (s.number ≡ t.number) × (x.addr % 4096 / 16 ≡ y.addr % 4096 / 16)
          place = same_place s.number t.number x.addr y.addr o.word s.word (clash.0.0 ∙ t.word)

          blocks : x.addr / size ≡ y.addr / size
          blocks = one_block size x.addr y.addr sized page place.1 (λ four. sym (s.lane four clash.0.1 clash.0.2) ∙ t.lane four clash.0.1 clash.0.3)

          stores : (x.store ≡ true) ⊎ (y.store ≡ true)
          stores = ⊎_elim
              (λ (w : o.write ≡ true). both ((x.store ≡ true) ⊎ (y.store ≡ true)) x.store (λ e. inl e) (λ e. absurd (no_both o.write w (x.reads e))))
              (λ (w : d.write ≡ true). both ((x.store ≡ true) ⊎ (y.store ≡ true)) y.store (λ e. inr e) (λ e. absurd (no_both d.write w (y.reads e))))
              clash.1

      -- the frame served another page at the later moment
      other_page : IsOnShadow size (frame i) x.addr o → IsOnShadow size (frame j) y.addr d → x.addr / 4096 ≢ y.addr / 4096 → Goal
      other_page s t other =
          let c = changed g frame serving (x.addr / 4096) page_low i gap.0 (let z : i + gap.0 ≡ j = gap.1 in let l : j < length g = long in omega arith) (λ e. moved (ap (λ (z : ℕ). frame z (x.addr / 4096)) (sym gap.1) ∙ e)) in
          let at : ℕ = c.0 in
          let line : Line = c.1 in
          let e = mapping_event line.what c.5 in
          let z : i + gap.0 ≡ j = gap.1 in
          let k : ℕ = records_before e.0.hart g at + 1 in
          let hart : hart_of line.what ≡ e.0.hart = ap hart_of e.1 in
          let below : at < i + gap.0 = c.3 in
          let after : i < at = (let le : i ≤ at = c.2 in let ne : at ≢ i = not_first at line c.4 c.5 in omega arith) in
          over ca cb at k e.0 after (omega arith) (line, record { at = c.4; hart = hart; number = refl {a = k} }, e.1) e.2
        where
          gap : (y : ℕ) × (i + y ≡ j)
          gap = let l : i < j = pair.before in (j - i, omega arith)

          page_low : x.addr / 4096 < 4096
          page_low = let l : x.addr < 2 ^ 24 = x.low in omega arith

          other_low : y.addr / 4096 < 4096
          other_low = let l : y.addr < 2 ^ 24 = y.low in omega arith

          place : (s.number ≡ t.number) × (x.addr % 4096 / 16 ≡ y.addr % 4096 / 16)
          place = same_place s.number t.number x.addr y.addr o.word s.word (clash.0.0 ∙ t.word)

          moved : frame j (x.addr / 4096) ≢ frame i (x.addr / 4096)
          moved e =
              let v : frame j (x.addr / 4096) ≡ suc s.number = e ∙ s.serves in
              other (serving.apart j (x.addr / 4096) (y.addr / 4096) long page_low other_low (λ z. (omega arith)) (v ∙ (ap suc place.0 ∙ sym t.serves)))

          not_first : (at : ℕ) (line : Line) → get_elem? g at ≡ some line → maps line.what ≡ true → at ≢ i
          not_first at line e m same =
              let f : some line ≡ some pair.first.0 = sym e ∙ (ap (get_elem? g) same ∙ pair.first.1.at) in
              let q : line ≡ pair.first.0 = cc in
              maps_none size a.kind _ x.access (ap maps (sym pair.first.2 ∙ ap (λ (z : Line). z.what) (sym q)) ∙ m)

      -- a directory word is no shadow word
      not_both : (p q r : ℕ) → p < 2 ^ 24 → 17 + p / 4096 ≡ 4113 + 256 * q + r → ⊥
      not_both p q r l e = omega arith

      two_accesses : Goal
      two_accesses = by x.word y.word
        where
          by : IsOnAddress size (frame i) x.addr o → IsOnAddress size (frame j) y.addr d → Goal
          by (inl s) (inl t) = absurd (⊎_elim (λ (w : o.write ≡ true). no_both o.write w s.1) (λ (w : d.write ≡ true). no_both d.write w t.1) clash.1)
          by (inl s) (inr t) = absurd (not_both x.addr t.number (y.addr % 4096 / 16) x.low (sym s.0 ∙ (clash.0.0 ∙ t.word)))
          by (inr s) (inl t) = absurd (not_both y.addr s.number (x.addr % 4096 / 16) y.low (sym t.0 ∙ (sym clash.0.0 ∙ s.word)))
          by (inr s) (inr t) = dite (ℕ_discrete (x.addr / 4096) (y.addr / 4096)) (same_page s t) (other_page s t)

    pub path : Touches size (frame i) a.kind o → Touches size (frame j) b.kind d → Goal
    path (inl s) t = alert_path harts size g flow ordered i j a n b m pair (inl (s, of_access t))
    path (inr s) (inl t) = alert_path harts size g flow ordered i j a n b m pair (inr (concerned size a.kind _ s.access, t))
    path (inr s) (inr t) = two_accesses s t
