-- A placer's counts with one line more.
use Rattle.std.proofs.Common.{◌≡◌, ℕ, zero, suc, ◌+◌, ◌<◌, ◌≤◌, List, [], ◌∷◌, ◌++◌, append_assoc, append-nil, length, set, get_or-set_same, get_or-set_other, slice_index, refl, sym, ap, subst, Bool, false, if◌then◌else◌, ◌∙◌, arith}
use mathlib.Core.Logic.{dite}
use native.Mathlib.Decide.{ℕ_discrete}
use Rattle.pl_event.specs.declared.log.Line.{Line}
use Rattle.pl_event.specs.Alerts.{is_alert_kind}
use Rattle.pl_event.specs.Numbers.{hart_of}
use Rattle.pl_event.specs.declared.event.Event.{Event}
use Rattle.conflict_alerts.specs.declared.placer.Placer.{Placer}
use Rattle.conflict_alerts.specs.Placing.{count_in, event_line, notice_line, notice_to, notices_below, notices_of, told_below, lines_of, next_number, with_event, placed}
use Rattle.conflict_alerts.specs.Placer.{Counts, HasPlaced, MayPlace}
use Rattle.conflict_alerts.proofs.Adding.{count_own, count_other}
use Rattle.conflict_alerts.proofs.Telling.{below_own, below_other, to_own}
use Rattle.conflict_alerts.proofs.Placed.{one_more}
use Rattle.std.specs.Prelude.{fold, OnOk}
use Rattle.std.specs.declared.result.Result.{Result}
use Rattle.std.specs.declared.result.Result.TheVariants.{Ok, Err}

pub counts_more : (records : List ℕ) (g : List Line) (x : Line) (r : ℕ) → r ≡ hart_of x.what → r < 8 → length records ≡ 8 → Counts records g → Counts (set records r (slice_index records r + 1)) (g ++ x ∷ [])
counts_more records g x r own low long counts h lh = dite (ℕ_discrete h r)
    (λ same. subst (λ (z : ℕ). slice_index (set records r (slice_index records r + 1)) z ≡ count_in z (g ++ x ∷ [])) (sym same)
    (get_or-set_same records r (slice_index records r + 1) 0 (omega arith)
    ∙ (let o : count_in r (g ++ x ∷ []) ≡ count_in r g + 1 = count_own g x r (sym own) in let b : slice_index records r ≡ count_in r g = counts r low in omega arith)))
    (λ ne. get_or-set_other records r h (slice_index records r + 1) 0 ne ∙ (counts h lh ∙ sym (count_other g x h (λ z. ne (sym z ∙ sym own)))))

-- no line more
pub still : (records : List ℕ) (g : List Line) (u h n : ℕ) → u ≡ h → Counts records g → Counts records (g ++ notice_to u h n)
still records g u h n e counts = subst (Counts records) (sym (ap (λ (z : List Line). g ++ z) (to_own u h n e) ∙ append-nil g)) counts

-- notices add at most one record to each hart, and none to the hart of their event
module _ (g : List Line) (h n : ℕ) where
  abbrev after : ℕ → List Line
  after u = g ++ notices_below h n u

  told_counts : (u : ℕ) → ((w : ℕ) → u ≤ w → count_in w (after u) ≡ count_in w g) × ((w : ℕ) → count_in w (after u) ≤ count_in w g + 1) × (count_in h (after u) ≡ count_in h g)
  told_counts zero = (
    λ w le. ap (count_in w) (append-nil g),
    λ w. let e : count_in w (after 0) ≡ count_in w g = ap (count_in w) (append-nil g) in omega arith,
    ap (count_in h) (append-nil g),
  )
  told_counts (suc u) = dite (ℕ_discrete u h)
      (λ e. let b : after (suc u) ≡ after u = below_own g h n u e in (
        λ w le. ap (count_in w) b ∙ (told_counts u).0 w (omega (arith, le)),
        λ w. let c : count_in w (after (suc u)) ≡ count_in w (after u) = ap (count_in w) b in let o : count_in w (after u) ≤ count_in w g + 1 = (told_counts u).1 w in omega arith,
        ap (count_in h) b ∙ (told_counts u).2,
      ))
      (λ ne. let b : after (suc u) ≡ after u ++ notice_line u h n ∷ [] = below_other g h n u ne in (
        λ w le. ap (count_in w) b ∙ (count_other (after u) (notice_line u h n) w (λ z. let l : suc u ≤ w = le in let y : u ≡ w = z in absurd (omega arith)) ∙ (told_counts u).0 w (omega (arith, le))),
        λ w. dite (ℕ_discrete u w)
            (λ e. let c : count_in w (after (suc u)) ≡ count_in w (after u) + 1 = ap (count_in w) b ∙ count_own (after u) (notice_line u h n) w e in
            let o : count_in w (after u) ≡ count_in w g = (told_counts u).0 w (let y : u ≡ w = e in omega arith) in omega arith)
            (λ other. let c : count_in w (after (suc u)) ≡ count_in w (after u) = ap (count_in w) b ∙ count_other (after u) (notice_line u h n) w other in
            let o : count_in w (after u) ≤ count_in w g + 1 = (told_counts u).1 w in omega arith),
        ap (count_in h) b ∙ (count_other (after u) (notice_line u h n) h ne ∙ (told_counts u).2),
      ))

event_counts : (harts : ℕ) (g : List Line) (e : Event) (w : ℕ) → count_in w (with_event harts g e) ≤ count_in w g + 1
event_counts harts g e w =
    let n : ℕ = count_in e.hart g + 1 in
    let told : List Line = g ++ notices_of harts n e in
    let t = told_counts g e.hart n (told_below harts e.kind) in
    let b : count_in w (with_event harts g e) ≡ count_in w (told ++ event_line e ∷ []) = ap (count_in w) (sym (append_assoc g (notices_of harts n e) (event_line e ∷ []))) in
    dite (ℕ_discrete e.hart w)
    (λ same. let c : count_in w (told ++ event_line e ∷ []) ≡ count_in w told + 1 = count_own told (event_line e) w same in
    let o : count_in w told ≡ count_in w g = subst (λ (z : ℕ). count_in z told ≡ count_in z g) same t.2 in omega arith)
    (λ other. let c : count_in w (told ++ event_line e ∷ []) ≡ count_in w told = count_other told (event_line e) w other in
    let o : count_in w told ≤ count_in w g + 1 = t.1 w in omega arith)

all_counts : (harts : ℕ) (events : List Event) (g : List Line) (w : ℕ) → count_in w (fold (with_event harts) g events) ≤ count_in w g + length events
all_counts harts [] g w = omega arith
all_counts harts (e ∷ es) g w =
    let a : count_in w (fold (with_event harts) (with_event harts g e) es) ≤ count_in w (with_event harts g e) + length es = all_counts harts es (with_event harts g e) w in
    let b : count_in w (with_event harts g e) ≤ count_in w g + 1 = event_counts harts g e w in
    omega arith

pub few_counts : (harts : ℕ) (events : List Event) (w : ℕ) → count_in w (placed harts events) ≤ length events
few_counts harts events w = let a : count_in w (placed harts events) ≤ 0 + length events = all_counts harts events [] w in omega arith

-- where an event may be placed, each hart has a number left
pub room : (placer : Placer) (events : List Event) (event : Event) → MayPlace placer events event → (h : ℕ) → h < 8 → slice_index placer.records h + 1 < 4294967296
room placer events event may h low =
    let c : slice_index placer.records h ≡ count_in h (placed placer.harts events) = may.has h low in
    let few : count_in h (placed placer.harts events) ≤ length events = few_counts placer.harts events h in
    let less : length events < 2000000 = may.few in
    omega arith

pub both_ok : {T E : Type 0} (r : Result T E) (P Q R : Type 0) → (P → Q → R) → OnOk r P → OnOk r Q → OnOk r R
both_ok (Ok x) P Q R f p q = f p q
both_ok (Err e) P Q R f p q = tt

-- what an event adds after some events
pub placed_more : (old new : Placer) (events : List Event) (event : Event) → MayPlace old events event → new.harts ≡ old.harts
    → ((g : List Line) → Counts old.records g → Counts new.records (g ++ lines_of old.harts (slice_index old.records event.hart + 1) event)) → HasPlaced new (events ++ event ∷ [])
placed_more old new events event may harts more =
    let number : slice_index old.records event.hart ≡ count_in event.hart (placed old.harts events) = may.has event.hart (let h : event.hart < old.harts = may.hart in let b : old.harts ≤ 8 = may.harts in omega arith) in
    subst (Counts new.records)
    (ap (λ (n : ℕ). placed old.harts events ++ lines_of old.harts (n + 1) event) number ∙ (sym (one_more old.harts events event) ∙ ap (λ (k : ℕ). placed k (events ++ event ∷ [])) (sym harts)))
    (more (placed old.harts events) may.has)

pub lines_more : (old : Placer) (events : List Event) (event : Event) (before after : List Line) → MayPlace old events event
    → after ≡ before ++ lines_of old.harts (slice_index old.records event.hart + 1) event → after ≡ before ++ lines_of old.harts (next_number old.harts events event.hart) event
lines_more old events event before after may is =
    let number : slice_index old.records event.hart ≡ count_in event.hart (placed old.harts events) = may.has event.hart (let h : event.hart < old.harts = may.hart in let b : old.harts ≤ 8 = may.harts in omega arith) in
    is ∙ ap (λ (n : ℕ). before ++ lines_of old.harts (n + 1) event) number

-- an event that is no alert event has its own line alone
pub lines_alone : (harts n : ℕ) (event : Event) (line : Line) → is_alert_kind event.kind ≡ false → line ≡ event_line event → lines_of harts n event ≡ line ∷ []
lines_alone harts n event line calm is =
    ap (λ (told : ℕ). notices_below event.hart n told ++ event_line event ∷ []) (ap (λ (b : Bool). if b then harts else 0) calm)
    ∙ ap (λ (z : Line). z ∷ []) (sym is)

pub placed_alone : (old new : Placer) (events : List Event) (event : Event) → MayPlace old events event → is_alert_kind event.kind ≡ false → new.harts ≡ old.harts
    → length old.records ≡ 8 → new.records ≡ set old.records event.hart (slice_index old.records event.hart + 1) → HasPlaced new (events ++ event ∷ [])
placed_alone old new events event may calm harts long counted = placed_more old new events event may harts (λ g counts.
    subst (Counts new.records) (ap (λ (z : List Line). g ++ z) (sym (lines_alone old.harts (slice_index old.records event.hart + 1) event (event_line event) calm refl)))
    (subst (λ (z : List ℕ). Counts z (g ++ event_line event ∷ [])) (sym counted)
    (counts_more old.records g (event_line event) event.hart refl (let h : event.hart < old.harts = may.hart in let b : old.harts ≤ 8 = may.harts in omega arith) long counts)))
