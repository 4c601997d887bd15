-- The placed lines of an event, as the next ones of a marker.
use Rattle.std.proofs.Common.{◌≡◌, ℕ, zero, suc, ◌+◌, ◌*◌, ◌<◌, ◌≤◌, Bool, true, false, eqb, List, [], ◌∷◌, ◌++◌, length, length-append, refl, sym, ap, ◌∙◌, subst, arith, if◌then◌else◌}
use Rattle.std.specs.Prelude.{All, fold}
use Rattle.std.specs.List.{AllByRecursion}
use Rattle.std.proofs.lemmas.List.Elements.{All-from_recursion, recursion_from_All, All-push}
use mathlib.Core.Logic.{dite}
use native.Mathlib.Decide.{ℕ_discrete}
use Rattle.pl_event.specs.declared.event.Event.{Event}
use Rattle.pl_event.specs.declared.log.Line.{Line}
use Rattle.pl_event.specs.Alerts.{is_alert_kind}
use Rattle.pl_event.specs.Edges.{no_arcs, IsFlow}
use Rattle.pl_event.specs.Runs.{IsSoundLine}
use Rattle.conflict_alerts.specs.declared.placer.Placer.{Placer}
use Rattle.conflict_alerts.specs.Placing.{event_line, notice_line, notice_to, notices_below, notices_of, told_below, lines_of, with_event, count_in, next_number, placed}
use Rattle.conflict_alerts.specs.Placer.{HasPlaced, MayPlace}
use Rattle.conflict_alerts.proofs.Placed.{one_more, all_noticed}
use Rattle.conflict_alerts.proofs.Telling.{to_own, to_other}
use Rattle.arc_capture.specs.declared.marker.Marker.{Marker}
use Rattle.pl_event.proofs.MappedPages.{line_holds}
use Rattle.arc_capture.specs.Marker.{HasMarked, MayMark}
use Rattle.arc_capture.specs.Recorder.{HasRecorded, MayFeed, MayMarkAll}

-- How many lines

length_below : (h n u : ℕ) → (length (notices_below h n u) ≤ u) × (h < u → length (notices_below h n u) + 1 ≤ u)
length_below h n zero = (omega arith, λ low. absurd (omega (arith, low)))
length_below h n (suc u) =
    let longer : length (notices_below h n (suc u)) ≡ length (notices_below h n u) + length (notice_to u h n) = length-append (notices_below h n u) (notice_to u h n) in
    let few : length (notices_below h n u) ≤ u = (length_below h n u).0 in
    dite (ℕ_discrete u h)
    (λ e. let none : length (notice_to u h n) ≡ 0 = ap length (to_own u h n e) in ((omega arith), λ low. (omega arith)))
    (λ ne. let one : length (notice_to u h n) ≡ 1 = ap length (to_other u h n ne) in
    ((omega arith), λ low. let o : u ≡ h → ⊥ = ne in let l : h < suc u = low in let less : length (notices_below h n u) + 1 ≤ u = (length_below h n u).1 (omega arith) in omega arith))

length_lines : (harts n : ℕ) (e : Event) → e.hart < harts → length (lines_of harts n e) ≤ harts
length_lines harts n e low = by (is_alert_kind e.kind)
  where
    by : (b : Bool) → length (notices_below e.hart n (if b then harts else 0) ++ event_line e ∷ []) ≤ harts
    by true = let a : length (notices_below e.hart n harts ++ event_line e ∷ []) ≡ length (notices_below e.hart n harts) + 1 = length-append (notices_below e.hart n harts) (event_line e ∷ []) in
        let few : length (notices_below e.hart n harts) + 1 ≤ harts = (length_below e.hart n harts).1 low in omega arith
    by false = omega (arith, low)

pub length_from : (harts : ℕ) (events : List Event) → harts ≤ 8 → AllByRecursion (λ event. event.hart < harts) events → (g : List Line) → length (fold (with_event harts) g events) ≤ length g + 8 * length events
length_from harts [] small all g = omega arith
length_from harts (e ∷ es) small all g =
    let n : ℕ = count_in e.hart g + 1 in
    let a : length (fold (with_event harts) (with_event harts g e) es) ≤ length (with_event harts g e) + 8 * length es = length_from harts es small all.1 (with_event harts g e) in
    let b : length (with_event harts g e) ≡ length g + length (lines_of harts n e) = length-append g (lines_of harts n e) in
    let c : length (lines_of harts n e) ≤ harts = length_lines harts n e all.0 in
    let d : harts ≤ 8 = small in
    omega arith

-- Each line

both : (P : Line → Type 0) (xs ys : List Line) → AllByRecursion P xs → AllByRecursion P ys → AllByRecursion P (xs ++ ys)
both P [] ys x y = y
both P (a ∷ xs) ys x y = (x.0, both P xs ys x.1 y)

each_below : (P : Line → Type 0) (h n : ℕ) → ((u : ℕ) → P (notice_line u h n)) → (u : ℕ) → AllByRecursion P (notices_below h n u)
each_below P h n notice zero = tt
each_below P h n notice (suc u) = both P (notices_below h n u) (notice_to u h n) (each_below P h n notice u) (by (eqb u h))
  where
    by : (b : Bool) → AllByRecursion P (if b then [] else notice_line u h n ∷ [])
    by true = tt
    by false = (notice u, tt)

each_of : (P : Line → Type 0) (harts n : ℕ) (e : Event) → ((u : ℕ) → P (notice_line u e.hart n)) → P (event_line e) → All P (lines_of harts n e)
each_of P harts n e notice line = All-from_recursion P (lines_of harts n e) (both P (notices_of harts n e) (event_line e ∷ []) (each_below P e.hart n notice (told_below harts e.kind)) (line, tt))

module _ (placer : Placer) (marker : Marker) (size : ℕ) (events : List Event) (lines : List Line) (event : Event) (may : MayFeed placer marker size events lines event) where
  pub may_place : MayPlace placer events event
  may_place = record { has = may.has.seen; few = may.few; hart = may.valid.0; harts = may.has.harts }

  pub next_inside : All (λ (e : Event). e.hart < placer.harts) (events ++ event ∷ [])
  next_inside = All-push (λ (e : Event). e.hart < placer.harts) events event may.has.inside may.valid.0

  pub may_mark_all : MayMarkAll marker size (placed placer.harts events) lines (lines_of placer.harts (next_number placer.harts events event.hart) event)
  may_mark_all =
      let harts : ℕ = placer.harts in
      let n : ℕ = next_number harts events event.hart in
      record {
        has = may.has.marked;
        few = (let a : length (placed harts events) ≤ 0 + 8 * length events = length_from harts events may.has.harts (recursion_from_All (λ (e : Event). e.hart < harts) events may.has.inside) [] in
            let b : length (lines_of harts n event) ≤ harts = length_lines harts n event may.valid.0 in
            let c : harts ≤ 8 = may.has.harts in
            let d : length events < 2000000 = may.few in
            omega arith);
        harts = (let a : placer.harts ≤ 8 = may.has.harts in let b : marker.reducer.harts ≡ placer.harts = may.has.same in omega arith);
        bare = each_of (λ (line : Line). line.arcs ≡ no_arcs) harts n event (λ u. refl) refl;
        sound = each_of (IsSoundLine 8) harts n event (λ u. (refl, refl)) (refl, ((let a : event.hart < placer.harts = may.valid.0 in let b : placer.harts ≤ 8 = may.has.harts in omega arith), may.valid.1));
        flow = subst (λ (k : ℕ). IsFlow k (placed harts events ++ lines_of harts n event)) (sym may.has.same)
            (subst (IsFlow harts) (one_more harts events event) (all_noticed harts (events ++ event ∷ []) next_inside).flow);
      }

  -- a line that comes alone may be marked
  pub may_mark_alone : (line : Line) → lines_of placer.harts (next_number placer.harts events event.hart) event ≡ line ∷ [] → MayMark marker size (placed placer.harts events) lines line
  may_mark_alone line alone = one (subst (MayMarkAll marker size (placed placer.harts events) lines) alone may_mark_all)
    where
      first : (P : Line → Type 0) → All P (line ∷ []) → P line
      first P all = line_holds P (line ∷ []) all 0 line refl

      one : MayMarkAll marker size (placed placer.harts events) lines (line ∷ []) → MayMark marker size (placed placer.harts events) lines line
      one all = record {
        has = all.has;
        few = (let few : length (placed placer.harts events) + 1 ≤ 16000000 = all.few in omega arith);
        harts = all.harts;
        bare = first (λ (l : Line). l.arcs ≡ no_arcs) all.bare;
        sound = first (IsSoundLine 8) all.sound;
        flow = all.flow;
      }

  -- after the event
  pub has_recorded : (new : Placer) (after : Marker) (made : List Line) → new.harts ≡ placer.harts → after.reducer.harts ≡ marker.reducer.harts → HasPlaced new (events ++ event ∷ [])
      → HasMarked after size (placed placer.harts events ++ lines_of placer.harts (next_number placer.harts events event.hart) event) (lines ++ made) → HasRecorded new after size (events ++ event ∷ []) (lines ++ made)
  has_recorded new after made same_harts same_reducer has marked = record {
    harts = (let a : placer.harts ≤ 8 = may.has.harts in let b : new.harts ≡ placer.harts = same_harts in omega arith);
    same = same_reducer ∙ (may.has.same ∙ sym same_harts);
    inside = subst (λ (k : ℕ). All (λ (e : Event). e.hart < k) (events ++ event ∷ [])) (sym same_harts) next_inside;
    seen = has;
    marked = subst (λ (z : List Line). HasMarked after size z (lines ++ made)) (sym (one_more placer.harts events event) ∙ ap (λ (k : ℕ). placed k (events ++ event ∷ [])) (sym same_harts)) marked;
  }
