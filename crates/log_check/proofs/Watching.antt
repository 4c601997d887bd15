-- A watch over alert events, line by line.
use Rattle.std.proofs.Common.{◌≡◌, ◌≢◌, ⊎_elim, ℕ, ◌+◌, ◌<◌, ◌≤◌, Bool, true, false, IsTrue, List, length, slice_index_or, get_or, set, get_or-set_same, get_or-set_other, refl, sym, ap, ◌∙◌, subst, inl, inr, arith}
use Rattle.std.specs.Bool.{MatchBool}
use mathlib.Core.Logic.{dite}
use native.Mathlib.Decide.{ℕ_discrete}
use Rattle.pl_event.specs.declared.event.Event.{Event}
use Rattle.pl_event.specs.declared.log.Line.{Line}
use Rattle.pl_event.specs.Alerts.{is_alert_kind}
use Rattle.pl_event.specs.Conflicts.{is_access, IsConcerned, MeetByAlert, HasNotice, IsNoticed, IsPair}
use Rattle.pl_event.specs.Edges.{IsFlow}
use Rattle.pl_event.specs.Records.{IsEvent}
use Rattle.log_clocks.proofs.Accesses.{at_one}
use Rattle.log_check.specs.declared.alerts.AlertWatch.{AlertWatch}
use Rattle.log_check.specs.inner.Watched.{IsWatched}
use Rattle.log_check.proofs.Positions.{one_number, low_hart}

-- the line is no event
pub still_watched : (g : List Line) (i : ℕ) (w : AlertWatch) → ((n : ℕ) (a : Event) → IsEvent g i n a → ⊥) → IsWatched w g i → IsWatched w g (i + 1)
still_watched g i w none watched = record {
  missed = λ h j n a low clear before is alert apart. dite (ℕ_discrete j i)
      (λ now. absurd (none n a (subst (λ (z : ℕ). IsEvent g z n a) now is)))
      (λ ne. watched.missed h j n a low clear (omega arith) is alert apart);
  active = λ j n a low before is access. dite (ℕ_discrete j i)
      (λ now. absurd (none n a (subst (λ (z : ℕ). IsEvent g z n a) now is)))
      (λ ne. watched.active j n a low (omega arith) is access);
}

module _ (g : List Line) (i m : ℕ) (b : Event) (is : IsEvent g i m b) where
  -- a watch that has taken the event
  pub watched_more : (w w' : AlertWatch) → IsWatched w g i
      → ((u : ℕ) → slice_index_or w'.missed u false ≡ false → slice_index_or w.missed u false ≡ false)
      → (IsTrue (is_alert_kind b.kind) → (u : ℕ) → u < 8 → slice_index_or w'.missed u false ≡ false → u ≢ b.hart → HasNotice g u b.hart m)
      → ((u : ℕ) → IsTrue (slice_index_or w.active u false) → IsTrue (slice_index_or w'.active u false))
      → (IsTrue (is_access b.kind) → IsTrue (slice_index_or w'.active b.hart false))
      → IsWatched w' g (i + 1)
  watched_more w w' watched kept alerted active here = record {
    missed = λ h j n a low clear before x alert apart. dite (ℕ_discrete j i)
        (λ now.
        let x' : IsEvent g i n a = subst (λ (z : ℕ). IsEvent g z n a) now x in
        let same : a ≡ b = at_one g i n m a b x' is in
        let num : n ≡ m = one_number g i n m a b x' is in
        subst (λ (z : Event × ℕ). HasNotice g h z.0.hart z.1) (λ d. (sym same d, sym num d))
        (alerted (subst (λ (z : Event). IsTrue (is_alert_kind z.kind)) same alert) h low clear (λ e. apart (ap (λ (z : Event). z.hart) same ∙ sym e))))
        (λ ne. watched.missed h j n a low (kept h clear) (omega arith) x alert apart);
    active = λ j n a low before x access. dite (ℕ_discrete j i)
        (λ now.
        let x' : IsEvent g i n a = subst (λ (z : ℕ). IsEvent g z n a) now x in
        let same : a ≡ b = at_one g i n m a b x' is in
        subst (λ (z : Event). IsTrue (slice_index_or w'.active z.hart false)) (sym same) (here (subst (λ (z : Event). IsTrue (is_access z.kind)) same access)))
        (λ ne. active a.hart (watched.active j n a low (omega arith) x access));
  }

  -- the event's hart has missed no alert event, and where it is one itself each hart with an access has its notice
  module _ (harts : ℕ) (flow : IsFlow harts g) (few : harts ≤ 8) (w : AlertWatch) (watched : IsWatched w g i) (clear : slice_index_or w.missed b.hart false ≡ false)
      (alerted : IsTrue (is_alert_kind b.kind) → (u : ℕ) → u < 8 → u ≢ b.hart → IsTrue (slice_index_or w.active u false) → HasNotice g u b.hart m) where
    pub clear_alerts : (k : ℕ) (a : Event) (n : ℕ) → IsPair g k i a n b m → MeetByAlert a.kind b.kind → IsNoticed g a n b m
    clear_alerts k a n pair meet = by (is_alert_kind a.kind) refl
      where
        told : IsConcerned a.kind → IsTrue (is_alert_kind b.kind) → is_alert_kind a.kind ≡ false → HasNotice g a.hart b.hart m
        told (inl access) alert none = alerted alert a.hart (low_hart harts g flow few k n a pair.first) pair.apart (watched.active k n a (low_hart harts g flow few k n a pair.first) pair.before pair.first access)
        told (inr other) alert none = absurd (let f : false ≡ true = sym none ∙ other in cc)

        by : (s : Bool) → is_alert_kind a.kind ≡ s → MatchBool s (HasNotice g b.hart a.hart n) (HasNotice g a.hart b.hart m)
        by true e = watched.missed b.hart k n a (low_hart harts g flow few i m b is) clear pair.before pair.first e pair.apart
        by false e = ⊎_elim
            (λ (t : IsTrue (is_alert_kind a.kind) × IsConcerned b.kind). absurd (let f : false ≡ true = sym e ∙ t.0 in cc))
            (λ (t : IsConcerned a.kind × IsTrue (is_alert_kind b.kind)). told t.0 t.1 e)
            meet

pub set_true : (xs : List Bool) (h u : ℕ) → h < length xs → IsTrue (slice_index_or xs u false) → IsTrue (slice_index_or (set xs h true) u false)
set_true xs h u low t = dite (ℕ_discrete u h)
    (λ e. ap (λ (z : ℕ). get_or (set xs h true) z false) e ∙ get_or-set_same xs h true false low)
    (λ ne. get_or-set_other xs h u true false ne ∙ t)
