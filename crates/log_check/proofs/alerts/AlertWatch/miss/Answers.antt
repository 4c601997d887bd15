use Rattle.std.proofs.Common.{◌≡◌, ◌≢◌, ℕ, ◌+◌, ◌<◌, List, length, length-set, set, true, false, slice_index_or, get_or, get_or-set_same, get_or-set_other, sym, ap, ◌∙◌, subst, arith}
use mathlib.Core.Logic.{dite}
use native.Mathlib.Decide.{ℕ_discrete}
use Rattle.pl_event.specs.declared.log.Line.{Line}
use Rattle.pl_event.specs.Conflicts.{HasNotice}
use Rattle.pl_event.specs.Edges.{IsFlow}
use Rattle.pl_event.specs.Heads.{Tells, IsNext}
use Rattle.pl_event.specs.Records.{records_before}
use Rattle.log_check.specs.declared.alerts.AlertWatch.{AlertWatch}
use Rattle.log_check.proofs.alerts.AlertWatch.miss.Goals.{then-u-hart+then-not-has_notice, else-u-hart, else-u-hart-via-then-u-hart+else-not-has_notice, else-u-hart-via-else-u-hart}
use Rattle.log_check.proofs.alerts.AlertWatch.miss.Goals as goal

pub loop-u-preserved : goal.loop-u-preserved
loop-u-preserved c =
    let b = c.loop-u.u in
    let inv = c.loop-u.invariant in
    let old = c.loop-u.self in
    let P : AlertWatch → Type 0 = λ s. (s.active ≡ c.args.self.now.active) × (length s.missed ≡ 8)
    × ((u : ℕ) → slice_index_or s.missed u false ≡ false → slice_index_or c.args.self.now.missed u false ≡ false)
    × ((u : ℕ) → u < b + 1 → slice_index_or s.missed u false ≡ false → u ≢ c.args.hart
    → (harts : ℕ) (g : List Line) (i : ℕ) (l : Line) → IsFlow harts g → Tells c.args.heads.now g i → IsNext g i c.args.hart l → HasNotice g u c.args.hart (records_before c.args.hart g i + 1)) in
    let low : b < length old.missed = omega (arith, inv.1) in
    let here : get_or (set old.missed b true) b false ≡ true = get_or-set_same old.missed b true false low in
    elim c.if-u-hart.branch [
      | then-u-hart+then-not-has_notice w ↦ subst P (sym w.self-is) (
        inv.0,
        length-set old.missed b true ∙ inv.1,
        (λ u e. dite (ℕ_discrete u b)
            (λ same. absurd (let f : true ≡ false = sym here ∙ (ap (λ (z : ℕ). get_or (set old.missed b true) z false) (sym same) ∙ e) in cc))
            (λ ne. inv.2 u (sym (get_or-set_other old.missed b u true false ne) ∙ e))),
        (λ u l e apart. dite (ℕ_discrete u b)
            (λ same. absurd (let f : true ≡ false = sym here ∙ (ap (λ (z : ℕ). get_or (set old.missed b true) z false) (sym same) ∙ e) in cc))
            (λ ne. inv.3 u (omega arith) (sym (get_or-set_other old.missed b u true false ne) ∙ e) apart)),
      )
      | else-u-hart w ↦ subst P (sym w.self-is) (
        inv.0,
        inv.1,
        inv.2,
        (λ u l e apart harts g i k flow st next. dite (ℕ_discrete u b)
            (λ same. elim w.else-u-hart.branch [
              | else-u-hart-via-then-u-hart+else-not-has_notice v ↦ subst (λ (z : ℕ). HasNotice g z c.args.hart (records_before c.args.hart g i + 1)) (sym same) ((v.has_notice.ensures harts g i k flow st next).0 v.if-not-has_notice.false)
              | else-u-hart-via-else-u-hart v ↦ absurd (apart (same ∙ v.if-u-hart.false))
            ])
            (λ ne. inv.3 u (omega arith) e apart harts g i k flow st next)),
      )
    ]
