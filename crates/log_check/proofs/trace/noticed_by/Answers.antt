use Rattle.std.proofs.Common.{◌≡◌, ℕ, ◌+◌, ◌<◌, ◌≤◌, true, false, sym, ap, ◌∙◌, subst, arith}
use mathlib.Core.Logic.{dite}
use native.Mathlib.Decide.{ℕ_discrete}
use Rattle.std.specs.Int.{bit_at}
use Rattle.pl_event.specs.Conflicts.{HasNotice}
use Rattle.pl_event.specs.Records.{records_before}
use Rattle.log_check.proofs.trace.noticed_by.Goals.{then-has_notice, else-has_notice}
use Rattle.log_check.proofs.trace.noticed_by.Goals as goal

pub loop-u-preserved : goal.loop-u-preserved
loop-u-preserved c =
    let b = c.loop-u.u in
    let inv = c.loop-u.invariant in
    elim c.if-has_notice.branch [
      | then-has_notice w ↦ record {
        none = λ u le. ap (λ (z : ℕ). bit_at z u) w.set-is ∙ (w.with-set.ensures.others u (λ e. (let l : b + 1 ≤ u = le in absurd (omega arith))) ∙ inv.none u (let l : b + 1 ≤ u = le in omega arith));
        some = λ harts g i k flow st next u low. dite (ℕ_discrete u b)
            (λ same. (
              λ _. subst (λ (z : ℕ). HasNotice g z c.args.hart (records_before c.args.hart g i + 1)) (sym same) ((c.has_notice.ensures harts g i k flow st next).0 w.if-has_notice.true),
              λ _. ap (λ (z : ℕ). bit_at z u) w.set-is ∙ (ap (λ (z : ℕ). bit_at w.with-set.result z) same ∙ w.with-set.ensures.here),
            ))
            (λ ne.
            let kept : bit_at c.if-has_notice.set u ≡ bit_at c.loop-u.set u = ap (λ (z : ℕ). bit_at z u) w.set-is ∙ w.with-set.ensures.others u ne in
            let old = inv.some harts g i k flow st next u (let l : u < b + 1 = low in let n : u ≡ b → ⊥ = ne in omega arith) in
            (λ one. old.0 (sym kept ∙ one), λ t. kept ∙ old.1 t));
      }
      | else-has_notice w ↦ record {
        none = λ u le. ap (λ (z : ℕ). bit_at z u) w.set-is ∙ inv.none u (let l : b + 1 ≤ u = le in omega arith);
        some = λ harts g i k flow st next u low. dite (ℕ_discrete u b)
            (λ same.
            let zero : bit_at c.if-has_notice.set u ≡ 0 = ap (λ (z : ℕ). bit_at z u) w.set-is ∙ inv.none u (let e : u ≡ b = same in omega arith) in (
              λ one. absurd (let o : bit_at c.if-has_notice.set u ≡ 1 = one in omega arith),
              λ t. absurd (let f : false ≡ true = sym w.if-has_notice.false ∙ (c.has_notice.ensures harts g i k flow st next).1 (subst (λ (z : ℕ). HasNotice g z c.args.hart (records_before c.args.hart g i + 1)) same t) in cc),
            ))
            (λ ne.
            let kept : bit_at c.if-has_notice.set u ≡ bit_at c.loop-u.set u = ap (λ (z : ℕ). bit_at z u) w.set-is in
            let old = inv.some harts g i k flow st next u (let l : u < b + 1 = low in let n : u ≡ b → ⊥ = ne in omega arith) in
            (λ one. old.0 (sym kept ∙ one), λ t. kept ∙ old.1 t));
      }
    ]
