use Rattle.std.proofs.Common.{◌≡◌, ℕ, ◌+◌, None, Some, sym, ap, ◌∙◌}
use Rattle.pl_event.specs.declared.log.Point.{Point}
use Rattle.pl_event.proofs.Before.{most_notice}
use Rattle.pl_event.proofs.heads.Heads.notice.Goals.{else-of-hart-via-then-of-hart+else-of-self, else-of-hart-via-else-of-hart}
use Rattle.pl_event.proofs.heads.Heads.notice.Goals as goal

pub returns-in-None : goal.returns-in-None
returns-in-None c harts g i l flow st next = (most_notice harts g flow i c.args.hart l next c.args.self.now st c.args.u c.requires.u).1 (λ p e x y. absurd (let t : None ≡ Some p = sym c.in-None.is ∙ e in cc))

pub returns-then-of-self : goal.returns-then-of-self
returns-then-of-self c harts g i l flow st next = (most_notice harts g flow i c.args.hart l next c.args.self.now st c.args.u c.requires.u).0 c.in-Some.of c.in-Some.is c.if-of-hart.true (c.if-of-self.true ∙ ap (λ (z : ℕ). z + 1) (st.records c.args.hart c.requires.hart))

pub returns-else-of-hart : goal.returns-else-of-hart
returns-else-of-hart c harts g i l flow st next = (most_notice harts g flow i c.args.hart l next c.args.self.now st c.args.u c.requires.u).1 (λ p e x y.
    let s : Some c.in-Some.of ≡ Some p = sym c.in-Some.is ∙ e in
    let same : c.in-Some.of ≡ p = cc in
    elim c.else-of-hart.branch [
      | else-of-hart-via-then-of-hart+else-of-self w ↦ w.if-of-self.false (ap (λ (z : Point). z.number) same ∙ (y ∙ sym (ap (λ (z : ℕ). z + 1) (st.records c.args.hart c.requires.hart))))
      | else-of-hart-via-else-of-hart w ↦ w.if-of-hart.false (ap (λ (z : Point). z.hart) same ∙ x)
    ])
