use Rattle.std.proofs.Common.{◌≡◌, ◌∙◌, ℕ, ◌+◌, ◌≤◌, ◌⊎◌, Bool, true, false, Option, None, Some, is_some, not, ap, refl, inl, inr, sym, subst, arith}
use mathlib.Core.Logic.{dite}
use native.Mathlib.Decide.{ℕ_discrete}
use Rattle.pl_event.specs.declared.log.Point.{Point}
use Rattle.pl_event.specs.Records.{records_before}
use Rattle.pl_event.specs.Edges.{IsNotice, IsAfter}
use Rattle.pl_event.specs.Needs.{IsMost}
use Rattle.pl_event.proofs.Needed.{unnoticed}
use Rattle.pl_event.proofs.Mosts.{most_some}
use Rattle.pl_event.proofs.heads.Heads.is_unnoticed.Goals as goal

-- where no greatest number is found, none passes
none_left : (P : ℕ → Type 0) (o : Option ℕ) (b : Bool) → IsMost P o → b ≡ is_some o → b ≡ false → (n : ℕ) → P n → ⊥
none_left P o b most is fails n p =
    let found : is_some o ≡ true = (most_some P o most).1 (n, p) in
    let f : true ≡ false = sym found ∙ (sym is ∙ fails) in
    absurd cc

none_of : (o : Option Point) (b : Bool) → is_some o ≡ not b → b ≡ true → o ≡ None
none_of None b is none = refl
none_of (Some p) b is none = absurd (let e : true ≡ false = is ∙ ap not none in cc)

pub returns-then-is_none-clause-yes : goal.returns-then-is_none-clause-yes
returns-then-is_none-clause-yes c t harts g i line flow st next u n low source =
    unnoticed harts g flow i c.args.hart line next c.args.self.now st c.requires.hart
    (c.may_be_named.ensures c.if-not-may_be_named.true) (none_of _ c.is_none.result c.is_none.ensures c.if-is_none.true) u n low source

pub returns-then-is_some-clause-no : goal.returns-then-is_some-clause-no
returns-then-is_some-clause-no c same harts g i line flow st next =
    let P : ℕ → Type 0 = λ n. IsNotice g c.loop-u.u n c.args.hart (records_before c.args.hart g i + 1) in
    let t = (most_some P c.notice.result (c.notice.ensures harts g i line flow st next)).0 (sym c.is_some.ensures ∙ c.if-is_some.true) in
    (c.loop-u.u, t.0, inl t.1)

pub returns-then-is_some-2-clause-no : goal.returns-then-is_some-2-clause-no
returns-then-is_some-2-clause-no c same harts g i line flow st next =
    let P : ℕ → Type 0 = λ n. IsAfter g c.loop-u.u n c.args.hart (records_before c.args.hart g i + 1) in
    let t = (most_some P c.noticed.result (c.noticed.ensures harts g i line flow st next)).0 (sym c.is_some-in-loop-u.ensures ∙ c.if-is_some-2.true) in
    (c.loop-u.u, t.0, inr t.1)

pub loop-u-preserved : goal.loop-u-preserved
loop-u-preserved c harts g i line flow st next u n low source = dite (ℕ_discrete u c.loop-u.u)
    (λ e. here (subst (λ (z : ℕ). IsNotice g z n c.args.hart m ⊎ IsAfter g z n c.args.hart m) e source))
    (λ ne. c.loop-u.invariant harts g i line flow st next u n (omega arith) source)
  where
    m : ℕ
    m = records_before c.args.hart g i + 1

    here : IsNotice g c.loop-u.u n c.args.hart m ⊎ IsAfter g c.loop-u.u n c.args.hart m → ⊥
    here (inl x) = none_left (λ k. IsNotice g c.loop-u.u k c.args.hart m) c.notice.result c.is_some.result (c.notice.ensures harts g i line flow st next) c.is_some.ensures c.if-is_some.false n x
    here (inr x) = none_left (λ k. IsAfter g c.loop-u.u k c.args.hart m) c.noticed.result c.is_some-in-loop-u.result (c.noticed.ensures harts g i line flow st next) c.is_some-in-loop-u.ensures c.if-is_some-2.false n x

pub returns-clause-yes : goal.returns-clause-yes
returns-clause-yes c t harts g i line flow st next u n low source =
    c.loop-u.invariant harts g i line flow st next u n (let z : 8 ≤ c.loop-u.u = c.loop-u-test.false in omega arith) source
