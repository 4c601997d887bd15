use Rattle.std.proofs.Common.{rules, ◌≡◌, ℕ, ◌<◌, ◌^◌, inl, inr, IsTrue, sym, ap, ◌∙◌, subst, arith}
use Rattle.std.specs.Int.{bit_at}
use Rattle.std.proofs.lemmas.Bool.{cases_eq}
use Rattle.std.proofs.lemmas.Nat.Bits.{bit_at-zero}
use Rattle.inherit_track.specs.declared.state.RegState.TheVariants as reg
use Rattle.inherit_track.specs.States.{state_in}
use Rattle.inherit_track.proofs.HeldLemmas.{held_few, held_not_in}
use Rattle.inherit_track.proofs.states.hold_in.Goals as goal

pub loop-left-init : goal.loop-left-init
loop-left-init c = (
  subst (λ (n : ℕ). n < 2 ^ 34) (sym c.requires.held) (held_few c.args.states.now c.told-states),
  λ k from none is _. held_not_in c.args.states.now c.args.held k from c.requires.held none is,
)

pub bounds-states-r : goal.bounds-states-r
bounds-states-r c = c.lowest-r.ensures.few 34 c.loop-left.invariant.0

pub loop-left-preserved : goal.loop-left-preserved
loop-left-preserved c = (
  (let less : c.without-left.result < c.loop-left.left = c.without-left.ensures.less c.lowest-r.ensures.is_in in let few = c.loop-left.invariant.0 in omega arith),
  λ k from none is lies. elim (cases_eq k c.lowest-r.result) [
    | inl same ↦
        let there : IsTrue c.is_in_block.result = c.is_in_block.ensures.1 (from, subst (λ (r : ℕ). state_in c.args.states.now r ≡ reg.Held from) same is, lies) in
        let no = c.if-is_in_block.false in search rules
    | inr other ↦ c.loop-left.invariant.1 k from (sym (c.without-left.ensures.others k other) ∙ none) is lies
  ],
)

pub returns : goal.returns
returns c =
    let left_none : c.loop-left.left ≡ 0 = omega arith in (
      λ no. absurd (search rules),
      λ holds. absurd (c.loop-left.invariant.1 holds.0 holds.1 (ap (λ (s : ℕ). bit_at s holds.0) left_none ∙ bit_at-zero holds.0) holds.2 holds.3),
    )
