use Rattle.std.proofs.Common.{◌≡◌, ℕ, ◌<◌, cond, Bool, length, sym, ap, ◌∙◌, arith}
use Rattle.std.specs.Int.{bit_at}
use Rattle.inherit_track.specs.inner.Held.{held_bits}
use Rattle.inherit_track.proofs.HeldLemmas.{held_set}
use Rattle.inherit_track.proofs.RegisterLemmas.{sound_set}
use Rattle.inherit_track.proofs.inherit.Inherit.put.Goals as goal
use Rattle.inherit_track.proofs.inherit.Inherit.put.Goals.{then-is_held, else-is_held}

pub invariant_of-self : goal.invariant_of-self
invariant_of-self c =
    let states = c.self.inside.states in
    let r = c.args.rd in
    let x = c.args.state in
    let lt : r < 34 = c.requires.register in
    let inside : r < length states = (let long : length states ≡ 34 = c.self.ranges.0.1.0.1 in omega arith) in
    let held_is : c.self.inside.held ≡ held_bits states = c.self.invariant.1 in (
      sound_set states r x inside c.if-rd-ne0.true c.requires.range c.self.invariant.0,
      elim c.if-is_held.branch [
        | then-is_held w ↦ w.self-is ∙ held_set states r x w.with-self-inside.result inside
            (w.with-self-inside.ensures.here ∙ ap (λ (b : Bool). cond b 1 0) (sym w.if-is_held.true ∙ c.is_held.ensures))
            (λ i other. w.with-self-inside.ensures.others i other ∙ ap (λ (s : ℕ). bit_at s i) held_is)
        | else-is_held w ↦ w.self-is ∙ held_set states r x w.without-self-inside.result inside
            (w.without-self-inside.ensures.here ∙ ap (λ (b : Bool). cond b 1 0) (sym w.if-is_held.false ∙ c.is_held.ensures))
            (λ i other. w.without-self-inside.ensures.others i other ∙ ap (λ (s : ℕ). bit_at s i) held_is)
      ],
    )
