use Rattle.std.proofs.Common.{ℕ, ◌+◌, ◌-◌, ◌/◌, ◌%◌, ◌^◌, refl, sym, ap, ◌∙◌}
use Rattle.list_plan.proofs.FrameLemmas.{unmaps_page}
use Rattle.list_plan.proofs.filler.Filler.unmap_page.Goals as goal

pub returns : goal.returns
returns c =
    unmaps_page c.args.self.now c.read.new.self c.read-2.new.self c.write.new.self c.write-2.new.self c.less-before.result c.args.page
    (c.less-before.ensures ∙ ap (λ (d : ℕ). d - 1) c.in_ok-directory.ensures.value)
    c.in_ok-directory.ensures.fills c.in_ok-bits.ensures.fills
    (c.in_ok-write.ensures (λ (v : ℕ). v - 2 ^ (c.less-before.result % 64))
    (ap (λ (v : ℕ). v - 2 ^ (c.less-before.result % 64)) (ap (λ (w : ℕ → ℕ). w (9 + c.less-before.result / 64)) c.in_ok-bits.ensures.fills.words ∙ sym c.in_ok-bits.ensures.value)
    ∙ sym (c.less-cleared.ensures ∙ ap (λ (z : ℕ). c.in_ok-bits.bits - z) c.power-bit.ensures)))
    (c.in_ok-write-2.ensures (λ _. 0) refl)
