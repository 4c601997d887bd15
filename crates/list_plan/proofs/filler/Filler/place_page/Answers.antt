use Rattle.std.proofs.Common.{ℕ, ◌+◌, ◌*◌, ◌/◌, ◌%◌, ◌^◌, [], ◌∷◌, refl, sym, ap, ◌∙◌, subst}
use Rattle.shadow_frames.specs.Frames.{fills, writes}
use Rattle.list_plan.specs.inner.Fills.{Fills, words_of}
use Rattle.list_plan.proofs.FillLemmas.{fills_are, then_fills}
use Rattle.list_plan.proofs.filler.Filler.place_page.Goals as goal

pub returns : goal.returns
returns c =
    let a = c.args.self.now in
    let b = c.write.new.self in
    let d = c.write-2.new.self in
    let e = c.fill_frame.new.self in
    let f = c.args.frame in
    let marked = c.in_ok-write.ensures (λ (v : ℕ). v + 2 ^ (c.args.frame % 64)) (ap (λ (v : ℕ). v + 2 ^ (c.args.frame % 64)) (sym c.word-bits.ensures) ∙ sym c.with_bit.ensures) in
    let placed = c.in_ok-write-2.ensures (λ (v : ℕ). c.args.frame + 1) refl in
    let filled = subst (Fills c.write-2.new.self c.fill_frame.new.self) (fills_are c.args.filling (words_of c.write-2.new.self) (4113 + 256 * c.args.frame) 256) c.in_ok-fill_frame.ensures in
    then_fills c.args.self.now c.write.new.self c.fill_frame.new.self (writes (9 + c.args.frame / 64) (λ (v : ℕ). v + 2 ^ (c.args.frame % 64)) ∷ []) (writes (17 + c.args.page) (λ _. c.args.frame + 1) ∷ fills (4113 + 256 * c.args.frame) c.args.filling 256) marked
    (then_fills c.write.new.self c.write-2.new.self c.fill_frame.new.self (writes (17 + c.args.page) (λ _. c.args.frame + 1) ∷ []) (fills (4113 + 256 * c.args.frame) c.args.filling 256) placed filled)
