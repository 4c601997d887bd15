use Rattle.std.proofs.Common.{ℕ, sym, ap, ◌∙◌}
use Rattle.shadow_layout.specs.Operations.{changed_word}
use Rattle.list_plan.specs.inner.Changes.{changed_nibble}
use Rattle.list_plan.proofs.BlockLemmas.{changes_none, changes_some}
use Rattle.list_plan.proofs.filler.Filler.change_block.Goals as goal

pub returns-then-directory-eq0 : goal.returns-then-directory-eq0
returns-then-directory-eq0 g c = changes_none c.args.self.now c.read.new.self c.args.block c.in_ok-directory.directory c.in_ok-directory.ensures.value c.in_ok-directory.ensures.fills (changed_nibble (g.L.Lifeguard.rules c.args.guard) c.args.change) c.args.addr c.args.len c.if-directory-eq0.true

pub returns : goal.returns
returns g c =
    let f = changed_nibble (g.L.Lifeguard.rules c.args.guard) c.args.change in
    changes_some c.args.self.now c.read.new.self c.args.block c.in_ok-directory.directory c.in_ok-directory.ensures.value c.in_ok-directory.ensures.fills f c.args.addr c.args.len c.if-directory-eq0.false
    c.shadow_word-word.result c.shadow_word-word.ensures.word c.read-2.new.self c.write.new.self c.in_ok-old.ensures.fills
    (c.in_ok-write.ensures (changed_word f c.args.addr c.args.len c.args.block) (ap (changed_word f c.args.addr c.args.len c.args.block) (ap (λ (w : ℕ → ℕ). w c.shadow_word-word.result) c.in_ok-old.ensures.fills.words ∙ sym c.in_ok-old.ensures.value) ∙ sym c.word_after.ensures.value))
