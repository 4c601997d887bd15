use Rattle.std.proofs.Common.{ℕ, sym, ap, ◌∙◌, ◌/◌}
use Rattle.lifeguard.specs.Plain.{mask_bit}
use Rattle.shadow_layout.specs.Operations.{changed_word, not_addr, not_taint}
use Rattle.list_plan.proofs.BlockLemmas.{stores_followed, stores_none, stores_unfollowed}
use Rattle.list_plan.proofs.filler.Filler.store.Goals as goal

pub returns-then-directory-eq0 : goal.returns-then-directory-eq0
returns-then-directory-eq0 g c = stores_none (g.L.Lifeguard.rules c.args.guard) c.args.size c.args.addr c.args.self.now c.read.new.self c.in_ok-directory.directory c.in_ok-directory.ensures.value c.in_ok-directory.ensures.fills c.args.len c.args.mask c.if-directory-eq0.true

pub returns-then-not-follows_values : goal.returns-then-not-follows_values
returns-then-not-follows_values g c = stores_unfollowed (g.L.Lifeguard.rules c.args.guard) c.args.size c.args.addr c.args.self.now c.read.new.self c.in_ok-directory.directory c.in_ok-directory.ensures.value c.in_ok-directory.ensures.fills c.if-directory-eq0.false
    c.shadow_word-word.result c.shadow_word-word.ensures.word c.lanes_of-lanes.result c.lanes_of-lanes.ensures.value c.checks_accesses.result c.follows_values.result
    (c.checks_accesses.ensures ∙ ap not_taint c.name.ensures) (c.follows_values.ensures ∙ ap not_addr c.name-2.ensures)
    c.read_if.new.self c.in_ok-read_if.ensures c.args.len c.args.mask c.if-not-follows_values.true

pub returns : goal.returns
returns g c = stores_followed (g.L.Lifeguard.rules c.args.guard) c.args.size c.args.addr c.args.self.now c.read.new.self c.in_ok-directory.directory c.in_ok-directory.ensures.value c.in_ok-directory.ensures.fills c.if-directory-eq0.false
    c.shadow_word-word.result c.shadow_word-word.ensures.word c.lanes_of-lanes.result c.lanes_of-lanes.ensures.value c.checks_accesses.result c.follows_values.result
    (c.checks_accesses.ensures ∙ ap not_taint c.name.ensures) (c.follows_values.ensures ∙ ap not_addr c.name-2.ensures)
    c.read_if.new.self c.in_ok-read_if.ensures c.args.len c.args.mask c.if-not-follows_values.false
    c.read-2.new.self c.write.new.self c.in_ok-old.ensures.fills
    (c.in_ok-write.ensures (changed_word (λ (i old : ℕ). (g.L.Lifeguard.rules c.args.guard).store_nibble old (mask_bit c.args.mask i)) c.args.addr c.args.len (c.args.addr / 16))
    (ap (changed_word (λ (i old : ℕ). (g.L.Lifeguard.rules c.args.guard).store_nibble old (mask_bit c.args.mask i)) c.args.addr c.args.len (c.args.addr / 16)) (ap (λ (w : ℕ → ℕ). w c.shadow_word-word.result) c.in_ok-old.ensures.fills.words ∙ sym c.in_ok-old.ensures.value) ∙ sym c.word_after-new.ensures.value))
