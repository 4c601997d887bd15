use Rattle.list_plan.proofs.BlockLemmas.{reads_none, reads_some}
use Rattle.list_plan.proofs.filler.Filler.read_block.Goals as goal

pub returns-then-directory-eq0 : goal.returns-then-directory-eq0
returns-then-directory-eq0 c = reads_none c.args.self.now c.read.new.self c.args.block c.in_ok-directory.directory c.in_ok-directory.ensures.value c.in_ok-directory.ensures.fills c.if-directory-eq0.true

pub returns : goal.returns
returns c = reads_some c.args.self.now c.read.new.self c.args.block c.in_ok-directory.directory c.in_ok-directory.ensures.value c.in_ok-directory.ensures.fills c.if-directory-eq0.false c.shadow_word.result c.shadow_word.ensures.word c.read-2.new.self c.in_ok-read.ensures.fills
