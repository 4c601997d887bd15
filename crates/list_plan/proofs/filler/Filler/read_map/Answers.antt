use Rattle.std.proofs.Common.{◌∙◌, arith}
use Rattle.std.proofs.lemmas.List.{length-set}
use Rattle.list_plan.specs.inner.Fills.{words_of}
use Rattle.list_plan.specs.inner.Pieces.{word_read}
use Rattle.list_plan.proofs.FillLemmas.{fills_next}
use Rattle.list_plan.proofs.FrameLemmas.{read_next, reads_keep}
use Rattle.list_plan.proofs.filler.Filler.read_map.Goals as goal

pub loop-i-preserved : goal.loop-i-preserved
unfolding word_read
loop-i-preserved c =
    let inv = c.loop-i.invariant in
    record {
      fills = fills_next word_read c.args.self.now c.loop-i.self c.read.new.self 9 c.loop-i.i inv.fills c.in_ok-map.ensures.fills;
      long = length-set c.loop-i.map c.loop-i.i c.in_ok-map.field-0 ∙ inv.long;
      words = read_next c.args.self.now (words_of c.loop-i.self) c.loop-i.map c.loop-i.i c.in_ok-map.field-0 (inv.fills.words ∙ reads_keep c.loop-i.i (words_of c.args.self.now) 9) (omega (arith, inv.long, c.loop-i-test.true)) c.in_ok-map.ensures.value inv.words;
    }
