use Rattle.shadow_frames.proofs.Placed.{placed}
use Rattle.shadow_frames.proofs.opening.place_page.Goals as goal

pub returns-clause-words : goal.returns-clause-words
returns-clause-words c = placed c.args.words.now c.fill_frame.new.words c.args.page c.args.frame c.args.filling c.with_bit.result c.requires.size c.requires.page c.requires.frame c.with_bit.ensures c.fill_frame.ensures.inside c.fill_frame.ensures.outside
