use Rattle.std.proofs.Common.{ℕ, List, Option, None, ap, ◌∙◌, slice_index_or}
use Rattle.pl_event.proofs.Before.{eight}
use Rattle.arc_capture.proofs.Capturing.{for_event, for_notice}
use Rattle.arc_capture.proofs.capture.Capture.candidates.Goals as goal

pub returns-in-Event : goal.returns-in-Event
returns-in-Event c size lines may = for_event size lines c.args.line.now c.args.self.now.lasts c.in-Event.event c.candidates.result may.has.lasts c.in-Event.is c.candidates.ensures

pub returns-in-Notice : goal.returns-in-Notice
returns-in-Notice c size lines may = for_notice size lines c.args.line.now c.in-Notice.hart c.in-Notice.of c.none.result c.in-Notice.is (λ u. ap (λ (z : List (Option ℕ)). slice_index_or z u None) c.none.ensures ∙ eight {A = Option ℕ} None u)
