use Rattle.std.proofs.Common.{[]}
use Rattle.pl_event.proofs.Before.{eight}
use Rattle.arc_capture.proofs.capture.Capture.new.Goals as goal

pub returns : goal.returns
returns c = record { counts = λ h low. eight 0 h; lasts = c.in_ok-new.ensures [] }
