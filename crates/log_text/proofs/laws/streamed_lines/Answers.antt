use Rattle.log_text.proofs.SoundLines.{streamed_sound}
use Rattle.log_text.proofs.laws.streamed_lines.Goals as goal

pub returns : goal.returns
returns c = streamed_sound
