use Rattle.shadow_frames.proofs.Free.{free_frame}
use Rattle.shadow_frames.proofs.laws.a_frame_is_free.Goals as goal

pub returns : goal.returns
returns _ w bytes st few = free_frame w bytes st few
