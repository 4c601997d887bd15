use Rattle.shadow_frames.proofs.First.{next_shapes, next_frames}
use Rattle.shadow_frames.proofs.laws.next_frame.Goals as goal

pub returns-clause-shapes : goal.returns-clause-shapes
returns-clause-shapes _ w filling p k inside first = next_shapes w filling p k inside first

pub returns-clause-frames : goal.returns-clause-frames
returns-clause-frames _ w filling p k small inside first = next_frames w filling p k inside first small
