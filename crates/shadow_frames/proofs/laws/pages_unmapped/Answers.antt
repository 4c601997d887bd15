use Rattle.shadow_frames.proofs.Many.{all_unmapped, all_unmap_sound}
use Rattle.shadow_frames.proofs.laws.pages_unmapped.Goals as goal

pub returns-clause-represented : goal.returns-clause-represented
returns-clause-represented _ w bytes first n st room some = all_unmapped first bytes w n st room some

pub returns-clause-sound : goal.returns-clause-sound
returns-clause-sound _ w bytes first n st room some = all_unmap_sound first bytes w n st room some
