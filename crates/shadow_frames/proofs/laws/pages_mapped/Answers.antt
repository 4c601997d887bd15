use Rattle.std.proofs.Common.{arith}
use Rattle.shadow_frames.proofs.Many.{all_mapped, all_map_sound}
use Rattle.shadow_frames.proofs.laws.pages_mapped.Goals as goal

pub returns-clause-represented : goal.returns-clause-represented
returns-clause-represented _ w bytes first n s filling st full room none few = all_mapped first bytes s filling full 512 (omega arith) w n st room none few

pub returns-clause-sound : goal.returns-clause-sound
returns-clause-sound _ w bytes first n s filling st full room none few = all_map_sound first bytes s filling full 512 (omega arith) w n st room none few
