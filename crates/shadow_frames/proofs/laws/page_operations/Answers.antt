use Rattle.shadow_frames.proofs.PageOperations.{op_of_page}
use Rattle.shadow_frames.proofs.laws.page_operations.Goals as goal

pub returns : goal.returns
returns _ page w p n k j less lt = op_of_page page k w p n j less lt
