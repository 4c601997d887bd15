use Rattle.pl_text.proofs.Fronts.{one_front}
use Rattle.pl_text.proofs.number.one_number.Goals as goal

pub returns : goal.returns
returns c = λ base n m rest other two low small big here there e. one_front base n m rest other two low small big here there e
