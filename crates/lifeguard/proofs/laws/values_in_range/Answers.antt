use Rattle.lifeguard.proofs.RangeLemmas.{plain_in_range}
use Rattle.lifeguard.proofs.laws.values_in_range.Goals as goal

pub returns : goal.returns
returns c = plain_in_range
