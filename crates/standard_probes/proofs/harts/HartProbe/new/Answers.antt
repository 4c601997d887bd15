use Rattle.standard_probes.proofs.Tallying.{zero_at}
use Rattle.standard_probes.proofs.harts.HartProbe.new.Goals as goal

pub returns : goal.returns
returns c = λ hart. zero_at 256 hart
