use Rattle.std.proofs.Common.{ℕ, Option, refl}
use Rattle.pl_event.specs.declared.log.Point.{Point}
use Rattle.std.proofs.Common.{None}
use Rattle.pl_event.proofs.Before.{tells_first, eight}
use Rattle.pl_event.proofs.heads.Heads.new.Goals as goal

pub returns : goal.returns
returns c g = tells_first _ g refl (eight {A = ℕ} 0) (eight {A = ℕ} 0) (eight {A = Option Point} None)
