use Rattle.std.proofs.Common.{◌≡◌, take}
use Rattle.paralog_top.specs.Runs.{ends_of}
use Rattle.paralog_top.proofs.run.ends.Given as goal

abbrev pub invariant-loop-hart : goal.invariant-loop-hart
invariant-loop-hart l = l.list.items ≡ ends_of (take l.hart l.machine.harts)
