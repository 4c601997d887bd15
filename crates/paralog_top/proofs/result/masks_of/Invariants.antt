use Rattle.std.proofs.Common.{◌≡◌, length, take, map}
use Rattle.lifeguard.specs.State.{span}
use Rattle.lifeguard.specs.Shadow.{state_of}
use Rattle.paralog_top.proofs.result.masks_of.Given as goal

abbrev pub invariant-loop-register : goal.invariant-loop-register
invariant-loop-register g l = record {
  long : length l.masks ≡ 34;
  told : take l.register l.masks ≡ map ((state_of l.monitor.shadow).masks l.hart) (span 0 l.register);
}
