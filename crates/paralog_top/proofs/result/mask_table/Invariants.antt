use Rattle.std.proofs.Common.{◌≡◌, map}
use Rattle.lifeguard.specs.State.{span}
use Rattle.lifeguard.specs.Shadow.{state_of}
use Rattle.report_text.specs.StateText.{mask_row}
use Rattle.paralog_top.proofs.result.mask_table.Given as goal

abbrev pub invariant-loop-hart : goal.invariant-loop-hart
invariant-loop-hart g l = l.table.items ≡ map (mask_row (state_of l.monitor.shadow).masks) (span 0 l.hart)
