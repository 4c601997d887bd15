use Rattle.std.specs.Prelude.{List, ℕ, []}
use Rattle.cases.specs.declared.device.Device.{Device}
use Rattle.pl_base.specs.FaultPlan.{new_plan}
use Rattle.pl_base.specs.MemSink.{Output}
use Rattle.pl_base.specs.MemSource.{Input}

-- A source of these bytes with the pieces and the failing calls of a device.
abbrev pub source_of : Device → List ℕ → Input
source_of d bytes = record { left = bytes; piece = d.piece; plan = new_plan d.fails.items }

-- A sink with the room, the pieces and the failing calls of a device, to which nothing was written.
abbrev pub sink_of : Device → Output
sink_of d = record { written = []; room = d.room; piece = d.piece; plan = new_plan d.fails.items }
