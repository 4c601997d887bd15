use Rattle.std.specs.Prelude.{slice_index}
use Rattle.whence_text.proofs.RunLemmas.{Taken}
use Rattle.whence_text.proofs.run.take_events.Given as goal

abbrev pub invariant-each : goal.invariant-each
invariant-each l = Taken (slice_index l.pcs) l.events l.initial.trail l.place l.trail
