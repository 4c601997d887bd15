use Rattle.std.proofs.Common.{◌≡◌, [], ◌++◌, string_bytes}
use Rattle.std.specs.Prelude.{codes, slice_index, slice_index_or}
use Rattle.std.specs.List.{flat_map}
use Rattle.lifeguard.specs.State.{span}
use Rattle.standard_probes.specs.ProbeLines.{counted, kind_words}
use Rattle.standard_probes.proofs.kinds.kinds_line.Given as goal

abbrev pub invariant-loop-number : goal.invariant-loop-number
invariant-loop-number l = string_bytes l.out ≡ codes "probe kinds" ++ flat_map (λ kind. counted (slice_index_or kind_words kind []) (slice_index l.counts kind)) (span 0 l.number)
