use Rattle.std.proofs.Common.{◌≡◌, ◌∷◌, ◌++◌, string_bytes}
use Rattle.std.specs.Prelude.{codes, slice_index}
use Rattle.std.specs.Fmt.{decimal}
use Rattle.std.specs.List.{flat_map}
use Rattle.lifeguard.specs.State.{span}
use Rattle.standard_probes.specs.ProbeLines.{counted}
use Rattle.standard_probes.proofs.harts.harts_line.Given as goal

abbrev pub invariant-loop-hart : goal.invariant-loop-hart
invariant-loop-hart l = string_bytes l.out ≡ codes "probe harts" ++ flat_map (λ hart. counted (104 ∷ decimal hart) (slice_index l.counts hart)) (span 0 l.hart)
