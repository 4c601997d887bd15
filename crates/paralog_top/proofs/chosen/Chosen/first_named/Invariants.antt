use Rattle.std.proofs.Common.{◌≡◌, length, map, take, string_bytes}
use Rattle.std.specs.Prelude.{All}
use Rattle.paralog_top.specs.ProbeNames.{IsFirst, names_at}
use Rattle.paralog_top.proofs.chosen.Chosen.first_named.Given as goal

abbrev pub invariant-loop-name : goal.invariant-loop-name
invariant-loop-name g l =
    let meanings = map (λ b. (goal.Probe-dyn g (b.vtable, b.value)).meaning b.value) l.probes in
    record {
      many : length l.chosen ≡ l.name-index;
      named : names_at meanings l.chosen ≡ map string_bytes (take l.name-index l.names);
      first : All (IsFirst meanings) l.chosen;
    }
