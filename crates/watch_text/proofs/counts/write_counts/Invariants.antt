use Rattle.std.proofs.Common.{◌≡◌, ◌++◌, take}
use Rattle.std.specs.Prelude.{string_bytes}
use Rattle.std.specs.List.{flat_map}
use Rattle.watch_text.specs.CountsText.{hart_counts}
use Rattle.watch_text.proofs.counts.write_counts.Given as goal

abbrev pub invariant-loop-found : goal.invariant-loop-found
invariant-loop-found l =
    string_bytes l.out ≡ string_bytes l.initial.out
    ++ flat_map (λ found. hart_counts found.hart found.checks found.misses) (take l.found-index l.results)
