use Rattle.std.proofs.Common.{◌≡◌, take}
use Rattle.std.specs.Prelude.{fold, Some}
use Rattle.lifeguard.specs.State.{paged}
use Rattle.lifeguard.specs.Shadow.{bytes_in}
use Rattle.lifeguard.proofs.pages.map_runs.Given as goal

abbrev pub invariant-loop-run : goal.invariant-loop-run
invariant-loop-run g l = bytes_in l.pages ≡ fold (λ bytes run. paged (Some ((g.L.Lifeguard.rules l.guard).page_state run.kind)) run.first run.count bytes) (bytes_in l.fn.pages) (take l.run-index l.runs)
