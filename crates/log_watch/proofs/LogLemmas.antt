-- What is known of an ordered log, of which it is only known that it is the log of a run.
use Rattle.std.proofs.Common.{◌≡◌, ◌≢◌, ℕ, ◌+◌, ◌<◌, ◌≤◌, List, Some}
use Rattle.std.proofs.Math.Logic.{∥∥₁_elim}
use denote.Struct.Props.{props}
use Rattle.pl_event.specs.declared.log.Line.{Line}
use Rattle.pl_event.specs.declared.log.Log.{Log}
use Rattle.pl_event.specs.Edges.{IsFlow, IsNotice, arc_of, notice_of}
use Rattle.pl_event.specs.Records.{IsRecord, records_before}
use Rattle.pl_event.specs.Runs.{IsRunLog}

flow_prop : (harts : ℕ) (lines : List Line) → IsProp (IsFlow harts lines)
flow_prop harts lines a b = λ d. record {
  within = within a.within b.within d;
  arcs = arcs a.arcs b.arcs d;
  notices = notices a.notices b.notices d;
  closed = closed a.closed b.closed d;
}
  where
    within : IsProp ((i h m : ℕ) (line : Line) → IsRecord lines i h m line → h < harts)
    within = hlevel props

    arcs : IsProp ((i h m : ℕ) (line : Line) → IsRecord lines i h m line → (u n : ℕ) → arc_of line u ≡ Some n → (u < harts) × (u ≢ h) × (1 ≤ n) × (n ≤ records_before u lines i))
    arcs = hlevel props

    notices : IsProp ((i h m : ℕ) (line : Line) → IsRecord lines i h m line → (u n : ℕ) → line.what ≡ notice_of h u n → (u < harts) × (u ≢ h) × (records_before u lines i < n))
    notices = hlevel props

    closed : IsProp ((i h m : ℕ) (line : Line) → IsRecord lines i h (m + 1) line → (u n : ℕ) → IsNotice lines h m u n → n ≤ records_before u lines i)
    closed = hlevel props

pub flow_of : (log : Log) → ∥ IsRunLog log ∥₁ → IsFlow log.harts log.lines
flow_of log run = ∥∥₁_elim run (flow_prop log.harts log.lines) (λ (r : IsRunLog log). r.flow)
