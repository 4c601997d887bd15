-- What is kept of the harts of a run, and what a step does to it.
use Rattle.std.specs.Prelude.{◌≡◌, ℕ, ◌<◌, ◌≤◌, List, length, slice_index}
use Rattle.pl_base.specs.declared.layout.TheConstants.{MAX_HARTS}
use Rattle.order_core.specs.declared.course.Course.{Course}
use Rattle.order_core.specs.declared.state.HartState.{HartState}
use Rattle.order_core.specs.declared.state.CoreState.{CoreState}
use Rattle.order_core.specs.declared.steps.Act.{Act}
use Rattle.order_core.specs.Course.{length_of}
use Rattle.order_core.specs.Core.{IsMet}
use Rattle.order_core.specs.Counts.{writes_before}
use Rattle.order_core.specs.Runs.{IsAllowed, Makes}
use Rattle.order_core.specs.States.{core_of, hart_in}
use Rattle.order_core.specs.inner.Places.{place_of, end_of, HasWriteAt}

-- what is kept of a hart: the needs of its first records were seen, and its performed writes are those before the next
pub record IsKept (c : Course) (h : ℕ) (s : HartState) : Type 0 where
  pub eight : length s.seen ≡ MAX_HARTS
  pub met_low : s.met ≤ length_of c h
  pub met : IsMet c (slice_index s.seen) h s.met
  pub from_one : 1 ≤ s.next.number
  pub within : place_of s.next ≤ end_of c h
  pub count : s.written ≡ writes_before c h s.next.number s.next.op
  pub there : s.next.number ≤ length_of c h → HasWriteAt c h s.next

-- what is kept of the harts: nothing above a progress word was seen
pub record AreKept (c : Course) (harts : List HartState) : Type 0 where
  pub eight : length harts ≡ MAX_HARTS
  pub each : (h : ℕ) → h < c.log.harts → IsKept c h (hart_in harts h)
  pub seen : (h u : ℕ) → slice_index (hart_in harts h).seen u ≤ (hart_in harts u).progress

pub record Fits (c : Course) (s : CoreState) : Type 0 where
  pub harts : AreKept c s.harts
  pub words : length s.words.items ≡ length c.opening

-- the hart has done and seen nothing
abbrev pub IsFresh : HartState → Type 0
IsFresh s = (s.written ≡ 0) × (s.progress ≡ 0) × ((u : ℕ) → slice_index s.seen u ≡ 0)

-- hart h may do this at s
abbrev pub MayMake : Course → CoreState → ℕ → Act → Type 0
MayMake c s h act = IsAllowed c (core_of s) h act

-- hart h does this at s, and s' is the state after it
abbrev pub IsMade : Course → CoreState → ℕ → Act → CoreState → Type 0
IsMade c s h act s' = Makes c (core_of s) h act (core_of s')
