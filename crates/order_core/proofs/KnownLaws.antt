-- The laws of the core, at a plan that is known to be lawful.
use Rattle.std.proofs.Common.{◌≡◌, ◌≢◌, ℕ, ◌+◌, ◌^◌, ◌<◌, ◌≤◌, ◌⊎◌, List, length, take, Some, inl, inr, arith}
use Rattle.std.proofs.Math.Logic.{∥∥₁_elim}
use denote.Struct.Props.{props}
use mathlib.Core.Logic.{dite}
use native.Mathlib.Decide.{ℕ_discrete}
use Rattle.order_core.specs.declared.course.Course.{Course}
use Rattle.order_core.specs.declared.course.Operation.{Operation}
use Rattle.order_core.specs.declared.steps.Act.{Act}
use Rattle.order_core.specs.declared.steps.CoreStep.{CoreStep}
use Rattle.order_core.specs.Lanes.{Lands}
use Rattle.order_core.specs.Lawful.{IsLawful, IsTable}
use Rattle.order_core.specs.Core.{Core, IsPassed, IsConsistent, IsNextWrite, IsFinished, opening_core, after_write, after_advertise, after_see}
use Rattle.order_core.specs.Runs.{IsReached, Makes, LeavesRead, StaysOpen}
use Rattle.order_core.specs.FedCore.{FedCore, opening_fed, hart_at, FedMakes, IsFedReached}
use Rattle.order_core.specs.Feeds.{IsFedConsistent, HasFedMove}
use Rattle.order_core.specs.declared.fed_step.FedStep.{FedStep}
use Rattle.order_core.specs.Freed.{HasEnded, after_free}
use Rattle.order_core.specs.Outcomes.{ReadsAreSequential}
use Rattle.order_core.specs.Guarantees.{ReadsFindValues, WritesFindLanes, ReadsStayOpen, HasLastWords, HasMove, HasFewMoves}
use Rattle.order_core.proofs.FedProgress as fed
use Rattle.order_core.proofs.FeedLemmas as feeds
use Rattle.order_core.proofs.FreedLemmas as freed
use Rattle.order_core.proofs.Keeps as keeps
use Rattle.order_core.proofs.Whole as whole

module _ (c : Course) (law : ∥ IsLawful c ∥₁) where
  pub table : IsTable c.opening
  table = ∥∥₁_elim law (hlevel props) (λ (l : IsLawful c). l.table)

  pub opens : IsConsistent c (opening_core c)
  opens = ∥∥₁_elim law (hlevel props) (λ (l : IsLawful c). keeps.opens c l)

  pub consistent : (steps : List CoreStep) (k : Core) → IsReached c steps k → IsConsistent c k
  consistent steps k r = ∥∥₁_elim law (hlevel props) (λ (l : IsLawful c). whole.reached_consistent c l steps k r)

  pub few_moves : (steps : List CoreStep) (k : Core) → IsReached c steps k → HasFewMoves c k
  few_moves steps k r more k' m = ∥∥₁_elim law (hlevel props) (λ (l : IsLawful c). whole.few_moves c l k (whole.reached_fits c l steps k r) more k' m)

  module _ (k : Core) (st : IsConsistent c k) where
    pub step : (h : ℕ) (act : Act) (k' : Core) → Makes c k h act k' → IsConsistent c k'
    step h act k' m = ∥∥₁_elim law (hlevel props) (λ (l : IsLawful c). whole.one_step c l h k act k' st m)

    pub writes : (h p : ℕ) (a : Operation) → IsNextWrite c k h p a → (n : ℕ) → Lands a.what (k.word a.what.word) n → IsConsistent c (after_write k a n)
    writes h p a m n lands = ∥∥₁_elim law (hlevel props) (λ (l : IsLawful c). keeps.writes c l k st p a (whole.own_write c l h p a k m) n lands)

    pub advertises : (h m : ℕ) → k.progress h ≤ m → IsPassed c (k.written h) (k.seen h) h m → IsConsistent c (after_advertise k h m)
    advertises h m up may = ∥∥₁_elim law (hlevel props) (λ (l : IsLawful c). keeps.advertises c l k st h m up may)

    pub sees : (h u : ℕ) → IsConsistent c (after_see k h u)
    sees h u = ∥∥₁_elim law (hlevel props) (λ (l : IsLawful c). keeps.looks c l k st h u)

    pub frees : (h : ℕ) → HasEnded c k h → IsConsistent c (after_free c k h)
    frees h ended = ∥∥₁_elim law (hlevel props) (λ (l : IsLawful c). freed.frees c k st h ended l)

    pub read_finds : ReadsFindValues c k
    read_finds h p a m j four covered = ∥∥₁_elim law (hlevel props) (λ (l : IsLawful c). keeps.reads c l k st h p a m j four covered)

    pub write_finds : WritesFindLanes c k
    write_finds h p a m j four covered = ∥∥₁_elim law (hlevel props) (λ (l : IsLawful c). keeps.write_finds c l k st p a (whole.own_write c l h p a k m) j four covered)

    pub finishes : IsFinished c k → HasLastWords c k
    finishes end w j low high four = ∥∥₁_elim law (hlevel props) (λ (l : IsLawful c). whole.finished_words c l k st end w j low high four)

    pub moves : (IsFinished c k → ⊥) → ∥ HasMove c k ∥₁
    moves unfinished = ∥∥₁_elim law (hlevel props) (λ (l : IsLawful c). ∣ whole.can_change c l k st unfinished ∣₁)

    pub stays_open : ReadsStayOpen c k
    stays_open h p a may s k' m leaves = dite (ℕ_discrete s.hart h) (λ own. by own leaves) other
      where
        other : s.hart ≢ h → StaysOpen c h p a k k'
        other ne = (
          ∥∥₁_elim law (hlevel props) (λ (l : IsLawful c). (whole.read_after_other c l h p a k st may s k' m ne).0),
          λ j four covered. ∥∥₁_elim law (hlevel props) (λ (l : IsLawful c). (whole.read_after_other c l h p a k st may s k' m ne).1 j four covered),
        )

        by : s.hart ≡ h → (s.hart ≢ h) ⊎ LeavesRead c h a s.act → StaysOpen c h p a k k'
        by own (inl ne) = absurd (ne own)
        by own (inr leave) = (
          ∥∥₁_elim law (hlevel props) (λ (l : IsLawful c). (whole.read_after_own c l h p a k st may s k' m own leave).0),
          λ j four covered. ∥∥₁_elim law (hlevel props) (λ (l : IsLawful c). (whole.read_after_own c l h p a k st may s k' m own leave).1 j four covered),
        )

  pub reads_are_sequential : (steps : List CoreStep) → ReadsAreSequential c steps
  reads_are_sequential steps i s k there r p a is may = read_finds k (consistent (take i steps) k r) s.hart p a may

  pub line_hart_low : (n h : ℕ) → hart_at c.log.lines n ≡ Some h → h < 8
  line_hart_low n h e = ∥∥₁_elim law (hlevel props) (λ (l : IsLawful c).
      let low : h < c.log.harts = feeds.hart_low c l n h e in let eight : c.log.harts ≤ 8 = l.log.opening.few in omega arith)

  pub line_few : (n h : ℕ) → hart_at c.log.lines n ≡ Some h → n + 1 < 2 ^ 32
  line_few n h e = ∥∥₁_elim law (hlevel props) (λ (l : IsLawful c).
      let low : n < length c.log.lines = feeds.line_low c n h e in let few : length c.log.lines < 4294967295 = l.few in omega arith)

  pub opens_fed : IsFedConsistent c (opening_fed c)
  opens_fed = ∥∥₁_elim law (hlevel props) (λ (l : IsLawful c). feeds.opens_fed c l)

  pub fed_step : (f : FedCore) (s : FedStep) (f' : FedCore) → IsFedConsistent c f → FedMakes c f s f' → IsFedConsistent c f'
  fed_step f s f' st m = ∥∥₁_elim law (hlevel props) (λ (l : IsLawful c). feeds.fed_step c l f s f' st m)

  pub fed_consistent : (steps : List FedStep) (f : FedCore) → IsFedReached c steps f → IsFedConsistent c f
  fed_consistent steps f r = ∥∥₁_elim law (hlevel props) (λ (l : IsLawful c). feeds.reached_fed c l steps f r)

  pub fed_moves : (f : FedCore) → IsFedConsistent c f → (IsFinished c f.core → ⊥) → ∥ HasFedMove c f ∥₁
  fed_moves f st unfinished = ∥∥₁_elim law (hlevel props) (λ (l : IsLawful c). ∣ fed.fed_moves c l f st unfinished ∣₁)
