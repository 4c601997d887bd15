-- What a tally knows of the lines so far.
use Rattle.std.specs.Prelude.{◌≡◌, ◌+◌, ◌*◌, ◌<◌, ◌≤◌, ℕ, All, List, length}
use Rattle.pl_base.specs.declared.layout.TheConstants.{MAX_RECORDS}
use Rattle.pl_event.specs.declared.event.Event.{Event}
use Rattle.pl_event.specs.declared.log.Line.{Line}
use Rattle.pl_event.specs.declared.log.PageRun.{PageRun}
use Rattle.pl_event.specs.Numbers.{events_of}
use Rattle.pl_event.specs.Valid.{HasValidEvent, IsValidEvent}
use Rattle.lifeguard.specs.Shadow.{Represents}
use Rattle.addrcheck.specs.AddrRules.{addr_rules}
use Rattle.taintcheck.specs.TaintRules.{taint_rules}
use Rattle.memcheck.specs.MemRules.{mem_rules}
use Rattle.run_figures.specs.declared.tally.Tally.{Tally}
use Rattle.run_figures.specs.Summary.{arcs_in}

-- the events were played under the three lifeguards, for so many harts
pub record HasPlayed (harts : ℕ) (pages : List PageRun) (events : List Event) (tally : Tally) : Type 0 where
  pub addr : Represents addr_rules pages events tally.addr.shadow
  pub taint : Represents taint_rules pages events tally.taint.shadow
  pub mem : Represents mem_rules pages events tally.mem.shadow
  pub addr_harts : tally.addr.harts ≡ harts
  pub taint_harts : tally.taint.harts ≡ harts
  pub mem_harts : tally.mem.harts ≡ harts

-- the event may be the next one
pub record MayPlay (harts : ℕ) (pages : List PageRun) (events : List Event) (event : Event) (tally : Tally) :
    Type 0 where
  pub has : HasPlayed harts pages events tally
  pub few : length events < MAX_RECORDS
  pub valid : IsValidEvent event harts

-- the records and arcs of the lines were counted, and their events played
pub record HasTallied (harts : ℕ) (pages : List PageRun) (lines : List Line) (tally : Tally) : Type 0 where
  pub records : tally.records ≡ length lines
  pub arcs : tally.arcs ≡ arcs_in lines
  pub most : tally.arcs ≤ 8 * length lines
  pub played : HasPlayed harts pages (events_of lines) tally

-- these lines may be the next ones
pub record MayTally (harts : ℕ) (pages : List PageRun) (lines more : List Line) (tally : Tally) : Type 0 where
  pub has : HasTallied harts pages lines tally
  pub few : length lines + length more ≤ MAX_RECORDS
  pub eight : All (λ line. length line.arcs ≡ 8) more
  pub valid : All (λ line. HasValidEvent harts line.what) more
