-- A run as the list of its entries, the latest first, and what is looked up in it.
use Rattle.std.specs.Prelude.{ℕ, ◌+◌, ◌-◌, ◌/◌, Bool, if◌then◌else◌, List, [], ◌∷◌, ◌++◌, Option, Some, None, length, drop, slice_index, slice_set, unwrap_or}
use Rattle.pl_base.specs.Pages.{is_among}
use Rattle.guest_heap.specs.Blocks.{changed}
use Rattle.guest_kernel.specs.State.{State}
use Rattle.pl_event.specs.declared.event.Kind.{Kind}
use Rattle.pl_event.specs.declared.event.Kind.TheVariants.{St, Al, Fr, Mp, Rd}
use Rattle.rv_isa.specs.declared.instruction.Instr.{Instr}
use Rattle.core_sim.specs.declared.job.Job.{Job}
use Rattle.core_sim.specs.declared.hart.Standing.{Standing}
use Rattle.core_sim.specs.Harts.{live_harts}
use Rattle.pl_event.specs.OpeningPages.{is_in_runs}
use Rattle.core_sim.specs.Start.{start_runs, is_text, image, first_harts}
use Rattle.core_sim.specs.Steps.{Act}
use Rattle.core_sim.specs.Turns.{Turned, with_current, one_more, latest_hart}
use Rattle.pl_base.specs.declared.layout.TheConstants.{PAGE_BYTES}
use Rattle.pl_event.specs.Mapping.{mapped_by}

-- one step of a run: its hart, the instruction that was fetched, where there was one, and what it came to
pub record Entry : Type 0 where
  pub hart : ℕ
  pub instr : Option Instr
  pub act : Act

-- a byte of a list that was written from an address on
abbrev pub byte_of : ℕ → List ℕ → ℕ → Option ℕ
byte_of at list k = if is_among at (length list) k then Some (slice_index list (k - at)) else None

-- the byte that a step wrote at an address: a store and a read write their bytes, and an mp zeros
abbrev pub wrote : Kind → List ℕ → ℕ → Option ℕ
wrote (St width rv rb addr) stored k = byte_of addr stored k
wrote (Rd addr len) stored k = byte_of addr stored k
wrote (Mp page count) stored k = if is_among page count (k / PAGE_BYTES) then Some 0 else None
wrote _ stored k = None

-- a byte has the value of the last entry that wrote it, and else that of the job's image
abbrev pub value : Job → List Entry → ℕ → ℕ
value job [] k = image job k
value job (e ∷ before) k = unwrap_or (wrote e.act.kind e.act.stored k) (value job before k)

-- a page is mapped as the last mp or um of it says, and else as at the start
abbrev pub is_mapped : Job → List Entry → ℕ → Bool
is_mapped job [] = is_in_runs (start_runs job)
is_mapped job (e ∷ before) = mapped_by (is_mapped job before) e.act.kind

-- a block is live from its al to its fr
abbrev pub blocks_by : Kind → (ℕ → Option ℕ) → ℕ → Option ℕ
blocks_by (Al addr len) before = changed before addr (Some len)
blocks_by (Fr addr len) before = changed before addr None
blocks_by _ before = before

abbrev pub block_at : List Entry → ℕ → Option ℕ
block_at [] = λ _. None
block_at (e ∷ before) = blocks_by e.act.kind (block_at before)

-- how many bytes of the input were taken
abbrev pub taken_by : Kind → ℕ
taken_by (Rd addr len) = len
taken_by _ = 0

abbrev pub taken : List Entry → ℕ
taken [] = 0
taken (e ∷ before) = taken before + taken_by e.act.kind

-- the bytes that were sent outside
abbrev pub output : List Entry → List ℕ
output [] = []
output (e ∷ before) = output before ++ e.act.sent

-- the byte at an address, where its page is mapped
abbrev pub byte_at : Job → List Entry → ℕ → Option ℕ
byte_at job entries k = if is_mapped job entries (k / PAGE_BYTES) then Some (value job entries k) else None

-- what the guest has after these entries
abbrev pub state_after : Job → List Entry → State
state_after job entries = record {
  bytes = byte_at job entries;
  mapped = is_mapped job entries;
  texts = is_text job;
  blocks = block_at entries;
  input = drop (taken entries) job.input;
  output = output entries;
}

-- each hart is as its last entry left it, and else as at the start
abbrev pub harts_after : Job → List Entry → List Standing
harts_after job [] = first_harts job
harts_after job (e ∷ before) = slice_set (harts_after job before) e.hart e.act.next

-- the turns that were begun, the latest first
abbrev pub turns_of : Job → List Entry → List Turned
turns_of job [] = []
turns_of job (e ∷ before) =
    one_more (with_current job.schedule (turns_of job before) (live_harts (harts_after job before)))

-- the hart that the schedule names for the next entry
abbrev pub scheduled : Job → List Entry → ℕ
scheduled job entries =
    latest_hart (with_current job.schedule (turns_of job entries) (live_harts (harts_after job entries)))
