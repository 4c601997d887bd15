-- What memory holds at the start, and where each hart begins.
use Rattle.std.specs.Prelude.{ℕ, ◌+◌, ◌-◌, ◌*◌, ◌/◌, Bool, if◌then◌else◌, List, [], ◌∷◌, ◌++◌, length, flat_map, slice_index, take}
use Rattle.std.specs.Int.{to_le_bytes, w32}
use Rattle.pl_base.specs.Pages.{is_among}
use Rattle.pl_event.specs.declared.log.PageKind.TheVariants.{Data, Heap, Stack}
use Rattle.pl_event.specs.declared.log.PageRun.{PageRun}
use Rattle.rv_exec.specs.Hart.{started}
use Rattle.core_sim.specs.declared.job.Job.{Job}
use Rattle.core_sim.specs.declared.hart.HartEnd.TheVariants.{Live}
use Rattle.core_sim.specs.declared.hart.Standing.{Standing}
use Rattle.pl_base.specs.declared.layout.TheConstants.{PAGE_BYTES, TEXT_START, DATA_START, HEAP_START, HEAP_END, STACKS_START, STACK_BYTES}

-- how many pages so many bytes take
abbrev pub pages_of : ℕ → ℕ
pages_of count = (count + (PAGE_BYTES - 1)) / PAGE_BYTES

-- the bytes of the text, each word with its lowest byte first
abbrev pub text_bytes : List ℕ → List ℕ
text_bytes words = flat_map (to_le_bytes w32) words

abbrev pub text_run : List ℕ → PageRun
text_run words = record { first = TEXT_START / PAGE_BYTES; count = pages_of (4 * length words); kind = Data }

-- the pages of the data, where there are any
abbrev pub data_runs : List ℕ → List PageRun
data_runs [] = []
data_runs (byte ∷ rest) =
    record { first = DATA_START / PAGE_BYTES; count = pages_of (length (byte ∷ rest)); kind = Data } ∷ []

abbrev pub heap_run : PageRun
heap_run = record { first = HEAP_START / PAGE_BYTES; count = (HEAP_END - HEAP_START) / PAGE_BYTES; kind = Heap }

abbrev pub stack_run : ℕ → PageRun
stack_run harts = record { first = STACKS_START / PAGE_BYTES; count = STACK_BYTES / PAGE_BYTES * harts; kind = Stack }

-- the pages that are mapped at the start: the text, the data, the heap and the stacks
abbrev pub start_runs : Job → List PageRun
start_runs job = (text_run job.words ∷ data_runs job.data_bytes) ++ heap_run ∷ stack_run job.harts ∷ []

-- a page of text, which no store changes
abbrev pub is_text : Job → ℕ → Bool
is_text job page = is_among (TEXT_START / PAGE_BYTES) (pages_of (4 * length job.words)) page

-- the byte at an address that nothing has written: the text, the data, and zeros
abbrev pub image : Job → ℕ → ℕ
image job address =
    if is_among TEXT_START (length (text_bytes job.words)) address
    then slice_index (text_bytes job.words) (address - TEXT_START)
    else (if is_among DATA_START (length job.data_bytes) address
    then slice_index job.data_bytes (address - DATA_START)
    else 0)

-- a live hart at its entry
abbrev pub standing_at : ℕ → ℕ → Standing
standing_at entry hart = record { state = started entry hart; end = Live }

-- the harts at the start, from the number `first` on
abbrev pub begin_from : ℕ → List ℕ → List Standing
begin_from first [] = []
begin_from first (entry ∷ entries) = standing_at entry first ∷ begin_from (first + 1) entries

abbrev pub first_harts : Job → List Standing
first_harts job = begin_from 0 (take job.harts job.entries)
