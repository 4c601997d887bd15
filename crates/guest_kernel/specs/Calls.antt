-- The table of kernel calls: what each of them answers, and which event it gives.
use Rattle.std.specs.Prelude.{◌≡◌, ◌==◌, ℕ, ◌+◌, ◌-◌, ◌*◌, ◌/◌, ◌%◌, ◌^◌, ◌<◌, ◌≤◌, ◌⊎◌, false, true, [], ◌∷◌, Option, Some, None, if◌then◌else◌, length, min, slice_index_or}
use Rattle.pl_base.specs.Pages.{count_below, EachPage}
use Rattle.guest_mem.specs.Bytes.{AllMapped}
use Rattle.guest_heap.specs.FirstFit.{IsFirstFit, IsRefused}
use Rattle.pl_event.specs.declared.event.Kind.{Kind}
use Rattle.pl_event.specs.declared.event.Kind.TheVariants.{Im, Al, Fr, Bf, Mp, Um, Rd, Wr}
use Rattle.guest_kernel.specs.declared.call.CallArgs.{CallArgs}
use Rattle.guest_kernel.specs.declared.call.KernelStep.{KernelStep}
use Rattle.guest_kernel.specs.declared.call.KernelStep.TheVariants.{Ended, Went}
use Rattle.guest_kernel.specs.State.{State}
use Rattle.pl_base.specs.declared.layout.TheConstants.{PAGE_BYTES, PAGE_COUNT, MAX_MAPPED_PAGES, MAP_START, MAP_END, MAX_CALL_BYTES, MAX_OUTPUT_BYTES}

pub data Call : Type 0 where
  exit_call : Call
  alloc_call : Call
  free_call : Call
  map_call : Call
  unmap_call : Call
  read_call : Call
  write_call : Call
  unknown_call : Call

-- the calls by their number in a7, from 1
abbrev pub call_of : ℕ → Call
call_of a7 =
    slice_index_or
    (unknown_call ∷ exit_call ∷ alloc_call ∷ free_call ∷ map_call ∷ unmap_call ∷ read_call ∷ write_call ∷ []) a7
    unknown_call

-- a call that failed gives -1, and its event is that a0 is a constant
abbrev pub failure : KernelStep
failure = Went (2 ^ 32 - 1) (Im 10)

-- a read or a write that moved so many bytes, of that kind where there are any
abbrev pub moved : ℕ → Kind → KernelStep
moved count kind = Went count (if count == 0 then Im 10 else kind)

-- the heap's live blocks, an address and an asked size each
abbrev pub Live : State → ℕ → ℕ → Type 0
Live s addr size = s.blocks addr ≡ Some size

-- pages of the map region, at least one
pub record IsMapRange (addr count : ℕ) : Type 0 where
  pub aligned : addr % PAGE_BYTES ≡ 0
  pub some : 1 ≤ count
  pub from : MAP_START ≤ addr
  pub within : addr + PAGE_BYTES * count ≤ MAP_END

-- where an alloc succeeds, and the address that it gives
pub record Allocates (s : State) (size addr : ℕ) : Type 0 where
  pub some : 0 < size
  pub few : size ≤ MAX_CALL_BYTES
  pub first : IsFirstFit (Live s) size addr

-- where a map succeeds
pub record CanMap (s : State) (addr count : ℕ) : Type 0 where
  pub range : IsMapRange addr count
  pub free : EachPage s.mapped (addr / PAGE_BYTES) count false
  pub room : count_below s.mapped PAGE_COUNT + count ≤ MAX_MAPPED_PAGES

-- where an unmap succeeds
pub record CanUnmap (s : State) (addr count : ℕ) : Type 0 where
  pub range : IsMapRange addr count
  pub all_mapped : EachPage s.mapped (addr / PAGE_BYTES) count true

-- where a read succeeds that asks for so many bytes
pub record CanRead (s : State) (addr count : ℕ) : Type 0 where
  pub few : count ≤ MAX_CALL_BYTES
  pub all_mapped : AllMapped s.bytes addr count
  pub no_text : (k : ℕ) → addr ≤ k → k < addr + count → s.texts (k / PAGE_BYTES) ≡ false

-- where a write succeeds
pub record CanWrite (s : State) (addr count : ℕ) : Type 0 where
  pub few : count ≤ MAX_CALL_BYTES
  pub all_mapped : AllMapped s.bytes addr count
  pub room : length s.output + count ≤ MAX_OUTPUT_BYTES

-- a call that comes to `success` where it can, and fails where it cannot
abbrev pub ComesTo : Type 0 → KernelStep → KernelStep → Type 0
ComesTo Can success step = (Can × (step ≡ success)) ⊎ ((Can → ⊥) × (step ≡ failure))

-- an alloc answers the block's address, or 0
pub record GivesBlock (s : State) (size : ℕ) (step : KernelStep) : Type 0 where
  pub addr : ℕ
  pub allocates : Allocates s size addr
  pub answer : step ≡ Went addr (Al addr size)

-- a free of a live block or of none
abbrev pub freed : ℕ → Option ℕ → KernelStep
freed addr (Some size) = Went 0 (Fr addr size)
freed addr None = Went (2 ^ 32 - 1) (Bf addr)

-- the table
abbrev pub IsAnswer : Call → State → CallArgs → KernelStep → Type 0
IsAnswer exit_call s args step = step ≡ Ended args.a0
IsAnswer alloc_call s args step = GivesBlock s args.a0 step ⊎ (IsRefused (Live s) args.a0 × (step ≡ Went 0 (Im 10)))
IsAnswer free_call s args step = step ≡ freed args.a0 (s.blocks args.a0)
IsAnswer map_call s args step = ComesTo (CanMap s args.a0 args.a1) (Went 0 (Mp (args.a0 / PAGE_BYTES) args.a1)) step
IsAnswer unmap_call s args step = ComesTo (CanUnmap s args.a0 args.a1) (Went 0 (Um (args.a0 / PAGE_BYTES) args.a1)) step
IsAnswer read_call s args step = let count = min args.a2 (length s.input) in
    ComesTo (CanRead s args.a1 args.a2) (moved count (Rd args.a1 count)) step
IsAnswer write_call s args step = ComesTo (CanWrite s args.a1 args.a2) (moved args.a2 (Wr args.a1 args.a2)) step
IsAnswer unknown_call s args step = step ≡ failure

-- which calls ask for memory: an alloc, a free, and a map or a write that succeeds
abbrev pub AsksForMemory : Call → State → CallArgs → Type 0
AsksForMemory alloc_call s args = Unit {0}
AsksForMemory free_call s args = Unit {0}
AsksForMemory map_call s args = CanMap s args.a0 args.a1
AsksForMemory write_call s args = CanWrite s args.a1 args.a2
AsksForMemory _ s args = ⊥
