-- One step of a live hart: an instruction with all its effects, a call of the kernel, or a fault.
use Rattle.std.specs.Prelude.{◌≡◌, ◌≢◌, ◌==◌, ℕ, ◌+◌, ◌-◌, ◌/◌, ◌%◌, ◌<◌, ◌≤◌, ◌⊎◌, ◌&&◌, false, nat_le, if◌then◌else◌, List, [], ◌++◌, Option, Some, None, option_and_then, take, drop, slice_get}
use Rattle.std.specs.Int.{to_le_bytes, w32}
use Rattle.pl_base.specs.declared.widths.FaultCause.{FaultCause}
use Rattle.pl_base.specs.declared.widths.FaultCause.TheVariants.{Pc, Illegal, Align, Unmapped, ReadOnly}
use Rattle.pl_base.specs.Widths.{load_bytes, store_bytes}
use Rattle.pl_event.specs.declared.event.Kind.{Kind}
use Rattle.pl_event.specs.declared.event.Kind.TheVariants.{Ld, St, Ex, Ft, Rd, Wr}
use Rattle.rv_isa.specs.declared.instruction.Instr.{Instr}
use Rattle.rv_isa.specs.declared.instruction.Instr.TheVariants as instrs
use Rattle.rv_isa.specs.Table.{instruction_of}
use Rattle.rv_exec.specs.declared.effect.Effect.{Effect}
use Rattle.rv_exec.specs.declared.effect.Effect.TheVariants as effects
use Rattle.rv_exec.specs.Hart.{Hart, x}
use Rattle.rv_exec.specs.Meaning.{effect_at, after, at_pc, next_pc, loaded}
use Rattle.guest_mem.specs.Bytes.{AllMapped, number_at, written}
use Rattle.guest_kernel.specs.declared.call.CallArgs.{CallArgs}
use Rattle.guest_kernel.specs.declared.call.KernelStep.{KernelStep}
use Rattle.guest_kernel.specs.declared.call.KernelStep.TheVariants.{Ended, Went}
use Rattle.guest_kernel.specs.Calls.{call_of, IsAnswer}
use Rattle.guest_kernel.specs.State.{State, changed_by, bytes_from}
use Rattle.core_sim.specs.declared.hart.HartEnd.TheVariants.{Live, Exit, Fault}
use Rattle.core_sim.specs.declared.hart.Standing.{Standing}
use Rattle.core_sim.specs.EventKinds.{kind_of}
use Rattle.pl_base.specs.declared.layout.TheConstants.{PAGE_BYTES, TEXT_START}

-- what a step came to: the kind of its event, the bytes that it wrote, the bytes that it sent outside, and the hart
pub record Act : Type 0 where
  pub kind : Kind
  pub stored : List ℕ
  pub sent : List ℕ
  pub next : Standing

-- the hart goes on, and nothing is written
abbrev pub goes_on : Kind → Hart → Act
goes_on kind next = record { kind = kind; stored = []; sent = []; next = record { state = next; end = Live } }

-- the hart has ended by a fault, which changes no register and no byte
abbrev pub faulted : Hart → FaultCause → ℕ → Act
faulted h cause addr =
    record { kind = Ft cause addr; stored = []; sent = []; next = record { state = h; end = Fault cause addr } }

-- the word of text that an address names
abbrev pub word_at : List ℕ → ℕ → Option ℕ
word_at words pc = if (pc % 4 == 0) && nat_le TEXT_START pc then slice_get words ((pc - TEXT_START) / 4) else None

-- the instruction that an address names, where it names a word that is one
abbrev pub instr_at : List ℕ → ℕ → Option Instr
instr_at words pc = option_and_then instruction_of (word_at words pc)

-- none of so many bytes is text
abbrev pub NoText : State → ℕ → ℕ → Type 0
NoText s addr width = (k : ℕ) → addr ≤ k → k < addr + width → s.texts (k / PAGE_BYTES) ≡ false

-- where a load is done, and where a store is
pub record CanLoad (s : State) (addr width : ℕ) : Type 0 where
  pub aligned : addr % width ≡ 0
  pub all_mapped : AllMapped s.bytes addr width

pub record CanStore (s : State) (addr width : ℕ) : Type 0 where
  pub aligned : addr % width ≡ 0
  pub all_mapped : AllMapped s.bytes addr width
  pub no_text : NoText s addr width

-- why a load or a store faults: each cause yields to those before it
abbrev pub LoadFaults : State → ℕ → ℕ → FaultCause → Type 0
LoadFaults s addr width Align = addr % width ≢ 0
LoadFaults s addr width Unmapped = (addr % width ≡ 0) × (AllMapped s.bytes addr width → ⊥)
LoadFaults s addr width _ = ⊥

abbrev pub StoreFaults : State → ℕ → ℕ → FaultCause → Type 0
StoreFaults s addr width Align = addr % width ≢ 0
StoreFaults s addr width Unmapped = (addr % width ≡ 0) × (AllMapped s.bytes addr width → ⊥)
StoreFaults s addr width ReadOnly = (addr % width ≡ 0) × (AllMapped s.bytes addr width × (NoText s addr width → ⊥))
StoreFaults s addr width _ = ⊥

-- a fault that has a cause, and names the access's address
pub record IsFault (Why : FaultCause → Type 0) (h : Hart) (addr : ℕ) (act : Act) : Type 0 where
  pub cause : FaultCause
  pub why : Why cause
  pub act_is : act ≡ faulted h cause addr

-- a store writes the low bytes of a register, the lowest first
abbrev pub stores : Kind → List ℕ → Hart → Act
stores kind bytes h =
    record { kind = kind; stored = bytes; sent = []; next = record { state = at_pc h (next_pc h); end = Live } }

-- the registers that a call of the kernel reads
abbrev pub call_args : Hart → CallArgs
call_args h = record { a7 = x h 17; a0 = x h 10; a1 = x h 11; a2 = x h 12 }

-- the bytes that a call moves into memory, and those that it sends outside
abbrev pub moved_in : State → Kind → List ℕ
moved_in s (Rd addr len) = take len s.input
moved_in s _ = []

abbrev pub moved_out : State → Kind → List ℕ
moved_out s (Wr addr len) = bytes_from s.bytes addr len
moved_out s _ = []

-- what a call came to: the hart has ended, or goes on with the answer in a0
abbrev pub called : State → Hart → KernelStep → Act
called s h (Ended code) = record { kind = Ex; stored = []; sent = []; next = record { state = h; end = Exit code } }
called s h (Went a0 kind) = record {
  kind = kind;
  stored = moved_in s kind;
  sent = moved_out s kind;
  next = record { state = after h 10 a0 (next_pc h); end = Live };
}

pub record IsCalled (s : State) (h : Hart) (act : Act) : Type 0 where
  pub step : KernelStep
  pub answer : IsAnswer (call_of (x h 17)) s (call_args h) step
  pub act_is : act ≡ called s h step

-- an instruction that needs neither memory nor the kernel has the event of its row
pub record IsPlainAct (instr : Instr) (next : Hart) (act : Act) : Type 0 where
  pub kind : Kind
  pub row : kind_of instr ≡ Some kind
  pub act_is : act ≡ goes_on kind next

-- what an instruction's effect comes to
abbrev pub IsDone : State → Hart → Effect → Act → Type 0
IsDone s h (effects.Plain instr next) act = IsPlainAct instr next act
IsDone s h (effects.Load (instrs.Load width rd rs1 imm) addr) act =
    (CanLoad s addr (load_bytes width)
    × (act ≡ goes_on (Ld width rd rs1 addr)
    (loaded h (instrs.Load width rd rs1 imm) (number_at s.bytes addr (load_bytes width)))))
    ⊎ IsFault (LoadFaults s addr (load_bytes width)) h addr act
IsDone s h (effects.Store (instrs.Store width rs2 rs1 imm) addr value) act =
    (CanStore s addr (store_bytes width)
    × (act ≡ stores (St width rs2 rs1 addr) (take (store_bytes width) (to_le_bytes w32 value)) h))
    ⊎ IsFault (StoreFaults s addr (store_bytes width)) h addr act
IsDone s h effects.Call act = IsCalled s h act
IsDone s h effects.Illegal act = act ≡ faulted h Illegal h.pc
IsDone s h _ act = ⊥

-- a step, by the word that is fetched, where there is one
abbrev pub IsFetched : State → Hart → Option ℕ → Act → Type 0
IsFetched s h None act = act ≡ faulted h Pc h.pc
IsFetched s h (Some word) act = IsDone s h (effect_at h (instruction_of word)) act

abbrev pub IsStep : List ℕ → State → Hart → Act → Type 0
IsStep words s h act = IsFetched s h (word_at words h.pc) act

-- what a step leaves of the memory, the heap, the input and the output
abbrev pub left_by : State → Kind → List ℕ → List ℕ → State
left_by s (St width rv rb addr) stored sent = record s { bytes = written s.bytes addr stored }
left_by s (Rd addr len) stored sent = record s { bytes = written s.bytes addr stored; input = drop len s.input }
left_by s (Wr addr len) stored sent = record s { output = s.output ++ sent }
left_by s kind stored sent = changed_by s kind

abbrev pub state_left : State → Act → State
state_left s act = left_by s act.kind act.stored act.sent
