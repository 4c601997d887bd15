-- What the parts of a step come to.
use Rattle.std.specs.Prelude.{◌≡◌, ℕ, ◌<◌, List, length, Some, slice_index}
use Rattle.pl_base.specs.declared.widths.FaultCause.{FaultCause}
use Rattle.pl_event.specs.declared.event.Kind.{Kind}
use Rattle.pl_event.specs.declared.event.Kind.TheVariants.{Ft}
use Rattle.guest_kernel.specs.State.{State}
use Rattle.rv_isa.specs.declared.instruction.Instr.{Instr}
use Rattle.rv_isa.specs.declared.instruction.Instr.TheVariants as instrs
use Rattle.rv_exec.specs.declared.effect.Effect.{Effect}
use Rattle.rv_exec.specs.Hart.{Hart}
use Rattle.rv_exec.specs.Meaning.{IsPlain}
use Rattle.core_sim.specs.declared.asked.Asked.{Asked}
use Rattle.core_sim.specs.declared.asked.Asked.TheVariants.{Nothing, Bytes, Room, Call}
use Rattle.core_sim.specs.declared.asked.Load.{Load}
use Rattle.core_sim.specs.declared.asked.Store.{Store}
use Rattle.core_sim.specs.EventKinds.{kind_of}
use Rattle.core_sim.specs.declared.hart.HartEnd.TheVariants.{Live, Fault}
use Rattle.core_sim.specs.declared.hart.Standing.{Standing}
use Rattle.core_sim.specs.Steps.{Act, word_at, IsDone, IsStep, state_left}

-- what a step came to: the kind of its event, and the hart after it
pub record Did : Type 0 where
  pub kind : Kind
  pub next : Standing

abbrev pub did : Kind → Standing → Did
did kind next = record { kind = kind; next = next }

-- the number of the word that an address names
pub record IsPlace (words : List ℕ) (pc place : ℕ) : Type 0 where
  pub within : place < length words
  pub is : word_at words pc ≡ Some (slice_index words place)

-- the instruction of these fields
abbrev pub load_of : Load → Instr
load_of load = instrs.Load load.width load.rd load.rs1 load.imm

abbrev pub store_of : Store → Instr
store_of store = instrs.Store store.width store.rs2 store.rs1 store.imm

-- the hart goes on, or has ended by a fault
abbrev pub did_go_on : Kind → Hart → Did
did_go_on kind next = record { kind = kind; next = record { state = next; end = Live } }

abbrev pub did_fault : Hart → FaultCause → ℕ → Did
did_fault h cause addr = record { kind = Ft cause addr; next = record { state = h; end = Fault cause addr } }

-- what an instruction asks: nothing, and then it has the event of its row, or what its fields say
abbrev pub Asks : Instr → Asked → Type 0
Asks instr (Nothing kind) = IsPlain instr × (kind_of instr ≡ Some kind)
Asks instr (Bytes load) = instr ≡ load_of load
Asks instr (Room store) = instr ≡ store_of store
Asks instr Call = instr ≡ instrs.Ecall

-- the code did what an effect comes to, and left the kernel so
pub record DoesEffect (old new : State) (h : Hart) (effect : Effect) (did : Did) : Type 0 where
  pub act : Act
  pub done : IsDone old h effect act
  pub kind : did.kind ≡ act.kind
  pub next : did.next ≡ act.next
  pub state : new ≡ state_left old act

-- the code did a step of a hart, and left the kernel so
pub record Does (words : List ℕ) (old new : State) (h : Hart) (did : Did) : Type 0 where
  pub act : Act
  pub step : IsStep words old h act
  pub kind : did.kind ≡ act.kind
  pub next : did.next ≡ act.next
  pub state : new ≡ state_left old act
