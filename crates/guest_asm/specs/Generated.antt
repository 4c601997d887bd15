-- The job that is drawn from a number: four harts, each with so many drawn actions.
use Rattle.std.specs.Prelude.{◌≡◌, ℕ, ◌+◌, ◌*◌, ◌/◌, ◌%◌, List, [], ◌∷◌, ◌++◌, length, map, replicate, get_or, ℤ, pos}
use Rattle.std.specs.List.{flat_map, range_with_len}
use Rattle.pl_base.specs.declared.widths.LoadWidth.TheVariants as loads
use Rattle.pl_base.specs.declared.widths.StoreWidth.TheVariants as stores
use Rattle.rv_isa.specs.declared.instruction.ImmOp.TheVariants.{Addi}
use Rattle.rv_isa.specs.declared.instruction.RegOp.TheVariants as registers
use Rattle.rv_isa.specs.declared.instruction.Instr.{Instr}
use Rattle.rv_isa.specs.declared.instruction.Instr.TheVariants as instr
use Rattle.core_sim.specs.Draws.{drawn_after}
use Rattle.core_sim.specs.declared.job.Job.{Job}
use Rattle.core_sim.specs.declared.job.Schedule.TheVariants as schedule
use Rattle.guest_asm.specs.declared.action.Action.{Action}
use Rattle.guest_asm.specs.declared.action.Action.TheVariants.{LoadWord, StoreWord, LoadByte, Add, StoreBlock, LoadBlock, Read, Xor}
use Rattle.guest_asm.specs.Codes.{lui_of, addi_of}
use Rattle.guest_asm.specs.Jobs.{coded, AreCells}
use Rattle.pl_base.specs.declared.layout.TheConstants.{TEXT_START, DATA_START, MAX_STEPS}

-- the registers of the code, by their numbers
abbrev pub t0 : ℕ
t0 = 5

abbrev pub t1 : ℕ
t1 = 6

abbrev pub t2 : ℕ
t2 = 7

abbrev pub s0 : ℕ
s0 = 8

abbrev pub s1 : ℕ
s1 = 9

abbrev pub a0 : ℕ
a0 = 10

abbrev pub a1 : ℕ
a1 = 11

abbrev pub a2 : ℕ
a2 = 12

abbrev pub a7 : ℕ
a7 = 17

-- a register and a number into a register
abbrev pub add_to : ℕ → ℕ → ℤ → Instr
add_to rd rs1 imm = instr.OpImm Addi rd rs1 imm

-- a number into a register
abbrev pub set_to : ℕ → ℤ → Instr
set_to rd imm = add_to rd 0 imm

-- which of so many numbers, from 0 on, a state draws
abbrev pub choice : ℕ → ℕ → ℕ
choice count x = x / 65536 % count

-- the actions by their numbers
abbrev pub actions : List Action
actions = LoadWord ∷ StoreWord ∷ LoadByte ∷ Add ∷ StoreBlock ∷ LoadBlock ∷ Read ∷ Xor ∷ []

abbrev pub action_numbered : ℕ → Action
action_numbered number = get_or actions number Xor

-- how far into data, and how far from the beginning of the hart's block, the word lies that an action names: data has
-- 64 words, and the block 16, so that the last four lie after it
abbrev pub into_data : ℕ → ℕ
into_data k = 4 * k

abbrev pub into_block : ℕ → ℕ
into_block k = 4 * (k % 20)

-- the instructions of an action, with the number that was drawn for it
abbrev pub instructions_of : Action → ℕ → List Instr
instructions_of LoadWord k = instr.Load loads.W t0 s0 (pos (into_data k)) ∷ []
instructions_of StoreWord k = instr.Store stores.W t0 s0 (pos (into_data k)) ∷ []
instructions_of LoadByte k = instr.Load loads.B t1 s0 (pos (into_data k)) ∷ []
instructions_of Add k = instr.Op registers.Add t0 t0 t1 ∷ []
instructions_of StoreBlock k = instr.Store stores.W t1 s1 (pos (into_block k)) ∷ []
instructions_of LoadBlock k = instr.Load loads.W t2 s1 (pos (into_block k)) ∷ []
instructions_of Read k = set_to a7 (pos 6) ∷ add_to a1 s0 (pos (into_data k)) ∷ set_to a2 (pos 4) ∷ instr.Ecall ∷ []
instructions_of Xor k = instr.Op registers.Xor t2 t0 t1 ∷ []

-- an action, counted from 0, of those that are drawn from a state on: one draw says which action, the next its number
abbrev pub action_at : ℕ → ℕ → List Instr
action_at x i =
    instructions_of (action_numbered (choice 8 (drawn_after x (2 * i + 1)))) (choice 64 (drawn_after x (2 * i + 2)))

-- the address of data into s0, and that of a new block of 64 bytes into s1
abbrev pub setup : List Instr
setup =
    lui_of s0 DATA_START ∷ addi_of s0 DATA_START ∷ set_to a7 (pos 2) ∷ set_to a0 (pos 64) ∷ instr.Ecall
    ∷ add_to s1 a0 (pos 0) ∷ []

-- the hart ends
abbrev pub finish : List Instr
finish = set_to a7 (pos 1) ∷ instr.Ecall ∷ []

-- the code of a hart with z actions that are drawn from a state on
abbrev pub hart_code : ℕ → ℕ → List Instr
hart_code x z = setup ++ flat_map (action_at x) (range_with_len 0 z) ++ finish

-- the code of the first harts; a hart's draws come after two for each action of the harts before it
abbrev pub code_of_first : ℕ → ℕ → ℕ → List Instr
code_of_first s z harts = flat_map (λ hart. hart_code (drawn_after s (2 * z * hart)) z) (range_with_len 0 harts)

abbrev pub program : ℕ → ℕ → List Instr
program s z = code_of_first s z 4

-- a hart begins after the code of the harts before it
abbrev pub entry : ℕ → ℕ → ℕ → ℕ
entry s z hart = TEXT_START + 4 * length (code_of_first s z hart)

-- the entries of the four harts, and the beginning of text for those that are none
abbrev pub entries : ℕ → ℕ → List ℕ
entries s z = map (entry s z) (range_with_len 0 4) ++ replicate 4 TEXT_START

-- the job is that of the number s, with z actions for each hart
pub record IsGenerated (s z : ℕ) (job : Job) : Type 0 where
  pub harts : job.harts ≡ 4
  pub schedule : job.schedule ≡ schedule.Seed s 5
  pub steps : job.steps ≡ MAX_STEPS
  pub text : AreCells (map (λ i. coded i) (program s z)) job.words
  pub data_bytes : job.data_bytes ≡ replicate 256 0
  pub input : job.input ≡ range_with_len 0 64
  pub entries : job.entries ≡ entries s z
