-- The drawn job: its length, its instructions in their ranges, and that it is the only one.
use Rattle.std.proofs.Common.{◌≡◌, ℕ, ◌+◌, ◌*◌, ◌^◌, ◌<◌, ◌≤◌, List, [], ◌∷◌, ◌++◌, length, map, ap, ◌∙◌, sym, subst, arith, pos, length-append}
use Rattle.std.specs.List.{All, flat_map, range_with_len}
use Rattle.std.proofs.lemmas.Int.{ints}
use Rattle.std.proofs.lemmas.List.{length-map}
use Rattle.std.proofs.lemmas.List.FromFn.{length-range_with_len}
use Rattle.std.proofs.lemmas.List.Elements.{All-nil, All-cons, All-append}
use Rattle.pl_base.specs.declared.widths.LoadWidth.{LoadWidth}
use Rattle.pl_base.specs.declared.widths.LoadWidth.TheVariants as loads
use Rattle.pl_base.specs.declared.widths.StoreWidth.{StoreWidth}
use Rattle.pl_base.specs.declared.widths.StoreWidth.TheVariants as stores
use Rattle.rv_isa.specs.declared.instruction.Instr.{Instr}
use Rattle.rv_isa.specs.declared.instruction.Instr.TheVariants as instr
use Rattle.rv_isa.specs.declared.instruction.RegOp.{RegOp}
use Rattle.rv_isa.specs.declared.instruction.RegOp.TheVariants as registers
use Rattle.rv_isa.specs.Valid.{IsValid, IsWithin}
use Rattle.core_sim.specs.declared.job.Job.{Job}
use Rattle.core_sim.specs.Valid.{IsSchedule, HasTypedNumbers, IsValidJob}
use Rattle.guest_asm.specs.declared.action.Action.{Action}
use Rattle.guest_asm.specs.declared.action.Action.TheVariants.{LoadWord, StoreWord, LoadByte, Add, StoreBlock, LoadBlock, Read, Xor}
use Rattle.guest_asm.specs.Jobs.{coded}
use Rattle.core_sim.specs.Draws.{drawn_after}
use Rattle.guest_asm.specs.Generated.{t0, t1, t2, s0, s1, a0, a1, a2, a7, add_to, set_to, choice, action_numbered, into_data, into_block, instructions_of, action_at, setup, finish, hart_code, program, IsGenerated}
use Rattle.guest_asm.proofs.Lengths.{length-cells}
use Rattle.guest_asm.proofs.One.{same_words, same_job}

action-length : (a : Action) (k : ℕ) → length (instructions_of a k) ≤ 4
action-length LoadWord k = omega arith
action-length StoreWord k = omega arith
action-length LoadByte k = omega arith
action-length Add k = omega arith
action-length StoreBlock k = omega arith
action-length LoadBlock k = omega arith
action-length Read k = omega arith
action-length Xor k = omega arith

abbrev action_of : ℕ → ℕ → Action
action_of x i = action_numbered (choice 8 (drawn_after x (2 * i + 1)))

abbrev number_of : ℕ → ℕ → ℕ
number_of x i = choice 64 (drawn_after x (2 * i + 2))

actions-length : (x : ℕ) (is : List ℕ) → length (flat_map (action_at x) is) ≤ 4 * length is
actions-length x [] = omega arith
actions-length x (i ∷ is) =
    omega (arith, actions-length x is, length-append (action_at x i) (flat_map (action_at x) is), action-length (action_of x i) (number_of x i))

hart-length : (x z : ℕ) → length (hart_code x z) ≤ 4 * z + 8
hart-length x z =
    let actions = flat_map (action_at x) (range_with_len 0 z) in
    omega (arith, length-append setup (actions ++ finish), length-append actions finish, actions-length x (range_with_len 0 z), length-range_with_len 0 z)

-- the code after a hart's setup, actions and finish
pub hart-grown : (x z : ℕ) (old a b new : List Instr) → a ≡ old ++ setup → b ≡ a ++ flat_map (action_at x) (range_with_len 0 z) → new ≡ b ++ finish
    → length new ≤ length old + 4 * z + 8
hart-grown x z old a b new first second third =
    let actions = flat_map (action_at x) (range_with_len 0 z) in
    omega (
      arith,
      ap length first,
      ap length second,
      ap length third,
      length-append old setup,
      length-append a actions,
      length-append b finish,
      actions-length x (range_with_len 0 z),
      length-range_with_len 0 z,
    )

harts-length : (s z : ℕ) (harts : List ℕ) → length (flat_map (λ hart. hart_code (drawn_after s (2 * z * hart)) z) harts) ≤ (4 * z + 8) * length harts
harts-length s z [] = omega arith
harts-length s z (h ∷ harts) =
    let here = hart_code (drawn_after s (2 * z * h)) z in
    let more = flat_map (λ hart. hart_code (drawn_after s (2 * z * hart)) z) harts in
    let others : length more ≤ (4 * z + 8) * length harts = harts-length s z harts in
    let all : (4 * z + 8) * length harts + (4 * z + 8) ≡ (4 * z + 8) * (length harts + 1) = grind arith in
    omega (arith, others, all, length-append here more, hart-length (drawn_after s (2 * z * h)) z)

pub program-length : (s z : ℕ) → length (program s z) ≤ 16 * z + 32
program-length s z = omega (arith, harts-length s z (range_with_len 0 4))

pub program-some : (s z : ℕ) → 1 ≤ length (program s z)
program-some s z = omega arith

within : (n : ℕ) → n < 2048 → IsWithin 11 (pos n)
within n h = (omega (arith, ints), omega (arith, ints, h))

valid-one : (i : Instr) → IsValid i → All IsValid (i ∷ [])
valid-one i h = All-cons IsValid i [] h (All-nil IsValid)

valid-call : All IsValid (instr.Ecall ∷ [])
valid-call = valid-one instr.Ecall tt

from_register : (rd : ℕ) (rs1 : ℕ) (n : ℕ) → rd < 32 → rs1 < 32 → n < 2048 → IsValid (add_to rd rs1 (pos n))
from_register rd rs1 n to from h = (to, from, within n h)

three : (rd rs1 rs2 : ℕ) (o : RegOp) → rd < 32 → rs1 < 32 → rs2 < 32 → IsValid (instr.Op o rd rs1 rs2)
three rd rs1 rs2 o a b c = (a, b, c)

loaded : (width : LoadWidth) (rd rs1 n : ℕ) → rd < 32 → rs1 < 32 → n < 2048 → IsValid (instr.Load width rd rs1 (pos n))
loaded width rd rs1 n to from h = (to, from, within n h)

stored : (width : StoreWidth) (rs2 rs1 n : ℕ) → rs2 < 32 → rs1 < 32 → n < 2048 → IsValid (instr.Store width rs2 rs1 (pos n))
stored width rs2 rs1 n value to h = (value, to, within n h)

valid-action : (a : Action) (k : ℕ) → k < 64 → All IsValid (instructions_of a k)
valid-action LoadWord k h = valid-one (instr.Load loads.W t0 s0 (pos (into_data k))) (loaded loads.W t0 s0 (into_data k) (omega arith) (omega arith) (omega (arith, h)))
valid-action StoreWord k h = valid-one (instr.Store stores.W t0 s0 (pos (into_data k))) (stored stores.W t0 s0 (into_data k) (omega arith) (omega arith) (omega (arith, h)))
valid-action LoadByte k h = valid-one (instr.Load loads.B t1 s0 (pos (into_data k))) (loaded loads.B t1 s0 (into_data k) (omega arith) (omega arith) (omega (arith, h)))
valid-action Add k h = valid-one (instr.Op registers.Add t0 t0 t1) (three t0 t0 t1 registers.Add (omega arith) (omega arith) (omega arith))
valid-action StoreBlock k h = valid-one (instr.Store stores.W t1 s1 (pos (into_block k))) (stored stores.W t1 s1 (into_block k) (omega arith) (omega arith) (omega arith))
valid-action LoadBlock k h = valid-one (instr.Load loads.W t2 s1 (pos (into_block k))) (loaded loads.W t2 s1 (into_block k) (omega arith) (omega arith) (omega arith))
valid-action Read k h =
    All-cons IsValid (set_to a7 (pos 6)) (add_to a1 s0 (pos (into_data k)) ∷ set_to a2 (pos 4) ∷ instr.Ecall ∷ []) (from_register a7 0 6 (omega arith) (omega arith) (omega arith))
    (All-cons IsValid (add_to a1 s0 (pos (into_data k))) (set_to a2 (pos 4) ∷ instr.Ecall ∷ []) (from_register a1 s0 (into_data k) (omega arith) (omega arith) (omega (arith, h)))
    (All-cons IsValid (set_to a2 (pos 4)) (instr.Ecall ∷ []) (from_register a2 0 4 (omega arith) (omega arith) (omega arith)) valid-call))
valid-action Xor k h = valid-one (instr.Op registers.Xor t2 t0 t1) (three t2 t0 t1 registers.Xor (omega arith) (omega arith) (omega arith))

valid-actions : (x : ℕ) (is : List ℕ) → All IsValid (flat_map (action_at x) is)
valid-actions x [] = All-nil IsValid
valid-actions x (i ∷ is) =
    All-append IsValid (action_at x i) (flat_map (action_at x) is)
    (valid-action (action_of x i) (number_of x i) (let below : number_of x i < 64 = omega arith in below))
    (valid-actions x is)

upper : (rd n : ℕ) → rd < 32 → n < 2 ^ 20 → IsValid (instr.Lui rd n)
upper rd n to h = (to, h)

-- the instructions after those that load the address of data
block : List Instr
block = set_to a7 (pos 2) ∷ set_to a0 (pos 64) ∷ instr.Ecall ∷ add_to s1 a0 (pos 0) ∷ []

valid-block : All IsValid block
unfolding block
valid-block =
    All-cons IsValid (set_to a7 (pos 2)) (set_to a0 (pos 64) ∷ instr.Ecall ∷ add_to s1 a0 (pos 0) ∷ []) (from_register a7 0 2 (omega arith) (omega arith) (omega arith))
    (All-cons IsValid (set_to a0 (pos 64)) (instr.Ecall ∷ add_to s1 a0 (pos 0) ∷ []) (from_register a0 0 64 (omega arith) (omega arith) (omega arith))
    (All-append IsValid (instr.Ecall ∷ []) (add_to s1 a0 (pos 0) ∷ []) valid-call
    (valid-one (add_to s1 a0 (pos 0)) (from_register s1 a0 0 (omega arith) (omega arith) (omega arith)))))

valid-setup : All IsValid setup
unfolding block
valid-setup =
    All-cons IsValid (instr.Lui s0 256) (add_to s0 s0 (pos 0) ∷ block) (upper s0 256 (omega arith) (omega arith))
    (All-cons IsValid (add_to s0 s0 (pos 0)) block (from_register s0 s0 0 (omega arith) (omega arith) (omega arith)) valid-block)

valid-finish : All IsValid finish
valid-finish = All-cons IsValid (set_to a7 (pos 1)) (instr.Ecall ∷ []) (from_register a7 0 1 (omega arith) (omega arith) (omega arith)) valid-call

valid-hart : (x z : ℕ) → All IsValid (hart_code x z)
valid-hart x z =
    let actions = flat_map (action_at x) (range_with_len 0 z) in
    All-append IsValid setup (actions ++ finish) valid-setup
    (All-append IsValid actions finish (valid-actions x (range_with_len 0 z)) valid-finish)

valid-harts : (s z : ℕ) (harts : List ℕ) → All IsValid (flat_map (λ hart. hart_code (drawn_after s (2 * z * hart)) z) harts)
valid-harts s z [] = All-nil IsValid
valid-harts s z (h ∷ harts) =
    All-append IsValid (hart_code (drawn_after s (2 * z * h)) z) (flat_map (λ hart. hart_code (drawn_after s (2 * z * hart)) z) harts)
    (valid-hart (drawn_after s (2 * z * h)) z) (valid-harts s z harts)

-- each drawn instruction has a word
pub valid-program : (s z : ℕ) → All IsValid (program s z)
valid-program s z = valid-harts s z (range_with_len 0 4)

words-length : (s z : ℕ) (job : Job) → IsGenerated s z job → length job.words ≡ length (program s z)
words-length s z job of = length-cells (map (λ i. coded i) (program s z)) job.words of.text ∙ length-map (program s z) (λ i. coded i)

pub valid_generated : (s z : ℕ) (job : Job) → s < 2 ^ 32 → z ≤ 1000 → IsGenerated s z job → HasTypedNumbers job → IsValidJob job
valid_generated s z job drawn few of typed = record {
  typed = typed;
  some_harts = omega (arith, of.harts);
  few_harts = omega (arith, of.harts);
  turns = subst (IsSchedule job.harts) (sym of.schedule) (drawn, (omega arith, omega arith));
  some_steps = omega (arith, of.steps);
  few_steps = omega (arith, of.steps);
  some_words = omega (arith, words-length s z job of, program-some s z);
  few_words = omega (arith, words-length s z job of, program-length s z, few);
  few_bytes = omega (arith, ap length of.data_bytes);
}

-- the same number draws one job
pub one_generated : (s z : ℕ) (a b : Job) → IsGenerated s z a → IsGenerated s z b → a ≡ b
one_generated s z a b of other =
    same_job a b
    (of.harts ∙ sym other.harts)
    (of.schedule ∙ sym other.schedule)
    (of.steps ∙ sym other.steps)
    (same_words (map (λ i. coded i) (program s z)) a.words b.words of.text other.text)
    (of.data_bytes ∙ sym other.data_bytes)
    (of.input ∙ sym other.input)
    (of.entries ∙ sym other.entries)
