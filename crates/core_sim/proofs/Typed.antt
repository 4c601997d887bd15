-- Along a run each register has 32 bits and each byte 8, so each address of an event has 32 bits.
use Rattle.std.proofs.Common.{◌==◌, ℕ, zero, suc, ◌+◌, ◌-◌, ◌*◌, ◌/◌, ◌%◌, ◌^◌, ◌<◌, ◌≤◌, ◌&&◌, ◌≤ℤ◌, ◌<ℤ◌, inl, inr, Bool, true, false, ℤ, pos, negsuc, List, [], ◌∷◌, ◌++◌, length, take, drop, replicate, get_or, min, Option, Some, None, IfSome, unwrap_or, if◌then◌else◌, slice_index, arith, sym, subst}
use Rattle.std.specs.Prelude.{unsigned_abs, slice_set}
use Rattle.std.specs.Int.{w8, w16, w32, to_le_bytes, bytes_low_first, byte_at, cast_signed}
use Rattle.std.specs.List.{AllByRecursion}
use Rattle.std.proofs.lemmas.List.{length-take}
use Rattle.std.proofs.lemmas.List.Elements.{recursion_from_All}
use Rattle.std.proofs.lemmas.Bool.{cases_Bool}
use Rattle.std.proofs.lemmas.Bool.Decides.{nat_tests}
use Rattle.pl_base.specs.Widths.{load_bytes, store_bytes}
use Rattle.pl_base.specs.declared.widths.LoadWidth.{LoadWidth}
use Rattle.pl_base.specs.declared.widths.LoadWidth.TheVariants as loads
use Rattle.pl_base.specs.declared.widths.StoreWidth.{StoreWidth}
use Rattle.pl_base.specs.Pages.{is_among}
use Rattle.guest_mem.specs.Bytes.{number_from}
use Rattle.guest_kernel.specs.declared.call.CallArgs.{CallArgs}
use Rattle.guest_kernel.specs.declared.call.KernelStep.{KernelStep}
use Rattle.guest_kernel.specs.declared.call.KernelStep.TheVariants.{Ended, Went}
use Rattle.guest_kernel.specs.Calls.{Call, exit_call, alloc_call, free_call, map_call, unmap_call, read_call, write_call, unknown_call, call_of, IsAnswer, freed}
use Rattle.guest_kernel.specs.Calls.{moved as moved_step}
use Rattle.guest_kernel.specs.State.{State}
use Rattle.pl_event.specs.declared.event.Kind.{Kind}
use Rattle.pl_event.specs.declared.event.Kind.TheVariants.{Ld, St, Op, Mv, Im, Br, Jr, Al, Fr, Bf, Mp, Um, Rd, Wr, Ex, Ft}
use Rattle.rv_isa.specs.declared.instruction.ImmOp.{ImmOp}
use Rattle.rv_isa.specs.declared.instruction.ImmOp.TheVariants.{Addi, Slti, Sltiu, Xori, Ori, Andi, Slli, Srli, Srai}
use Rattle.rv_isa.specs.declared.instruction.Instr.{Instr}
use Rattle.rv_isa.specs.declared.instruction.Instr.TheVariants as instrs
use Rattle.rv_isa.specs.Table.{instruction_of, row, op_imm}
use Rattle.rv_isa.specs.Valid.{IsWithin, IsOperand, IsValid}
use Rattle.rv_isa.proofs.Reading.{valid_where_read}
use Rattle.rv_exec.specs.declared.effect.Effect.{Effect}
use Rattle.rv_exec.specs.declared.effect.Effect.TheVariants as effects
use Rattle.rv_exec.specs.Hart.{Hart, x, written, stack_end, started}
use Rattle.rv_exec.specs.Meaning.{effect_at, effect_of, after, at_pc, next_pc, moved, is_taken, extended, unsigned, on_registers}
use Rattle.core_sim.specs.declared.hart.Standing.{Standing}
use Rattle.core_sim.specs.declared.job.Job.{Job}
use Rattle.core_sim.specs.Entries.{Entry, wrote, value, taken, state_after, harts_after}
use Rattle.core_sim.specs.EventKinds.{kind_of, is_copy, cancels}
use Rattle.core_sim.specs.Runs.{IsPrefix, state_of_hart}
use Rattle.core_sim.specs.Start.{text_bytes, image, begin_from, standing_at}
use Rattle.core_sim.specs.Steps.{Act, word_at, called, call_args, moved_in, IsDone, IsFetched, IsStep}
use Rattle.core_sim.specs.Valid.{HasTypedNumbers, IsValidJob}
use Rattle.rv_exec.proofs.Results.{result_word, unsigned_small}

-- the address of a free of no block and of a fault has 32 bits
abbrev pub HasWordAddress : Kind → Type 0
HasWordAddress (Bf addr) = addr < 2 ^ 32
HasWordAddress (Ft cause addr) = addr < 2 ^ 32
HasWordAddress _ = Unit {0}

-- Lists

-- each number of a list is below a limit
abbrev Below : ℕ → List ℕ → Type 0
Below n xs = (i : ℕ) → slice_index xs i < n

none_below : (n : ℕ) → 0 < n → Below n []
none_below n some i = some

cons_below : (n y : ℕ) (ys : List ℕ) → y < n → Below n ys → Below n (y ∷ ys)
cons_below n y ys first rest zero = first
cons_below n y ys first rest (suc i) = rest i

take_below : (n : ℕ) (k : ℕ) (xs : List ℕ) → 0 < n → Below n xs → Below n (take k xs)
take_below n zero xs some below = none_below n some
take_below n (suc k) [] some below = none_below n some
take_below n (suc k) (y ∷ ys) some below = cons_below n y (take k ys) (below 0) (take_below n k ys some (λ i. below (suc i)))

drop_below : (n : ℕ) (k : ℕ) (xs : List ℕ) → Below n xs → Below n (drop k xs)
drop_below n zero xs below = below
drop_below n (suc k) [] below = below
drop_below n (suc k) (y ∷ ys) below = drop_below n k ys (λ i. below (suc i))

set_below : (n v : ℕ) (xs : List ℕ) (at : ℕ) → v < n → Below n xs → Below n (slice_set xs at v)
set_below n v [] at small below = below
set_below n v (y ∷ ys) zero small below = cons_below n v ys small (λ i. below (suc i))
set_below n v (y ∷ ys) (suc at) small below = cons_below n y (slice_set ys at v) (below 0) (set_below n v ys at small (λ i. below (suc i)))

zeros_below : (n count : ℕ) → 0 < n → Below n (replicate count 0)
zeros_below n zero some = none_below n some
zeros_below n (suc count) some = cons_below n 0 (replicate count 0) some (zeros_below n count some)

all_below : (n : ℕ) (xs : List ℕ) → 0 < n → AllByRecursion (λ (y : ℕ). y < n) xs → Below n xs
all_below n [] some all = none_below n some
all_below n (y ∷ ys) some all = cons_below n y ys all.0 (all_below n ys some all.1)

-- Harts

record IsWordHart (h : Hart) : Type 0 where
  pc : h.pc < 2 ^ 32
  registers : Below (2 ^ 32) h.registers

written_word : (rd value : ℕ) (registers : List ℕ) → value < 2 ^ 32 → Below (2 ^ 32) registers → Below (2 ^ 32) (written rd value registers)
written_word zero value registers small below = below
written_word (suc rd) value registers small below = set_below (2 ^ 32) value registers (suc rd) small below

after_word : (h : Hart) (rd value pc : ℕ) → IsWordHart h → value < 2 ^ 32 → pc < 2 ^ 32 → IsWordHart (after h rd value pc)
after_word h rd value pc word small address = record { pc = address; registers = written_word rd value h.registers small word.registers }

at_word : (h : Hart) (pc : ℕ) → IsWordHart h → pc < 2 ^ 32 → IsWordHart (at_pc h pc)
at_word h pc word address = record { pc = address; registers = word.registers }

next_word : (h : Hart) → next_pc h < 2 ^ 32
next_word h = omega arith

moved_word : (address : ℕ) (offset : ℤ) → moved address offset < 2 ^ 32
moved_word address offset = omega arith

even_word : (n : ℕ) → n < 2 ^ 32 → n / 2 * 2 < 2 ^ 32
even_word n small = omega arith

within_small : (z : ℤ) → IsWithin 11 z → unsigned_abs z ≤ 2 ^ 31
within_small (pos n) within = grind (arith, within.1)
within_small (negsuc n) within = grind (arith, within.0)

amount_small : (z : ℤ) → (pos 0 ≤ℤ z) × (z <ℤ pos 32) → unsigned_abs z ≤ 2 ^ 31
amount_small (pos n) within = grind (arith, within.1)
amount_small (negsuc n) within = grind (arith, within.0)

operand_small : (op : ImmOp) (z : ℤ) → IsOperand (row (op_imm op)).form z → unsigned_abs z ≤ 2 ^ 31
operand_small Addi z is = within_small z is
operand_small Slti z is = within_small z is
operand_small Sltiu z is = within_small z is
operand_small Xori z is = within_small z is
operand_small Ori z is = within_small z is
operand_small Andi z is = within_small z is
operand_small Slli z is = amount_small z is
operand_small Srli z is = amount_small z is
operand_small Srai z is = amount_small z is

-- Instructions

abbrev WordEffect : Effect → Type 0
WordEffect (effects.Plain instr next) = IsWordHart next
WordEffect (effects.Load instr addr) = addr < 2 ^ 32
WordEffect (effects.Store instr addr value) = addr < 2 ^ 32
WordEffect _ = Unit {0}

effect_word : (h : Hart) (i : Instr) → IsWordHart h → IsValid i → WordEffect (effect_of h i)
effect_word h (instrs.Lui rd imm) word valid = after_word h rd (imm * 2 ^ 12) (next_pc h) word (omega (arith, valid.1)) (next_word h)
effect_word h (instrs.Auipc rd imm) word valid = after_word h rd ((h.pc + imm * 2 ^ 12) % 2 ^ 32) (next_pc h) word (omega arith) (next_word h)
effect_word h (instrs.Jal rd off) word valid = after_word h rd (next_pc h) (moved h.pc off) word (next_word h) (moved_word h.pc off)
effect_word h (instrs.Jalr rd rs1 imm) word valid = after_word h rd (next_pc h) (moved (x h rs1) imm / 2 * 2) word (next_word h) (even_word (moved (x h rs1) imm) (moved_word (x h rs1) imm))
effect_word h (instrs.Branch op rs1 rs2 off) word valid = elim (cases_Bool (is_taken op (x h rs1) (x h rs2))) [
  | inl holds ↦ rw holds (at_word h (moved h.pc off) word (moved_word h.pc off))
  | inr fails ↦ rw fails (at_word h (next_pc h) word (next_word h))
]
effect_word h (instrs.Load width rd rs1 imm) word valid = moved_word (x h rs1) imm
effect_word h (instrs.Store width rs2 rs1 imm) word valid = moved_word (x h rs1) imm
effect_word h (instrs.OpImm op rd rs1 imm) word valid =
    after_word h rd _ (next_pc h) word (result_word (on_registers op) (x h rs1) (unsigned imm) (word.registers rs1) (unsigned_small imm (operand_small op imm valid.2))) (next_word h)
effect_word h (instrs.Op op rd rs1 rs2) word valid =
    after_word h rd _ (next_pc h) word (result_word op (x h rs1) (x h rs2) (word.registers rs1) (word.registers rs2)) (next_word h)
effect_word h (instrs.Fence bits) word valid = at_word h (next_pc h) word (next_word h)
effect_word h instrs.Ecall word valid = tt

effect_word_at : (h : Hart) (o : Option Instr) → IsWordHart h → IfSome o IsValid → WordEffect (effect_at h o)
effect_word_at h None word valid = tt
effect_word_at h (Some i) word valid = effect_word h i word valid

signed_8 : (n : ℕ) → n < 2 ^ 8 → unsigned_abs (cast_signed w8 n) ≤ 2 ^ 31
signed_8 n h = grind (arith, nat_tests)

signed_16 : (n : ℕ) → n < 2 ^ 16 → unsigned_abs (cast_signed w16 n) ≤ 2 ^ 31
signed_16 n h = grind (arith, nat_tests)

extended_word : (width : LoadWidth) (f : ℕ → ℕ) (at : ℕ) → ((k : ℕ) → f k < 256) → extended width (number_from f at (load_bytes width)) < 2 ^ 32
extended_word loads.B f at small = unsigned_small (cast_signed w8 (number_from f at 1 % 2 ^ 8)) (signed_8 (number_from f at 1 % 2 ^ 8) (omega arith))
extended_word loads.H f at small = unsigned_small (cast_signed w16 (number_from f at 2 % 2 ^ 16)) (signed_16 (number_from f at 2 % 2 ^ 16) (omega arith))
extended_word loads.W f at small = omega (arith, small at, small (at + 1), small (at + 1 + 1), small (at + 1 + 1 + 1))
extended_word loads.Bu f at small = omega arith
extended_word loads.Hu f at small = omega arith

byte_below : (i n : ℕ) → byte_at i n < 256
byte_below zero n = omega arith
byte_below (suc i) n = omega arith

low_below : (i k n : ℕ) → Below 256 (bytes_low_first i k n)
low_below i zero n = none_below 256 (omega arith)
low_below i (suc k) n = cons_below 256 (byte_at i n) (bytes_low_first (suc i) k n) (byte_below i n) (low_below (suc i) k n)

stored_below : (width : StoreWidth) (number : ℕ) → Below 256 (take (store_bytes width) (to_le_bytes w32 number))
stored_below width number = take_below 256 (store_bytes width) (to_le_bytes w32 number) (omega arith) (low_below 0 4 number)

plain_address : (instr : Instr) → IfSome (kind_of instr) HasWordAddress
plain_address (instrs.Lui rd imm) = tt
plain_address (instrs.Auipc rd imm) = tt
plain_address (instrs.Jal rd off) = tt
plain_address (instrs.Jalr rd rs1 imm) = tt
plain_address (instrs.Branch op rs1 rs2 off) = tt
plain_address (instrs.Load width rd rs1 imm) = tt
plain_address (instrs.Store width rs2 rs1 imm) = tt
plain_address (instrs.OpImm op rd rs1 imm) = elim (cases_Bool (rs1 == 0)) [
  | inl holds ↦ rw holds tt
  | inr fails ↦ elim (cases_Bool (is_copy op imm)) [ inl copy ↦ rw (fails, copy) tt | inr other ↦ rw (fails, other) tt ]
]
plain_address (instrs.Op op rd rs1 rs2) = elim (cases_Bool (cancels op && (rs1 == rs2))) [ inl holds ↦ rw holds tt | inr fails ↦ rw fails tt ]
plain_address (instrs.Fence bits) = tt
plain_address instrs.Ecall = tt

-- Calls of the kernel

abbrev WordStep : State → KernelStep → Type 0
WordStep s (Ended code) = Unit {0}
WordStep s (Went a0 kind) = (a0 < 2 ^ 32) × (HasWordAddress kind × Below 256 (moved_in s kind))

failure_word : (s : State) → WordStep s (Went (2 ^ 32 - 1) (Im 10))
failure_word s = (omega arith, (tt, none_below 256 (omega arith)))

moved_word_step : (s : State) (count : ℕ) (kind : Kind) → count ≤ 65536 → HasWordAddress kind → Below 256 (moved_in s kind) → WordStep s (moved_step count kind)
moved_word_step s count kind few address below = elim (cases_Bool (count == 0)) [
  | inl none ↦ rw none (omega (arith, few), (tt, none_below 256 (omega arith)))
  | inr some ↦ rw some (omega (arith, few), (address, below))
]

freed_word : (s : State) (addr : ℕ) (block : Option ℕ) → addr < 2 ^ 32 → WordStep s (freed addr block)
freed_word s addr (Some size) small = (omega arith, (tt, none_below 256 (omega arith)))
freed_word s addr None small = (omega arith, (small, none_below 256 (omega arith)))

answer_word : (s : State) (call : Call) (args : CallArgs) (step : KernelStep) → args.a0 < 2 ^ 32 → Below 256 s.input → IsAnswer call s args step → WordStep s step
answer_word s exit_call args step small below is = subst (WordStep s) (sym is) tt
answer_word s alloc_call args step small below is = elim is [
  | inl given ↦ subst (WordStep s) (sym given.answer) (omega (arith, given.allocates.first.place.within), (tt, none_below 256 (omega arith)))
  | inr refused ↦ subst (WordStep s) (sym refused.1) (omega arith, (tt, none_below 256 (omega arith)))
]
answer_word s free_call args step small below is = subst (WordStep s) (sym is) (freed_word s args.a0 (s.blocks args.a0) small)
answer_word s map_call args step small below is = elim is [
  | inl (can, now) ↦ subst (WordStep s) (sym now) (omega arith, (tt, none_below 256 (omega arith)))
  | inr (cannot, now) ↦ subst (WordStep s) (sym now) (failure_word s)
]
answer_word s unmap_call args step small below is = elim is [
  | inl (can, now) ↦ subst (WordStep s) (sym now) (omega arith, (tt, none_below 256 (omega arith)))
  | inr (cannot, now) ↦ subst (WordStep s) (sym now) (failure_word s)
]
answer_word s read_call args step small below is = elim is [
  | inl (can, now) ↦ subst (WordStep s) (sym now)
      (moved_word_step s (min args.a2 (length s.input)) (Rd args.a1 (min args.a2 (length s.input))) (omega (arith, can.few)) tt (take_below 256 (min args.a2 (length s.input)) s.input (omega arith) below))
  | inr (cannot, now) ↦ subst (WordStep s) (sym now) (failure_word s)
]
answer_word s write_call args step small below is = elim is [
  | inl (can, now) ↦ subst (WordStep s) (sym now) (moved_word_step s args.a2 (Wr args.a1 args.a2) can.few tt (none_below 256 (omega arith)))
  | inr (cannot, now) ↦ subst (WordStep s) (sym now) (failure_word s)
]
answer_word s unknown_call args step small below is = subst (WordStep s) (sym is) (failure_word s)

-- Steps

record WordAct (act : Act) : Type 0 where
  hart : IsWordHart act.next.state
  stored : Below 256 act.stored
  address : HasWordAddress act.kind

-- the numbers of a state
record WordState (s : State) : Type 0 where
  bytes : (k : ℕ) → unwrap_or (s.bytes k) 0 < 256
  input : Below 256 s.input

called_word : (s : State) (h : Hart) (step : KernelStep) → IsWordHart h → WordStep s step → WordAct (called s h step)
called_word s h (Ended code) word is = record { hart = word; stored = none_below 256 (omega arith); address = tt }
called_word s h (Went a0 kind) word is = record { hart = after_word h 10 a0 (next_pc h) word is.0 (next_word h); stored = is.1.1; address = is.1.0 }

done_word : (s : State) (h : Hart) (effect : Effect) (act : Act) → WordState s → IsWordHart h → WordEffect effect → IsDone s h effect act → WordAct act
done_word s h (effects.Plain instr next) act state word is done = subst WordAct (sym done.act_is) (record { hart = is; stored = none_below 256 (omega arith); address = subst (λ (o : Option Kind). IfSome o HasWordAddress) done.row (plain_address instr) })
done_word s h (effects.Load (instrs.Load width rd rs1 imm) addr) act state word is done = elim done [
  | inl (can, now) ↦ subst WordAct (sym now) (record {
    hart = after_word h rd _ (next_pc h) word (extended_word width (λ k. unwrap_or (s.bytes k) 0) addr state.bytes) (next_word h);
    stored = none_below 256 (omega arith);
    address = tt;
  })
  | inr fault ↦ subst WordAct (sym fault.act_is) (record { hart = word; stored = none_below 256 (omega arith); address = is })
]
done_word s h (effects.Store (instrs.Store width rs2 rs1 imm) addr value) act state word is done = elim done [
  | inl (can, now) ↦ subst WordAct (sym now) (record { hart = at_word h (next_pc h) word (next_word h); stored = stored_below width value; address = tt })
  | inr fault ↦ subst WordAct (sym fault.act_is) (record { hart = word; stored = none_below 256 (omega arith); address = is })
]
done_word s h effects.Call act state word is done =
    subst WordAct (sym done.act_is) (called_word s h done.step word (answer_word s (call_of (x h 17)) (call_args h) done.step (word.registers 10) state.input done.answer))
done_word s h effects.Illegal act state word is done = subst WordAct (sym done) (record { hart = word; stored = none_below 256 (omega arith); address = word.pc })
done_word s h (effects.Load _ addr) act state word is done = absurd done
done_word s h (effects.Store _ addr value) act state word is done = absurd done

fetched_word : (s : State) (h : Hart) (word : Option ℕ) (act : Act) → WordState s → IsWordHart h → IsFetched s h word act → WordAct act
fetched_word s h None act state hart is = subst WordAct (sym is) (record { hart = hart; stored = none_below 256 (omega arith); address = hart.pc })
fetched_word s h (Some word) act state hart is = done_word s h (effect_at h (instruction_of word)) act state hart (effect_word_at h (instruction_of word) hart (valid_where_read word)) is

step_word : (words : List ℕ) (s : State) (h : Hart) (act : Act) → WordState s → IsWordHart h → IsStep words s h act → WordAct act
step_word words s h act state hart is = fetched_word s h (word_at words h.pc) act state hart is

-- Runs

joined_below : (n : ℕ) (xs ys : List ℕ) → Below n xs → Below n ys → Below n (xs ++ ys)
joined_below n [] ys first rest = rest
joined_below n (y ∷ xs) ys first rest = cons_below n y (xs ++ ys) (first 0) (joined_below n xs ys (λ i. first (suc i)) rest)

text_below : (words : List ℕ) → Below 256 (text_bytes words)
text_below [] = none_below 256 (omega arith)
text_below (word ∷ words) = joined_below 256 (to_le_bytes w32 word) (text_bytes words) (low_below 0 4 word) (text_below words)

image_below : (job : Job) → HasTypedNumbers job → (k : ℕ) → image job k < 256
image_below job typed k = elim (cases_Bool (is_among 0x10000 (length (text_bytes job.words)) k)) [
  | inl text ↦ rw text (text_below job.words (k - 0x10000))
  | inr other ↦ elim (cases_Bool (is_among 0x100000 (length job.data_bytes) k)) [
    | inl held ↦ rw (other, held) (all_below 256 job.data_bytes (omega arith) (recursion_from_All _ job.data_bytes typed.data_bytes) (k - 0x100000))
    | inr none ↦ rw (other, none) (omega arith)
  ]
]

listed_below : (addr : ℕ) (stored : List ℕ) (k old : ℕ) → Below 256 stored → old < 256 → unwrap_or (if is_among addr (length stored) k then Some (slice_index stored (k - addr)) else None) old < 256
listed_below addr stored k old below small = elim (cases_Bool (is_among addr (length stored) k)) [
  | inl here ↦ rw here (below (k - addr))
  | inr over ↦ rw over small
]

wrote_below : (kind : Kind) (stored : List ℕ) (k old : ℕ) → Below 256 stored → old < 256 → unwrap_or (wrote kind stored k) old < 256
wrote_below (St width rv rb addr) stored k old below small = listed_below addr stored k old below small
wrote_below (Rd addr len) stored k old below small = listed_below addr stored k old below small
wrote_below (Mp page count) stored k old below small = elim (cases_Bool (is_among page count (k / 4096))) [ inl here ↦ rw here (omega arith) | inr over ↦ rw over small ]
wrote_below (Ld width rd rb addr) stored k old below small = small
wrote_below (Op rd r1 r2) stored k old below small = small
wrote_below (Mv rd rs) stored k old below small = small
wrote_below (Im rd) stored k old below small = small
wrote_below (Br r1 r2) stored k old below small = small
wrote_below (Jr rd rs) stored k old below small = small
wrote_below (Al addr len) stored k old below small = small
wrote_below (Fr addr len) stored k old below small = small
wrote_below (Bf addr) stored k old below small = small
wrote_below (Um page count) stored k old below small = small
wrote_below (Wr addr len) stored k old below small = small
wrote_below Ex stored k old below small = small
wrote_below (Ft cause addr) stored k old below small = small

abbrev WordHarts : List Standing → Type 0
WordHarts harts = (h : ℕ) → IsWordHart (get_or harts h (standing_at 0 0)).state

begun_word : (entry hart : ℕ) → entry < 2 ^ 32 → hart ≤ 8 → IsWordHart (started entry hart)
begun_word entry hart small few = record {
  pc = small;
  registers = set_below (2 ^ 32) hart (slice_set (replicate 32 0) 2 (stack_end hart)) 10 (omega (arith, few)) (set_below (2 ^ 32) (stack_end hart) (replicate 32 0) 2 (omega (arith, few)) (zeros_below (2 ^ 32) 32 (omega arith)));
}

begin_words : (entries : List ℕ) (first : ℕ) → Below (2 ^ 32) entries → first + length entries ≤ 8 → WordHarts (begin_from first entries)
begin_words [] first below few h = begun_word 0 0 (omega arith) (omega arith)
begin_words (entry ∷ entries) first below few zero = begun_word entry first (below 0) (omega (arith, few))
begin_words (entry ∷ entries) first below few (suc h) = begin_words entries (first + 1) (λ i. below (suc i)) (omega (arith, few)) h

set_words : (harts : List Standing) (at : ℕ) (next : Standing) → IsWordHart next.state → WordHarts harts → WordHarts (slice_set harts at next)
set_words [] at next word harts h = harts h
set_words (s ∷ rest) zero next word harts zero = word
set_words (s ∷ rest) zero next word harts (suc h) = harts (suc h)
set_words (s ∷ rest) (suc at) next word harts zero = harts 0
set_words (s ∷ rest) (suc at) next word harts (suc h) = set_words rest at next word (λ k. harts (suc k)) h

record WordRun (job : Job) (entries : List Entry) : Type 0 where
  bytes : (k : ℕ) → value job entries k < 256
  harts : WordHarts (harts_after job entries)

shown_below : (test : Bool) (byte : ℕ) → byte < 256 → unwrap_or (if test then Some byte else None) 0 < 256
shown_below true byte small = small
shown_below false byte small = omega arith

state_word : (job : Job) (entries : List Entry) → HasTypedNumbers job → WordRun job entries → WordState (state_after job entries)
state_word job entries typed run = record {
  bytes = λ k. shown_below _ (value job entries k) (run.bytes k);
  input = drop_below 256 (taken entries) job.input (all_below 256 job.input (omega arith) (recursion_from_All _ job.input typed.input));
}

act_word : (job : Job) (before : List Entry) (e : Entry) → IsValidJob job → HasTypedNumbers job → IsPrefix job before → WordRun job before → IsStep job.words (state_after job before) (state_of_hart job before e.hart) e.act → WordAct e.act
act_word job before e valid typed prefix run step = step_word job.words (state_after job before) (state_of_hart job before e.hart) e.act (state_word job before typed run) (run.harts e.hart) step

run_word : (job : Job) (entries : List Entry) → IsValidJob job → HasTypedNumbers job → IsPrefix job entries → WordRun job entries
run_word job [] valid typed prefix = record {
  bytes = image_below job typed;
  harts = begin_words (take job.harts job.entries) 0 (take_below (2 ^ 32) job.harts job.entries (omega arith) (all_below (2 ^ 32) job.entries (omega arith) (recursion_from_All _ job.entries typed.entries))) (omega (arith, length-take job.harts job.entries, valid.few_harts));
}
run_word job (e ∷ before) valid typed prefix =
    let run = run_word job before valid typed prefix.0 in
    let act = act_word job before e valid typed prefix.0 run prefix.1.step in
    record {
      bytes = λ k. wrote_below e.act.kind e.act.stored k (value job before k) act.stored (run.bytes k);
      harts = set_words (harts_after job before) e.hart e.act.next act.hart run.harts;
    }

pub word_address : (job : Job) (before : List Entry) (e : Entry) → IsValidJob job → IsPrefix job (e ∷ before) → HasWordAddress e.act.kind
word_address job before e valid prefix = (act_word job before e valid valid.typed prefix.0 (run_word job before valid valid.typed prefix.0) prefix.1.step).address
