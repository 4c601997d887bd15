-- Each step writes mapped bytes alone, maps pages of the map region alone, and sends bytes by a wr alone.
use Rattle.std.proofs.Common.{◌≡◌, ◌==◌, ℕ, ◌/◌, ◌≤◌, ◌&&◌, inl, inr, List, [], length, take, min, Option, Some, None, IfSome, refl, arith, sym, subst}
use Rattle.std.specs.Int.{to_le_bytes, w32}
use Rattle.std.proofs.lemmas.List.{length-take}
use Rattle.std.proofs.lemmas.Bool.{cases_Bool}
use Rattle.pl_base.specs.Widths.{store_bytes}
use Rattle.pl_base.specs.declared.widths.StoreWidth.{StoreWidth}
use Rattle.pl_base.specs.declared.widths.StoreWidth.TheVariants as store
use Rattle.guest_mem.specs.Bytes.{AllMapped}
use Rattle.guest_kernel.specs.declared.call.CallArgs.{CallArgs}
use Rattle.guest_kernel.specs.declared.call.KernelStep.{KernelStep}
use Rattle.guest_kernel.specs.declared.call.KernelStep.TheVariants.{Ended, Went}
use Rattle.guest_kernel.specs.Calls.{Call, exit_call, alloc_call, free_call, map_call, unmap_call, read_call, write_call, unknown_call, call_of, IsAnswer, freed, moved}
use Rattle.guest_kernel.specs.State.{State}
use Rattle.pl_event.specs.declared.event.Kind.{Kind}
use Rattle.pl_event.specs.declared.event.Kind.TheVariants.{Rd, Wr}
use Rattle.rv_isa.specs.declared.instruction.Instr.{Instr}
use Rattle.rv_isa.specs.declared.instruction.Instr.TheVariants as instrs
use Rattle.rv_isa.specs.Table.{instruction_of}
use Rattle.rv_exec.specs.declared.effect.Effect.{Effect}
use Rattle.rv_exec.specs.declared.effect.Effect.TheVariants as effects
use Rattle.rv_exec.specs.Hart.{Hart, x}
use Rattle.rv_exec.specs.Meaning.{effect_at}
use Rattle.core_sim.specs.EventKinds.{kind_of, is_copy, cancels}
use Rattle.core_sim.specs.Steps.{Act, word_at, IsDone, IsFetched, IsStep, called, call_args, moved_in, moved_out}
use Rattle.core_sim.proofs.Ties.{Fits}

-- what a step of that kind is to have
abbrev FitsAct : State → Act → Type 0
FitsAct s act = Fits s act.kind act.stored act.sent

abbrev FitsStep : State → KernelStep → Type 0
FitsStep s (Ended code) = Unit {0}
FitsStep s (Went a0 kind) = Fits s kind (moved_in s kind) (moved_out s kind)

fits_plain : (s : State) (instr : Instr) → IfSome (kind_of instr) (λ kind. Fits s kind [] [])
fits_plain s (instrs.Lui rd imm) = refl
fits_plain s (instrs.Auipc rd imm) = refl
fits_plain s (instrs.Jal rd off) = refl
fits_plain s (instrs.Jalr rd rs1 imm) = refl
fits_plain s (instrs.Branch op rs1 rs2 off) = refl
fits_plain s (instrs.Load width rd rs1 imm) = tt
fits_plain s (instrs.Store width rs2 rs1 imm) = tt
fits_plain s (instrs.OpImm op rd rs1 imm) = elim (cases_Bool (rs1 == 0)) [
  | inl holds ↦ rw holds refl
  | inr fails ↦ elim (cases_Bool (is_copy op imm)) [ inl copy ↦ rw (fails, copy) refl | inr other ↦ rw (fails, other) refl ]
]
fits_plain s (instrs.Op op rd rs1 rs2) = elim (cases_Bool (cancels op && (rs1 == rs2))) [ inl holds ↦ rw holds refl | inr fails ↦ rw fails refl ]
fits_plain s (instrs.Fence bits) = refl
fits_plain s instrs.Ecall = tt

length_stored : (width : StoreWidth) (value : ℕ) → length (take (store_bytes width) (to_le_bytes w32 value)) ≡ store_bytes width
length_stored store.B value = refl
length_stored store.H value = refl
length_stored store.W value = refl

fits_moved : (s : State) (addr count asked : ℕ) → AllMapped s.bytes addr asked → count ≤ asked → FitsStep s (moved count (Rd addr count))
fits_moved s addr count asked mapped few = elim (cases_Bool (count == 0)) [
  | inl none ↦ rw none refl
  | inr some ↦ rw some ((λ k from within. mapped k from (omega (arith, length-take count s.input)), refl))
]

fits_sent : (s : State) (addr count : ℕ) → FitsStep s (moved count (Wr addr count))
fits_sent s addr count = elim (cases_Bool (count == 0)) [ inl none ↦ rw none refl | inr some ↦ rw some tt ]

fits_freed : (s : State) (addr : ℕ) (block : Option ℕ) → FitsStep s (freed addr block)
fits_freed s addr (Some size) = refl
fits_freed s addr None = refl

fits_answer : (s : State) (call : Call) (args : CallArgs) (step : KernelStep) → IsAnswer call s args step → FitsStep s step
fits_answer s exit_call args step is = subst (FitsStep s) (sym is) tt
fits_answer s alloc_call args step is = elim is [ inl given ↦ subst (FitsStep s) (sym given.answer) refl | inr refused ↦ subst (FitsStep s) (sym refused.1) refl ]
fits_answer s free_call args step is = subst (FitsStep s) (sym is) (fits_freed s args.a0 (s.blocks args.a0))
fits_answer s map_call args step is = elim is [
  | inl (can, now) ↦ subst (FitsStep s) (sym now) (let region : 2048 ≤ args.a0 / 4096 = omega (arith, can.range.from) in (region, refl))
  | inr (cannot, now) ↦ subst (FitsStep s) (sym now) refl
]
fits_answer s unmap_call args step is = elim is [
  | inl (can, now) ↦ subst (FitsStep s) (sym now) (let region : 2048 ≤ args.a0 / 4096 = omega (arith, can.range.from) in (region, refl))
  | inr (cannot, now) ↦ subst (FitsStep s) (sym now) refl
]
fits_answer s read_call args step is = elim is [
  | inl (can, now) ↦ subst (FitsStep s) (sym now) (fits_moved s args.a1 (min args.a2 (length s.input)) args.a2 can.all_mapped (omega arith))
  | inr (cannot, now) ↦ subst (FitsStep s) (sym now) refl
]
fits_answer s write_call args step is = elim is [
  | inl (can, now) ↦ subst (FitsStep s) (sym now) (fits_sent s args.a1 args.a2)
  | inr (cannot, now) ↦ subst (FitsStep s) (sym now) refl
]
fits_answer s unknown_call args step is = subst (FitsStep s) (sym is) refl

fits_called : (s : State) (h : Hart) (step : KernelStep) → FitsStep s step → FitsAct s (called s h step)
fits_called s h (Ended code) fits = refl
fits_called s h (Went a0 kind) fits = fits

fits_done : (s : State) (h : Hart) (effect : Effect) (act : Act) → IsDone s h effect act → FitsAct s act
fits_done s h (effects.Plain instr next) act done = subst (FitsAct s) (sym done.act_is) (subst (λ (o : Option Kind). IfSome o (λ kind. Fits s kind [] [])) done.row (fits_plain s instr))
fits_done s h (effects.Load (instrs.Load width rd rs1 imm) addr) act done = elim done [
  | inl (can, is) ↦ subst (FitsAct s) (sym is) refl
  | inr fault ↦ subst (FitsAct s) (sym fault.act_is) refl
]
fits_done s h (effects.Store (instrs.Store width rs2 rs1 imm) addr value) act done = elim done [
  | inl (can, is) ↦ subst (FitsAct s) (sym is) ((λ k from within. can.all_mapped k from (omega (arith, length_stored width value)), refl))
  | inr fault ↦ subst (FitsAct s) (sym fault.act_is) refl
]
fits_done s h effects.Call act done = subst (FitsAct s) (sym done.act_is) (fits_called s h done.step (fits_answer s (call_of (x h 17)) (call_args h) done.step done.answer))
fits_done s h effects.Illegal act done = subst (FitsAct s) (sym done) refl
fits_done s h (effects.Load _ addr) act done = absurd done
fits_done s h (effects.Store _ addr value) act done = absurd done

fits_fetched : (s : State) (h : Hart) (word : Option ℕ) (act : Act) → IsFetched s h word act → FitsAct s act
fits_fetched s h None act is = subst (FitsAct s) (sym is) refl
fits_fetched s h (Some word) act is = fits_done s h (effect_at h (instruction_of word)) act is

pub fits_step : (words : List ℕ) (s : State) (h : Hart) (act : Act) → IsStep words s h act → Fits s act.kind act.stored act.sent
fits_step words s h act is = fits_fetched s h (word_at words h.pc) act is
