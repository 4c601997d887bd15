-- A step after which its hart is live has an event that ends no hart.
use Rattle.std.proofs.Common.{◌≡◌, ◌==◌, ℕ, ◌&&◌, inl, inr, true, false, List, length, min, Option, Some, None, IfSome, refl, sym, subst}
use Rattle.std.proofs.lemmas.Bool.{cases_Bool, both_ways}
use Rattle.guest_kernel.specs.declared.call.CallArgs.{CallArgs}
use Rattle.guest_kernel.specs.declared.call.KernelStep.{KernelStep}
use Rattle.guest_kernel.specs.declared.call.KernelStep.TheVariants.{Ended, Went}
use Rattle.guest_kernel.specs.Calls.{Call, exit_call, alloc_call, free_call, map_call, unmap_call, read_call, write_call, unknown_call, call_of, IsAnswer, freed, moved}
use Rattle.guest_kernel.specs.State.{State}
use Rattle.pl_event.specs.declared.event.Kind.{Kind}
use Rattle.pl_event.specs.declared.event.Kind.TheVariants.{Rd, Wr}
use Rattle.pl_event.specs.Runs.{ends_hart}
use Rattle.rv_isa.specs.declared.instruction.Instr.{Instr}
use Rattle.rv_isa.specs.declared.instruction.Instr.TheVariants as instrs
use Rattle.rv_isa.specs.Table.{instruction_of}
use Rattle.rv_exec.specs.declared.effect.Effect.{Effect}
use Rattle.rv_exec.specs.declared.effect.Effect.TheVariants as effects
use Rattle.rv_exec.specs.Hart.{Hart, x}
use Rattle.rv_exec.specs.Meaning.{effect_at}
use Rattle.core_sim.specs.EventKinds.{kind_of, is_copy, cancels}
use Rattle.core_sim.specs.Harts.{is_live}
use Rattle.core_sim.specs.Steps.{Act, word_at, called, call_args, IsDone, IsFetched, IsStep}

-- the hart is live only where the event ends no hart
abbrev pub Goes : Act → Type 0
Goes act = is_live act.next.end ≡ true → ends_hart act.kind ≡ false

abbrev GoesStep : KernelStep → Type 0
GoesStep (Ended code) = Unit {0}
GoesStep (Went a0 kind) = ends_hart kind ≡ false

goes_plain : (instr : Instr) → IfSome (kind_of instr) (λ kind. ends_hart kind ≡ false)
goes_plain (instrs.Lui rd imm) = refl
goes_plain (instrs.Auipc rd imm) = refl
goes_plain (instrs.Jal rd off) = refl
goes_plain (instrs.Jalr rd rs1 imm) = refl
goes_plain (instrs.Branch op rs1 rs2 off) = refl
goes_plain (instrs.Load width rd rs1 imm) = tt
goes_plain (instrs.Store width rs2 rs1 imm) = tt
goes_plain (instrs.OpImm op rd rs1 imm) = elim (cases_Bool (rs1 == 0)) [
  | inl holds ↦ rw holds refl
  | inr fails ↦ elim (cases_Bool (is_copy op imm)) [ inl copy ↦ rw (fails, copy) refl | inr other ↦ rw (fails, other) refl ]
]
goes_plain (instrs.Op op rd rs1 rs2) = elim (cases_Bool (cancels op && (rs1 == rs2))) [ inl holds ↦ rw holds refl | inr fails ↦ rw fails refl ]
goes_plain (instrs.Fence bits) = refl
goes_plain instrs.Ecall = tt

goes_moved : (count : ℕ) (kind : Kind) → ends_hart kind ≡ false → GoesStep (moved count kind)
goes_moved count kind goes = elim (cases_Bool (count == 0)) [ inl none ↦ rw none refl | inr some ↦ rw some goes ]

goes_freed : (addr : ℕ) (block : Option ℕ) → GoesStep (freed addr block)
goes_freed addr (Some size) = refl
goes_freed addr None = refl

goes_answer : (s : State) (call : Call) (args : CallArgs) (step : KernelStep) → IsAnswer call s args step → GoesStep step
goes_answer s exit_call args step is = subst GoesStep (sym is) tt
goes_answer s alloc_call args step is = elim is [ inl given ↦ subst GoesStep (sym given.answer) refl | inr refused ↦ subst GoesStep (sym refused.1) refl ]
goes_answer s free_call args step is = subst GoesStep (sym is) (goes_freed args.a0 (s.blocks args.a0))
goes_answer s map_call args step is = elim is [ inl (can, now) ↦ subst GoesStep (sym now) refl | inr (cannot, now) ↦ subst GoesStep (sym now) refl ]
goes_answer s unmap_call args step is = elim is [ inl (can, now) ↦ subst GoesStep (sym now) refl | inr (cannot, now) ↦ subst GoesStep (sym now) refl ]
goes_answer s read_call args step is = elim is [
  | inl (can, now) ↦ subst GoesStep (sym now) (goes_moved (min args.a2 (length s.input)) (Rd args.a1 (min args.a2 (length s.input))) refl)
  | inr (cannot, now) ↦ subst GoesStep (sym now) refl
]
goes_answer s write_call args step is = elim is [
  | inl (can, now) ↦ subst GoesStep (sym now) (goes_moved args.a2 (Wr args.a1 args.a2) refl)
  | inr (cannot, now) ↦ subst GoesStep (sym now) refl
]
goes_answer s unknown_call args step is = subst GoesStep (sym is) refl

goes_called : (s : State) (h : Hart) (step : KernelStep) → GoesStep step → Goes (called s h step)
goes_called s h (Ended code) goes = λ live. absurd (both_ways _ refl live)
goes_called s h (Went a0 kind) goes = λ live. goes

goes_done : (s : State) (h : Hart) (effect : Effect) (act : Act) → IsDone s h effect act → Goes act
goes_done s h (effects.Plain instr next) act done = subst Goes (sym done.act_is) (λ live. subst (λ (o : Option Kind). IfSome o (λ kind. ends_hart kind ≡ false)) done.row (goes_plain instr))
goes_done s h (effects.Load (instrs.Load width rd rs1 imm) addr) act done = elim done [
  | inl (can, is) ↦ subst Goes (sym is) (λ live. refl)
  | inr fault ↦ subst Goes (sym fault.act_is) (λ live. absurd (both_ways _ refl live))
]
goes_done s h (effects.Store (instrs.Store width rs2 rs1 imm) addr value) act done = elim done [
  | inl (can, is) ↦ subst Goes (sym is) (λ live. refl)
  | inr fault ↦ subst Goes (sym fault.act_is) (λ live. absurd (both_ways _ refl live))
]
goes_done s h effects.Call act done = subst Goes (sym done.act_is) (goes_called s h done.step (goes_answer s (call_of (x h 17)) (call_args h) done.step done.answer))
goes_done s h effects.Illegal act done = subst Goes (sym done) (λ live. absurd (both_ways _ refl live))
goes_done s h (effects.Load _ addr) act done = absurd done
goes_done s h (effects.Store _ addr value) act done = absurd done

goes_fetched : (s : State) (h : Hart) (word : Option ℕ) (act : Act) → IsFetched s h word act → Goes act
goes_fetched s h None act is = subst Goes (sym is) (λ live. absurd (both_ways _ refl live))
goes_fetched s h (Some word) act is = goes_done s h (effect_at h (instruction_of word)) act is

pub goes_step : (words : List ℕ) (s : State) (h : Hart) (act : Act) → IsStep words s h act → Goes act
goes_step words s h act is = goes_fetched s h (word_at words h.pc) act is
