-- The parts of a step.
use Rattle.std.proofs.Common.{◌≡◌, ◌==◌, ◌&&◌, ℕ, ◌+◌, ◌<◌, inl, inr, false, List, [], take, Option, Some, None, IsSome, IfSome, ℤ, SFits, to_z, of_z, ◌/◌, ◌≤◌, refl, sym, ap, ◌∙◌, subst}
use Rattle.std.specs.Int.{to_le_bytes, w32}
use Rattle.std.proofs.lemmas.Bool.{both_ways, cases_Bool}
use Rattle.std.proofs.lemmas.Int.{to_z-of_z}
use Rattle.pl_base.specs.declared.widths.FaultCause.{FaultCause}
use Rattle.pl_base.specs.declared.widths.FaultCause.TheVariants.{Pc, Illegal}
use Rattle.pl_base.specs.Widths.{load_bytes, store_bytes}
use Rattle.pl_event.specs.declared.event.Kind.{Kind}
use Rattle.pl_event.specs.declared.event.Kind.TheVariants.{Ld, St, Op, Mv, Im, Br, Jr, Al, Fr, Bf, Mp, Um, Rd, Wr, Ex, Ft}
use Rattle.guest_mem.specs.declared.fault.MemFault.{MemFault}
use Rattle.guest_mem.specs.declared.fault.MemFault.TheVariants as mem_faults
use Rattle.guest_mem.specs.Bytes.{AllMapped, number_at, written}
use Rattle.guest_mem.specs.Faults.{IsReadFault, HasText}
use Rattle.guest_mem.specs.Image.{PageImage}
use Rattle.guest_mem.specs.Memory.{bytes, mapped, texts}
use Rattle.guest_mem.proofs.Pages.{written-nothing}
use Rattle.guest_heap.specs.Blocks.{asked}
use Rattle.guest_kernel.specs.declared.call.CallArgs.{CallArgs}
use Rattle.guest_kernel.specs.declared.call.KernelStep.{KernelStep}
use Rattle.guest_kernel.specs.declared.call.KernelStep.TheVariants.{Ended, Went}
use Rattle.guest_kernel.specs.Calls.{call_of, IsAnswer}
use Rattle.guest_kernel.specs.Image.{KernelImage}
use Rattle.guest_kernel.specs.State.{State, state_of, after, changed_by}
use Rattle.rv_isa.specs.declared.instruction.Instr.{Instr}
use Rattle.rv_isa.specs.declared.instruction.Instr.TheVariants as instrs
use Rattle.rv_isa.specs.Table.{instruction_of}
use Rattle.rv_exec.specs.declared.effect.Effect.{Effect}
use Rattle.rv_exec.specs.declared.effect.Effect.TheVariants as effects
use Rattle.rv_exec.specs.Hart.{Hart, x}
use Rattle.rv_exec.specs.Meaning.{effect_at, effect_of, moved, loaded, at_pc, next_pc}
use Rattle.core_sim.specs.declared.asked.Load.{Load}
use Rattle.core_sim.specs.declared.asked.Store.{Store}
use Rattle.core_sim.specs.Doing.{Did, did_go_on, did_fault, load_of, store_of, Does, DoesEffect}
use Rattle.core_sim.specs.EventKinds.{kind_of, is_copy, cancels}
use Rattle.core_sim.specs.Steps.{Act, goes_on, faulted, word_at, CanLoad, CanStore, LoadFaults, StoreFaults, IsDone, IsFetched, stores, call_args, called, moved_in, moved_out, left_by, state_left}
use Rattle.core_sim.proofs.Ties.{same_state}

-- what the code did is what an act says
did_of : Act → Did
did_of act = record { kind = act.kind; next = act.next }

does_by : (old new : State) (h : Hart) (effect : Effect) (did : Did) (act : Act) → IsDone old h effect act → did ≡ did_of act → new ≡ state_left old act → DoesEffect old new h effect did
unfolding did_of
does_by old new h effect did act done is left = record { act = act; done = done; kind = ap (λ (d : Did). d.kind) is; next = ap (λ (d : Did). d.next) is; state = left }

-- an address that was computed from an immediate
pub address_is : (h : Hart) (r : ℕ) (imm : ℤ) (addr : ℕ) → SFits w32 imm → addr ≡ moved (x h r) (to_z w32 (of_z w32 imm)) → addr ≡ moved (x h r) imm
address_is h r imm addr fits is = is ∙ ap (moved (x h r)) (to_z-of_z w32 imm fits)

-- a load
pub load_faults : (s : State) (h : Hart) (load : Load) (addr : ℕ) (cause : FaultCause) (did : Did) → addr ≡ moved (x h load.rs1) load.imm →
    LoadFaults s addr (load_bytes load.width) cause → did ≡ did_fault h cause addr → DoesEffect s s h (effect_of h (load_of load)) did
unfolding did_of
load_faults s h load addr cause did is why did_is =
    subst (λ (a : ℕ). DoesEffect s s h (effects.Load (load_of load) a) did) is
    (does_by s s h (effects.Load (load_of load) addr) did (faulted h cause addr) (inr (record { cause = cause; why = why; act_is = refl })) did_is refl)

pub load_does : (s : State) (h : Hart) (load : Load) (addr raw : ℕ) (did : Did) → addr ≡ moved (x h load.rs1) load.imm →
    CanLoad s addr (load_bytes load.width) → raw ≡ number_at s.bytes addr (load_bytes load.width) → did ≡ did_go_on (Ld load.width load.rd load.rs1 addr) (loaded h (load_of load) raw) →
    DoesEffect s s h (effect_of h (load_of load)) did
unfolding did_of
load_does s h load addr raw did is can value did_is =
    let now : did ≡ did_go_on (Ld load.width load.rd load.rs1 addr) (loaded h (load_of load) (number_at s.bytes addr (load_bytes load.width))) =
    did_is ∙ ap (λ (n : ℕ). did_go_on (Ld load.width load.rd load.rs1 addr) (loaded h (load_of load) n)) value in
    subst (λ (a : ℕ). DoesEffect s s h (effects.Load (load_of load) a) did) is
    (does_by s s h (effects.Load (load_of load) addr) did (goes_on (Ld load.width load.rd load.rs1 addr) (loaded h (load_of load) (number_at s.bytes addr (load_bytes load.width)))) (inl (can, refl)) now refl)

-- why bytes were not read or written
pub not_mapped : (memory : List (Option PageImage)) (at count : ℕ) (fault : MemFault) → IsReadFault memory at count fault → AllMapped (bytes memory) at count → ⊥
not_mapped memory at count (mem_faults.Unmapped byte) why mapped = let none : IsSome {T = ℕ} None = subst IsSome why.unmapped (mapped byte why.from why.within) in both_ways _ refl none
not_mapped memory at count mem_faults.ReadOnly why mapped = absurd why

pub not_clear : (memory : List (Option PageImage)) (at count : ℕ) → HasText memory at count → ((k : ℕ) → at ≤ k → k < at + count → texts memory (k / 4096) ≡ false) → ⊥
not_clear memory at count text clear = both_ways _ (clear text.0 text.1 text.2) text.3

-- a store
pub store_faults : (s new : State) (h : Hart) (store : Store) (addr : ℕ) (cause : FaultCause) (did : Did) → addr ≡ moved (x h store.rs1) store.imm →
    StoreFaults s addr (store_bytes store.width) cause → did ≡ did_fault h cause addr → new ≡ s → DoesEffect s new h (effect_of h (store_of store)) did
unfolding did_of
store_faults s new h store addr cause did is why did_is same =
    subst (λ (a : ℕ). DoesEffect s new h (effects.Store (store_of store) a (x h store.rs2)) did) is
    (does_by s new h (effects.Store (store_of store) addr (x h store.rs2)) did (faulted h cause addr) (inr (record { cause = cause; why = why; act_is = refl })) did_is same)

pub store_does : (old new : KernelImage) (h : Hart) (store : Store) (addr value : ℕ) (did : Did) → addr ≡ moved (x h store.rs1) store.imm → value ≡ x h store.rs2 →
    CanStore (state_of old) addr (store_bytes store.width) → did ≡ did_go_on (St store.width store.rs2 store.rs1 addr) (at_pc h (next_pc h)) →
    bytes new.memory ≡ written (bytes old.memory) addr (take (store_bytes store.width) (to_le_bytes w32 value)) → mapped new.memory ≡ mapped old.memory → texts new.memory ≡ texts old.memory →
    new.heap ≡ old.heap → new.input ≡ old.input → new.output ≡ old.output → DoesEffect (state_of old) (state_of new) h (effect_of h (store_of store)) did
unfolding did_of
store_does old new h store addr value did is value_is can did_is b m t l i o =
    subst (λ (v : ℕ). DoesEffect (state_of old) (state_of new) h (effects.Store (store_of store) (moved (x h store.rs1) store.imm) v) did) value_is
    (subst (λ (a : ℕ). DoesEffect (state_of old) (state_of new) h (effects.Store (store_of store) a value) did) is
    (does_by (state_of old) (state_of new) h (effects.Store (store_of store) addr value) did (stores (St store.width store.rs2 store.rs1 addr) (take (store_bytes store.width) (to_le_bytes w32 value)) h) (inl (can, refl)) did_is
    (same_state (state_of new) (state_left (state_of old) (stores (St store.width store.rs2 store.rs1 addr) (take (store_bytes store.width) (to_le_bytes w32 value)) h)) b m t (ap asked l) i o)))

-- the registers of a call, one by one
abbrev pub args_of : ℕ → ℕ → ℕ → ℕ → CallArgs
args_of a7 a0 a1 a2 = record { a7 = a7; a0 = a0; a1 = a1; a2 = a2 }

pub made_args : (a b c d a' b' c' d' : ℕ) → a ≡ a' → b ≡ b' → c ≡ c' → d ≡ d' → args_of a b c d ≡ args_of a' b' c' d'
made_args a b c d a' b' c' d' p q r s = cc

-- a call of the kernel
left_by_call : (s : State) (kind : Kind) → changed_by s kind ≡ left_by s kind (moved_in s kind) (moved_out s kind)
left_by_call s (Ld width rd rb addr) = refl
left_by_call s (St width rv rb addr) = same_state s (left_by s (St width rv rb addr) [] []) (sym (written-nothing s.bytes addr)) refl refl refl refl refl
left_by_call s (Op rd r1 r2) = refl
left_by_call s (Mv rd rs) = refl
left_by_call s (Im rd) = refl
left_by_call s (Br r1 r2) = refl
left_by_call s (Jr rd rs) = refl
left_by_call s (Al addr len) = refl
left_by_call s (Fr addr len) = refl
left_by_call s (Bf addr) = refl
left_by_call s (Mp page count) = refl
left_by_call s (Um page count) = refl
left_by_call s (Rd addr len) = refl
left_by_call s (Wr addr len) = refl
left_by_call s Ex = refl
left_by_call s (Ft cause addr) = refl

left_by_step : (s : State) (h : Hart) (step : KernelStep) → after s step ≡ state_left s (called s h step)
left_by_step s h (Ended code) = refl
left_by_step s h (Went a0 kind) = left_by_call s kind

pub call_does : (old new : State) (h : Hart) (step : KernelStep) (did : Did) → IsAnswer (call_of (x h 17)) old (call_args h) step → new ≡ after old step →
    did ≡ record { kind = (called old h step).kind; next = (called old h step).next } → DoesEffect old new h effects.Call did
unfolding did_of
call_does old new h step did answer left is = does_by old new h effects.Call did (called old h step) (record { step = step; answer = answer; act_is = refl }) is (left ∙ left_by_step old h step)

-- a whole step
pub does_none : (words : List ℕ) (s : State) (h : Hart) (did : Did) → word_at words h.pc ≡ None → did ≡ did_fault h Pc h.pc → Does words s s h did
does_none words s h did none is = record {
  act = faulted h Pc h.pc;
  step = subst (λ (o : Option ℕ). IsFetched s h o (faulted h Pc h.pc)) (sym none) refl;
  kind = ap (λ (d : Did). d.kind) is;
  next = ap (λ (d : Did). d.next) is;
  state = refl;
}

pub does_some : (words : List ℕ) (old new : State) (h : Hart) (did : Did) (word : ℕ) (effect : Effect) → word_at words h.pc ≡ Some word → effect_at h (instruction_of word) ≡ effect →
    DoesEffect old new h effect did → Does words old new h did
does_some words old new h did word effect fetched is does = record {
  act = does.act;
  step = subst (λ (o : Option ℕ). IsFetched old h o does.act) (sym fetched) (subst (λ (e : Effect). IsDone old h e does.act) (sym is) does.done);
  kind = does.kind;
  next = does.next;
  state = does.state;
}

-- an instruction that needs neither memory nor the kernel changes nothing of them
plain_left : (s : State) (instr : Instr) → IfSome (kind_of instr) (λ kind. s ≡ left_by s kind [] [])
plain_left s (instrs.Lui rd imm) = refl
plain_left s (instrs.Auipc rd imm) = refl
plain_left s (instrs.Jal rd off) = refl
plain_left s (instrs.Jalr rd rs1 imm) = refl
plain_left s (instrs.Branch op rs1 rs2 off) = refl
plain_left s (instrs.Load width rd rs1 imm) = tt
plain_left s (instrs.Store width rs2 rs1 imm) = tt
plain_left s (instrs.OpImm op rd rs1 imm) = elim (cases_Bool (rs1 == 0)) [
  | inl holds ↦ rw holds refl
  | inr fails ↦ elim (cases_Bool (is_copy op imm)) [ inl copy ↦ rw (fails, copy) refl | inr other ↦ rw (fails, other) refl ]
]
plain_left s (instrs.Op op rd rs1 rs2) = elim (cases_Bool (cancels op && (rs1 == rs2))) [ inl holds ↦ rw holds refl | inr fails ↦ rw fails refl ]
plain_left s (instrs.Fence bits) = refl
plain_left s instrs.Ecall = tt

pub plain_does : (s : State) (h : Hart) (instr : Instr) (next : Hart) (kind : Kind) (did : Did) → kind_of instr ≡ Some kind → did ≡ did_go_on kind next → DoesEffect s s h (effects.Plain instr next) did
unfolding did_of
plain_does s h instr next kind did row is =
    let left : s ≡ left_by s kind [] [] = subst (λ (o : Option Kind). IfSome o (λ k. s ≡ left_by s k [] [])) row (plain_left s instr) in
    does_by s s h (effects.Plain instr next) did (goes_on kind next) (record { kind = kind; row = row; act_is = refl }) is left

pub illegal_does : (s : State) (h : Hart) (did : Did) → did ≡ did_fault h Illegal h.pc → DoesEffect s s h effects.Illegal did
unfolding did_of
illegal_does s h did is = does_by s s h effects.Illegal did (faulted h Illegal h.pc) refl is refl
