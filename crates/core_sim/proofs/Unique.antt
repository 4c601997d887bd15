-- A job has one run.
use Rattle.std.proofs.Common.{◌≡◌, ℕ, ◌≤◌, ◌⊎◌, inl, inr, List, [], ◌∷◌, length, Option, Some, None, refl, arith, sym, ap, ◌∙◌, subst}
use Rattle.std.proofs.lemmas.Bool.{cases_order}
use Rattle.pl_base.specs.declared.widths.FaultCause.{FaultCause}
use Rattle.pl_base.specs.declared.widths.FaultCause.TheVariants.{Pc, Illegal, Align, Unmapped, ReadOnly}
use Rattle.pl_base.specs.Widths.{load_bytes, store_bytes}
use Rattle.guest_heap.specs.FirstFit.{IsFirstFit, IsRefused}
use Rattle.guest_kernel.specs.declared.call.CallArgs.{CallArgs}
use Rattle.guest_kernel.specs.declared.call.KernelStep.{KernelStep}
use Rattle.guest_kernel.specs.declared.call.KernelStep.TheVariants.{Went}
use Rattle.guest_kernel.specs.Calls.{Call, exit_call, alloc_call, free_call, map_call, unmap_call, read_call, write_call, unknown_call, call_of, Live, Allocates, ComesTo, IsAnswer}
use Rattle.guest_kernel.specs.State.{State}
use Rattle.pl_event.specs.declared.event.Kind.{Kind}
use Rattle.pl_event.specs.declared.event.Kind.TheVariants.{Al}
use Rattle.rv_isa.specs.declared.instruction.Instr.{Instr}
use Rattle.rv_isa.specs.declared.instruction.Instr.TheVariants as instrs
use Rattle.rv_isa.specs.Table.{instruction_of}
use Rattle.rv_exec.specs.declared.effect.Effect.{Effect}
use Rattle.rv_exec.specs.declared.effect.Effect.TheVariants as effects
use Rattle.rv_exec.specs.Hart.{Hart, x}
use Rattle.rv_exec.specs.Meaning.{effect_at}
use Rattle.core_sim.specs.declared.job.Job.{Job}
use Rattle.core_sim.specs.Entries.{Entry, state_after}
use Rattle.core_sim.specs.Runs.{IsPrefix, IsNext, IsRun, IsEnded, state_of_hart}
use Rattle.core_sim.specs.Steps.{Act, goes_on, word_at, faulted, called, call_args, CanLoad, CanStore, LoadFaults, StoreFaults, IsFault, IsDone, IsFetched, IsStep, instr_at}

-- a block has one lowest place
one_place : (Taken : ℕ → ℕ → Type 0) (size a b : ℕ) → IsFirstFit Taken size a → IsFirstFit Taken size b → a ≡ b
one_place Taken size a b p q = elim (cases_order a b) [
  | inl same ↦ same
  | inr (inl below) ↦ absurd (q.lowest a below p.place)
  | inr (inr above) ↦ absurd (p.lowest b above q.place)
]

given_or_refused : (s : State) (size addr : ℕ) → Allocates s size addr → IsRefused (Live s) size → ⊥
given_or_refused s size addr given refused = elim refused [
  | inl none ↦ absurd (omega (arith, given.some))
  | inr (inl many) ↦ absurd (omega (arith, given.few))
  | inr (inr nowhere) ↦ nowhere addr given.first.place
]

one_comes : (Can : Type 0) (success : KernelStep) (a b : KernelStep) → ComesTo Can success a → ComesTo Can success b → a ≡ b
one_comes Can success a b p q = elim p [
  | inl (can, is) ↦ elim q [ inl (can2, is2) ↦ is ∙ sym is2 | inr (cannot, is2) ↦ absurd (cannot can) ]
  | inr (cannot, is) ↦ elim q [ inl (can2, is2) ↦ absurd (cannot can2) | inr (cannot2, is2) ↦ is ∙ sym is2 ]
]

one_answer : (call : Call) (s : State) (args : CallArgs) (a b : KernelStep) → IsAnswer call s args a → IsAnswer call s args b → a ≡ b
one_answer exit_call s args a b p q = p ∙ sym q
one_answer alloc_call s args a b p q = elim p [
  | inl given ↦ elim q [
    | inl again ↦
        let same : given.addr ≡ again.addr = one_place (Live s) args.a0 given.addr again.addr given.allocates.first again.allocates.first in
        given.answer ∙ ap (λ (addr : ℕ). Went addr (Al addr args.a0)) same ∙ sym again.answer
    | inr (refused, is) ↦ absurd (given_or_refused s args.a0 given.addr given.allocates refused)
  ]
  | inr (refused, is) ↦ elim q [
    | inl given ↦ absurd (given_or_refused s args.a0 given.addr given.allocates refused)
    | inr (refused2, is2) ↦ is ∙ sym is2
  ]
]
one_answer free_call s args a b p q = p ∙ sym q
one_answer map_call s args a b p q = one_comes _ _ a b p q
one_answer unmap_call s args a b p q = one_comes _ _ a b p q
one_answer read_call s args a b p q = one_comes _ _ a b p q
one_answer write_call s args a b p q = one_comes _ _ a b p q
one_answer unknown_call s args a b p q = p ∙ sym q

load_or_fault : (s : State) (addr width : ℕ) (cause : FaultCause) → CanLoad s addr width → LoadFaults s addr width cause → ⊥
load_or_fault s addr width Align can why = why can.aligned
load_or_fault s addr width Unmapped can why = why.1 can.all_mapped
load_or_fault s addr width Pc can why = why
load_or_fault s addr width Illegal can why = why
load_or_fault s addr width ReadOnly can why = why

store_or_fault : (s : State) (addr width : ℕ) (cause : FaultCause) → CanStore s addr width → StoreFaults s addr width cause → ⊥
store_or_fault s addr width Align can why = why can.aligned
store_or_fault s addr width Unmapped can why = why.1 can.all_mapped
store_or_fault s addr width ReadOnly can why = why.1.1 can.no_text
store_or_fault s addr width Pc can why = why
store_or_fault s addr width Illegal can why = why

one_load_fault : (s : State) (addr width : ℕ) (a b : FaultCause) → LoadFaults s addr width a → LoadFaults s addr width b → a ≡ b
one_load_fault s addr width Align Align p q = refl
one_load_fault s addr width Align Unmapped p q = absurd (p q.0)
one_load_fault s addr width Align Pc p q = absurd q
one_load_fault s addr width Align Illegal p q = absurd q
one_load_fault s addr width Align ReadOnly p q = absurd q
one_load_fault s addr width Unmapped Align p q = absurd (q p.0)
one_load_fault s addr width Unmapped Unmapped p q = refl
one_load_fault s addr width Unmapped Pc p q = absurd q
one_load_fault s addr width Unmapped Illegal p q = absurd q
one_load_fault s addr width Unmapped ReadOnly p q = absurd q
one_load_fault s addr width Pc b p q = absurd p
one_load_fault s addr width Illegal b p q = absurd p
one_load_fault s addr width ReadOnly b p q = absurd p

one_store_fault : (s : State) (addr width : ℕ) (a b : FaultCause) → StoreFaults s addr width a → StoreFaults s addr width b → a ≡ b
one_store_fault s addr width Align Align p q = refl
one_store_fault s addr width Align Unmapped p q = absurd (p q.0)
one_store_fault s addr width Align ReadOnly p q = absurd (p q.0)
one_store_fault s addr width Align Pc p q = absurd q
one_store_fault s addr width Align Illegal p q = absurd q
one_store_fault s addr width Unmapped Align p q = absurd (q p.0)
one_store_fault s addr width Unmapped Unmapped p q = refl
one_store_fault s addr width Unmapped ReadOnly p q = absurd (p.1 q.1.0)
one_store_fault s addr width Unmapped Pc p q = absurd q
one_store_fault s addr width Unmapped Illegal p q = absurd q
one_store_fault s addr width ReadOnly Align p q = absurd (q p.0)
one_store_fault s addr width ReadOnly Unmapped p q = absurd (q.1 p.1.0)
one_store_fault s addr width ReadOnly ReadOnly p q = refl
one_store_fault s addr width ReadOnly Pc p q = absurd q
one_store_fault s addr width ReadOnly Illegal p q = absurd q
one_store_fault s addr width Pc b p q = absurd p
one_store_fault s addr width Illegal b p q = absurd p

-- an access that is done or faults, with one cause
one_access : (Can : Type 0) (Why : FaultCause → Type 0) (h : Hart) (addr : ℕ) (done a b : Act) →
    ((cause : FaultCause) → Can → Why cause → ⊥) → ((p q : FaultCause) → Why p → Why q → p ≡ q) →
    ((Can × (a ≡ done)) ⊎ IsFault Why h addr a) → ((Can × (b ≡ done)) ⊎ IsFault Why h addr b) → a ≡ b
one_access Can Why h addr done a b apart one p q = elim p [
  | inl (can, is) ↦ elim q [ inl (can2, is2) ↦ is ∙ sym is2 | inr fault ↦ absurd (apart fault.cause can fault.why) ]
  | inr fault ↦ elim q [
    | inl (can, is) ↦ absurd (apart fault.cause can fault.why)
    | inr again ↦ fault.act_is ∙ ap (λ (cause : FaultCause). faulted h cause addr) (one fault.cause again.cause fault.why again.why) ∙ sym again.act_is
  ]
]

one_done : (s : State) (h : Hart) (effect : Effect) (a b : Act) → IsDone s h effect a → IsDone s h effect b → a ≡ b
one_done s h (effects.Plain instr next) a b p q =
    let both : Some p.kind ≡ Some q.kind = sym p.row ∙ q.row in
    let same : p.kind ≡ q.kind = cc in
    p.act_is ∙ ap (λ (kind : Kind). goes_on kind next) same ∙ sym q.act_is
one_done s h (effects.Load (instrs.Load width rd rs1 imm) addr) a b p q =
    one_access (CanLoad s addr (load_bytes width)) (LoadFaults s addr (load_bytes width)) h addr _ a b (load_or_fault s addr (load_bytes width)) (one_load_fault s addr (load_bytes width)) p q
one_done s h (effects.Store (instrs.Store width rs2 rs1 imm) addr value) a b p q =
    one_access (CanStore s addr (store_bytes width)) (StoreFaults s addr (store_bytes width)) h addr _ a b (store_or_fault s addr (store_bytes width)) (one_store_fault s addr (store_bytes width)) p q
one_done s h effects.Call a b p q =
    p.act_is ∙ ap (called s h) (one_answer (call_of (x h 17)) s (call_args h) p.step q.step p.answer q.answer) ∙ sym q.act_is
one_done s h effects.Illegal a b p q = p ∙ sym q
one_done s h (effects.Load _ addr) a b p q = absurd p
one_done s h (effects.Store _ addr value) a b p q = absurd p

one_fetched : (s : State) (h : Hart) (word : Option ℕ) (a b : Act) → IsFetched s h word a → IsFetched s h word b → a ≡ b
one_fetched s h None a b p q = p ∙ sym q
one_fetched s h (Some word) a b p q = one_done s h (effect_at h (instruction_of word)) a b p q

one_step : (words : List ℕ) (s : State) (h : Hart) (a b : Act) → IsStep words s h a → IsStep words s h b → a ≡ b
one_step words s h a b p q = one_fetched s h (word_at words h.pc) a b p q

made_entry : ℕ → Option Instr → Act → Entry
made_entry hart instr act = record { hart = hart; instr = instr; act = act }

same_entry : (h k : ℕ) (i j : Option Instr) (a b : Act) → h ≡ k → i ≡ j → a ≡ b → made_entry h i a ≡ made_entry k j b
same_entry h k i j a b p r q = cc

-- one entry may follow
one_next : (job : Job) (before : List Entry) (a b : Entry) → IsNext job before a → IsNext job before b → a ≡ b
unfolding made_entry
one_next job before a b p q =
    let hart : a.hart ≡ b.hart = p.hart ∙ sym q.hart in
    let instr : a.instr ≡ b.instr = p.instr ∙ ap (λ (h : ℕ). instr_at job.words (state_of_hart job before h).pc) hart ∙ sym q.instr in
    let step : IsStep job.words (state_after job before) (state_of_hart job before b.hart) a.act = subst (λ (h : ℕ). IsStep job.words (state_after job before) (state_of_hart job before h) a.act) hart p.step in
    same_entry a.hart b.hart a.instr b.instr a.act b.act hart instr (one_step job.words (state_after job before) (state_of_hart job before b.hart) a.act b.act step q.step)

-- a prefix of each length
pub one_prefix : (job : Job) (a b : List Entry) → IsPrefix job a → IsPrefix job b → length a ≡ length b → a ≡ b
one_prefix job [] [] p q long = refl
one_prefix job [] (f ∷ b) p q long = absurd (omega arith)
one_prefix job (e ∷ a) [] p q long = absurd (omega arith)
one_prefix job (e ∷ a) (f ∷ b) p q long =
    let same : a ≡ b = one_prefix job a b p.0 q.0 (omega arith) in
    let next : IsNext job b e = subst (λ (before : List Entry). IsNext job before e) same p.1 in
    ap (λ (before : List Entry). e ∷ before) same ∙ ap (λ (g : Entry). g ∷ b) (one_next job b e f next q.1)

-- no prefix goes on past an end
within_run : (job : Job) (a b : List Entry) → IsRun job a → IsPrefix job b → length b ≤ length a
within_run job a [] run prefix = omega arith
within_run job a (f ∷ b) run prefix =
    let so_far : length b ≤ length a = within_run job a b run prefix.0 in
    elim (cases_order (length b) (length a)) [
      | inl same ↦
          let here : b ≡ a = one_prefix job b a prefix.0 run.prefix same in
          let ended : IsEnded job b = subst (IsEnded job) (sym here) run.ended in
          elim ended [ inl none ↦ absurd (prefix.1.live none) | inr reached ↦ absurd (omega (arith, prefix.1.within)) ]
      | inr (inl below) ↦ omega arith
      | inr (inr above) ↦ absurd (omega arith)
    ]

pub one_run_of : (job : Job) (a b : List Entry) → IsRun job a → IsRun job b → a ≡ b
one_run_of job a b p q = one_prefix job a b p.prefix q.prefix (omega (arith, within_run job a b p q.prefix, within_run job b a q p.prefix))
