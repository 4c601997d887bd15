-- Each job has a run: wherever a hart is live and steps are left, there is a next entry.
use Rattle.std.proofs.Common.{◌≡◌, ◌==◌, ℕ, zero, suc, ◌+◌, ◌-◌, ◌*◌, ◌/◌, ◌%◌, ◌^◌, ◌<◌, ◌≤◌, ◌⊎◌, inl, inr, Bool, true, false, List, [], ◌∷◌, ◌++◌, length, take, min, Option, Some, None, IsSome, is_some, refl, arith, sym, ap, subst}
use Rattle.std.specs.Int.{to_le_bytes, w32}
use Rattle.std.proofs.lemmas.Bool.{cases_Bool, cases_eq, cases_lt, both_ways, eqb-true}
use Rattle.guest_mem.specs.Bytes.{AllMapped, number_at}
use Rattle.pl_base.specs.Pages.{EachPage, count_below}
use Rattle.guest_heap.specs.FirstFit.{IsPlace, IsRefused, Meet}
use Rattle.guest_heap.specs.FirstFit.{taken as room_of}
use Rattle.guest_kernel.specs.declared.call.CallArgs.{CallArgs}
use Rattle.guest_kernel.specs.declared.call.KernelStep.{KernelStep}
use Rattle.guest_kernel.specs.declared.call.KernelStep.TheVariants.{Ended, Went}
use Rattle.guest_kernel.specs.Calls.{Call, exit_call, alloc_call, free_call, map_call, unmap_call, read_call, write_call, unknown_call, call_of, failure, moved, freed, Live, IsMapRange, Allocates, CanMap, CanUnmap, CanRead, CanWrite, ComesTo, IsAnswer}
use Rattle.guest_kernel.specs.State.{State}
use Rattle.pl_base.specs.declared.widths.FaultCause.TheVariants.{Pc, Illegal, Align, Unmapped, ReadOnly}
use Rattle.pl_base.specs.Widths.{load_bytes, store_bytes}
use Rattle.pl_event.specs.declared.event.Kind.{Kind}
use Rattle.pl_event.specs.declared.event.Kind.TheVariants.{Ld, St, Op, Mv, Im, Br, Jr, Al, Fr, Bf, Mp, Um, Rd, Wr, Ex, Ft}
use Rattle.rv_isa.specs.declared.instruction.Instr.{Instr}
use Rattle.rv_isa.specs.declared.instruction.Instr.TheVariants as instrs
use Rattle.rv_isa.specs.Table.{instruction_of}
use Rattle.rv_exec.specs.Hart.{Hart, x}
use Rattle.rv_exec.specs.Meaning.{effect_at, loaded}
use Rattle.rv_exec.specs.Meaning.{moved as address_of}
use Rattle.core_sim.specs.declared.job.Job.{Job}
use Rattle.core_sim.specs.Entries.{Entry, block_at, blocks_by, state_after, harts_after, scheduled}
use Rattle.core_sim.specs.Harts.{live_harts}
use Rattle.core_sim.specs.Runs.{IsPrefix, IsNext, IsLive, IsRun, HasRun, IsPart, state_of_hart}
use Rattle.core_sim.specs.Steps.{Act, goes_on, faulted, word_at, NoText, CanLoad, CanStore, LoadFaults, StoreFaults, IsFault, stores, called, call_args, IsDone, IsFetched, IsStep, instr_at}
use Rattle.core_sim.proofs.Happening.{Tells, tells_step}
use Rattle.core_sim.proofs.Stepping.{prefix_within}

-- Tests

abbrev Decided : Type 0 → Type 0
Decided P = P ⊎ (P → ⊥)

is_test : (a b : Bool) → Decided (a ≡ b)
is_test true true = inl refl
is_test true false = inr (λ e. both_ways _ e refl)
is_test false true = inr (λ e. both_ways _ refl e)
is_test false false = inl refl

is_within : (a b : ℕ) → Decided (a ≤ b)
is_within a b = elim (cases_lt b a) [ inl above ↦ inr (λ within. omega arith) | inr within ↦ inl within ]

is_below : (a b : ℕ) → Decided (a < b)
is_below a b = elim (cases_lt a b) [ inl below ↦ inl below | inr from ↦ inr (λ below. omega arith) ]

both : (A B : Type 0) → Decided A → Decided B → Decided (A × B)
both A B (inl a) (inl b) = inl (a, b)
both A B (inr never) b = inr (λ p. never p.0)
both A B (inl a) (inr never) = inr (λ p. never p.1)

mapped_to : (A B : Type 0) → Decided A → (A → B) → (B → A) → Decided B
mapped_to A B (inl a) to from = inl (to a)
mapped_to A B (inr never) to from = inr (λ b. never (from b))

-- each of so many numbers from there on
abbrev Each : (ℕ → Type 0) → ℕ → ℕ → Type 0
Each P at count = (k : ℕ) → at ≤ k → k < at + count → P k

each_of : (P : ℕ → Type 0) → ((k : ℕ) → Decided (P k)) → (at count : ℕ) → Decided (Each P at count)
each_of P test at zero = inl (λ k from within. absurd (omega arith))
each_of P test at (suc count) = elim (each_of P test at count) [
  | inr never ↦ inr (λ all. never (λ k from within. all k from (omega arith)))
  | inl some ↦ elim (test (at + count)) [
    | inr never ↦ inr (λ all. never (all (at + count) (omega arith) (omega arith)))
    | inl last ↦ inl (λ k from within. elim (cases_lt k (at + count)) [
      | inl below ↦ some k from below
      | inr above ↦ let same : at + count ≡ k = omega arith in subst P same last
    ])
  ]
]

-- the lowest number below a limit
record Lowest (P : ℕ → Type 0) : Type 0 where
  at : ℕ
  holds : P at
  lowest : (lower : ℕ) → lower < at → P lower → ⊥

lowest_of : (P : ℕ → Type 0) → ((k : ℕ) → Decided (P k)) → (n : ℕ) → Lowest P ⊎ ((k : ℕ) → k < n → P k → ⊥)
lowest_of P test zero = inr (λ k within holds. absurd (omega arith))
lowest_of P test (suc n) = elim (lowest_of P test n) [
  | inl found ↦ inl found
  | inr none ↦ elim (test n) [
    | inl here ↦ inl (record { at = n; holds = here; lowest = none })
    | inr never ↦ inr (λ k within holds. elim (cases_lt k n) [
      | inl below ↦ none k below holds
      | inr above ↦ let same : k ≡ n = omega arith in never (subst P same holds)
    ])
  ]
]

-- Blocks

-- each block starts below the heap's end
abbrev BlocksBelow : (ℕ → Option ℕ) → Type 0
BlocksBelow blocks = (addr len : ℕ) → blocks addr ≡ Some len → addr < 0x500000

-- where there is a block, it does not meet these bytes
abbrev Apart : ℕ → ℕ → ℕ → Option ℕ → Type 0
Apart at long other block = (size : ℕ) → block ≡ Some size → Meet at long other (room_of size) → ⊥

is_apart : (at long other : ℕ) (block : Option ℕ) → Decided (Apart at long other block)
is_apart at long other None = inl (λ size is meet. absurd (cc))
is_apart at long other (Some size) = elim (both (at < other + room_of size) (other < at + long) (is_below at (other + room_of size)) (is_below other (at + long))) [
  | inl meet ↦ inr (λ apart. apart size refl meet)
  | inr never ↦ inl (λ same is meet. (let e : size ≡ same = cc in never (subst (λ (s : ℕ). Meet at long other (room_of s)) (sym e) meet)))
]

abbrev Fits : (ℕ → Option ℕ) → ℕ → ℕ → Type 0
Fits blocks size at = ((at % 16 ≡ 0) × ((0x400000 ≤ at) × (at + room_of size ≤ 0x500000))) × Each (λ other. Apart at (room_of size) other (blocks other)) 0 0x500000

is_place : (s : State) → BlocksBelow s.blocks → (size at : ℕ) → Decided (IsPlace (Live s) size at)
is_place s below size at = mapped_to (Fits s.blocks size at) (IsPlace (Live s) size at)
    (both _ _ (both _ _ (cases_eq (at % 16) 0) (both _ _ (is_within 0x400000 at) (is_within (at + room_of size) 0x500000)))
    (each_of (λ other. Apart at (room_of size) other (s.blocks other)) (λ other. is_apart at (room_of size) other (s.blocks other)) 0 0x500000))
    (λ fits. record { aligned = fits.0.0; from = fits.0.1.0; within = fits.0.1.1; clear = λ other other_size is meet. fits.1 other (omega arith) (omega (arith, below other other_size is)) other_size is meet })
    (λ place. ((place.aligned, (place.from, place.within)), λ other from within other_size is meet. place.clear other other_size is meet))

-- Calls of the kernel

-- a call has an answer
record Answers (call : Call) (s : State) (args : CallArgs) : Type 0 where
  step : KernelStep
  answer : IsAnswer call s args step

record Comes (Can : Type 0) (success : KernelStep) : Type 0 where
  step : KernelStep
  is : ComesTo Can success step

comes : (Can : Type 0) (success : KernelStep) → Decided Can → Comes Can success
comes Can success (inl can) = record { step = success; is = inl (can, refl) }
comes Can success (inr never) = record { step = failure; is = inr (never, refl) }

is_map_range : (addr count : ℕ) → Decided (IsMapRange addr count)
is_map_range addr count = mapped_to (((addr % 4096 ≡ 0) × (1 ≤ count)) × ((0x800000 ≤ addr) × (addr + 4096 * count ≤ 0xe00000))) (IsMapRange addr count)
    (both _ _ (both _ _ (cases_eq (addr % 4096) 0) (is_within 1 count)) (both _ _ (is_within 0x800000 addr) (is_within (addr + 4096 * count) 0xe00000)))
    (λ p. record { aligned = p.0.0; some = p.0.1; from = p.1.0; within = p.1.1 })
    (λ r. ((r.aligned, r.some), (r.from, r.within)))

each_page : (test : ℕ → Bool) (first count : ℕ) (answer : Bool) → Decided (EachPage test first count answer)
each_page test first count answer = each_of (λ page. test page ≡ answer) (λ page. is_test (test page) answer) first count

all_mapped : (bytes : ℕ → Option ℕ) (at count : ℕ) → Decided (AllMapped bytes at count)
all_mapped bytes at count = each_of (λ k. IsSome (bytes k)) (λ k. is_test (is_some (bytes k)) true) at count

no_text : (s : State) (addr width : ℕ) → Decided (NoText s addr width)
no_text s addr width = each_of (λ k. s.texts (k / 4096) ≡ false) (λ k. is_test (s.texts (k / 4096)) false) addr width

can_map : (s : State) (addr count : ℕ) → Decided (CanMap s addr count)
can_map s addr count = mapped_to (IsMapRange addr count × (EachPage s.mapped (addr / 4096) count false × (count_below s.mapped 4096 + count ≤ 512))) (CanMap s addr count)
    (both _ _ (is_map_range addr count) (both _ _ (each_page s.mapped (addr / 4096) count false) (is_within (count_below s.mapped 4096 + count) 512)))
    (λ p. record { range = p.0; free = p.1.0; room = p.1.1 })
    (λ r. (r.range, (r.free, r.room)))

can_unmap : (s : State) (addr count : ℕ) → Decided (CanUnmap s addr count)
can_unmap s addr count = mapped_to (IsMapRange addr count × EachPage s.mapped (addr / 4096) count true) (CanUnmap s addr count)
    (both _ _ (is_map_range addr count) (each_page s.mapped (addr / 4096) count true))
    (λ p. record { range = p.0; all_mapped = p.1 })
    (λ r. (r.range, r.all_mapped))

can_read : (s : State) (addr count : ℕ) → Decided (CanRead s addr count)
can_read s addr count = mapped_to ((count ≤ 65536) × (AllMapped s.bytes addr count × NoText s addr count)) (CanRead s addr count)
    (both _ _ (is_within count 65536) (both _ _ (all_mapped s.bytes addr count) (no_text s addr count)))
    (λ p. record { few = p.0; all_mapped = p.1.0; no_text = p.1.1 })
    (λ r. (r.few, (r.all_mapped, r.no_text)))

can_write : (s : State) (addr count : ℕ) → Decided (CanWrite s addr count)
can_write s addr count = mapped_to ((count ≤ 65536) × (AllMapped s.bytes addr count × (length s.output + count ≤ 2 ^ 20))) (CanWrite s addr count)
    (both _ _ (is_within count 65536) (both _ _ (all_mapped s.bytes addr count) (is_within (length s.output + count) (2 ^ 20))))
    (λ p. record { few = p.0; all_mapped = p.1.0; room = p.1.1 })
    (λ r. (r.few, (r.all_mapped, r.room)))

gives : (s : State) → BlocksBelow s.blocks → (size : ℕ) → ((addr : ℕ) × Allocates s size addr) ⊎ IsRefused (Live s) size
gives s below size = elim (cases_eq size 0) [
  | inl none ↦ inr (inl none)
  | inr some ↦ elim (cases_lt 65536 size) [
    | inl many ↦ inr (inr (inl many))
    | inr few ↦ elim (lowest_of (IsPlace (Live s) size) (is_place s below size) 0x500001) [
      | inl found ↦ inl (found.at, record { some = omega arith; few = few; first = record { place = found.holds; lowest = found.lowest } })
      | inr none ↦ inr (inr (inr (λ at place. none at (omega (arith, place.within)) place)))
    ]
  ]
]

answers : (call : Call) (s : State) (args : CallArgs) → BlocksBelow s.blocks → Answers call s args
answers exit_call s args below = record { step = Ended args.a0; answer = refl }
answers alloc_call s args below = elim (gives s below args.a0) [
  | inl (addr, given) ↦ record { step = Went addr (Al addr args.a0); answer = inl (record { addr = addr; allocates = given; answer = refl }) }
  | inr refused ↦ record { step = Went 0 (Im 10); answer = inr (refused, refl) }
]
answers free_call s args below = record { step = freed args.a0 (s.blocks args.a0); answer = refl }
answers map_call s args below = let c = comes (CanMap s args.a0 args.a1) (Went 0 (Mp (args.a0 / 4096) args.a1)) (can_map s args.a0 args.a1) in record { step = c.step; answer = c.is }
answers unmap_call s args below = let c = comes (CanUnmap s args.a0 args.a1) (Went 0 (Um (args.a0 / 4096) args.a1)) (can_unmap s args.a0 args.a1) in record { step = c.step; answer = c.is }
answers read_call s args below =
    let count : ℕ = min args.a2 (length s.input) in
    let c = comes (CanRead s args.a1 args.a2) (moved count (Rd args.a1 count)) (can_read s args.a1 args.a2) in
    record { step = c.step; answer = c.is }
answers write_call s args below = let c = comes (CanWrite s args.a1 args.a2) (moved args.a2 (Wr args.a1 args.a2)) (can_write s args.a1 args.a2) in record { step = c.step; answer = c.is }
answers unknown_call s args below = record { step = failure; answer = refl }

-- Steps

-- an instruction is done
record Done (s : State) (h : Hart) (o : Option Instr) : Type 0 where
  act : Act
  done : IsDone s h (effect_at h o) act

loads_done : (s : State) (h : Hart) (addr width : ℕ) (act : Act) → (a : Act) × ((CanLoad s addr width × (a ≡ act)) ⊎ IsFault (LoadFaults s addr width) h addr a)
loads_done s h addr width act = elim (cases_eq (addr % width) 0) [
  | inr odd ↦ (faulted h Align addr, inr (record { cause = Align; why = odd; act_is = refl }))
  | inl aligned ↦ elim (all_mapped s.bytes addr width) [
    | inl mapped ↦ (act, inl (record { aligned = aligned; all_mapped = mapped }, refl))
    | inr none ↦ (faulted h Unmapped addr, inr (record { cause = Unmapped; why = (aligned, none); act_is = refl }))
  ]
]

stores_done : (s : State) (h : Hart) (addr width : ℕ) (act : Act) → (a : Act) × ((CanStore s addr width × (a ≡ act)) ⊎ IsFault (StoreFaults s addr width) h addr a)
stores_done s h addr width act = elim (cases_eq (addr % width) 0) [
  | inr odd ↦ (faulted h Align addr, inr (record { cause = Align; why = odd; act_is = refl }))
  | inl aligned ↦ elim (all_mapped s.bytes addr width) [
    | inr none ↦ (faulted h Unmapped addr, inr (record { cause = Unmapped; why = (aligned, none); act_is = refl }))
    | inl mapped ↦ elim (no_text s addr width) [
      | inl free ↦ (act, inl (record { aligned = aligned; all_mapped = mapped; no_text = free }, refl))
      | inr text ↦ (faulted h ReadOnly addr, inr (record { cause = ReadOnly; why = (aligned, (mapped, text)); act_is = refl }))
    ]
  ]
]

does : (s : State) (h : Hart) → BlocksBelow s.blocks → (i : Instr) → Done s h (Some i)
does s h below (instrs.Lui rd imm) = record { act = _; done = record { kind = _; row = refl; act_is = refl } }
does s h below (instrs.Auipc rd imm) = record { act = _; done = record { kind = _; row = refl; act_is = refl } }
does s h below (instrs.Jal rd off) = record { act = _; done = record { kind = _; row = refl; act_is = refl } }
does s h below (instrs.Jalr rd rs1 imm) = record { act = _; done = record { kind = _; row = refl; act_is = refl } }
does s h below (instrs.Branch op rs1 rs2 off) = record { act = _; done = record { kind = _; row = refl; act_is = refl } }
does s h below (instrs.OpImm op rd rs1 imm) = record { act = _; done = record { kind = _; row = refl; act_is = refl } }
does s h below (instrs.Op op rd rs1 rs2) = record { act = _; done = record { kind = _; row = refl; act_is = refl } }
does s h below (instrs.Fence bits) = record { act = _; done = record { kind = _; row = refl; act_is = refl } }
does s h below (instrs.Load width rd rs1 imm) =
    let addr : ℕ = address_of (x h rs1) imm in
    let d = loads_done s h addr (load_bytes width) (goes_on (Ld width rd rs1 addr) (loaded h (instrs.Load width rd rs1 imm) (number_at s.bytes addr (load_bytes width)))) in
    record { act = d.0; done = d.1 }
does s h below (instrs.Store width rs2 rs1 imm) =
    let addr : ℕ = address_of (x h rs1) imm in
    let d = stores_done s h addr (store_bytes width) (stores (St width rs2 rs1 addr) (take (store_bytes width) (to_le_bytes w32 (x h rs2))) h) in
    record { act = d.0; done = d.1 }
does s h below instrs.Ecall =
    let a = answers (call_of (x h 17)) s (call_args h) below in
    record { act = called s h a.step; done = record { step = a.step; answer = a.answer; act_is = refl } }

decoded : (s : State) (h : Hart) → BlocksBelow s.blocks → (o : Option Instr) → Done s h o
decoded s h below None = record { act = faulted h Illegal h.pc; done = refl }
decoded s h below (Some i) = does s h below i

fetched : (s : State) (h : Hart) → BlocksBelow s.blocks → (word : Option ℕ) → (act : Act) × IsFetched s h word act
fetched s h below None = (faulted h Pc h.pc, refl)
fetched s h below (Some word) = let d = decoded s h below (instruction_of word) in (d.act, d.done)

steps : (words : List ℕ) (s : State) (h : Hart) → BlocksBelow s.blocks → (act : Act) × IsStep words s h act
steps words s h below = fetched s h below (word_at words h.pc)

-- Runs

below_next : (s : State) (kind : Kind) → BlocksBelow s.blocks → Tells s kind → BlocksBelow (blocks_by kind s.blocks)
below_next s (Ld width rd rb addr) b tells = b
below_next s (St width rv rb addr) b tells = b
below_next s (Op rd r1 r2) b tells = b
below_next s (Mv rd rs) b tells = b
below_next s (Im rd) b tells = b
below_next s (Br r1 r2) b tells = b
below_next s (Jr rd rs) b tells = b
below_next s (Bf addr) b tells = b
below_next s (Mp page count) b tells = b
below_next s (Um page count) b tells = b
below_next s (Rd addr len) b tells = b
below_next s (Wr addr len) b tells = b
below_next s Ex b tells = b
below_next s (Ft cause addr) b tells = b
below_next s (Al addr len) b tells = λ other size is. elim (cases_Bool (other == addr)) [
  | inl holds ↦ omega (arith, eqb-true other addr holds, tells.first.place.within, tells.some)
  | inr fails ↦ b other size (rw fails at is)
]
below_next s (Fr addr len) b tells = λ other size is. elim (cases_Bool (other == addr)) [
  | inl holds ↦ absurd (let e : None ≡ Some size = rw holds at is in cc)
  | inr fails ↦ b other size (rw fails at is)
]

blocks_below : (job : Job) (entries : List Entry) → IsPrefix job entries → BlocksBelow (block_at entries)
blocks_below job [] prefix = λ addr len is. absurd (cc)
blocks_below job (e ∷ before) prefix =
    below_next (state_after job before) e.act.kind (blocks_below job before prefix.0) (tells_step job.words (state_after job before) (state_of_hart job before e.hart) e.act prefix.1.step)

pub next_entry : (job : Job) (before : List Entry) → IsPrefix job before → IsLive job before → length before < job.steps → (e : Entry) × IsNext job before e
next_entry job before prefix live within =
    let step = steps job.words (state_after job before) (state_of_hart job before (scheduled job before)) (blocks_below job before prefix) in (
      record { hart = scheduled job before; instr = instr_at job.words (state_of_hart job before (scheduled job before)).pc; act = step.0 },
      record { live = live; within = within; hart = refl; instr = refl; step = step.1 },
    )

is_empty : (ks : List ℕ) → Decided (ks ≡ [])
is_empty [] = inl refl
is_empty (k ∷ ks) = inr (λ none. absurd (cc))

-- a prefix goes on to the end of the run
record GoesOnTo (job : Job) (entries : List Entry) : Type 0 where
  more : List Entry
  run : IsRun job (more ++ entries)

goes : (job : Job) (left : ℕ) (entries : List Entry) → IsPrefix job entries → length entries + left ≡ job.steps → GoesOnTo job entries
goes job zero entries prefix reached = record { more = []; run = record { prefix = prefix; ended = inr (omega arith) } }
goes job (suc left) entries prefix reached = elim (is_empty (live_harts (harts_after job entries))) [
  | inl none ↦ record { more = []; run = record { prefix = prefix; ended = inl none } }
  | inr live ↦
      let next = next_entry job entries prefix live (omega arith) in
      let on : GoesOnTo job (next.0 ∷ entries) = goes job left (next.0 ∷ entries) (prefix, next.1) (omega arith) in
      record { more = on.more ++ next.0 ∷ []; run = subst (IsRun job) (longer on.more next.0 entries) on.run }
] where
  longer : (more : List Entry) (e : Entry) (rest : List Entry) → more ++ e ∷ rest ≡ (more ++ e ∷ []) ++ rest
  longer [] e rest = refl
  longer (m ∷ more) e rest = ap (λ (r : List Entry). m ∷ r) (longer more e rest)

pub has_run : (job : Job) → HasRun job
has_run job = let on : GoesOnTo job [] = goes job job.steps [] tt (omega arith) in record { entries = on.more ++ []; run = on.run }

goes_on_to : (job : Job) (entries : List Entry) → IsPrefix job entries → GoesOnTo job entries
goes_on_to job entries prefix =
    let few = prefix_within job entries prefix in
    goes job (job.steps - length entries) entries prefix (omega arith)

pub is_part : (job : Job) (run entries : List Entry) → IsRun job run → IsPrefix job entries → ((a b : List Entry) → IsRun job a → IsRun job b → a ≡ b) → IsPart entries run
is_part job run entries is prefix one = let on : GoesOnTo job entries = goes_on_to job entries prefix in record { later = on.more; run_is = one run (on.more ++ entries) is on.run }
