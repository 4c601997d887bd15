-- Each event of a run is valid.
use Rattle.std.proofs.Common.{◌≡◌, ◌≢◌, ◌==◌, ℕ, zero, suc, ◌+◌, ◌-◌, ◌/◌, ◌%◌, ◌^◌, ◌<◌, ◌≤◌, ◌&&◌, inl, inr, Bool, true, false, List, [], ◌∷◌, length, take, drop, find, min, Option, Some, None, IfSome, IsSome, slice_index, nat_le, nat_lt, unwrap_or, refl, arith, sym, subst}
use Rattle.std.proofs.lemmas.List.{length-take, length-set}
use Rattle.std.proofs.lemmas.Bool.{cases_Bool, cases_eq, both_ways, and_parts, eq-eqb, ne_eqb, eqb-true}
use Rattle.pl_base.specs.Pages.{is_among, EachPage, count_below}
use Rattle.guest_mem.specs.Bytes.{AllMapped}
use Rattle.pl_base.proofs.Pages.{among, place, count_more, count_fewer}
use Rattle.guest_kernel.specs.declared.call.CallArgs.{CallArgs}
use Rattle.guest_kernel.specs.declared.call.KernelStep.{KernelStep}
use Rattle.guest_kernel.specs.declared.call.KernelStep.TheVariants.{Ended, Went}
use Rattle.guest_kernel.specs.Calls.{Call, exit_call, alloc_call, free_call, map_call, unmap_call, read_call, write_call, unknown_call, call_of, Allocates, IsAnswer, freed, moved}
use Rattle.guest_kernel.specs.State.{State}
use Rattle.pl_base.specs.Widths.{load_bytes, store_bytes}
use Rattle.pl_base.specs.declared.widths.LoadWidth.{LoadWidth}
use Rattle.pl_base.specs.declared.widths.LoadWidth.TheVariants as loads
use Rattle.pl_base.specs.declared.widths.StoreWidth.{StoreWidth}
use Rattle.pl_base.specs.declared.widths.StoreWidth.TheVariants as store
use Rattle.pl_event.specs.declared.event.Event.{Event}
use Rattle.pl_event.specs.declared.event.Kind.{Kind}
use Rattle.pl_event.specs.declared.event.Kind.TheVariants.{Ld, St, Op, Mv, Im, Br, Jr, Al, Fr, Bf, Mp, Um, Rd, Wr, Ex, Ft}
use Rattle.pl_event.specs.Valid.{IsByteRange, HasValidFields, IsValidEvent}
use Rattle.rv_isa.specs.declared.instruction.Instr.{Instr}
use Rattle.rv_isa.specs.declared.instruction.Instr.TheVariants as instrs
use Rattle.rv_isa.specs.Table.{instruction_of}
use Rattle.rv_isa.specs.Valid.{IsValid}
use Rattle.rv_isa.proofs.Reading.{valid_where_read}
use Rattle.rv_exec.specs.declared.effect.Effect.{Effect}
use Rattle.rv_exec.specs.declared.effect.Effect.TheVariants as effects
use Rattle.rv_exec.specs.Hart.{Hart, x}
use Rattle.rv_exec.specs.Meaning.{effect_at, effect_of}
use Rattle.core_sim.specs.declared.hart.Standing.{Standing}
use Rattle.core_sim.specs.declared.job.Item.{Item}
use Rattle.core_sim.specs.declared.job.Job.{Job}
use Rattle.core_sim.specs.declared.turn.Place.{Place}
use Rattle.core_sim.specs.declared.turn.Place.TheVariants.{Around, Listed, Drawn}
use Rattle.core_sim.specs.declared.turn.Turn.{Turn}
use Rattle.pl_event.specs.Mapping.{mapped_by}
use Rattle.core_sim.specs.Entries.{Entry, is_mapped, block_at, blocks_by, byte_at, value, state_after, harts_after}
use Rattle.core_sim.specs.EventKinds.{kind_of, is_copy, cancels}
use Rattle.core_sim.specs.Harts.{is_live, live_from, live_harts, is_among_live}
use Rattle.core_sim.specs.Runs.{IsPrefix, state_of_hart}
use Rattle.core_sim.specs.Draws.{drawn}
use Rattle.core_sim.specs.Schedules.{items_of, first_live, listed_turn, next_turn, turn_of_step}
use Rattle.core_sim.specs.Stands.{turn_after}
use Rattle.core_sim.specs.Start.{start_runs}
use Rattle.core_sim.specs.Steps.{Act, word_at, called, call_args, CanLoad, CanStore, IsDone, IsFetched, IsStep}
use Rattle.core_sim.specs.Valid.{IsValidJob}
use Rattle.pl_event.proofs.OpeningPages.{count_runs, runs_inside}
use Rattle.core_sim.proofs.Opening.{rises, few_pages}
use Rattle.core_sim.proofs.Lives.{live_more, live_less, within_live}
use Rattle.core_sim.proofs.Starts.{length_begin}
use Rattle.core_sim.proofs.Ties.{shown_mapped, among_parts}
use Rattle.core_sim.proofs.Turning.{same_hart}
use Rattle.core_sim.proofs.Typed.{HasWordAddress, word_address}

-- pages of the map region, at least one
pub record InRegion (page count : ℕ) : Type 0 where
  pub some : 1 ≤ count
  pub within : page + count ≤ 3584

pub record Maps (s : State) (page count : ℕ) : Type 0 where
  pub region : InRegion page count
  pub free : EachPage s.mapped page count false
  pub room : count_below s.mapped 4096 + count ≤ 512

pub record Unmaps (s : State) (page count : ℕ) : Type 0 where
  pub region : InRegion page count
  pub all_mapped : EachPage s.mapped page count true

pub record Moves (s : State) (addr len : ℕ) : Type 0 where
  pub some : 1 ≤ len
  pub few : len ≤ 65536
  pub all_mapped : AllMapped s.bytes addr len

-- what is known of the state where a step has such an event
abbrev pub Tells : State → Kind → Type 0
Tells s (Ld width rd rb addr) = (rd < 34) × (rb < 34) × CanLoad s addr (load_bytes width)
Tells s (St width rv rb addr) = (rv < 34) × (rb < 34) × CanStore s addr (store_bytes width)
Tells s (Op rd r1 r2) = (rd < 34) × (r1 < 34) × (r2 < 34)
Tells s (Mv rd rs) = (rd < 34) × (rs < 34)
Tells s (Im rd) = rd < 34
Tells s (Br r1 r2) = (r1 < 34) × (r2 < 34)
Tells s (Jr rd rs) = (rd < 34) × (rs < 34)
Tells s (Al addr len) = Allocates s len addr
Tells s (Fr addr len) = s.blocks addr ≡ Some len
Tells s (Mp page count) = Maps s page count
Tells s (Um page count) = Unmaps s page count
Tells s (Rd addr len) = Moves s addr len
Tells s (Wr addr len) = Moves s addr len
Tells s _ = Unit {0}

-- an instruction
tells_plain : (s : State) (instr : Instr) → IsValid instr → IfSome (kind_of instr) (Tells s)
tells_plain s (instrs.Lui rd imm) valid = omega (arith, valid.0)
tells_plain s (instrs.Auipc rd imm) valid = omega (arith, valid.0)
tells_plain s (instrs.Jal rd off) valid = omega (arith, valid.0)
tells_plain s (instrs.Jalr rd rs1 imm) valid = (omega (arith, valid.0), omega (arith, valid.1))
tells_plain s (instrs.Branch op rs1 rs2 off) valid = (omega (arith, valid.0), omega (arith, valid.1))
tells_plain s (instrs.Load width rd rs1 imm) valid = tt
tells_plain s (instrs.Store width rs2 rs1 imm) valid = tt
tells_plain s (instrs.OpImm op rd rs1 imm) valid = elim (cases_Bool (rs1 == 0)) [
  | inl holds ↦ rw holds (omega (arith, valid.0))
  | inr fails ↦ elim (cases_Bool (is_copy op imm)) [
    | inl copy ↦ rw (fails, copy) (omega (arith, valid.0), omega (arith, valid.1))
    | inr other ↦ rw (fails, other) (omega (arith, valid.0), omega (arith, valid.1), omega arith)
  ]
]
tells_plain s (instrs.Op op rd rs1 rs2) valid = elim (cases_Bool (cancels op && (rs1 == rs2))) [
  | inl holds ↦ rw holds (omega (arith, valid.0))
  | inr fails ↦ rw fails (omega (arith, valid.0), omega (arith, valid.1), omega (arith, valid.2))
]
tells_plain s (instrs.Fence bits) valid = omega arith
tells_plain s instrs.Ecall valid = tt

-- a call of the kernel
abbrev TellsStep : State → KernelStep → Type 0
TellsStep s (Ended code) = Unit {0}
TellsStep s (Went a0 kind) = Tells s kind

tells_failure : (s : State) → Tells s (Im 10)
tells_failure s = omega arith

tells_moved : (s : State) (kind : Kind) (addr count asked : ℕ) → (Moves s addr count → Tells s kind) → AllMapped s.bytes addr asked → asked ≤ 65536 → count ≤ asked → TellsStep s (moved count kind)
tells_moved s kind addr count asked of_moves mapped few within = elim (cases_eq count 0) [
  | inl none ↦ let test : (count == 0) ≡ true = eq-eqb count 0 none in rw test (tells_failure s)
  | inr some ↦
      let test : (count == 0) ≡ false = ne_eqb count 0 some in
      rw test (of_moves (record { some = omega arith; few = omega arith; all_mapped = λ k from below. mapped k from (omega arith) }))
]

tells_freed : (s : State) (addr : ℕ) (block : Option ℕ) → s.blocks addr ≡ block → TellsStep s (freed addr block)
tells_freed s addr (Some size) is = is
tells_freed s addr None is = tt

tells_answer : (s : State) (call : Call) (args : CallArgs) (step : KernelStep) → IsAnswer call s args step → TellsStep s step
tells_answer s exit_call args step is = subst (TellsStep s) (sym is) tt
tells_answer s alloc_call args step is = elim is [ inl given ↦ subst (TellsStep s) (sym given.answer) given.allocates | inr refused ↦ subst (TellsStep s) (sym refused.1) (tells_failure s) ]
tells_answer s free_call args step is = subst (TellsStep s) (sym is) (tells_freed s args.a0 (s.blocks args.a0) refl)
tells_answer s map_call args step is = elim is [
  | inl (can, now) ↦ subst (TellsStep s) (sym now) (record { region = record { some = can.range.some; within = omega (arith, can.range.within, can.range.aligned) }; free = can.free; room = can.room })
  | inr (cannot, now) ↦ subst (TellsStep s) (sym now) (tells_failure s)
]
tells_answer s unmap_call args step is = elim is [
  | inl (can, now) ↦ subst (TellsStep s) (sym now) (record { region = record { some = can.range.some; within = omega (arith, can.range.within, can.range.aligned) }; all_mapped = can.all_mapped })
  | inr (cannot, now) ↦ subst (TellsStep s) (sym now) (tells_failure s)
]
tells_answer s read_call args step is = elim is [
  | inl (can, now) ↦ subst (TellsStep s) (sym now) (tells_moved s (Rd args.a1 (min args.a2 (length s.input))) args.a1 (min args.a2 (length s.input)) args.a2 (λ m. m) can.all_mapped can.few (omega arith))
  | inr (cannot, now) ↦ subst (TellsStep s) (sym now) (tells_failure s)
]
tells_answer s write_call args step is = elim is [
  | inl (can, now) ↦ subst (TellsStep s) (sym now) (tells_moved s (Wr args.a1 args.a2) args.a1 args.a2 args.a2 (λ m. m) can.all_mapped can.few (omega arith))
  | inr (cannot, now) ↦ subst (TellsStep s) (sym now) (tells_failure s)
]
tells_answer s unknown_call args step is = subst (TellsStep s) (sym is) (tells_failure s)

tells_called : (s : State) (h : Hart) (step : KernelStep) → TellsStep s step → Tells s (called s h step).kind
tells_called s h (Ended code) tells = tt
tells_called s h (Went a0 kind) tells = tells

-- a step
abbrev OfValid : Effect → Type 0
OfValid (effects.Plain instr next) = IsValid instr
OfValid (effects.Load instr addr) = IsValid instr
OfValid (effects.Store instr addr value) = IsValid instr
OfValid _ = Unit {0}

of_valid : (h : Hart) (instr : Instr) → IsValid instr → OfValid (effect_of h instr)
of_valid h (instrs.Lui rd imm) valid = valid
of_valid h (instrs.Auipc rd imm) valid = valid
of_valid h (instrs.Jal rd off) valid = valid
of_valid h (instrs.Jalr rd rs1 imm) valid = valid
of_valid h (instrs.Branch op rs1 rs2 off) valid = valid
of_valid h (instrs.Load width rd rs1 imm) valid = valid
of_valid h (instrs.Store width rs2 rs1 imm) valid = valid
of_valid h (instrs.OpImm op rd rs1 imm) valid = valid
of_valid h (instrs.Op op rd rs1 rs2) valid = valid
of_valid h (instrs.Fence bits) valid = valid
of_valid h instrs.Ecall valid = tt

of_valid_at : (h : Hart) (o : Option Instr) → IfSome o IsValid → OfValid (effect_at h o)
of_valid_at h None valid = tt
of_valid_at h (Some instr) valid = of_valid h instr valid

abbrev TellsAct : State → Act → Type 0
TellsAct s act = Tells s act.kind

tells_done : (s : State) (h : Hart) (effect : Effect) (act : Act) → OfValid effect → IsDone s h effect act → TellsAct s act
tells_done s h (effects.Plain instr next) act valid done = subst (TellsAct s) (sym done.act_is) (subst (λ (o : Option Kind). IfSome o (Tells s)) done.row (tells_plain s instr valid))
tells_done s h (effects.Load (instrs.Load width rd rs1 imm) addr) act valid done = elim done [
  | inl (can, is) ↦ subst (TellsAct s) (sym is) (omega (arith, valid.0), omega (arith, valid.1), can)
  | inr fault ↦ subst (TellsAct s) (sym fault.act_is) tt
]
tells_done s h (effects.Store (instrs.Store width rs2 rs1 imm) addr value) act valid done = elim done [
  | inl (can, is) ↦ subst (TellsAct s) (sym is) (omega (arith, valid.0), omega (arith, valid.1), can)
  | inr fault ↦ subst (TellsAct s) (sym fault.act_is) tt
]
tells_done s h effects.Call act valid done = subst (TellsAct s) (sym done.act_is) (tells_called s h done.step (tells_answer s (call_of (x h 17)) (call_args h) done.step done.answer))
tells_done s h effects.Illegal act valid done = subst (TellsAct s) (sym done) tt
tells_done s h (effects.Load _ addr) act valid done = absurd done
tells_done s h (effects.Store _ addr value) act valid done = absurd done

tells_fetched : (s : State) (h : Hart) (word : Option ℕ) (act : Act) → IsFetched s h word act → TellsAct s act
tells_fetched s h None act is = subst (TellsAct s) (sym is) tt
tells_fetched s h (Some word) act is = tells_done s h (effect_at h (instruction_of word)) act (of_valid_at h (instruction_of word) (valid_where_read word)) is

pub tells_step : (words : List ℕ) (s : State) (h : Hart) (act : Act) → IsStep words s h act → TellsAct s act
tells_step words s h act is = tells_fetched s h (word_at words h.pc) act is

-- no page past the last is mapped, few pages are, and each block lies in memory
pub record Bounds (test : ℕ → Bool) (blocks : ℕ → Option ℕ) : Type 0 where
  pub pages : (page : ℕ) → test page ≡ true → page < 4096
  pub few : count_below test 4096 ≤ 512
  pub fit : (addr len : ℕ) → blocks addr ≡ Some len → IsByteRange addr len

block_range : (s : State) (len addr : ℕ) → Allocates s len addr → IsByteRange addr len
block_range s len addr given = (omega (arith, given.few, given.first.place.within, given.some), omega (arith, given.some), given.few, omega (arith, given.first.place.within))

bounds_next : (s : State) (kind : Kind) → Bounds s.mapped s.blocks → Tells s kind → Bounds (mapped_by s.mapped kind) (blocks_by kind s.blocks)
bounds_next s (Ld width rd rb addr) b tells = b
bounds_next s (St width rv rb addr) b tells = b
bounds_next s (Op rd r1 r2) b tells = b
bounds_next s (Mv rd rs) b tells = b
bounds_next s (Im rd) b tells = b
bounds_next s (Br r1 r2) b tells = b
bounds_next s (Jr rd rs) b tells = b
bounds_next s (Bf addr) b tells = b
bounds_next s (Rd addr len) b tells = b
bounds_next s (Wr addr len) b tells = b
bounds_next s Ex b tells = b
bounds_next s (Ft cause addr) b tells = b
bounds_next s (Al addr len) b tells = record {
  pages = b.pages;
  few = b.few;
  fit = λ other size is. elim (cases_Bool (other == addr)) [
    | inl holds ↦
        let here : other ≡ addr = eqb-true other addr holds in
        let same : len ≡ size = (let e : Some len ≡ Some size = rw holds at is in cc) in
        subst (λ (a : ℕ). IsByteRange a size) (sym here) (subst (IsByteRange addr) same (block_range s len addr tells))
    | inr fails ↦ b.fit other size (rw fails at is)
  ];
}
bounds_next s (Fr addr len) b tells = record {
  pages = b.pages;
  few = b.few;
  fit = λ other size is. elim (cases_Bool (other == addr)) [
    | inl holds ↦ absurd (let e : None ≡ Some size = rw holds at is in cc)
    | inr fails ↦ b.fit other size (rw fails at is)
  ];
}
bounds_next s (Mp page count) b tells = record {
  pages = λ other is. elim (cases_Bool (is_among page count other)) [
    | inl holds ↦ omega (arith, (among_parts page count other holds).1, tells.region.within)
    | inr fails ↦ b.pages other (rw fails at is)
  ];
  few = omega (arith, count_more s.mapped page count 4096 tells.free, tells.room, tells.region.within);
  fit = b.fit;
}
bounds_next s (Um page count) b tells = record {
  pages = λ other is. elim (cases_Bool (is_among page count other)) [
    | inl holds ↦ absurd (let e : false ≡ true = rw holds at is in both_ways _ refl e)
    | inr fails ↦ b.pages other (rw fails at is)
  ];
  few = omega (arith, count_fewer s.mapped page count 4096 tells.all_mapped, b.few, tells.region.within);
  fit = b.fit;
}

bounds_of : (job : Job) (entries : List Entry) → IsValidJob job → IsPrefix job entries → Bounds (is_mapped job entries) (block_at entries)
bounds_of job [] valid prefix = record {
  pages = λ page is. runs_inside 0 (start_runs job) page (rises job valid) is;
  few = omega (arith, count_runs 0 (start_runs job) (rises job valid), few_pages job valid);
  fit = λ addr len is. absurd (cc);
}
bounds_of job (e ∷ before) valid prefix =
    bounds_next (state_after job before) e.act.kind (bounds_of job before valid prefix.0) (tells_step job.words (state_after job before) (state_of_hart job before e.hart) e.act prefix.1.step)

-- the fields of an event
byte_below : (job : Job) (before : List Entry) (k : ℕ) → Bounds (is_mapped job before) (block_at before) → IsSome (byte_at job before k) → k < 2 ^ 24
byte_below job before k b some = omega (arith, b.pages (k / 4096) (shown_mapped (is_mapped job before) (value job before) k some))

some_loaded : (width : LoadWidth) → 1 ≤ load_bytes width
some_loaded loads.B = omega arith
some_loaded loads.H = omega arith
some_loaded loads.W = omega arith
some_loaded loads.Bu = omega arith
some_loaded loads.Hu = omega arith

some_stored : (width : StoreWidth) → 1 ≤ store_bytes width
some_stored store.B = omega arith
some_stored store.H = omega arith
some_stored store.W = omega arith

moved_range : (job : Job) (before : List Entry) (addr len : ℕ) → Bounds (is_mapped job before) (block_at before) → Moves (state_after job before) addr len → IsByteRange addr len
moved_range job before addr len b moves =
    let first : addr < 2 ^ 24 = byte_below job before addr b (moves.all_mapped addr (omega arith) (omega (arith, moves.some))) in
    let last : addr + len - 1 < 2 ^ 24 = byte_below job before (addr + len - 1) b (moves.all_mapped (addr + len - 1) (omega (arith, moves.some)) (omega (arith, moves.some))) in
    (first, moves.some, moves.few, omega (arith, last, moves.some))

valid_fields : (job : Job) (before : List Entry) (kind : Kind) → Bounds (is_mapped job before) (block_at before) → Tells (state_after job before) kind → HasWordAddress kind → HasValidFields kind
valid_fields job before (Ld width rd rb addr) b tells word = (tells.0, tells.1, (byte_below job before addr b (tells.2.all_mapped addr (omega arith) (omega (arith, some_loaded width))), tells.2.aligned))
valid_fields job before (St width rv rb addr) b tells word = (tells.0, tells.1, (byte_below job before addr b (tells.2.all_mapped addr (omega arith) (omega (arith, some_stored width))), tells.2.aligned))
valid_fields job before (Op rd r1 r2) b tells word = tells
valid_fields job before (Mv rd rs) b tells word = tells
valid_fields job before (Im rd) b tells word = tells
valid_fields job before (Br r1 r2) b tells word = tells
valid_fields job before (Jr rd rs) b tells word = tells
valid_fields job before (Al addr len) b tells word = block_range (state_after job before) len addr tells
valid_fields job before (Fr addr len) b tells word = b.fit addr len tells
valid_fields job before (Bf addr) b tells word = word
valid_fields job before (Mp page count) b tells word =
    (omega (arith, tells.region.some, tells.region.within), tells.region.some, omega (arith, tells.room), omega (arith, tells.region.within))
valid_fields job before (Um page count) b tells word = (
  omega (arith, tells.region.some, tells.region.within),
  tells.region.some,
  omega (arith, count_fewer (is_mapped job before) page count 4096 tells.all_mapped, b.few, tells.region.within),
  omega (arith, tells.region.within),
)
valid_fields job before (Rd addr len) b tells word = moved_range job before addr len b tells
valid_fields job before (Wr addr len) b tells word = moved_range job before addr len b tells
valid_fields job before Ex b tells word = tt
valid_fields job before (Ft cause addr) b tells word = word

-- the hart of an event
abbrev AllBelow : ℕ → List ℕ → Type 0
AllBelow n [] = Unit {0}
AllBelow n (k ∷ ks) = (k < n) × AllBelow n ks

live_below : (harts : List Standing) (first n : ℕ) → first + length harts ≤ n → AllBelow n (live_from first harts)
live_below [] first n within = tt
live_below (hart ∷ rest) first n within =
    let deeper : AllBelow n (live_from (first + 1) rest) = live_below rest (first + 1) n (omega arith) in
    elim (cases_Bool (is_live hart.end)) [
      | inl live ↦ rw (live_more first hart rest live) (omega arith, deeper)
      | inr over ↦ rw (live_less first hart rest over) deeper
    ]

find_below : (n from d : ℕ) (ks : List ℕ) → AllBelow n ks → d < n → unwrap_or (find (λ k. nat_le from k) ks) d < n
find_below n from d [] below within = within
find_below n from d (k ∷ ks) below within = elim (cases_Bool (nat_le from k)) [
  | inl holds ↦ rw holds below.0
  | inr fails ↦ rw fails (find_below n from d ks below.1 within)
]

first_below : (n from : ℕ) (ks : List ℕ) → AllBelow n ks → ks ≢ [] → first_live from ks < n
first_below n from [] below some = absurd (some refl)
first_below n from (k ∷ ks) below some = find_below n from k (k ∷ ks) below below.0

index_below : (n place : ℕ) (ks : List ℕ) → AllBelow n ks → place < length ks → slice_index ks place < n
index_below n place [] below within = absurd (omega arith)
index_below n zero (k ∷ ks) below within = below.0
index_below n (suc place) (k ∷ ks) below within = index_below n place ks below.1 (omega arith)

listed_below : (n at : ℕ) (items : List Item) (live : List ℕ) → AllBelow n live → live ≢ [] → ((hart : ℕ) → is_among_live live hart ≡ true → hart < n) → (listed_turn at items live).hart < n
listed_below n at [] live below some among = first_below n 0 live below some
listed_below n at (item ∷ rest) live below some among = elim (cases_Bool (is_among_live live item.hart)) [
  | inl holds ↦ rw holds (among item.hart holds)
  | inr fails ↦ rw fails (listed_below n (at + 1) rest live below some among)
]

some_length : (ks : List ℕ) → ks ≢ [] → 0 < length ks
some_length [] some = absurd (some refl)
some_length (k ∷ ks) some = omega arith

next_below : (n : ℕ) (items : List Item) (at : Place) (live : List ℕ) → AllBelow n live → live ≢ [] → ((hart : ℕ) → is_among_live live hart ≡ true → hart < n) → (next_turn items at live).hart < n
next_below n items (Around q from) live below some among = first_below n from live below some
next_below n items (Listed at) live below some among = listed_below n at (drop at items) live below some among
next_below n items (Drawn seed q) live below some among = index_below n (drawn seed / 65536 % length live) live below (let long = some_length live some in omega arith)

turn_below : (items : List Item) (turn : Turn) (harts : List Standing) → live_harts harts ≢ [] → (turn_of_step items turn (live_harts harts)).hart < length harts
turn_below items turn harts some =
    elim (cases_Bool (nat_lt 0 turn.left && is_among_live (live_harts harts) turn.hart)) [
      | inl holds ↦ rw holds (within_live harts turn.hart (and_parts _ _ holds).1)
      | inr fails ↦ rw fails (next_below (length harts) items turn.place (live_harts harts) (live_below harts 0 (length harts) (omega arith)) some (within_live harts))
    ]

harts_within : (job : Job) (entries : List Entry) → length (harts_after job entries) ≤ job.harts
harts_within job [] = omega (arith, length_begin (take job.harts job.entries) 0, length-take job.harts job.entries)
harts_within job (e ∷ before) = omega (arith, harts_within job before, length-set (harts_after job before) e.hart e.act.next)

abbrev pub event_of : Entry → Event
event_of e = record { hart = e.hart; kind = e.act.kind }

pub event_is_valid : (job : Job) (before : List Entry) (e : Entry) → IsValidJob job → IsPrefix job (e ∷ before) → IsValidEvent (event_of e) job.harts
event_is_valid job before e valid prefix =
    let turn = turn_below (items_of job.schedule) (turn_after job before) (harts_after job before) prefix.1.live in (
      omega (arith, turn, prefix.1.hart, same_hart job before prefix.0 prefix.1.live, harts_within job before),
      valid_fields job before e.act.kind (bounds_of job before valid prefix.0) (tells_step job.words (state_after job before) (state_of_hart job before e.hart) e.act prefix.1.step)
          (word_address job before e valid prefix),
    )
