-- The memory at the start.
use Rattle.std.proofs.Common.{◌≡◌, ℕ, suc, ◌+◌, ◌-◌, ◌*◌, ◌/◌, ◌<◌, ◌≤◌, ◌||◌, inl, inr, Bool, true, false, List, [], ◌∷◌, ◌++◌, length, drop, get_or, if◌then◌else◌, Option, Some, None, IsSome, is_some, take, refl, arith, sym, ap, ◌∙◌, subst, length-append, add-one}
use Rattle.std.specs.Int.{to_le_bytes, w32}
use Rattle.std.specs.Option.{option_map_or}
use Rattle.std.proofs.Math.Path.{fun_ext}
use Rattle.std.proofs.Math.Seq.{drop-cons, take-length}
use Rattle.std.proofs.lemmas.List.{length-drop}
use Rattle.std.proofs.lemmas.Bool.{cases_Bool, both_ways, and_parts, leb-true, ltb-true, or_left, or_right}
use Rattle.pl_base.specs.Pages.{is_among, marked}
use Rattle.guest_mem.specs.Bytes.{written, repaged, AllMapped}
use Rattle.guest_mem.specs.Image.{PageImage}
use Rattle.guest_mem.specs.Memory.{page_at, bytes, mapped, texts}
use Rattle.pl_base.proofs.Pages.{among, not_among_past}
use Rattle.pl_event.specs.declared.log.PageRun.{PageRun}
use Rattle.core_sim.specs.declared.job.Job.{Job}
use Rattle.core_sim.specs.Entries.{byte_at, is_mapped}
use Rattle.core_sim.specs.Mapping.{MapsRun, MapsRuns, IsStartMemory}
use Rattle.pl_event.specs.OpeningPages.{is_in_runs}
use Rattle.core_sim.specs.Start.{pages_of, text_bytes, text_run, data_runs, heap_run, stack_run, start_runs, is_text, begin_from}

-- pages of fails mapped page are no text
text_mapped : (memory : List (Option PageImage)) (page : ℕ) → mapped memory page ≡ false → texts memory page ≡ false
unfolding mapped texts
text_mapped memory page none = of_entry (page_at memory page) none where
  of_entry : (entry : Option PageImage) → is_some entry ≡ false → option_map_or (λ (p : PageImage). p.text) entry false ≡ false
  of_entry None none = refl
  of_entry (Some p) none = absurd (both_ways _ none refl)

-- some of the runs are mapped, and these are left
pub record Going (start now : List (Option PageImage)) (runs left : List PageRun) : Type 0 where
  pub bytes_are : (k : ℕ) → (if is_in_runs runs (k / 4096) then Some 0 else bytes start k) ≡ (if is_in_runs left (k / 4096) then Some 0 else bytes now k)
  pub mapped_are : (page : ℕ) → (is_in_runs runs page || mapped start page) ≡ (is_in_runs left page || mapped now page)
  pub texts_are : (page : ℕ) → texts now page ≡ texts start page

pub going_first : (start : List (Option PageImage)) (runs : List PageRun) → Going start start runs runs
going_first start runs = record { bytes_are = λ k. refl; mapped_are = λ page. refl; texts_are = λ page. refl }

-- one run more
pub going_more : (start now next : List (Option PageImage)) (runs left : List PageRun) (run : PageRun) → MapsRun now next run false → Going start now runs (run ∷ left) → Going start next runs left
going_more start now next runs left run maps going = record {
  bytes_are = λ k. going.bytes_are k ∙ (let is : bytes next k ≡ repaged (bytes now) run.first run.count (Some 0) k = ap (λ f. f k) maps.bytes_are in rw is (bytes_at (is_among run.first run.count (k / 4096)) (is_in_runs left (k / 4096)) (bytes now k)));
  mapped_are = λ page. going.mapped_are page ∙ (let is : mapped next page ≡ marked (mapped now) run.first run.count true page = ap (λ f. f page) maps.mapped_are in rw is (mapped_at (is_among run.first run.count page) (is_in_runs left page) (mapped now page)));
  texts_are = λ page. (let is : texts next page ≡ marked (texts now) run.first run.count false page = ap (λ f. f page) maps.texts_are in is ∙ texts_at page) ∙ going.texts_are page;
} where
  bytes_at : (here rest : Bool) (byte : Option ℕ) → (if (here || rest) then Some 0 else byte) ≡ (if rest then Some 0 else (if here then Some 0 else byte))
  bytes_at true true byte = refl
  bytes_at true false byte = refl
  bytes_at false true byte = refl
  bytes_at false false byte = refl

  mapped_at : (here rest was : Bool) → ((here || rest) || was) ≡ (rest || (if here then true else was))
  mapped_at true true was = refl
  mapped_at true false was = refl
  mapped_at false true was = refl
  mapped_at false false was = refl

  texts_at : (page : ℕ) → marked (texts now) run.first run.count false page ≡ texts now page
  texts_at page = elim (cases_Bool (is_among run.first run.count page)) [
    | inl holds ↦
        let parts = and_parts _ _ holds in
        let none : texts now page ≡ false = text_mapped now page (maps.free page (leb-true run.first page parts.0) (ltb-true page (run.first + run.count) parts.1)) in
        rw holds (sym none)
    | inr fails ↦ rw fails refl
  ]

pub going_last : (start now : List (Option PageImage)) (runs : List PageRun) → Going start now runs [] → MapsRuns start now runs
going_last start now runs going = record { bytes_are = λ k. sym (going.bytes_are k); mapped_are = λ page. sym (going.mapped_are page); texts_are = going.texts_are }

-- a text has four bytes a word
pub length_text : (words : List ℕ) → length (text_bytes words) ≡ 4 * length words
length_text [] = refl
length_text (word ∷ words) =
    let four : length (to_le_bytes w32 word) ≡ 4 = refl in
    omega (arith, length-append (to_le_bytes w32 word) (text_bytes words), length_text words)

-- the runs after the text
abbrev pub other_runs : Job → List PageRun
other_runs job = data_runs job.data_bytes ++ heap_run ∷ stack_run job.harts ∷ []

in_data : (bytes : List ℕ) (more : List PageRun) (page : ℕ) → 256 ≤ page → page < 256 + pages_of (length bytes) → is_in_runs (data_runs bytes ++ more) page ≡ true
in_data [] more page from within = absurd (omega arith)
in_data (byte ∷ rest) more page from within = or_left _ _ (among 256 (pages_of (length (byte ∷ rest))) page from within)

-- the bytes of the pages of the start
abbrev pub start_byte : Job → ℕ → Option ℕ
start_byte job k = if is_in_runs (other_runs job) (k / 4096) then Some 0 else (if is_among 16 (pages_of (4 * length job.words)) (k / 4096) then Some 0 else None)

among_text : (job : Job) (k : ℕ) → 0x10000 ≤ k → k < 0x10000 + length (text_bytes job.words) → is_among 16 (pages_of (4 * length job.words)) (k / 4096) ≡ true
among_text job k from within =
    let long = length_text job.words in
    let low : 16 ≤ k / 4096 = omega arith in
    let high : k / 4096 < 16 + pages_of (4 * length job.words) = omega arith in
    among 16 (pages_of (4 * length job.words)) (k / 4096) low high

among_data : (job : Job) (k : ℕ) → 0x100000 ≤ k → k < 0x100000 + length job.data_bytes → is_in_runs (other_runs job) (k / 4096) ≡ true
among_data job k from within =
    let low : 256 ≤ k / 4096 = omega arith in
    let high : k / 4096 < 256 + pages_of (length job.data_bytes) = omega arith in
    in_data job.data_bytes (heap_run ∷ stack_run job.harts ∷ []) (k / 4096) low high

pub text_is_mapped : (job : Job) (b : ℕ → Option ℕ) → ((k : ℕ) → b k ≡ start_byte job k) → AllMapped b 0x10000 (length (text_bytes job.words))
text_is_mapped job b is = λ k from within. subst IsSome (sym (is k)) (some (is_in_runs (other_runs job) (k / 4096)) (is_among 16 (pages_of (4 * length job.words)) (k / 4096)) (among_text job k from within)) where
  some : (other here : Bool) → here ≡ true → IsSome {T = ℕ} (if other then Some 0 else (if here then Some 0 else None))
  some true here holds = refl
  some false true holds = refl
  some false false holds = absurd (both_ways _ refl holds)

pub data_is_mapped : (job : Job) (b : ℕ → Option ℕ) → ((k : ℕ) → b k ≡ start_byte job k) → AllMapped (written b 0x10000 (text_bytes job.words)) 0x100000 (length job.data_bytes)
data_is_mapped job b is = λ k from within. elim (cases_Bool (is_among 0x10000 (length (text_bytes job.words)) k)) [
  | inl holds ↦ rw holds refl
  | inr fails ↦ rw fails (subst IsSome (sym (is k)) (some (is_in_runs (other_runs job) (k / 4096)) (is_among 16 (pages_of (4 * length job.words)) (k / 4096)) (among_data job k from within)))
] where
  some : (other here : Bool) → other ≡ true → IsSome {T = ℕ} (if other then Some 0 else (if here then Some 0 else None))
  some true here holds = refl
  some false here holds = absurd (both_ways _ refl holds)

start_cases : (other here : Bool) (byte : Option ℕ) → (if other then byte else (if here then byte else None)) ≡ (if (here || other) then byte else None)
start_cases true true byte = refl
start_cases true false byte = refl
start_cases false true byte = refl
start_cases false false byte = refl

pub start_bytes : (job : Job) (b : ℕ → Option ℕ) → length job.words ≤ 16384 → ((k : ℕ) → b k ≡ start_byte job k) → written (written b 0x10000 (text_bytes job.words)) 0x100000 job.data_bytes ≡ byte_at job []
start_bytes job b few is = fun_ext (λ k.
    elim (cases_Bool (is_among 0x100000 (length job.data_bytes) k)) [
      | inl held ↦
          let parts = and_parts _ _ held in
          let from = leb-true 0x100000 k parts.0 in
          let page : is_in_runs (start_runs job) (k / 4096) ≡ true = or_right (is_among 16 (pages_of (4 * length job.words)) (k / 4096)) _ (among_data job k from (ltb-true k (0x100000 + length job.data_bytes) parts.1)) in
          let past : is_among 0x10000 (length (text_bytes job.words)) k ≡ false = not_among_past 0x10000 (length (text_bytes job.words)) k (omega (arith, length_text job.words)) in
          rw (held, page, past) refl
      | inr other ↦ elim (cases_Bool (is_among 0x10000 (length (text_bytes job.words)) k)) [
        | inl text ↦
            let parts = and_parts _ _ text in
            let page : is_in_runs (start_runs job) (k / 4096) ≡ true = or_left _ (is_in_runs (other_runs job) (k / 4096)) (among_text job k (leb-true 0x10000 k parts.0) (ltb-true k (0x10000 + length (text_bytes job.words)) parts.1)) in
            rw (other, text, page) refl
        | inr none ↦ rw (other, none) (is k ∙ start_cases (is_in_runs (other_runs job) (k / 4096)) (is_among 16 (pages_of (4 * length job.words)) (k / 4096)) (Some 0))
      ]
    ])

-- the rest of a list of runs
pub run_at : (runs : List PageRun) (place : ℕ) (d : PageRun) → place < length runs → drop place runs ≡ get_or runs place d ∷ drop (place + 1) runs
run_at runs place d within = rw add-one (drop-cons runs place d within)

pub runs_behind : (n : ℕ) (runs : List PageRun) → take (length runs - n) (drop n runs) ≡ drop n runs
runs_behind n runs = rw (← length-drop n runs) (take-length (drop n runs))

-- the memory when all pages of the start are mapped
pub record StartPages (job : Job) (memory : List (Option PageImage)) : Type 0 where
  pub bytes_are : (k : ℕ) → bytes memory k ≡ start_byte job k
  pub mapped_are : mapped memory ≡ is_mapped job []
  pub texts_are : texts memory ≡ is_text job

pub after_maps : (job : Job) (none first all : List (Option PageImage)) → bytes none ≡ (λ _. None) → mapped none ≡ (λ _. false) → texts none ≡ (λ _. false) →
    MapsRun none first (text_run job.words) true → MapsRuns first all (other_runs job) → StartPages job all
after_maps job none first all b m x maps more = record {
  bytes_are = λ k. more.bytes_are k ∙ (let is : bytes first k ≡ repaged (λ _. None) 16 (pages_of (4 * length job.words)) (Some 0) k = ap (λ f. f k) (maps.bytes_are ∙ ap (λ (f : ℕ → Option ℕ). repaged f 16 (pages_of (4 * length job.words)) (Some 0)) b) in rw is refl);
  mapped_are = fun_ext (λ page. more.mapped_are page ∙ (let is : mapped first page ≡ marked (λ _. false) 16 (pages_of (4 * length job.words)) true page = ap (λ f. f page) (maps.mapped_are ∙ ap (λ (f : ℕ → Bool). marked f 16 (pages_of (4 * length job.words)) true) m) in rw is (swap (is_in_runs (other_runs job) page) (is_among 16 (pages_of (4 * length job.words)) page))));
  texts_are = fun_ext (λ page. more.texts_are page ∙ ap (λ f. f page) (maps.texts_are ∙ ap (λ (f : ℕ → Bool). marked f 16 (pages_of (4 * length job.words)) true) x) ∙ same (is_among 16 (pages_of (4 * length job.words)) page));
} where
  swap : (rest here : Bool) → (rest || (if here then true else false)) ≡ (here || rest)
  swap true true = refl
  swap true false = refl
  swap false true = refl
  swap false false = refl

  same : (here : Bool) → (if here then true else false) ≡ here
  same true = refl
  same false = refl

-- the memory with the text and the data in it
pub filled : (job : Job) (pages text all : List (Option PageImage)) → length job.words ≤ 16384 → StartPages job pages →
    bytes text ≡ written (bytes pages) 0x10000 (text_bytes job.words) → mapped text ≡ mapped pages → texts text ≡ texts pages →
    bytes all ≡ written (bytes text) 0x100000 job.data_bytes → mapped all ≡ mapped text → texts all ≡ texts text → IsStartMemory job all
filled job pages text all few start b m x b' m' x' = record {
  bytes_are = b' ∙ ap (λ (f : ℕ → Option ℕ). written f 0x100000 job.data_bytes) b ∙ start_bytes job (bytes pages) few start.bytes_are;
  mapped_are = m' ∙ m ∙ start.mapped_are;
  texts_are = x' ∙ x ∙ start.texts_are;
}

-- the pages of the start, from the list of their runs
pub start_pages_are : (job : Job) (none first all : List (Option PageImage)) (runs sliced : List PageRun) (run : PageRun) → bytes none ≡ (λ _. None) → mapped none ≡ (λ _. false) → texts none ≡ (λ _. false) →
    runs ≡ start_runs job → sliced ≡ runs → run ≡ get_or runs 0 run → MapsRun none first run true → MapsRuns first all (take (length sliced - 1) (drop 1 sliced)) → StartPages job all
start_pages_are job none first all runs sliced run b m x runs_are same is maps more =
    let run_is : run ≡ text_run job.words = is ∙ ap (λ (rs : List PageRun). get_or rs 0 run) runs_are in
    let rest_is : take (length sliced - 1) (drop 1 sliced) ≡ other_runs job = runs_behind 1 sliced ∙ ap (drop 1) (same ∙ runs_are) in
    after_maps job none first all b m x (subst (λ (r : PageRun). MapsRun none first r true) run_is maps) (subst (λ (rs : List PageRun). MapsRuns first all rs) rest_is more)

pub length_begin : (entries : List ℕ) (first : ℕ) → length (begin_from first entries) ≡ length entries
length_begin [] first = refl
length_begin (entry ∷ entries) first = ap suc (length_begin entries (first + 1))
