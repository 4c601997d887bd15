-- One more event of a trail: its blocks and its answers.
use Rattle.std.proofs.Common.{◌≡◌, ◌≢◌, ℕ, zero, suc, ◌+◌, ◌-◌, ◌<◌, ◌≤◌, ◌==◌, ◌&&◌, Bool, true, false, cond, not, List, [], ◌∷◌, ◌++◌, map, Option, Some, None, length, take, drop, get_or, refl, ap, sym, ◌∙◌, arith}
use Rattle.std.specs.Prelude.{fold, is_none, min, slice_index, slice_set}
use Rattle.std.specs.List.{filter}
use Rattle.std.specs.Option.{option_map}
use Rattle.std.proofs.lemmas.Bool.Decides.{nat_tests}
use Rattle.std.proofs.lemmas.List.{get_or-set_same, get_or-set_other, length-set}
use Rattle.std.proofs.lemmas.List.Sums.{fold-append}
use Rattle.pl_event.specs.declared.event.Event.{Event}
use Rattle.pl_event.specs.declared.event.Kind.{Kind}
use Rattle.pl_event.specs.declared.event.Kind.TheVariants as kind
use Rattle.whence_trail.specs.declared.block.Block.{Block}
use Rattle.whence_trail.specs.declared.happening.Happening.{Happening}
use Rattle.whence_trail.specs.declared.happening.Origin.{Origin}
use Rattle.whence_trail.specs.declared.near.Near.{Near}
use Rattle.whence_trail.specs.declared.trail.Answer.{Answer}
use Rattle.whence_trail.specs.declared.trail.Found.{Found}
use Rattle.whence_trail.specs.declared.trail.Pair.{Pair}
use Rattle.whence_trail.specs.declared.trail.Trail.{Trail}
use Rattle.whence_trail.specs.Answers.{Keeps, answer_after, answer_of, found_of, is_of}
use Rattle.whence_trail.specs.Blocks.{allocated, blocks_after, blocks_by, covers, freed_by, holder, holder_by, holds, latest_in, with_block}
use Rattle.whence_trail.specs.Happenings.{address_of, events_of_hart, next_happening}
use Rattle.whence_trail.specs.Nearness.{below, found_by, in_or_after, near_by, near_of, or_else}

-- the last of the blocks that has an address, and else the one found before
abbrev latest_from : List Block → ℕ → Option Block → Option Block
latest_from blocks addr found = fold (λ before block. cond (holds block addr) (Some block) before) found blocks

-- ---- a free

holds_either : (c : Bool) (b : Block) (origin : Origin) (addr : ℕ) → holds (cond c (record b { freed = Some origin }) b) addr ≡ holds b addr
holds_either true b origin addr = refl
holds_either false b origin addr = refl

holds_freed : (at : ℕ) (origin : Origin) (b : Block) (addr : ℕ) → holds (freed_by at origin b) addr ≡ holds b addr
holds_freed at origin b addr = holds_either ((b.addr == at) && is_none b.freed) b origin addr

map_either : (t : Bool) (f : Block → Block) (b : Block) (found : Option Block) → cond t (Some (f b)) (option_map f found) ≡ option_map f (cond t (Some b) found)
map_either true f b found = refl
map_either false f b found = refl

latest_freed : (at : ℕ) (origin : Origin) (blocks : List Block) (addr : ℕ) (found : Option Block)
    → latest_from (map (freed_by at origin) blocks) addr (option_map (freed_by at origin) found) ≡ option_map (freed_by at origin) (latest_from blocks addr found)
latest_freed at origin [] addr found = refl
latest_freed at origin (b ∷ blocks) addr found =
    ap (λ (start : Option Block). latest_from (map (freed_by at origin) blocks) addr start)
    (ap (λ (t : Bool). cond t (Some (freed_by at origin b)) (option_map (freed_by at origin) found)) (holds_freed at origin b addr)
    ∙ map_either (holds b addr) (freed_by at origin) b found)
    ∙ latest_freed at origin blocks addr (cond (holds b addr) (Some b) found)

-- ---- an allocation

-- a block whose addresses are all those of another one does not have an address that the other one lacks
uncovered : (n b : Block) (addr : ℕ) → covers n b ≡ true → holds n addr ≡ false → holds b addr ≡ false
uncovered n b addr c h = grind (arith, nat_tests)

abbrev kept : Block → List Block → List Block
kept n blocks = filter (λ other. not (covers n other)) blocks

kept_either : (c : Bool) (n b : Block) (blocks : List Block) (addr : ℕ) → covers n b ≡ c → holds n addr ≡ false
    → ((found : Option Block) → latest_from (kept n blocks) addr found ≡ latest_from blocks addr found) → (found : Option Block)
    → latest_from (cond (not c) (b ∷ kept n blocks) (kept n blocks)) addr found ≡ latest_from (b ∷ blocks) addr found
kept_either true n b blocks addr e h rest found =
    rest found ∙ ap (λ (t : Bool). latest_from blocks addr (cond t (Some b) found)) (sym (uncovered n b addr e h))
kept_either false n b blocks addr e h rest found = rest (cond (holds b addr) (Some b) found)

latest_kept : (n : Block) (blocks : List Block) (addr : ℕ) → holds n addr ≡ false → (found : Option Block)
    → latest_from (kept n blocks) addr found ≡ latest_from blocks addr found
latest_kept n [] addr h found = refl
latest_kept n (b ∷ blocks) addr h found = kept_either (covers n b) n b blocks addr refl h (latest_kept n blocks addr h) found

added_either : (t : Bool) (n : Block) (blocks : List Block) (addr : ℕ) → holds n addr ≡ t
    → cond t (Some n) (latest_from (kept n blocks) addr None) ≡ cond t (Some n) (latest_from blocks addr None)
added_either true n blocks addr h = refl
added_either false n blocks addr h = latest_kept n blocks addr h None

latest_added : (n : Block) (blocks : List Block) (addr : ℕ) → latest_in (with_block blocks n) addr ≡ cond (holds n addr) (Some n) (latest_in blocks addr)
latest_added n blocks addr =
    fold-append (λ (before : Option Block) (block : Block). cond (holds block addr) (Some block) before) None (kept n blocks) (n ∷ [])
    ∙ added_either (holds n addr) n blocks addr refl

-- ---- any event

latest_by : (k : Kind) (origin : Origin) (blocks : List Block) (addr : ℕ) → latest_in (blocks_by k origin blocks) addr ≡ holder_by k origin addr (latest_in blocks addr)
latest_by (kind.Al at len) origin blocks addr = latest_added (allocated at len origin) blocks addr
latest_by (kind.Fr at len) origin blocks addr = latest_freed at origin blocks addr None
latest_by (kind.Ld width rd rb at) origin blocks addr = refl
latest_by (kind.St width rv rb at) origin blocks addr = refl
latest_by (kind.Op rd r1 r2) origin blocks addr = refl
latest_by (kind.Mv rd rs) origin blocks addr = refl
latest_by (kind.Im rd) origin blocks addr = refl
latest_by (kind.Br r1 r2) origin blocks addr = refl
latest_by (kind.Jr rd rs) origin blocks addr = refl
latest_by (kind.Bf at) origin blocks addr = refl
latest_by (kind.Mp page count) origin blocks addr = refl
latest_by (kind.Um page count) origin blocks addr = refl
latest_by (kind.Rd at len) origin blocks addr = refl
latest_by (kind.Wr at len) origin blocks addr = refl
latest_by kind.Ex origin blocks addr = refl
latest_by (kind.Ft cause at) origin blocks addr = refl

pub blocks_follow : (blocks : List Block) (before : List Happening) (x : Happening) → ((addr : ℕ) → latest_in blocks addr ≡ holder before addr)
    → (addr : ℕ) → latest_in (blocks_after blocks x) addr ≡ holder (x ∷ before) addr
blocks_follow blocks before x same addr = latest_by x.kind x.origin blocks addr ∙ ap (holder_by x.kind x.origin addr) (same addr)

-- ---- what is found by equal blocks

module _ (f g : ℕ → Option Block) (same : (addr : ℕ) → f addr ≡ g addr) where
  below_same : (n addr : ℕ) → below f n addr ≡ below g n addr
  below_same zero addr = refl
  below_same (suc n) addr =
      ap (λ (o : Option Block). or_else o (below f n (addr - 1))) (same (addr - 1)) ∙ ap (or_else (g (addr - 1))) (below_same n (addr - 1))

  near_same : (addr : ℕ) → near_by f addr ≡ near_by g addr
  near_same addr = ap (λ (o : Option Block). in_or_after addr o (below f 64 addr)) (same addr) ∙ ap (in_or_after addr (g addr)) (below_same 64 addr)

  near_of_same : (o : Option ℕ) → near_of f o ≡ near_of g o
  near_of_same None = refl
  near_of_same (Some addr) = near_same addr

  found_same : (x : Happening) → found_by f x ≡ found_by g x
  found_same x = ap (λ (n : Option Near). record { origin = x.origin; near = n }) (near_of_same (address_of x.kind))

  answer_either : (b : Bool) (x : Happening) (pair : Pair) (found : Option Found)
      → ◌≡◌ {A = Answer} (cond b (record { pair = pair; found = Some (found_by f x) }) (record { pair = pair; found = found }))
      (record { pair = pair; found = cond b (Some (found_by g x)) found })
  answer_either true x pair found = ap (λ (w : Found). record { pair = pair; found = Some w }) (found_same x)
  answer_either false x pair found = refl

pub answers_follow : (held : ℕ → Option Block) (before : List Happening) (x : Happening) → ((addr : ℕ) → held addr ≡ holder before addr) → (pairs : List Pair)
    → map (answer_after held x) (map (answer_of before) pairs) ≡ map (answer_of (x ∷ before)) pairs
answers_follow held before x same [] = refl
answers_follow held before x same (pair ∷ pairs) =
    ap (λ (a : Answer). a ∷ map (answer_after held x) (map (answer_of before) pairs)) (answer_either held (holder before) same (is_of pair x) x pair (found_of before pair))
    ∙ ap (λ (rest : List Answer). answer_of (x ∷ before) pair ∷ rest) (answers_follow held before x same pairs)

-- ---- a loop that changes each item of a list in its place

set_one : {X : Type 0} (f : X → X) (xs : List X) (i : ℕ) (d : X) → i < length xs
    → slice_set (map f (take i xs) ++ drop i xs) i (f (get_or (map f (take i xs) ++ drop i xs) i d)) ≡ map f (take (suc i) xs) ++ drop (suc i) xs
set_one f [] i d h = absurd (omega arith)
set_one f (x ∷ xs) zero d h = refl
set_one f (x ∷ xs) (suc i) d h = ap (λ rest. f x ∷ rest) (set_one f xs i d (omega arith))

pub set_mapped : {X : Type 0} (f : X → X) (xs ys : List X) (i : ℕ) (d y : X) → i < length xs → ys ≡ map f (take i xs) ++ drop i xs → y ≡ f (get_or ys i d)
    → slice_set ys i y ≡ map f (take (i + 1) xs) ++ drop (i + 1) xs
set_mapped f xs ys i d y h is item =
    let next : suc i ≡ i + 1 = omega arith in
    ap (λ z. slice_set ys i z) item ∙ ap (λ zs. slice_set zs i (f (get_or zs i d))) is ∙ set_one f xs i d h ∙ ap (λ k. map f (take k xs) ++ drop k xs) next

-- ---- a block below an address

module _ (held : ℕ → Option Block) where
  below_suc : (n m at : ℕ) → n ≡ suc m → below held n at ≡ or_else (held (at - 1)) (below held m (at - 1))
  below_suc n m at e = ap (λ (k : ℕ). below held k at) e

  module _ (reach step addr at next : ℕ) (more : step < reach) (so_far : below held reach addr ≡ below held (reach - step) at) (is_next : next ≡ at - 1) where
    stepped : below held reach addr ≡ or_else (held next) (below held (reach - (step + 1)) next)
    stepped =
        so_far ∙ below_suc (reach - step) (reach - (step + 1)) at (omega arith)
        ∙ sym (ap (λ (k : ℕ). or_else (held k) (below held (reach - (step + 1)) k)) is_next)

    pub below_found : (block : Block) → held next ≡ Some block → Some block ≡ below held reach addr
    below_found block e = sym (stepped ∙ ap (λ (o : Option Block). or_else o (below held (reach - (step + 1)) next)) e)

    pub below_missed : held next ≡ None → below held reach addr ≡ below held (reach - (step + 1)) next
    below_missed e = stepped ∙ ap (λ (o : Option Block). or_else o (below held (reach - (step + 1)) next)) e

-- ---- one more event of a trail

count_either : (t : Bool) (n m : ℕ) → n ≤ m → n + cond t 1 0 ≤ suc m
count_either true n m h = omega arith
count_either false n m h = omega arith

few_of_hart : (before : List Happening) (hart : ℕ) → events_of_hart before hart ≤ length before
few_of_hart [] hart = omega arith
few_of_hart (x ∷ before) hart = count_either (x.origin.hart == hart) (events_of_hart before hart) (length before) (few_of_hart before hart)

capped : (n a : ℕ) → n ≡ min (a + 1) 4294967295 → a + 1 < 4294967296 → n ≡ a + 1
capped n a e h = grind arith

module _ (pairs : List Pair) (before : List Happening) (event : Event) (pc number : ℕ) (old : Trail) (kept_before : Keeps pairs before old) where
  abbrev happening : ℕ → Happening
  happening n = record { origin = record { hart = event.hart; number = n; pc = pc }; kind = event.kind }

  pub number_is : event.hart < 8 → length before + 1 < 4294967296 → number ≡ min (slice_index old.counts event.hart + 1) 4294967295 → number ≡ events_of_hart before event.hart + 1
  number_is in_eight few e =
      let count : slice_index old.counts event.hart ≡ events_of_hart before event.hart = kept_before.counts event.hart in_eight in
      let least : events_of_hart before event.hart ≤ length before = few_of_hart before event.hart in
      capped number (events_of_hart before event.hart) (e ∙ ap (λ (n : ℕ). min (n + 1) 4294967295) count) (omega arith)

  pub next_kept : (new : Trail) → event.hart < 8 → number ≡ events_of_hart before event.hart + 1
      → new.counts ≡ slice_set old.counts event.hart number
      → new.blocks.items ≡ blocks_after old.blocks.items (happening number)
      → new.answers.items ≡ map (answer_after (latest_in old.blocks.items) (happening number)) old.answers.items
      → Keeps pairs (next_happening before event pc ∷ before) new
  next_kept new in_eight is counts blocks answers =
      let x : Happening = next_happening before event pc in
      let same : happening number ≡ x = ap happening is in
      record {
        counts = λ hart within. ap (λ (ns : List ℕ). slice_index ns hart) counts ∙ counted hart within in_eight is;
        harts = ap (λ (ns : List ℕ). length ns) counts ∙ length-set old.counts event.hart number ∙ kept_before.harts;
        blocks = λ addr. ap (λ (bs : List Block). latest_in bs addr) (blocks ∙ ap (blocks_after old.blocks.items) same) ∙ blocks_follow old.blocks.items before x kept_before.blocks addr;
        answers =
            answers ∙ ap (λ (y : Happening). map (answer_after (latest_in old.blocks.items) y) old.answers.items) same
            ∙ ap (λ (as_before : List Answer). map (answer_after (latest_in old.blocks.items) x) as_before) kept_before.answers
            ∙ answers_follow (latest_in old.blocks.items) before x kept_before.blocks pairs;
      }
    where
      by_test : (t : Bool) (hart : ℕ) → hart < 8 → event.hart < 8 → number ≡ events_of_hart before event.hart + 1 → (event.hart == hart) ≡ t
          → slice_index (slice_set old.counts event.hart number) hart ≡ events_of_hart before hart + cond t 1 0
      by_test true hart within in_eight is e =
          let at : hart ≡ event.hart = grind (arith, nat_tests) in
          let here : slice_index (slice_set old.counts event.hart number) event.hart ≡ number = get_or-set_same old.counts event.hart number 0 (omega (arith, kept_before.harts)) in
          ap (λ (h : ℕ). slice_index (slice_set old.counts event.hart number) h) at ∙ here ∙ is ∙ ap (λ (h : ℕ). events_of_hart before h + 1) (sym at)
      by_test false hart within in_eight is e =
          let other : hart ≢ event.hart = grind (arith, nat_tests) in
          let here : slice_index (slice_set old.counts event.hart number) hart ≡ slice_index old.counts hart = get_or-set_other old.counts event.hart hart number 0 other in
          let before_it : slice_index old.counts hart ≡ events_of_hart before hart = kept_before.counts hart within in
          omega (arith, here, before_it)

      counted : (hart : ℕ) → hart < 8 → event.hart < 8 → number ≡ events_of_hart before event.hart + 1
          → slice_index (slice_set old.counts event.hart number) hart ≡ events_of_hart before hart + cond (event.hart == hart) 1 0
      counted hart within in_eight is = by_test (event.hart == hart) hart within in_eight is refl
