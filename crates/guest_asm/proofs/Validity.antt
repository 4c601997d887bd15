-- The job that is read is a valid one.
use Rattle.std.proofs.Common.{◌≡◌, ℕ, suc, zero, ◌^◌, ◌<◌, ◌≤◌, true, false, not, ◌&&◌, ◌||◌, eqb, leb, ltb, List, [], ◌∷◌, length, map, Some, IsSome, refl, ap, sym, subst, arith}
use Rattle.std.specs.List.{All, list_all, list_any}
use Rattle.std.proofs.lemmas.Bool.{and_parts, or_parts, not-false, leb-true, ltb-true, eqb-false}
use Rattle.core_sim.specs.declared.job.Job.{Job}
use Rattle.core_sim.specs.declared.job.Schedule.{Schedule}
use Rattle.core_sim.specs.declared.job.Schedule.TheVariants as schedule
use Rattle.core_sim.specs.Valid.{IsQuantum, IsTurn, IsSchedule, HasTypedNumbers, IsValidJob}
use Rattle.guest_asm.specs.declared.number.Number.{Number}
use Rattle.guest_asm.specs.declared.statement.Turn.{Turn}
use Rattle.guest_asm.specs.declared.statement.Statement.{Statement}
use Rattle.guest_asm.specs.declared.statement.Statement.TheVariants as statement
use Rattle.guest_asm.specs.declared.scan.Place.{Place}
use Rattle.guest_asm.specs.declared.scan.Scan.{Scan}
use Rattle.guest_asm.specs.Numbers.{is_within}
use Rattle.guest_asm.specs.Lines.{Meaning}
use Rattle.guest_asm.specs.Rules.{statements_of, place_of, labels_of, harts_in, is_schedule, is_steps, is_hart, is_quantum, is_turn, is_out_of_range, lacks, start}
use Rattle.guest_asm.specs.Jobs.{first_of, schedule_in, steps_in, item_of, IsDrawn, IsJobOfRows, rows_of}
use Rattle.guest_asm.specs.Scans.{Keeps}
use Rattle.guest_asm.proofs.Sound.{Passed}
use Rattle.guest_asm.proofs.Lengths.{length-cells, length-text, length-data}

pub record Within (low high n : ℕ) : Type 0 where
  pub some : low ≤ n
  pub few : n ≤ high

pub within : (low high : ℕ) (n : Number) → is_within low high n ≡ true → Within low high n.bits
within low high n h =
    let parts = and_parts (not n.negative && leb low n.bits) (leb n.bits high) h in
    record { some = leb-true _ _ (and_parts (not n.negative) (leb low n.bits) parts.0).1; few = leb-true _ _ parts.1 }

quantum : (q : Number) → is_quantum q ≡ true → IsQuantum q.bits
quantum q h = let w = within 1 65535 q h in (w.some, w.few)

turn : (harts : ℕ) (t : Turn) → is_turn harts t ≡ true → IsTurn harts (item_of t)
turn harts t h =
    let parts = and_parts (is_hart harts t.hart) (is_within 1 250000 t.count) h in
    let count = within 1 250000 t.count parts.1 in
    record { hart = ltb-true _ _ (and_parts (not t.hart.negative) (ltb t.hart.bits harts) parts.0).1; some = count.some; few = count.few }

turns : (harts : ℕ) (ts : List Turn) → list_all (is_turn harts) ts ≡ true → All (IsTurn harts) (map item_of ts)
turns harts [] h k d lt = absurd (omega arith)
turns harts (t ∷ ts) h zero d lt = turn harts t (and_parts (is_turn harts t) (list_all (is_turn harts) ts) h).0
turns harts (t ∷ ts) h (suc k) d lt = turns harts ts (and_parts (is_turn harts t) (list_all (is_turn harts) ts) h).1 k d (omega arith)

abbrev InRange : ℕ → Statement → Type 0
InRange harts s = is_out_of_range harts s ≡ false

head_of : {X : Type 0} (P : X → Type 0) (x : X) (xs : List X) → All P (x ∷ xs) → P x
head_of P x xs all = all 0 x (omega arith)

tail_of : {X : Type 0} (P : X → Type 0) (x : X) (xs : List X) → All P (x ∷ xs) → All P xs
tail_of P x xs all k d h = all (suc k) d (omega arith)

scheduled : (harts : ℕ) (ss : List Statement) (found : Schedule) → All (InRange harts) ss → IsDrawn found → Some found ≡ first_of schedule_in ss → IsSchedule harts found
scheduled harts [] found all drawn e = absurd cc
scheduled harts (statement.Rr q ∷ ss) found all drawn e =
    subst (IsSchedule harts) (sym (let same : found ≡ schedule.Rr q.bits = cc in same)) (quantum q (not-false _ (head_of (InRange harts) (statement.Rr q) ss all)))
scheduled harts (statement.List ts ∷ ss) found all drawn e =
    subst (IsSchedule harts) (sym (let same : found ≡ schedule.List (map item_of ts) = cc in same)) (turns harts ts (not-false _ (head_of (InRange harts) (statement.List ts) ss all)))
scheduled harts (statement.Seed n q ∷ ss) found all drawn e =
    let same : found ≡ schedule.Seed n.bits q.bits = cc in
    let fits : n.bits < 2 ^ 32 = subst IsDrawn same drawn in
    subst (IsSchedule harts) (sym same) (fits, quantum q (not-false _ (or_parts n.negative (not (is_quantum q)) (head_of (InRange harts) (statement.Seed n q) ss all)).1))
scheduled harts (statement.Harts n ∷ ss) found all drawn e = scheduled harts ss found (tail_of (InRange harts) (statement.Harts n) ss all) drawn e
scheduled harts (statement.Steps n ∷ ss) found all drawn e = scheduled harts ss found (tail_of (InRange harts) (statement.Steps n) ss all) drawn e
scheduled harts (statement.Input bytes ∷ ss) found all drawn e = scheduled harts ss found (tail_of (InRange harts) (statement.Input bytes) ss all) drawn e
scheduled harts (statement.Entry n ∷ ss) found all drawn e = scheduled harts ss found (tail_of (InRange harts) (statement.Entry n) ss all) drawn e
scheduled harts (statement.Text ∷ ss) found all drawn e = scheduled harts ss found (tail_of (InRange harts) statement.Text ss all) drawn e
scheduled harts (statement.Data ∷ ss) found all drawn e = scheduled harts ss found (tail_of (InRange harts) statement.Data ss all) drawn e
scheduled harts (statement.Word numbers ∷ ss) found all drawn e = scheduled harts ss found (tail_of (InRange harts) (statement.Word numbers) ss all) drawn e
scheduled harts (statement.Byte numbers ∷ ss) found all drawn e = scheduled harts ss found (tail_of (InRange harts) (statement.Byte numbers) ss all) drawn e
scheduled harts (statement.Space n ∷ ss) found all drawn e = scheduled harts ss found (tail_of (InRange harts) (statement.Space n) ss all) drawn e
scheduled harts (statement.Code c ∷ ss) found all drawn e = scheduled harts ss found (tail_of (InRange harts) (statement.Code c) ss all) drawn e

stepped : (harts : ℕ) (ss : List Statement) (found : ℕ) → All (InRange harts) ss → Some found ≡ first_of steps_in ss → Within 1 250000 found
stepped harts [] found all e = absurd cc
stepped harts (statement.Steps n ∷ ss) found all e =
    let same : found ≡ n.bits = cc in
    subst (Within 1 250000) (sym same) (within 1 250000 n (not-false _ (head_of (InRange harts) (statement.Steps n) ss all)))
stepped harts (statement.Rr q ∷ ss) found all e = stepped harts ss found (tail_of (InRange harts) (statement.Rr q) ss all) e
stepped harts (statement.List ts ∷ ss) found all e = stepped harts ss found (tail_of (InRange harts) (statement.List ts) ss all) e
stepped harts (statement.Seed n q ∷ ss) found all e = stepped harts ss found (tail_of (InRange harts) (statement.Seed n q) ss all) e
stepped harts (statement.Harts n ∷ ss) found all e = stepped harts ss found (tail_of (InRange harts) (statement.Harts n) ss all) e
stepped harts (statement.Input bytes ∷ ss) found all e = stepped harts ss found (tail_of (InRange harts) (statement.Input bytes) ss all) e
stepped harts (statement.Entry n ∷ ss) found all e = stepped harts ss found (tail_of (InRange harts) (statement.Entry n) ss all) e
stepped harts (statement.Text ∷ ss) found all e = stepped harts ss found (tail_of (InRange harts) statement.Text ss all) e
stepped harts (statement.Data ∷ ss) found all e = stepped harts ss found (tail_of (InRange harts) statement.Data ss all) e
stepped harts (statement.Word numbers ∷ ss) found all e = stepped harts ss found (tail_of (InRange harts) (statement.Word numbers) ss all) e
stepped harts (statement.Byte numbers ∷ ss) found all e = stepped harts ss found (tail_of (InRange harts) (statement.Byte numbers) ss all) e
stepped harts (statement.Space n ∷ ss) found all e = stepped harts ss found (tail_of (InRange harts) (statement.Space n) ss all) e
stepped harts (statement.Code c ∷ ss) found all e = stepped harts ss found (tail_of (InRange harts) (statement.Code c) ss all) e

-- a complete job lacks nothing
pub record IsComplete (ss : List Statement) (count : ℕ) : Type 0 where
  pub full : 0 < length ss
  pub schedule : list_any is_schedule ss ≡ true
  pub steps : list_any is_steps ss ≡ true
  pub words : 1 ≤ count

pub complete_from : (ss : List Statement) (words : ℕ) → lacks ss words ≡ false → IsComplete ss words
complete_from ss words h =
    let all = or_parts ((eqb (length ss) 0 || not (list_any is_schedule ss)) || not (list_any is_steps ss)) (eqb words 0) h in
    let three = or_parts (eqb (length ss) 0 || not (list_any is_schedule ss)) (not (list_any is_steps ss)) all.0 in
    let two = or_parts (eqb (length ss) 0) (not (list_any is_schedule ss)) three.0 in
    record {
      full = omega (arith, eqb-false _ _ two.0);
      schedule = not-false _ two.1;
      steps = not-false _ three.1;
      words = omega (arith, eqb-false _ _ all.1);
    }

found_schedule : (ss : List Statement) → list_any is_schedule ss ≡ true → IsSome (first_of schedule_in ss)
found_schedule [] h = absurd cc
found_schedule (statement.Rr q ∷ ss) h = refl
found_schedule (statement.List ts ∷ ss) h = refl
found_schedule (statement.Seed n q ∷ ss) h = refl
found_schedule (statement.Harts n ∷ ss) h = found_schedule ss h
found_schedule (statement.Steps n ∷ ss) h = found_schedule ss h
found_schedule (statement.Input bytes ∷ ss) h = found_schedule ss h
found_schedule (statement.Entry n ∷ ss) h = found_schedule ss h
found_schedule (statement.Text ∷ ss) h = found_schedule ss h
found_schedule (statement.Data ∷ ss) h = found_schedule ss h
found_schedule (statement.Word numbers ∷ ss) h = found_schedule ss h
found_schedule (statement.Byte numbers ∷ ss) h = found_schedule ss h
found_schedule (statement.Space n ∷ ss) h = found_schedule ss h
found_schedule (statement.Code c ∷ ss) h = found_schedule ss h

found_steps : (ss : List Statement) → list_any is_steps ss ≡ true → IsSome (first_of steps_in ss)
found_steps [] h = absurd cc
found_steps (statement.Steps n ∷ ss) h = refl
found_steps (statement.Rr q ∷ ss) h = found_steps ss h
found_steps (statement.List ts ∷ ss) h = found_steps ss h
found_steps (statement.Seed n q ∷ ss) h = found_steps ss h
found_steps (statement.Harts n ∷ ss) h = found_steps ss h
found_steps (statement.Input bytes ∷ ss) h = found_steps ss h
found_steps (statement.Entry n ∷ ss) h = found_steps ss h
found_steps (statement.Text ∷ ss) h = found_steps ss h
found_steps (statement.Data ∷ ss) h = found_steps ss h
found_steps (statement.Word numbers ∷ ss) h = found_steps ss h
found_steps (statement.Byte numbers ∷ ss) h = found_steps ss h
found_steps (statement.Space n ∷ ss) h = found_steps ss h
found_steps (statement.Code c ∷ ss) h = found_steps ss h

pub some_schedule : (lines : List Meaning) → Passed lines → IsSome (first_of schedule_in (statements_of lines))
some_schedule lines passed = found_schedule (statements_of lines) (complete_from (statements_of lines) (place_of lines).words passed.complete).schedule

pub some_steps : (lines : List Meaning) → Passed lines → IsSome (first_of steps_in (statements_of lines))
some_steps lines passed = found_steps (statements_of lines) (complete_from (statements_of lines) (place_of lines).words passed.complete).steps

pub valid_job : (lines : List Meaning) (scan : Scan) (job : Job) → Passed lines → Keeps lines scan → IsDrawn job.schedule → HasTypedNumbers job
    → IsJobOfRows (labels_of lines) (rows_of lines) (statements_of lines) job → IsValidJob job
valid_job lines scan job passed keeps drawn typed of =
    let ss = statements_of lines in
    let sound = passed.sound in
    let whole = complete_from ss (place_of lines).words passed.complete in
    let steps = stepped (harts_in ss) ss job.steps sound.ranges of.steps in
    let words = length-text (labels_of lines) 1 start lines of.text.cells of.text.passed in
    let cells = length-cells of.text.cells job.words of.text.are_cells in
    let bytes = length-data 1 start lines in
    let words_few : (place_of lines).words ≤ 16384 = subst (λ (p : Place). p.words ≤ 16384) keeps.place keeps.words in
    let bytes_few : (place_of lines).bytes ≤ 262144 = subst (λ (p : Place). p.bytes ≤ 262144) keeps.place keeps.bytes in
    record {
      typed = typed;
      some_harts = omega (arith, of.harts, sound.some whole.full);
      few_harts = omega (arith, of.harts, sound.few);
      turns = subst (λ (h : ℕ). IsSchedule h job.schedule) (sym of.harts) (scheduled (harts_in ss) ss job.schedule sound.ranges drawn of.schedule);
      some_steps = steps.some;
      few_steps = steps.few;
      some_words = omega (arith, whole.words, words, cells);
      few_words = omega (arith, words_few, words, cells);
      few_bytes = omega (arith, bytes_few, bytes, ap length of.data_bytes);
    }
