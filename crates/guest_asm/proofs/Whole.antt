-- The two passes together.
use Rattle.std.proofs.Common.{◌≡◌, ℕ, suc, zero, ◌≤◌, false, List, [], ◌∷◌, map, Result, Ok, Err, IfOk, IsSome, ap, ◌∙◌, sym, subst, arith}
use Rattle.std.specs.List.{All}
use Rattle.core_sim.specs.declared.job.Job.{Job}
use Rattle.core_sim.specs.Valid.{HasTypedNumbers, IsValidJob}
use Rattle.guest_asm.specs.declared.cause.JobFault.{JobFault}
use Rattle.guest_asm.specs.declared.cause.JobRefused.{JobRefused}
use Rattle.guest_asm.specs.declared.cause.JobRefused.TheVariants as refused
use Rattle.guest_asm.specs.declared.statement.Statement.{Statement}
use Rattle.guest_asm.specs.declared.scan.Row.{Row}
use Rattle.guest_asm.specs.declared.scan.Scan.{Scan}
use Rattle.guest_asm.specs.Texts.{lines_of}
use Rattle.guest_asm.specs.Lines.{Meaning}
use Rattle.guest_asm.specs.Rules.{statements_of, statements_in, labels_of, harts_in, is_out_of_range}
use Rattle.guest_asm.specs.Jobs.{Placed, Cell, placed, rows_of, first_pass, second_pass, passes, first_of, schedule_in, steps_in, IsSmallRow, IsDrawn, IsJobOfRows, IsJobText, HasFault, IfFault, ◌>>=◌}
use Rattle.guest_asm.specs.WordLines.{IsLinedJobText, lines_of_rows}
use Rattle.guest_asm.specs.Scans.{defined, Keeps}
use Rattle.guest_asm.proofs.Scanning.{statements-kept}
use Rattle.guest_asm.proofs.Sound.{Passed, passed, small_from}
use Rattle.guest_asm.proofs.Validity.{some_schedule, some_steps, valid_job}
use Rattle.guest_asm.proofs.Verdicts.{passes_err}

pub if_ok : {T E : Type 0} (P Q : T → Type 0) (r : Result T E) → ((x : T) → P x → Q x) → IfOk r P → IfOk r Q
if_ok P Q (Ok x) f h = f x h
if_ok P Q (Err e) f h = h

pub if_ok_both : {T E : Type 0} (P Q R : T → Type 0) (r : Result T E) → ((x : T) → P x → Q x → R x) → IfOk r P → IfOk r Q → IfOk r R
if_ok_both P Q R (Ok x) f h k = f x h k
if_ok_both P Q R (Err e) f h k = h

pub if_fault : {T : Type 0} (P Q : JobFault → Type 0) (r : Result T JobRefused) → ((x : JobFault) → P x → Q x) → IfFault r P → IfFault r Q
if_fault P Q (Ok x) f h = h
if_fault P Q (Err refused.NoMemory) f h = h
if_fault P Q (Err (refused.Fault fault)) f h = f fault h

small_rows : (harts : ℕ) → harts ≤ 8 → (rows : List Row) → All (λ s. is_out_of_range harts s ≡ false) (statements_in rows) → All IsSmallRow rows
small_rows harts few [] all k d h = absurd (omega arith)
small_rows harts few (r ∷ rows) all zero d h = small_from harts r.statement few (all 0 r.statement (omega arith))
small_rows harts few (r ∷ rows) all (suc k) d h = small_rows harts few rows (λ j x i. all (suc j) x (omega arith)) k d (omega arith)

-- what the first pass gives
module _ (bytes : List ℕ) (scan : Scan) (lines : List Meaning) (told : first_pass [] (lines_of bytes) ≡ Ok lines) (keeps : Keeps lines scan) where
  ended : Passed lines
  ended = passed (lines_of bytes) lines told

  same : statements_of lines ≡ statements_in scan.rows.items
  same = sym (statements-kept lines scan keeps)

  pub few_harts : harts_in (statements_in scan.rows.items) ≤ 8
  few_harts = subst (λ (ss : List Statement). harts_in ss ≤ 8) same ended.sound.few

  pub small : All IsSmallRow scan.rows.items
  small =
      small_rows (harts_in (statements_in scan.rows.items)) few_harts scan.rows.items
      (subst (λ (ss : List Statement). All (λ s. is_out_of_range (harts_in ss) s ≡ false) ss) same ended.sound.ranges)

  pub has_schedule : IsSome (first_of schedule_in (statements_in scan.rows.items))
  has_schedule = subst (λ (ss : List Statement). IsSome (first_of schedule_in ss)) same (some_schedule lines ended)

  pub has_steps : IsSome (first_of steps_in (statements_in scan.rows.items))
  has_steps = subst (λ (ss : List Statement). IsSome (first_of steps_in ss)) same (some_steps lines ended)

  of_lines : (job : Job) → IsJobOfRows (defined scan.labels) (map placed scan.rows.items) (statements_in scan.rows.items) job → IsJobOfRows (labels_of lines) (rows_of lines) (statements_of lines) job
  of_lines job of =
      subst (λ (ss : List Statement). IsJobOfRows (labels_of lines) (rows_of lines) ss job) (sym same)
      (subst (λ (rows : List Placed). IsJobOfRows (labels_of lines) rows (statements_in scan.rows.items) job) keeps.rows
      (subst (λ (labels : List (List ℕ × ℕ)). IsJobOfRows labels (map placed scan.rows.items) (statements_in scan.rows.items) job) keeps.labels of))

  then_second : (r : Result (List Cell) JobFault) → second_pass (labels_of lines) (rows_of lines) ≡ r → passes bytes ≡ (r >>= λ cells. Ok lines)
  then_second r e =
      ap (λ (o : Result (List Meaning) JobFault). o >>= λ ls. second_pass (labels_of ls) (rows_of ls) >>= λ cells. Ok ls) told
      ∙ ap (λ (o : Result (List Cell) JobFault). o >>= λ cells. Ok lines) e

  pub text_of : (job : Job) → IsJobOfRows (defined scan.labels) (map placed scan.rows.items) (statements_in scan.rows.items) job → IsJobText bytes job
  text_of job of =
      let here = of_lines job of in
      record { lines = lines; passed = then_second (Ok here.text.cells) here.text.passed; job_of = here }

  -- and the words were read from the lines of its rows
  pub lined_of : (job : Job) → IsJobOfRows (defined scan.labels) (map placed scan.rows.items) (statements_in scan.rows.items) job
      → (word_lines : List ℕ) → word_lines ≡ lines_of_rows (map placed scan.rows.items) → IsLinedJobText bytes job word_lines
  lined_of job of word_lines is =
      let here = of_lines job of in
      record { lines = lines; passed = then_second (Ok here.text.cells) here.text.passed; job_of = here; words_from = is ∙ ap lines_of_rows keeps.rows }

  pub valid_of : (job : Job) → IsJobOfRows (defined scan.labels) (map placed scan.rows.items) (statements_in scan.rows.items) job → IsDrawn job.schedule × HasTypedNumbers job → IsValidJob job
  valid_of job of (drawn, typed) = valid_job lines scan job ended keeps drawn typed (of_lines job of)

  pub fault_of : (fault : JobFault) → second_pass (defined scan.labels) (map placed scan.rows.items) ≡ Err fault → HasFault bytes fault
  fault_of fault e =
      passes_err bytes fault
      (then_second (Err fault)
      (ap (λ (labels : List (List ℕ × ℕ)). second_pass labels (rows_of lines)) (sym keeps.labels)
      ∙ ap (λ (rows : List Placed). second_pass (defined scan.labels) rows) (sym keeps.rows) ∙ e))

pub first_fault : (bytes : List ℕ) (fault : JobFault) → first_pass [] (lines_of bytes) ≡ Err fault → HasFault bytes fault
first_fault bytes fault e =
    passes_err bytes fault (ap (λ (o : Result (List Meaning) JobFault). o >>= λ ls. second_pass (labels_of ls) (rows_of ls) >>= λ cells. Ok ls) e)
