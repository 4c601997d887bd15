-- About the run of a job there is one text that answers pairs.
use Rattle.std.specs.Prelude.{◌≡◌, ℕ, List, [], ◌∷◌, ◌++◌, codes, map, Option, Some, None, Result, Ok}
use Rattle.std.proofs.Common.{refl, ap, sym, subst, ◌∙◌}
use Rattle.core_sim.specs.declared.job.Job.{Job}
use Rattle.core_sim.specs.Entries.{Entry}
use Rattle.core_sim.specs.Runs.{IsRun}
use Rattle.core_sim.specs.Steps.{word_at}
use Rattle.guest_asm.specs.declared.read.LinedJob.{LinedJob}
use Rattle.guest_asm.specs.Jobs.{IsJobText, rows_of}
use Rattle.guest_asm.specs.Lines.{Meaning}
use Rattle.guest_asm.specs.Listing.{hex}
use Rattle.guest_asm.specs.WordLines.{lines_of_rows}
use Rattle.guest_asm.proofs.One.{one_job}
use Rattle.whence_trail.specs.declared.block.Block.{Block}
use Rattle.whence_trail.specs.declared.happening.Happening.{Happening}
use Rattle.whence_trail.specs.declared.happening.Origin.{Origin}
use Rattle.whence_trail.specs.declared.near.Near.{Near}
use Rattle.whence_trail.specs.declared.near.Near.TheVariants.{In, After}
use Rattle.whence_trail.specs.declared.trail.Answer.{Answer}
use Rattle.whence_trail.specs.declared.trail.Found.{Found}
use Rattle.whence_trail.specs.declared.trail.Pair.{Pair}
use Rattle.whence_trail.specs.Answers.{answer_of}
use Rattle.whence_text.specs.Answered.{IsJobAnswered}
use Rattle.whence_text.specs.Happened.{happened}
use Rattle.whence_text.specs.Text.{all_lines, answer_lines, block_lines, found_or_none, freed_line, hart_event}
use Rattle.whence_text.specs.Text.{near_lines, origin_line, site, whence_text}
use Rattle.whence_top.specs.Answers.{IsAnswer}

-- ---- two lists of lines and words that are the same give the same text

module _ (l m : LinedJob) (lines : l.lines.items ≡ m.lines.items) (job : l.job ≡ m.job) where
  same_site : (pc : ℕ) → site (word_at l.lines.items pc) (word_at l.job.words pc)
      ≡ site (word_at m.lines.items pc) (word_at m.job.words pc)
  same_site pc =
      ap (λ (items : List ℕ). site (word_at items pc) (word_at l.job.words pc)) lines
      ∙ ap (λ (j : Job). site (word_at m.lines.items pc) (word_at j.words pc)) job

  same_origin : (o : Origin) → origin_line l o ≡ origin_line m o
  same_origin o =
      ap (λ (text : List ℕ). hart_event o.hart o.number ++ hex o.pc ++ codes " line " ++ text ++ codes "\n")
      (same_site o.pc)

  same_freed : (freed : Option Origin) → freed_line l freed ≡ freed_line m freed
  same_freed None = refl
  same_freed (Some o) = ap (λ (text : List ℕ). codes "fr " ++ text) (same_origin o)

  same_block : (b : Block) → block_lines l b ≡ block_lines m b
  same_block b =
      ap (λ (text : List ℕ). codes "al " ++ text ++ freed_line l b.freed) (same_origin b.allocated)
      ∙ ap (λ (text : List ℕ). codes "al " ++ origin_line m b.allocated ++ text) (same_freed b.freed)

  same_near : (near : Option Near) → near_lines l near ≡ near_lines m near
  same_near None = refl
  same_near (Some (In b byte)) = simp (same_block b)
  same_near (Some (After b by)) = simp (same_block b)

  same_found : (hart number : ℕ) (found : Option Found)
      → found_or_none l hart number found ≡ found_or_none m hart number found
  same_found hart number None = refl
  same_found hart number (Some found) =
      ap (λ (text : List ℕ). text ++ near_lines l found.near) (same_origin found.origin)
      ∙ ap (λ (text : List ℕ). origin_line m found.origin ++ text) (same_near found.near)

  same_lines : (answers : List Answer) → all_lines l answers ≡ all_lines m answers
  same_lines [] = refl
  same_lines (a ∷ answers) =
      ap (λ (text : List ℕ). text ++ all_lines l answers) (same_found a.pair.hart a.pair.number a.found)
      ∙ ap (λ (text : List ℕ). answer_lines m a ++ text) (same_lines answers)

  same_text : (answers : List Answer) → whence_text l answers ≡ whence_text m answers
  same_text answers = simp (job, same_lines answers)

-- ---- a text spells one job with its lines, and a job has one run

ok_same : {A E : Type 0} (r : Result A E) (x y : A) → r ≡ Ok x → r ≡ Ok y → x ≡ y
ok_same r x y h k = cc

module _ (one : (job : Job) (a b : List Entry) → IsRun job a → IsRun job b → a ≡ b) where
  one_answered : (pairs : List Pair) (l m : LinedJob) (a b : List ℕ) → l.lines.items ≡ m.lines.items → l.job ≡ m.job
      → IsJobAnswered pairs l a → IsJobAnswered pairs m b → a ≡ b
  one_answered pairs l m a b lines job is too =
      let run : IsRun m.job is.entries = subst (λ (j : Job). IsRun j is.entries) job is.run in
      let happens : happened l.job is.entries ≡ happened m.job too.entries =
      ap (λ (j : Job). happened j is.entries) job
      ∙ ap (happened m.job) (one m.job is.entries too.entries run too.run) in
      is.text_is
      ∙ (ap (λ (events : List Happening). whence_text l (map (answer_of events) pairs)) happens
      ∙ (same_text l m lines job (map (answer_of (happened m.job too.entries)) pairs) ∙ sym too.text_is))

  pub one_text : (pairs : List Pair) (bytes a b : List ℕ) → IsAnswer pairs bytes a → IsAnswer pairs bytes b → a ≡ b
  one_text pairs bytes a b is too =
      let first : IsJobText bytes is.lined.job =
      record { lines = is.read.lines; passed = is.read.passed; job_of = is.read.job_of } in
      let second : IsJobText bytes too.lined.job =
      record { lines = too.read.lines; passed = too.read.passed; job_of = too.read.job_of } in
      let meant : is.read.lines ≡ too.read.lines = ok_same _ _ _ is.read.passed too.read.passed in
      let lines : is.lined.lines.items ≡ too.lined.lines.items =
      is.read.words_from
      ∙ (ap (λ (ms : List Meaning). lines_of_rows (rows_of ms)) meant ∙ sym too.read.words_from) in
      one_answered pairs is.lined too.lined a b lines (one_job bytes is.lined.job too.lined.job first second)
      is.told too.told
