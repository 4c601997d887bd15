-- What the statuses say of a call, from what its parts say.
use Rattle.std.specs.Prelude.{◌≡◌, ℕ, List}
use Rattle.std.proofs.Common.{sym, subst}
use Rattle.pl_base.specs.declared.loops.ReadEnd.{ReadEnd}
use Rattle.pl_base.specs.declared.loops.ReadEnd.TheVariants as end
use Rattle.guest_asm.specs.Jobs.{HasFault}
use Rattle.guest_asm.proofs.Verdicts.{no_job}
use Rattle.paralog_top.specs.declared.input.Input.TheVariants as kinds
use Rattle.paralog_top.specs.declared.status.Status.{Status}
use Rattle.paralog_top.specs.declared.status.Status.TheVariants as status
use Rattle.paralog_top.specs.Answers.{IsJob}
use Rattle.paralog_top.specs.Asked.{Told}
use Rattle.paralog_top.specs.Notes.{IsKept, IsNoted}
use Rattle.paralog_top.specs.Refusals.{IsBadJob, IsFaultless, IsRefusal, Reads}
use Rattle.paralog_top.specs.Statuses.{IsComplete, IsCut, IsWritten}
use Rattle.paralog_top.specs.inner.Causes.{refusal_of_end}
use Rattle.paralog_top.proofs.Complete.{both, not_failed, not_long}
use Rattle.paralog_top.proofs.Refusals.{reads_as, reads_calm, reads_take}
use Rattle.whence_trail.specs.declared.trail.Pair.{Pair}
use Rattle.whence_top.specs.Answers.{IsAnswer}
use Rattle.whence_top.specs.Asking.{AsksFor}
use Rattle.whence_top.specs.Ends.{Tells, end_note, end_status}
use Rattle.whence_top.specs.Statuses.{HasAnswer, IsGood, Says}

module _ (words : List (List ℕ)) (input out notes : Told) (pairs : List Pair) (asks : AsksFor words pairs) where
  -- what holds of the text holds of an answer to the bytes that were read
  has_answer : (bytes text : List ℕ) (P : List ℕ → Type 0) → Reads kinds.Job input (λ read. read ≡ bytes)
      → IsAnswer pairs bytes text → P text → HasAnswer words input P
  has_answer bytes text P reads is holds = (
    pairs,
    asks,
    reads_as kinds.Job input (λ read. read ≡ bytes) (λ read. (text : List ℕ) × IsAnswer pairs read text × P text)
        (λ read same. (text, subst (λ (b : List ℕ). IsAnswer pairs b text) (sym same) is, holds)) reads,
  )

  -- a job that was read whole
  pub read_whole : (bytes : List ℕ) → Reads kinds.Job input (λ read. read ≡ bytes) → (s : Status)
      → Tells pairs bytes out notes s → Says words input out notes s
  read_whole bytes reads status.Clean t = (has_answer bytes t.0 (IsWritten out) reads t.1 t.2, t.3)
  read_whole bytes reads status.Reports t = absurd t
  read_whole bytes reads status.Usage t = absurd t
  read_whole bytes reads status.BadJob t = (
    t.0,
    (
      (pairs, asks),
      reads_as kinds.Job input (λ read. read ≡ bytes) (λ read. HasFault read t.0)
          (λ read same. subst (λ (b : List ℕ). HasFault b t.0) (sym same) t.1) reads,
      t.2,
      t.3,
    ),
    t.4,
  )
  read_whole bytes reads status.BadLog t = absurd t
  read_whole bytes reads status.Unordered t = absurd t
  read_whole bytes reads status.ReadFault t = absurd t
  read_whole bytes reads status.WriteFault t = (has_answer bytes t.0 (IsCut out) reads t.1 t.2, t.3)
  read_whole bytes reads status.NoMemory t = (
    (
      (pairs, asks),
      (
        reads_take kinds.Job input (λ read. read ≡ bytes) reads,
        reads_calm kinds.Job input (λ read. read ≡ bytes) reads,
      ),
      t.0,
      t.1,
    ),
    t.2,
  )
  read_whole bytes reads status.TooLong t = absurd t

  -- an input that was not read to its end
  pub not_whole : (stop : ReadEnd) → IsRefusal kinds.Job input (refusal_of_end stop) → IsKept out → IsFaultless out
      → IsNoted notes (end_note stop) → Says words input out notes (end_status stop)
  not_whole end.Fault refused kept calm noted = (((pairs, asks), refused, kept, calm), noted)
  not_whole end.TooLong refused kept calm noted = (((pairs, asks), refused, kept, calm), noted)
  not_whole end.NoMemory refused kept calm noted = (((pairs, asks), refused, kept, calm), noted)

-- a good call is answered, or memory ran out
pub complete : (words : List (List ℕ)) (input out notes : Told) → IsGood words input out → (s : Status)
    → Says words input out notes s → IsComplete s
complete words input out notes good status.Clean says = tt
complete words input out notes good status.Reports says = absurd says
complete words input out notes good status.Usage says = absurd (says.0 good.asked.0 good.asked.1)
complete words input out notes good status.BadJob says =
    let bad = both kinds.Job input IsJob (λ bytes. IsBadJob kinds.Job bytes says.0) good.given says.1.1 in
    absurd (no_job bad.0 bad.1.0 says.0 bad.1.1 bad.2)
complete words input out notes good status.BadLog says = absurd says
complete words input out notes good status.Unordered says = absurd says
complete words input out notes good status.ReadFault says =
    absurd (not_failed kinds.Job input IsJob good.given says.0.1.0 says.0.1.1)
complete words input out notes good status.WriteFault says =
    let cut = both kinds.Job input IsJob (λ bytes. (text : List ℕ) × IsAnswer says.0.0 bytes text × IsCut out text)
    good.given says.0.2 in
    absurd (good.written cut.2.2.1)
complete words input out notes good status.NoMemory says = tt
complete words input out notes good status.TooLong says = absurd (not_long kinds.Job input IsJob good.given says.0.1.0)
