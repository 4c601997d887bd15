-- What the statuses say of a call, from what its answer or its refusal says.
use Rattle.std.specs.Prelude.{◌≡◌, ℕ, List}
use Rattle.std.proofs.Common.{subst}
use Rattle.pl_base.specs.declared.loops.ReadEnd.TheVariants as end
use Rattle.paralog_top.specs.declared.answer.Answer.{Answer}
use Rattle.paralog_top.specs.declared.answer.Verdict.{Verdict}
use Rattle.paralog_top.specs.declared.answer.Verdict.TheVariants as verdict
use Rattle.paralog_top.specs.declared.command.Command.{Command}
use Rattle.paralog_top.specs.declared.refusal.Refusal.{Refusal}
use Rattle.paralog_top.specs.declared.refusal.Refusal.TheVariants as refusal
use Rattle.paralog_top.specs.declared.status.Status.{Status}
use Rattle.paralog_top.specs.declared.status.Status.TheVariants as status
use Rattle.paralog_top.specs.Answers.{IsAnswer}
use Rattle.paralog_top.specs.Asked.{Asked, Told}
use Rattle.paralog_top.specs.Commands.{IsCommand, input_of}
use Rattle.paralog_top.specs.Notes.{IsKept}
use Rattle.paralog_top.specs.Refusals.{IsBadJob, IsBadLog, IsFaultless, IsRefusal, Reads, Takes}
use Rattle.paralog_top.specs.Statuses.{Answers, Delivers, HasAnswer, IsCut, IsWritten, MayRunOut, Says, Tells}
use Rattle.paralog_top.proofs.Refusals.{reads_as, reads_calm, reads_take}

module _ (asked : Asked) (input out notes : Told) (command : Command)
    (is : IsCommand asked.meanings asked.words command) where
  abbrev IsAnswered : Answer → List ℕ → Type 0
  IsAnswered answer bytes = IsAnswer asked.meanings command bytes answer.text.items answer.verdict

  abbrev Whole : Answer → Type 0
  Whole answer = Reads (input_of command) input (IsAnswered answer)

  -- what holds of the answer holds of an answer
  has_answer : (answer : Answer) (P : List ℕ → Verdict → Type 0) → Whole answer → P answer.text.items answer.verdict
      → HasAnswer asked input P
  has_answer answer P whole holds = (
    command,
    is,
    reads_as (input_of command) input (IsAnswered answer)
        (λ bytes. (text : List ℕ) × (v : Verdict) × IsAnswer asked.meanings command bytes text v × P text v)
        (λ bytes a. (answer.text.items, answer.verdict, a, holds)) whole,
  )

  -- the answer was written whole
  answers : (answer : Answer) (v : Verdict) → answer.verdict ≡ v → Whole answer → IsWritten out answer.text.items
      → Answers asked input out v
  answers answer v said whole written =
      has_answer answer (λ text has. (has ≡ v) × IsWritten out text) whole (said, written)

  pub delivered : (answer : Answer) (s : Status) → Whole answer → Delivers answer out notes s
      → Says asked input out notes s
  delivered answer status.Clean whole d = (answers answer verdict.Clean d.0 whole d.1, d.2)
  delivered answer status.Reports whole d = (answers answer verdict.Reports d.0 whole d.1, d.2)
  delivered answer status.Usage whole d = absurd d
  delivered answer status.BadJob whole d = absurd d
  delivered answer status.BadLog whole d = absurd d
  delivered answer status.Unordered whole d =
      (d.0, d.1, answers answer (verdict.Unordered d.0 d.1) d.2.0 whole d.2.1, d.2.2)
  delivered answer status.ReadFault whole d = absurd d
  delivered answer status.WriteFault whole d = (has_answer answer (λ text v. IsCut out text) whole d.0, d.1)
  delivered answer status.NoMemory whole d = (
    (
      (command, is, reads_take (input_of command) input (IsAnswered answer) whole),
      reads_calm (input_of command) input (IsAnswered answer) whole,
      d.0,
      d.1,
    ),
    d.2,
  )
  delivered answer status.TooLong whole d = absurd d

  -- a refusal that may run out of memory took no more than the limit
  ran_out : (r : Refusal) → MayRunOut r → IsRefusal (input_of command) input r
      → Takes (input_of command) end.NoMemory input
  ran_out (refusal.BadJob fault) may is =
      reads_take (input_of command) input (λ bytes. IsBadJob (input_of command) bytes fault) is
  ran_out (refusal.BadLog fault) may is =
      reads_take (input_of command) input (λ bytes. IsBadLog (input_of command) bytes fault) is
  ran_out refusal.ReadFault may is = absurd may
  ran_out refusal.TooLong may is = absurd may
  ran_out refusal.NoMemory may is = is.0

  ran_calm : (r : Refusal) → MayRunOut r → IsRefusal (input_of command) input r → IsFaultless input
  ran_calm (refusal.BadJob fault) may is =
      reads_calm (input_of command) input (λ bytes. IsBadJob (input_of command) bytes fault) is
  ran_calm (refusal.BadLog fault) may is =
      reads_calm (input_of command) input (λ bytes. IsBadLog (input_of command) bytes fault) is
  ran_calm refusal.ReadFault may is = absurd may
  ran_calm refusal.TooLong may is = absurd may
  ran_calm refusal.NoMemory may is = is.1

  pub refused : (r : Refusal) (s : Status) → IsRefusal (input_of command) input r → IsKept out → IsFaultless out
      → Tells r notes s → Says asked input out notes s
  refused r status.Clean ref kept calm t = absurd t
  refused r status.Reports ref kept calm t = absurd t
  refused r status.Usage ref kept calm t = absurd t
  refused r status.BadJob ref kept calm t =
      (t.0, ((command, is, subst (IsRefusal (input_of command) input) t.1 ref), kept), t.2)
  refused r status.BadLog ref kept calm t =
      (t.0, ((command, is, subst (IsRefusal (input_of command) input) t.1 ref), kept), t.2)
  refused r status.Unordered ref kept calm t = absurd t
  refused r status.ReadFault ref kept calm t =
      (((command, is, subst (IsRefusal (input_of command) input) t.0 ref), kept), t.1)
  refused r status.WriteFault ref kept calm t = absurd t
  refused r status.NoMemory ref kept calm t = (((command, is, ran_out r t.0 ref), ran_calm r t.0 ref, kept, calm), t.1)
  refused r status.TooLong ref kept calm t =
      (((command, is, subst (IsRefusal (input_of command) input) t.0 ref), kept), t.1)
