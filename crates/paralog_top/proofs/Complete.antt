-- A good call is answered, or memory ran out.
use Rattle.std.specs.Prelude.{◌≡◌, ℕ, ◌+◌, ◌≤◌, Bool, true, false, List, [], ◌++◌, length, Option, Some, None}
use Rattle.std.proofs.Common.{sym, ap, ◌∙◌, subst, arith}
use Rattle.std.proofs.lemmas.List.{append-nil, length-append}
use Rattle.std.specs.Io.KnownBytes.{Consumes, IsAtEnd}
use Rattle.pl_event.specs.declared.log.Log.{Log}
use Rattle.pl_event.specs.declared.log.Point.{Point}
use Rattle.pl_event.specs.Conflicts.{IsOrdered}
use Rattle.pl_event.proofs.Unordered.{none}
use Rattle.pl_base.specs.declared.layout.TheConstants.{MAX_JOB_BYTES, MAX_LOG_BYTES}
use Rattle.pl_base.specs.declared.loops.ReadEnd.TheVariants as end
use Rattle.pl_base.specs.Causes.{Rose}
use Rattle.log_check.specs.Answers.{NamesFirst}
use Rattle.log_text.specs.declared.cause.LogFault.{LogFault}
use Rattle.guest_asm.specs.declared.cause.JobFault.{JobFault}
use Rattle.guest_asm.proofs.Verdicts.{no_job}
use Rattle.replay_probes.specs.Meaning.{Meaning}
use Rattle.paralog_top.specs.declared.answer.Verdict.{Verdict}
use Rattle.paralog_top.specs.declared.answer.Verdict.TheVariants as verdict
use Rattle.paralog_top.specs.declared.command.Command.{Command}
use Rattle.paralog_top.specs.declared.command.Command.TheVariants as commands
use Rattle.paralog_top.specs.declared.input.Input.{Input}
use Rattle.paralog_top.specs.declared.input.Input.TheVariants as kinds
use Rattle.paralog_top.specs.declared.refusal.Refusal.{Refusal}
use Rattle.paralog_top.specs.declared.refusal.Refusal.TheVariants as refusal
use Rattle.paralog_top.specs.declared.status.Status.{Status}
use Rattle.paralog_top.specs.declared.status.Status.TheVariants as status
use Rattle.paralog_top.specs.Answers.{IsAnswer, IsInput}
use Rattle.paralog_top.specs.Asked.{Asked, Told}
use Rattle.paralog_top.specs.Commands.{IsOne, input_of}
use Rattle.paralog_top.specs.Refusals.{HasInput, HasLeft, IsBadJob, IsBadLog, IsRefusal}
use Rattle.paralog_top.specs.Refusals.{Reads, ReadsWithin, Takes, TakesWithin}
use Rattle.paralog_top.specs.Results.{verdict_of}
use Rattle.paralog_top.specs.Statuses.{HasAnswer, IsComplete, IsCut, IsGood, IsWritten, Refuses, Says}
use Rattle.paralog_top.proofs.OneCommand.{one_command}

-- ---- what was read of a source that tells its bytes

read_all_of : (before after : Option (List ℕ)) (bytes read : List ℕ) → before ≡ Some bytes → Consumes before after read
    → IsAtEnd after → read ≡ bytes
read_all_of None after bytes read left consumed end = absurd (cc)
read_all_of (Some xs) None bytes read left consumed end = absurd consumed
read_all_of (Some xs) (Some ys) bytes read left consumed end =
    sym (append-nil read) ∙ (ap (λ zs. read ++ zs) (sym end) ∙ (sym consumed ∙ some_same xs bytes left))
  where
    some_same : (xs ys : List ℕ) → Some xs ≡ Some ys → xs ≡ ys
    some_same xs ys e = cc

took_less : (before after : Option (List ℕ)) (bytes front : List ℕ) → before ≡ Some bytes → Consumes before after front
    → length front ≤ length bytes
took_less None after bytes front left consumed = absurd (cc)
took_less (Some xs) None bytes front left consumed = absurd consumed
took_less (Some xs) (Some ys) bytes front left consumed =
    let same : xs ≡ bytes = cc in
    let whole : length bytes ≡ length front + length ys =
    ap (λ (zs : List ℕ). length zs) (sym same ∙ consumed) ∙ length-append front ys in
    omega arith

-- the bytes of which both hold
abbrev Both : (List ℕ → Type 0) → (List ℕ → Type 0) → Type 0
Both P Q = (bytes : List ℕ) × P bytes × Q bytes

both_within : (limit : ℕ) (told : Told) (P Q : List ℕ → Type 0) → HasLeft limit told P → ReadsWithin limit told Q
    → Both P Q
both_within limit told P Q given reads =
    let same = read_all_of told.before told.after given.bytes reads.0.bytes given.left reads.0.consumed reads.0.end in
    (given.bytes, given.known, subst Q same reads.0.holds)

-- what was read is what was at hand
pub both : (kind : Input) (told : Told) (P Q : List ℕ → Type 0) → HasInput kind told P → Reads kind told Q → Both P Q
both kinds.Log told P Q given reads = both_within MAX_LOG_BYTES told P Q given reads
both kinds.Job told P Q given reads = both_within MAX_JOB_BYTES told P Q given reads
both kinds.Nothing told P Q given reads = ([], given, reads.1)

long_within : (limit : ℕ) (told : Told) (P : List ℕ → Type 0) → HasLeft limit told P
    → TakesWithin limit end.TooLong told → ⊥
long_within limit told P given taken =
    let less = took_less told.before told.after given.bytes taken.front given.left taken.taken in
    let long : limit + 1 ≤ length taken.front = taken.long in
    absurd (omega (arith, given.few, less))

-- an input at hand is not too long, and no read of it failed
pub not_long : (kind : Input) (told : Told) (P : List ℕ → Type 0) → HasInput kind told P → Takes kind end.TooLong told
    → ⊥
not_long kinds.Log told P given taken = long_within MAX_LOG_BYTES told P given taken
not_long kinds.Job told P given taken = long_within MAX_JOB_BYTES told P given taken
not_long kinds.Nothing told P given taken = taken

pub not_failed : (kind : Input) (told : Told) (P : List ℕ → Type 0) → HasInput kind told P → Takes kind end.Fault told
    → Rose told.faults_before told.faults_after → ⊥
not_failed kinds.Log told P given taken rose = given.calm rose
not_failed kinds.Job told P given taken rose = given.calm rose
not_failed kinds.Nothing told P given taken rose = taken

-- ---- an input of a command is refused in no way

not_job : (command : Command) (bytes : List ℕ) (fault : JobFault) → IsInput command bytes
    → IsBadJob (input_of command) bytes fault → ⊥
not_job (commands.Replay guard) bytes fault input bad = bad
not_job (commands.Probe guard places) bytes fault input bad = bad
not_job commands.Check bytes fault input bad = bad
not_job (commands.Watch guard threads) bytes fault input bad = bad
not_job (commands.Monitor guard threads) bytes fault input bad = no_job bytes input.0 fault input.1 bad
not_job (commands.Counts guard) bytes fault input bad = bad
not_job commands.Run bytes fault input bad = no_job bytes input.0 fault input.1 bad
not_job commands.List bytes fault input bad = no_job bytes input.0 fault input.1 bad
not_job commands.Record bytes fault input bad = no_job bytes input.0 fault input.1 bad
not_job commands.Upgrade bytes fault input bad = bad
not_job (commands.Generate seed size) bytes fault input bad = bad

not_log : (command : Command) (bytes : List ℕ) (fault : LogFault) → IsInput command bytes
    → IsBadLog (input_of command) bytes fault → ⊥
not_log (commands.Replay guard) bytes fault input bad = bad.none input.0 input.1
not_log (commands.Probe guard places) bytes fault input bad = bad.none input.0 input.1
not_log commands.Check bytes fault input bad = bad.none input.0 input.1
not_log (commands.Watch guard threads) bytes fault input bad = bad.none input.0 input.1
not_log (commands.Monitor guard threads) bytes fault input bad = bad
not_log (commands.Counts guard) bytes fault input bad = bad.none input.0 input.1
not_log commands.Run bytes fault input bad = bad
not_log commands.List bytes fault input bad = bad
not_log commands.Record bytes fault input bad = bad
not_log commands.Upgrade bytes fault input bad = bad.none input.0 input.1
not_log (commands.Generate seed size) bytes fault input bad = bad

-- a lifeguard's verdict names no pair
abbrev IsPair : Verdict → Type 0
IsPair verdict.Clean = ⊥
IsPair verdict.Reports = ⊥
IsPair (verdict.Unordered earlier later) = Unit {0}

no_pair : (b : Bool) (earlier later : Point) → verdict.Unordered earlier later ≡ verdict_of b → ⊥
no_pair true earlier later e = subst IsPair e tt
no_pair false earlier later e = subst IsPair e tt

no_first : (log : Log) (earlier later : Point) → IsOrdered log → NamesFirst log earlier later → ⊥
no_first log earlier later ordered names =
    none log names.i names.j names.a earlier.number names.b later.number ordered names.pair

not_unordered : (meanings : List Meaning) (command : Command) (bytes text : List ℕ) (earlier later : Point)
    → IsInput command bytes → IsAnswer meanings command bytes text (verdict.Unordered earlier later) → ⊥
not_unordered meanings (commands.Replay guard) bytes text earlier later input a =
    no_pair _ earlier later a.result.marked
not_unordered meanings (commands.Probe guard places) bytes text earlier later input a =
    no_pair _ earlier later a.result.marked
not_unordered meanings commands.Check bytes text earlier later input a =
    no_first a.log earlier later (subst IsOrdered (a.read.one input.0 input.1) input.2) a.order
not_unordered meanings (commands.Watch guard threads) bytes text earlier later input a =
    no_first a.log earlier later (subst IsOrdered (a.read.one input.0 input.1) input.2) a.found.0
not_unordered meanings (commands.Monitor guard threads) bytes text earlier later input a =
    no_pair _ earlier later a.found.result.marked
not_unordered meanings (commands.Counts guard) bytes text earlier later input a =
    no_first a.log earlier later (subst IsOrdered (a.read.one input.0 input.1) input.2) a.found.0
not_unordered meanings commands.Run bytes text earlier later input a = subst IsPair a.1 tt
not_unordered meanings commands.List bytes text earlier later input a = subst IsPair a.1 tt
not_unordered meanings commands.Record bytes text earlier later input a = subst IsPair a.1 tt
not_unordered meanings commands.Upgrade bytes text earlier later input a = subst IsPair a.1 tt
not_unordered meanings (commands.Generate seed size) bytes text earlier later input a = subst IsPair a.1 tt

-- ---- the whole call

module _ (asked : Asked) (input out notes : Told) (good : IsGood asked input out) where
  -- what holds of the command that was found holds of the one that was meant
  meant : (P : Command → Type 0) → IsOne asked P → P good.command
  meant P one = subst P (one_command asked.meanings asked.words one.0 good.command one.1 good.words) one.2

  -- its refusal
  why : (r : Refusal) → Refuses asked input out r → IsRefusal (input_of good.command) input r
  why r refuses = meant (λ command. IsRefusal (input_of command) input r) refuses.0

  -- its answer to what was at hand
  told : (P : List ℕ → Verdict → Type 0) → HasAnswer asked input P → Both (IsInput good.command)
      (λ bytes. (text : List ℕ) × (v : Verdict) × IsAnswer asked.meanings good.command bytes text v × P text v)
  told P answered =
      let A = λ (command : Command) (bytes : List ℕ).
      (text : List ℕ) × (v : Verdict) × IsAnswer asked.meanings command bytes text v × P text v in
      both (input_of good.command) input (IsInput good.command) (A good.command) good.given
      (meant (λ command. Reads (input_of command) input (A command)) answered)

  pub complete : (s : Status) → Says asked input out notes s → IsComplete s
  complete status.Clean says = tt
  complete status.Reports says = tt
  complete status.Usage says = absurd (says.0 good.command good.words)
  complete status.BadJob says =
      let kind = input_of good.command in
      let bad = both kind input (IsInput good.command) (λ bytes. IsBadJob kind bytes says.0) good.given
      (why (refusal.BadJob says.0) says.1) in
      absurd (not_job good.command bad.0 says.0 bad.1 bad.2)
  complete status.BadLog says =
      let kind = input_of good.command in
      let bad = both kind input (IsInput good.command) (λ bytes. IsBadLog kind bytes says.0) good.given
      (why (refusal.BadLog says.0) says.1) in
      absurd (not_log good.command bad.0 says.0 bad.1 bad.2)
  complete status.Unordered says =
      let pair = verdict.Unordered says.0 says.1 in
      let all = told (λ text v. (v ≡ pair) × IsWritten out text) says.2 in
      let a = all.2 in
      absurd (not_unordered asked.meanings good.command all.0 a.0 says.0 says.1 all.1
      (subst (λ (v : Verdict). IsAnswer asked.meanings good.command all.0 a.0 v) a.3.0 a.2))
  complete status.ReadFault says =
      let failed = why refusal.ReadFault says.0 in
      absurd (not_failed (input_of good.command) input (IsInput good.command) good.given failed.0 failed.1)
  complete status.WriteFault says = absurd (good.written (told (λ text v. IsCut out text) says.0).2.3.1)
  complete status.NoMemory says = tt
  complete status.TooLong says =
      absurd (not_long (input_of good.command) input (IsInput good.command) good.given (why refusal.TooLong says.0).0)
