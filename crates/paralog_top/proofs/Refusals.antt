-- What was read of an input, and its refusals, by what the layers below answer.
use Rattle.std.specs.Prelude.{ℕ, ◌≤◌, List, [], length, Err}
use Rattle.std.proofs.Common.{refl, arith}
use Rattle.std.proofs.Common.{Option, Some, None}
use Rattle.std.specs.Io.KnownBytes.{Consumes}
use Rattle.pl_base.specs.declared.layout.TheConstants.{MAX_JOB_BYTES, MAX_LOG_BYTES}
use Rattle.pl_base.specs.declared.loops.ReadEnd.{ReadEnd}
use Rattle.pl_base.specs.declared.loops.ReadEnd.TheVariants as end
use Rattle.pl_base.specs.Causes.{HasReadCause}
use Rattle.pl_base.specs.Fronts.{TakesBetween, TakesFront}
use Rattle.log_text.specs.declared.stream.LogEnd.{LogEnd}
use Rattle.log_text.specs.declared.stream.LogEnd.TheVariants as log
use Rattle.log_text.specs.Streaming.{IsCaused, IsEnd, WasRead}
use Rattle.paralog_top.specs.declared.input.Input.{Input}
use Rattle.paralog_top.specs.declared.input.Input.TheVariants as kinds
use Rattle.paralog_top.specs.Asked.{Told}
use Rattle.paralog_top.specs.Refusals.{IsFaultless, IsRefusal, Reads, Takes}
use Rattle.paralog_top.specs.inner.Causes.{refusal_of_end, refusal_of_log}

-- the bytes that were read are a front of the source
pub read_front : (old new : Option (List ℕ)) (bytes : List ℕ) (limit : ℕ) → Consumes old new bytes
    → length bytes ≤ limit → TakesBetween old new 0 limit
read_front old new bytes limit consumes few =
    record { front = bytes; long = omega arith; short = few; taken = consumes }

-- before anything was taken
pub none_taken : (now : Option (List ℕ)) (limit : ℕ) → TakesBetween now now 0 limit
none_taken now limit = read_front now now [] limit (no_bytes now) (omega arith)
  where
    no_bytes : (now : Option (List ℕ)) → Consumes now now []
    no_bytes None = tt
    no_bytes (Some xs) = refl

-- what holds of the bytes that were read may be said in other words
pub read_as : (limit : ℕ) (before after : Option (List ℕ)) (P Q : List ℕ → Type 0)
    → ((bytes : List ℕ) → P bytes → Q bytes) → WasRead limit before after P → WasRead limit before after Q
read_as limit before after P Q so was = record {
  bytes = was.bytes;
  consumed = was.consumed;
  end = was.end;
  few = was.few;
  holds = so was.bytes was.holds;
}

pub reads_as : (kind : Input) (told : Told) (P Q : List ℕ → Type 0) → ((bytes : List ℕ) → P bytes → Q bytes)
    → Reads kind told P → Reads kind told Q
reads_as kinds.Log told P Q so reads = (read_as MAX_LOG_BYTES told.before told.after P Q so reads.0, reads.1)
reads_as kinds.Job told P Q so reads = (read_as MAX_JOB_BYTES told.before told.after P Q so reads.0, reads.1)
reads_as kinds.Nothing told P Q so reads = (reads.0, so [] reads.1)

-- an input that was read whole was read within the limit, and no fault was counted
pub reads_take : (kind : Input) (told : Told) (P : List ℕ → Type 0) → Reads kind told P → Takes kind end.NoMemory told
reads_take kinds.Log told P reads =
    read_front told.before told.after reads.0.bytes MAX_LOG_BYTES reads.0.consumed reads.0.few
reads_take kinds.Job told P reads =
    read_front told.before told.after reads.0.bytes MAX_JOB_BYTES reads.0.consumed reads.0.few
reads_take kinds.Nothing told P reads = reads.0.0

pub reads_calm : (kind : Input) (told : Told) (P : List ℕ → Type 0) → Reads kind told P → IsFaultless told
reads_calm kinds.Log told P reads = reads.1
reads_calm kinds.Job told P reads = reads.1
reads_calm kinds.Nothing told P reads = reads.0.1

-- the input is no log, or was not read to its end
pub log_refused : (told : Told) (stop : LogEnd) → IsEnd MAX_LOG_BYTES told.before told.after stop
    → IsCaused told.faults_before told.faults_after stop → IsRefusal kinds.Log told (refusal_of_log stop)
log_refused told (log.Fault fault) was caused = (was, caused)
log_refused told (log.Read end.Fault) taken caused = (taken, caused)
log_refused told (log.Read end.TooLong) taken caused = (taken, caused)
log_refused told (log.Read end.NoMemory) taken caused = (taken, caused)

-- the input was not read to its end
pub end_refused : {T : Type 0} (told : Told) (stop : ReadEnd)
    → TakesFront stop told.before told.after MAX_JOB_BYTES
    → HasReadCause {T = T} told.faults_before told.faults_after (Err stop)
    → IsRefusal kinds.Job told (refusal_of_end stop)
end_refused told end.Fault taken cause = (taken, cause.fault refl)
end_refused told end.TooLong taken cause = (taken, cause.too_long refl)
end_refused told end.NoMemory taken cause = (taken, cause.no_memory refl)
