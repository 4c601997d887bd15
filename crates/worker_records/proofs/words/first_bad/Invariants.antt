use Rattle.std.proofs.Common.{ℕ}
use Rattle.lifeguard.specs.State.{Bytes, nibble_at}
use Rattle.worker_records.specs.Words.{TellsOf}
use Rattle.worker_records.proofs.WordLemmas.{from_here}
use Rattle.worker_records.proofs.words.first_bad.Given as goal

abbrev pub invariant-loop-i : goal.invariant-loop-i
invariant-loop-i g l = (bytes : Bytes) → TellsOf l.word bytes l.addr l.len → from_here (λ a. (g.L.Lifeguard.rules l.guard).bad_access (nibble_at bytes a)) l.addr l.len l.i
