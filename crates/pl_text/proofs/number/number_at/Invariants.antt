use Rattle.std.proofs.Common.{◌≡◌, ◌≤◌, length}
use Rattle.pl_text.proofs.Reading.{read_on, front_of}
use Rattle.pl_text.proofs.number.number_at.Given as goal

abbrev pub invariant-loop-byte : goal.invariant-loop-byte
invariant-loop-byte l = record {
  reads : read_on l.base l.high l.value l.rest ≡ front_of l.base l.high l.text;
  low : l.value ≤ l.high;
}

abbrev pub decreases-loop-byte : goal.decreases-loop-byte
decreases-loop-byte l = length l.rest
