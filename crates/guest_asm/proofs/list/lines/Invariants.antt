use Rattle.std.proofs.Common.{◌≡◌, ◌++◌, ◌+◌, ◌*◌, drop, string_bytes}
use Rattle.guest_asm.specs.Listing.{lines_from}
use Rattle.guest_asm.proofs.list.lines.Given as goal

-- the lines so far and those of the words that are left are all of them
abbrev pub invariant-words : goal.invariant-words
invariant-words l = record {
  place : l.address ≡ 65536 + 4 * l.word-index;
  told : string_bytes l.out ++ lines_from l.address (drop l.word-index l.words) ≡ lines_from 65536 l.words;
}
