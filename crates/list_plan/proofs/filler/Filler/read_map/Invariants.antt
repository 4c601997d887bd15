use Rattle.std.proofs.Common.{◌≡◌, ℕ, ◌+◌, ◌<◌, length, slice_index}
use Rattle.shadow_frames.specs.Frames.{pages_from}
use Rattle.list_plan.specs.inner.Fills.{Fills, words_of}
use Rattle.list_plan.specs.inner.Pieces.{word_read}
use Rattle.list_plan.proofs.filler.Filler.read_map.Given as goal

abbrev pub invariant-loop-i : goal.invariant-loop-i
invariant-loop-i l = record {
  fills : Fills l.initial.self l.self (pages_from word_read (words_of l.initial.self) 9 l.i);
  long : length l.map ≡ 8;
  words : (k : ℕ) → k < l.i → words_of l.initial.self (9 + k) ≡ slice_index l.map k;
}
