use Rattle.std.proofs.Common.{◌≡◌, ℕ, ◌^◌, ◌<◌, ◌≤◌}
use Rattle.shadow_frames.specs.Words.{nibble_of}
use Rattle.shadow_layout.specs.Operations.{in_block}
use Rattle.list_plan.specs.inner.Changes.{changed_nibble}
use Rattle.list_plan.specs.inner.Tables.{HasNibbles}
use Rattle.list_plan.proofs.blocks.word_after.Given as goal

abbrev pub invariant-loop-i : goal.invariant-loop-i
invariant-loop-i g l = record {
  wide : l.after < 2 ^ 64;
  small : HasNibbles l.after;
  done : (k : ℕ) → k < l.i → nibble_of l.after k ≡ in_block (changed_nibble (g.L.Lifeguard.rules l.guard) l.change) l.addr l.len l.block k (nibble_of l.word k);
  rest : (k : ℕ) → l.i ≤ k → k < 16 → nibble_of l.after k ≡ nibble_of l.word k;
}
