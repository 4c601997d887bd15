use Rattle.std.proofs.Common.{ℕ, List, fold, slice_index, ap, ◌∙◌, arith}
use Rattle.shadow_frames.specs.Opening.{map_run, opening_words, state_in}
use Rattle.shadow_frames.proofs.Placing.{take_first, zero_first, zero_words}
use Rattle.shadow_frames.proofs.opening.initial.Goals as goal

pub map_runs-requires-clause-first : goal.map_runs-requires-clause-first
map_runs-requires-clause-first c =
    zero_first (slice_index c.deref_mut.result.now) (ap (λ (z : List ℕ). slice_index z) c.deref_mut.ensures.value ∙ zero_words c.in_ok-words.words.items 135185 (c.in_ok-words.ensures.items_if_clones_equal (λ y h. h)))

pub returns-clause-words : goal.returns-clause-words
unfolding opening_words
returns-clause-words c =
    ap (λ (z : List ℕ). slice_index z) (take_first c.map_runs.new.words _ c.in_ok-words.words.len (omega (arith, c.in_ok-words.ensures.len, c.map_runs.ensures.size)))
    ∙ (c.map_runs.ensures.words
    ∙ ap (λ (w : ℕ → ℕ). fold (map_run (state_in c.args.states)) w c.args.pages.now)
    (ap (λ (z : List ℕ). slice_index z) c.deref_mut.ensures.value ∙ zero_words c.in_ok-words.words.items 135185 (c.in_ok-words.ensures.items_if_clones_equal (λ y h. h))))
