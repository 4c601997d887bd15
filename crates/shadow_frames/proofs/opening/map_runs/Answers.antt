use Rattle.std.proofs.Common.{ℕ, get_or, slice_index, sym, ap, ◌∙◌, arith}
use Rattle.std.proofs.lemmas.List.Sums.{fold_more}
use Rattle.order_core.specs.Shapes.{after_shapes}
use Rattle.shadow_frames.specs.Words.{all_nibbles}
use Rattle.shadow_frames.specs.Frames.{map_page, pages_from}
use Rattle.shadow_frames.specs.Opening.{map_run, state_in}
use Rattle.shadow_frames.proofs.Placing.{no_run, pages_in_more, room_for, run_inside}
use Rattle.shadow_frames.proofs.opening.map_runs.Goals as goal

pub map_run-requires-clause-inside : goal.map_run-requires-clause-inside
map_run-requires-clause-inside c = run_inside 0 c.args.pages.now c.loop-run.run-index c.requires.rising c.loop-run-test.true

pub map_run-requires-clause-room : goal.map_run-requires-clause-room
map_run-requires-clause-room c = omega (arith, c.loop-run.invariant.used, room_for c.args.pages.now c.loop-run.run-index c.loop-run-test.true c.requires.room)

pub overflow_add-used : goal.overflow_add-used
overflow_add-used c = grind (arith, c.loop-run.invariant.used, room_for c.args.pages.now c.loop-run.run-index c.loop-run-test.true c.requires.room)

pub loop-run-preserved : goal.loop-run-preserved
loop-run-preserved c =
    record {
      size = c.map_run.ensures.size;
      used = omega (arith, c.loop-run.invariant.used, pages_in_more c.args.pages.now c.loop-run.run-index c.loop-run-test.true);
      words = c.map_run.ensures.words
          ∙ (ap (λ (filling : ℕ). after_shapes (slice_index c.loop-run.words) (pages_from (map_page filling) (slice_index c.loop-run.words) (get_or c.args.pages.now c.loop-run.run-index no_run).first (get_or c.args.pages.now c.loop-run.run-index no_run).count)) (c.all_nibbles.ensures ∙ ap all_nibbles c.state_of.ensures.is)
          ∙ (ap (λ (w : ℕ → ℕ). map_run (state_in c.args.states) w (get_or c.args.pages.now c.loop-run.run-index no_run)) c.loop-run.invariant.words
          ∙ sym (fold_more (map_run (state_in c.args.states)) (slice_index c.args.words.now) c.args.pages.now c.loop-run.run-index no_run c.loop-run-test.true)));
      frames = c.map_run.ensures.frames;
    }
