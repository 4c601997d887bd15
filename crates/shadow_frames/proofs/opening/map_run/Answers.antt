use Rattle.std.proofs.Common.{◌≡◌, ℕ, ◌+◌, ◌<◌, slice_index, subst, arith}
use Rattle.shadow_frames.specs.Words.{AreFirstFrames}
use Rattle.shadow_frames.proofs.Placing.{more_placed, more_first}
use Rattle.shadow_frames.proofs.opening.map_run.Goals as goal

pub loop-i-preserved : goal.loop-i-preserved
loop-i-preserved c =
    let low : c.args.used + c.loop-i.i < 512 = omega (arith, c.requires.room, c.loop-i-test.true) in
    let small : c.args.run.first + c.loop-i.i < 4096 = omega (arith, c.requires.inside, c.loop-i-test.true) in
    let e : c.args.used + c.loop-i.i + 1 ≡ c.args.used + (c.loop-i.i + 1) = omega arith in
    record {
      size = c.place_page.ensures.size;
      words = more_placed (slice_index c.args.words.now) (slice_index c.loop-i.words) (slice_index c.place_page.new.words) c.args.filling c.args.run.first c.loop-i.i (c.args.used + c.loop-i.i) low c.loop-i.invariant.frames c.place_page.ensures.words c.loop-i.invariant.words;
      frames = subst (λ (z : ℕ). AreFirstFrames (slice_index c.place_page.new.words) z) e
          (more_first (slice_index c.args.words.now) (slice_index c.loop-i.words) (slice_index c.place_page.new.words) c.args.filling c.args.run.first c.loop-i.i (c.args.used + c.loop-i.i) low c.loop-i.invariant.frames c.place_page.ensures.words small);
    }
