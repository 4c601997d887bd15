use Rattle.std.proofs.Common.{Ok, ap, ◌∙◌}
use Rattle.paralog_top.proofs.play.play_rows.Goals as goal

pub rows-preserved : goal.rows-preserved
rows-preserved g c =
    let some = c.rows.invariant.some c.rows-test.true in
    record {
      rules = c.in-Ok.ensures.rules ∙ c.rows.invariant.rules;
      some = λ more. record {
        limit = some.limit;
        began = some.began;
        meanings = some.meanings;
        playing = c.in-Ok.ensures.more some.limit some.began some.meanings some.playing (ap Ok more);
      };
      going = λ more limit start meanings playing. c.in-Ok.ensures.more limit start meanings
          (c.rows.invariant.going c.rows-test.true limit start meanings playing) (ap Ok more);
      over = λ done limit start meanings playing. c.in-Ok.ensures.over limit start meanings
          (c.rows.invariant.going c.rows-test.true limit start meanings playing) (ap Ok done);
      calm = c.in-Ok.ensures.faults ∙ c.rows.invariant.calm;
    }

pub returns-in-Err-clause-end : goal.returns-in-Err-clause-end
returns-in-Err-clause-end g c = λ limit start meanings playing.
    c.in-Err.ensures.end limit start meanings (c.rows.invariant.going c.rows-test.true limit start meanings playing)
