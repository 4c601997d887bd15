use Rattle.std.proofs.Common.{refl}
use Rattle.pl_event.specs.declared.log.Log.{Log}
use Rattle.pl_event.specs.Numbers.{events_of}
use Rattle.arc_capture.proofs.Again.{with_blocks}
use Rattle.arc_capture.proofs.recaptured.recapture.Goals as goal

pub returns-clause-run : goal.returns-clause-run
returns-clause-run c =
    let log = c.args.log.now in
    let made : Log = record { harts = log.harts; block = c.args.block; pages = c.in_ok-pages.pages; lines = c.in_ok-lines.lines } in
    c.recorded_events.ensures.run log.harts c.args.block log.pages (events_of log.lines) made (with_blocks log made refl c.requires.block c.in_ok-pages.ensures c.requires.log.opening) (c.placed_logs.ensures.again log c.requires.log)
    (record { harts = refl; block = refl; pages = c.in_ok-pages.ensures; lines = c.in_ok-lines.ensures.lines })

pub returns-clause-ordered : goal.returns-clause-ordered
returns-clause-ordered c =
    let log = c.args.log.now in
    let made : Log = record { harts = log.harts; block = c.args.block; pages = c.in_ok-pages.pages; lines = c.in_ok-lines.lines } in
    c.recorded_events.ensures.ordered log.harts c.args.block log.pages (events_of log.lines) made c.in_ok-lines.ensures.inside
    (record { harts = refl; block = refl; pages = c.in_ok-pages.ensures; lines = c.in_ok-lines.ensures.lines })
