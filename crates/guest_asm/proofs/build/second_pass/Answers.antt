use Rattle.guest_asm.specs.Scans.{defined}
use Rattle.guest_asm.proofs.Building.{row-push}
use Rattle.guest_asm.proofs.build.second_pass.Goals as goal

pub rows-preserved : goal.rows-preserved
rows-preserved c =
    row-push (defined c.args.labels.now) c.args.rows.now c.rows.row-index c.row-item.result c.rows-test.true c.row-item.is c.rows.words.items c.rows.invariant
    c.push_row.new.words.items c.in-Some.to c.in-Some.ensures c.in_ok-push_row.ensures.ok
