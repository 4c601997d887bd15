use Rattle.std.proofs.Common.{◌<◌, refl, sym}
use Rattle.log_text.proofs.RuleLemmas.{hart_of-low}
use Rattle.log_text.proofs.judge.is_bad_record.Goals as goal

pub returns-then-is_expected : goal.returns-then-is_expected
returns-then-is_expected c = λ before keeps within.
    let low : c.record_hart.result < 8 = rw c.record_hart.ensures (hart_of-low c.args.tally.now.harts c.args.what keeps.few within) in
    rw (sym (c.if-is_bad_notice.ensures before keeps within), ← c.record_hart.ensures, sym (c.if-is_expected.ensures before keeps low), c.is_alert_record.ensures) refl

pub returns-else-is_expected : goal.returns-else-is_expected
returns-else-is_expected c = λ before keeps within.
    let low : c.record_hart.result < 8 = rw c.record_hart.ensures (hart_of-low c.args.tally.now.harts c.args.what keeps.few within) in
    rw (sym (c.if-is_bad_notice.ensures before keeps within), ← c.record_hart.ensures, sym (c.if-is_expected.ensures before keeps low)) c.if-is_expected.false
