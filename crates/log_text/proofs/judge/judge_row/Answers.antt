use Rattle.std.proofs.Common.{◌≡◌, ◌<◌, false, sym, ◌∙◌, arith}
use Rattle.std.proofs.lemmas.Bool.{lt-leb, or_parts}
use Rattle.pl_event.specs.Numbers.{hart_of}
use Rattle.log_text.specs.WellFormed.{breaks_records, breaks_hart, breaks_ended, breaks_arc, breaks_notice, names_past, is_waiting}
use Rattle.log_text.proofs.RuleLemmas.{hart_of-low, broken-fields}
use Rattle.log_text.proofs.judge.judge_row.Goals as goal

pub returns : goal.returns
returns c = λ before arcs keeps shows.
    let what = c.args.what in
    let harts = c.args.tally.now.harts in
    let few : breaks_records before ≡ false = lt-leb _ _ (omega (arith, keeps.rows, c.if-tally-ge-MAX_RECORDS.false)) in
    let within : breaks_hart harts what arcs ≡ false = sym (c.if-is_past_harts.ensures before arcs keeps shows) in
    let own : names_past harts what ≡ false = (or_parts (names_past harts what) _ within).0 in
    let low : c.record_hart.result < 8 = rw c.record_hart.ensures (hart_of-low harts what keeps.few own) in
    let ended : breaks_ended before what ≡ false = sym (c.if-is_after_end.ensures before keeps own) in
    let settled_at : is_waiting before c.record_hart.result ≡ false = sym (c.if-is_open.ensures before keeps low) in
    let settled : is_waiting before (hart_of what) ≡ false = rw c.record_hart.ensures at settled_at in
    let sound : breaks_arc before what arcs ≡ false = sym (c.if-has_bad_arcs.ensures before arcs keeps shows within) in
    let told : breaks_notice before what ≡ false = sym (c.if-is_bad_record.ensures before keeps own) in
    c.judge_fields.ensures before keeps harts arcs ∙ broken-fields harts before what arcs few within ended settled sound told
