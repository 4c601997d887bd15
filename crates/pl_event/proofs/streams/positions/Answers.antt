use Rattle.std.proofs.Common.{◌∙◌, sym, arith}
use Rattle.pl_event.proofs.StreamLemmas.{told-yes, told-no}
use Rattle.pl_event.proofs.streams.positions.Goals as goal
use Rattle.pl_event.proofs.streams.positions.Goals.{then-record_hart-hart+in_ok-push, else-record_hart-hart}

pub loop-at-preserved : goal.loop-at-preserved
loop-at-preserved c = elim c.if-record_hart-hart.branch [
  | then-record_hart-hart+in_ok-push w ↦
      rw (w.positions-is, w.in_ok-push.ensures.items)
      (told-yes c.args.hart c.loop-at.at c.args.lines.now c.record.result c.loop-at.positions.items _ (omega (arith, c.len-at-end.ensures, c.loop-at-test.true)) c.record.ensures (sym c.record_hart.ensures ∙ w.if-record_hart-hart.true) c.loop-at.invariant)
  | else-record_hart-hart w ↦
      rw w.positions-is
      (told-no c.args.hart c.loop-at.at c.args.lines.now c.record.result c.loop-at.positions.items _ (omega (arith, c.len-at-end.ensures, c.loop-at-test.true)) c.record.ensures (λ same. w.if-record_hart-hart.false (c.record_hart.ensures ∙ same)) c.loop-at.invariant)
]
