use Rattle.std.proofs.Common.{ℕ, Some, [], sym, ap, ◌∙◌, arith}
use Rattle.pl_event.specs.declared.log.Line.{Line}
use Rattle.pl_event.specs.declared.log.Record.TheVariants as entry
use Rattle.pl_event.specs.Numbers.{hart_of}
use Rattle.order_core.proofs.LineHarts.{hart_there}
use Rattle.order_core.proofs.lists.ListPlanPlanOps.line_hart.Goals as goal

pub returns : goal.returns
returns c =
    let d : Line = record { what = entry.Notice 0 (record { hart = 0; number = 0 }); arcs = [] } in
    let same = ap (λ (n : ℕ). Some n) (c.record_hart.ensures ∙ ap hart_of (c.record.ensures d)) in
    same ∙ sym (hart_there c.args.self.now.log.lines c.args.i d (omega arith))
