use Rattle.std.proofs.Common.{◌+◌, arith, sym, ◌∙◌, ap}
use Rattle.lifeguard.specs.Checks.{is_bad}
use Rattle.lifeguard.specs.State.{nibble_at}
use Rattle.lifeguard.specs.Shadow.{bytes_of}
use Rattle.lifeguard.proofs.CellLemmas.{find_next}
use Rattle.lifeguard.proofs.cells.first_bad.Goals as goal

pub loop-at-preserved : goal.loop-at-preserved
loop-at-preserved g c =
    sym (find_next (λ a. is_bad (g.L.Lifeguard.rules c.args.guard) c.args.check (nibble_at (bytes_of c.args.cells.now) a)) c.loop-at.at (c.args.addr + c.args.len) (omega arith)
    (ap (is_bad (g.L.Lifeguard.rules c.args.guard) c.args.check) (sym c.nibble_at.ensures.value) ∙ sym c.is_bad.ensures ∙ c.if-is_bad.false)) ∙ c.loop-at.invariant
