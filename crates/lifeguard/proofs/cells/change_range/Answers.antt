use Rattle.std.proofs.Common.{◌≡◌, ◌+◌, ◌-◌, arith, sym, ◌∙◌}
use Rattle.std.specs.Prelude.{option_map}
use Rattle.lifeguard.specs.Shadow.{bytes_of}
use Rattle.lifeguard.proofs.CellLemmas.{written_next, changed-written}
use Rattle.lifeguard.proofs.cells.change_range.Goals as goal

pub loop-at-preserved : goal.loop-at-preserved
loop-at-preserved g c =
    written_next c.loop-at.cells (λ i. option_map ((g.L.Lifeguard.rules c.args.guard).range_state c.args.kind)) c.args.addr (c.loop-at.at - c.args.addr) (c.loop-at.at + 1 - c.args.addr) c.loop-at.at c.ranged_cell.result (bytes_of c.args.cells.now)
    (omega arith) (omega arith) (omega arith) c.loop-at.invariant c.ranged_cell.ensures

pub returns : goal.returns
returns g c =
    let all : c.loop-at.at - c.args.addr ≡ c.args.len = omega arith in
    (rw all at c.loop-at.invariant) ∙ sym (changed-written (λ i old. (g.L.Lifeguard.rules c.args.guard).range_state c.args.kind old) c.args.addr c.args.len (bytes_of c.args.cells.now))
