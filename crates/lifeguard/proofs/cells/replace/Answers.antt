use Rattle.std.proofs.Common.{◌≡◌, ◌+◌, ◌-◌, arith, sym, ◌∙◌, refl}
use Rattle.lifeguard.specs.Shadow.{bytes_of, cell_value}
use Rattle.lifeguard.proofs.CellLemmas.{written_next, replaced-written}
use Rattle.lifeguard.proofs.cells.replace.Goals as goal

pub loop-at-preserved : goal.loop-at-preserved
loop-at-preserved c =
    written_next c.loop-at.cells (λ i old. cell_value c.args.cell) c.args.addr (c.loop-at.at - c.args.addr) (c.loop-at.at + 1 - c.args.addr) c.loop-at.at c.args.cell (bytes_of c.args.cells.now)
    (omega arith) (omega arith) (omega arith) c.loop-at.invariant refl

pub returns : goal.returns
returns c =
    let all : c.loop-at.at - c.args.addr ≡ c.args.len = omega arith in
    (rw all at c.loop-at.invariant) ∙ sym (replaced-written (cell_value c.args.cell) c.args.addr c.args.len (bytes_of c.args.cells.now))
