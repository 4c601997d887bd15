use Rattle.std.proofs.Common.{◌≡◌, ◌+◌, arith, sym, ◌∙◌, refl}
use Rattle.std.specs.Prelude.{option_map}
use Rattle.lifeguard.specs.Plain.{mask_bit}
use Rattle.lifeguard.specs.Shadow.{bytes_of}
use Rattle.lifeguard.proofs.CellLemmas.{written_next, changed-written}
use Rattle.lifeguard.proofs.cells.store.Goals as goal

pub loop-i-preserved : goal.loop-i-preserved
loop-i-preserved g c =
    written_next c.loop-i.cells (λ i. option_map (λ old. (g.L.Lifeguard.rules c.args.guard).store_nibble old (mask_bit c.args.mask i))) c.args.addr c.loop-i.i (c.loop-i.i + 1) (c.args.addr + c.loop-i.i) c.stored_cell.result (bytes_of c.args.cells.now)
    refl refl (omega arith) c.loop-i.invariant (rw (← c.bit_at.ensures) c.stored_cell.ensures)

pub returns : goal.returns
returns g c =
    let all : c.loop-i.i ≡ c.args.len = omega arith in
    (rw all at c.loop-i.invariant) ∙ sym (changed-written (λ i old. (g.L.Lifeguard.rules c.args.guard).store_nibble old (mask_bit c.args.mask i)) c.args.addr c.args.len (bytes_of c.args.cells.now))
