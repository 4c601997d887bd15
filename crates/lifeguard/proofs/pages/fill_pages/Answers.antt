use Rattle.std.proofs.Common.{◌≡◌, ◌+◌, ◌-◌, ◌*◌, arith, sym, ◌∙◌}
use Rattle.lifeguard.specs.Shadow.{bytes_in}
use Rattle.lifeguard.specs.Shadow.{cell_value}
use Rattle.lifeguard.proofs.CellLemmas.{replaced-written}
use Rattle.lifeguard.proofs.PageLemmas.{pages_more, room_rest}
use Rattle.lifeguard.proofs.pages.fill_pages.Goals as goal

pub loop-number-preserved : goal.loop-number-preserved
loop-number-preserved c = record {
  room = room_rest c.loop-number.pages c.loop-number.number (c.args.page + c.args.count) c.fill.new.self c.loop-number.invariant.room;
  bytes = pages_more (cell_value c.args.cell) c.loop-number.pages c.args.page c.loop-number.number c.fill.new.self (bytes_in c.args.pages.now) _ (omega arith) (omega arith)
      c.loop-number.invariant.bytes c.fill.ensures;
}

pub returns : goal.returns
returns c =
    let all : c.loop-number.number - c.args.page ≡ c.args.count = omega arith in
    (rw all at c.loop-number.invariant.bytes) ∙ sym (replaced-written (cell_value c.args.cell) (c.args.page * 4096) (c.args.count * 4096) (bytes_in c.args.pages.now))
