use Rattle.std.proofs.Common.{◌≡◌, ◌+◌, arith, sym, ◌∙◌}
use Rattle.lifeguard.specs.Shadow.{bytes_in}
use Rattle.std.specs.Prelude.{option_map}
use Rattle.lifeguard.proofs.CellLemmas.{changed-written}
use Rattle.lifeguard.proofs.PageLemmas.{written_more}
use Rattle.lifeguard.proofs.pages.change_range_in.Goals as goal

pub loop-done-preserved : goal.loop-done-preserved
loop-done-preserved g c =
    let f = (g.L.Lifeguard.rules c.args.guard).range_state c.args.kind in
    record {
      within = omega arith;
      bytes = written_more (option_map f) c.args.addr c.loop-done.done c.min-piece.result (bytes_in c.args.pages.now) (bytes_in c.loop-done.pages) (bytes_in c.change_on_page.new.pages)
          c.loop-done.invariant.bytes (c.change_on_page.ensures ∙ changed-written (λ i old. f old) (c.args.addr + c.loop-done.done) c.min-piece.result (bytes_in c.loop-done.pages));
    }

pub returns : goal.returns
returns g c =
    let f = (g.L.Lifeguard.rules c.args.guard).range_state c.args.kind in
    let all : c.loop-done.done ≡ c.args.len = omega arith in
    (rw all at c.loop-done.invariant.bytes) ∙ sym (changed-written (λ i old. f old) c.args.addr c.args.len (bytes_in c.args.pages.now))
