use Rattle.std.proofs.Common.{◌≡◌, length, arith, sym, ap, ◌∙◌, vec_len}
use Rattle.std.proofs.lemmas.Bool.{eqb-true}
use Rattle.lifeguard.specs.Shadow.{bytes_of}
use Rattle.lifeguard.proofs.PageLemmas.{room_same}
use Rattle.lifeguard.proofs.page.Page.make_room.Goals as goal

pub returns-in_ok-resize-clause-same : goal.returns-in_ok-resize-clause-same
returns-in_ok-resize-clause-same c =
    let len : vec_len c.self.inside.cells ≡ 0 = eqb-true _ _ (sym c.is_empty.ensures ∙ c.if-is_empty.true) in
    let none : length c.self.inside.cells.items ≡ 0 = omega (arith, len) in
    room_same c.self.inside.cells.items c.resize.new.self.items _ none c.in_ok-resize.ensures.items ∙ ap bytes_of c.self.view_is
