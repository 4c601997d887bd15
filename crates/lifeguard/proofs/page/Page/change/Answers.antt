use Rattle.std.proofs.Common.{◌≡◌, length, arith, sym, ap, ◌∙◌, vec_len}
use Rattle.std.proofs.lemmas.Bool.{eqb-true}
use Rattle.lifeguard.proofs.PageLemmas.{changed_empty}
use Rattle.lifeguard.proofs.page.Page.change.Goals as goal

pub returns-else-not-is_empty : goal.returns-else-not-is_empty
returns-else-not-is_empty g c =
    let len : vec_len c.self.inside.cells ≡ 0 = eqb-true _ _ (sym c.is_empty.ensures ∙ c.if-not-is_empty.false) in
    let none : length c.self.inside.cells.items ≡ 0 = omega (arith, len) in
    changed_empty (λ i old. (g.L.Lifeguard.rules c.args.guard).range_state c.args.kind old) c.args.at c.args.len c.args.self.now (ap length (sym c.self.view_is) ∙ none)
