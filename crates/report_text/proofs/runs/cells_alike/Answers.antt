use Rattle.std.proofs.Common.{◌≡◌, ℕ, Option, unwrap_or, length, arith, sym, ap, ◌∙◌}
use Rattle.std.proofs.lemmas.Bool.{eqb-true, eqb-false}
use Rattle.lifeguard.proofs.CellLemmas.{nibble_at_same, bytes_of_past}
use Rattle.report_text.proofs.runs.cells_alike.Goals as goal

pub returns-then-is_empty-clause-alike : goal.returns-then-is_empty-clause-alike
returns-then-is_empty-clause-alike c = λ a from below.
    let none : length c.args.cells.now ≡ 0 = eqb-true _ _ (sym c.is_empty.ensures ∙ c.if-is_empty.true) in
    ap (λ (byte : Option ℕ). unwrap_or byte 0) (bytes_of_past c.args.cells.now a (omega (arith, none)) ∙ sym (bytes_of_past c.args.cells.now c.args.place (omega (arith, none))))

pub returns-then-is_block_alike-clause-alike : goal.returns-then-is_block_alike-clause-alike
returns-then-is_block_alike-clause-alike c = λ a from below.
    let some : length c.args.cells.now ≡ 0 → ⊥ = eqb-false _ _ (sym c.is_empty.ensures ∙ c.if-is_empty.false) in
    let whole : length c.args.cells.now ≡ 4096 = c.requires.page (omega (arith, some)) in
    nibble_at_same c.args.cells.now a c.args.place (omega (arith, whole)) (omega (arith, whole)) (c.is_block_alike.ensures c.if-is_block_alike.true a from below)
