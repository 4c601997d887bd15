use Rattle.std.proofs.Common.{◌∙◌, ◌++◌, ap, sym, ℕ, List}
use Rattle.std.specs.Option.{option_map}
use Rattle.guest_asm.specs.Statements.{hex_pairs}
use Rattle.guest_asm.proofs.Pairs.{pairs-more, pairs-shorter, pairs-none}
use Rattle.guest_asm.proofs.directive.hex_pairs.Goals as goal

pub returns-in_default : goal.returns-in_default
returns-in_default c =
    ap (option_map (λ (more : List ℕ). c.pairs.bytes.items ++ more)) (sym (pairs-none c.pairs.rest.now (sym c.is_empty.ensures ∙ c.pairs-test.true) c.in_default.ensures)) ∙ c.pairs.invariant

pub pairs-smaller : goal.pairs-smaller
pairs-smaller c = pairs-shorter c.in-Some.byte c.in-Some.behind.now c.pairs.rest.now c.in-Some.ensures

pub pairs-preserved : goal.pairs-preserved
pairs-preserved c =
    ap (λ (front : List ℕ). option_map (λ more. front ++ more) (hex_pairs c.in-Some.behind.now)) c.in_ok-push.ensures.items
    ∙ sym (pairs-more c.pairs.bytes.items c.in-Some.byte c.in-Some.behind.now c.pairs.rest.now c.in-Some.ensures)
    ∙ c.pairs.invariant
