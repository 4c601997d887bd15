use Rattle.std.proofs.Common.{ℕ, set, refl, ap}
use Rattle.std.proofs.lemmas.Bool.{both_ways}
use Rattle.log_grammar.proofs.ArcLemmas.{Sums-push}
use Rattle.log_grammar.proofs.points.ArcList.add.Goals as goal

pub returns-then-self-hart : goal.returns-then-self-hart
returns-then-self-hart c = λ points sums.
    Sums-push c.args.self.now _ points c.args.point c.requires.some sums refl c.max-self.ensures refl (λ _. ap (λ (k : ℕ). set c.args.self.now.numbers k c.args.point.number) c.from.ensures) (λ fails. absurd (both_ways _ fails c.if-self-hart.true))

pub returns-else-self-hart : goal.returns-else-self-hart
returns-else-self-hart c = λ points sums.
    Sums-push c.args.self.now _ points c.args.point c.requires.some sums refl c.max-self.ensures refl (λ passes. absurd (both_ways _ c.if-self-hart.false passes)) (λ _. refl)
