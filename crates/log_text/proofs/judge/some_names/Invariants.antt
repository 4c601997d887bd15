use Rattle.std.proofs.Common.{◌≡◌, ℕ, ◌+◌, ◌<◌, get_or, Some, None}
use Rattle.pl_event.specs.declared.log.Point.{Point}
use Rattle.log_text.proofs.judge.some_names.Given as goal

abbrev pub invariant-harts : goal.invariant-harts
invariant-harts l = (own : ℕ) → own < l.own → (point : Point) → get_or l.notices own None ≡ Some point → point.hart ≡ l.hart → point.number ≡ l.number + 1 → ⊥
