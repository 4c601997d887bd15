-- What is known of a plan whose laws are only known to hold.
use Rattle.std.proofs.Common.{ℕ, ◌^◌, ◌<◌, ◌≤◌, length}
use Rattle.std.proofs.Math.Logic.{∥∥₁_elim}
use denote.Struct.Props.{props}
use Rattle.pl_event.specs.Needs.{IsNeed}
use Rattle.order_core.specs.declared.course.Course.{Course}
use Rattle.order_core.specs.declared.course.Operation.{Operation}
use Rattle.order_core.specs.Course.{At}
use Rattle.order_core.specs.Lawful.{IsLawful, IsInside}
use Rattle.order_core.proofs.Keeps.{no_first_need}
use Rattle.order_core.proofs.Progress.{need_within}

pub record Known (c : Course) : Type 0 where
  pub harts : c.log.harts ≤ 8
  pub few : length c.log.lines < 4294967295
  pub size : length c.opening < 2 ^ 32
  pub inside : (p : ℕ) (a : Operation) → At c p a → IsInside c a
  pub needs : (u n h m : ℕ) → IsNeed c.log.lines u n h m → u < c.log.harts
  pub first : (u n h k : ℕ) → k ≤ 0 → IsNeed c.log.lines u n h k → ⊥

pub known : (c : Course) → ∥ IsLawful c ∥₁ → Known c
known c law = ∥∥₁_elim law (hlevel props) (λ (l : IsLawful c). record {
  harts = l.log.opening.few;
  few = l.few;
  size = l.table.size.1;
  inside = l.inside;
  needs = λ u n h m need. (need_within c l u n h m need).1;
  first = no_first_need c l;
})
