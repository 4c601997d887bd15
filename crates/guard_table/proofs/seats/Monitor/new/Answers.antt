use Rattle.std.proofs.Common.{ℕ, List, [], subst, sym, ◌∙◌}
use Rattle.atomic_table.specs.Table.{opening}
use Rattle.order_core.specs.Course.{course}
use Rattle.guard_table.specs.Rule.{HoldsCore}
use Rattle.guard_table.specs.Views.{first_view}
use Rattle.guard_table.proofs.PlayLemmas.{starts}
use Rattle.guard_table.proofs.seats.Monitor.new.Goals as goal

pub of_words-requires : goal.of_words-requires
of_words-requires g c =
    let k = course g.P.Plan.planned c.args.plan in
    subst (λ (ws : List ℕ). HoldsCore k (opening ws [] (first_view k))) (sym (c.as_slice.ensures.value ∙ c.requires)) (starts k (g.met.P.Plan.lawful c.args.plan))
