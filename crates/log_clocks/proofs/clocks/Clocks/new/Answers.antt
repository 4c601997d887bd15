use Rattle.std.proofs.Common.{List, [], ◌∷◌, ◌++◌, ap, ◌∙◌}
use Rattle.log_clocks.specs.declared.clock.Clock.{Clock}
use Rattle.log_clocks.proofs.Keeping.{no_clocks}
use Rattle.log_clocks.proofs.clocks.Clocks.new.Goals as goal

pub returns : goal.returns
returns c harts g flow = no_clocks harts g flow _ c.zero.result c.loop-hart.invariant.1
    (c.in_ok-push-2.ensures.items ∙ ap (λ (xs : List Clock). xs ++ c.zero.result ∷ []) c.new-kept.ensures.items) c.zero.ensures
