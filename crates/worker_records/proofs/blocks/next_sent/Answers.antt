use Rattle.std.proofs.Common.{ℕ, find, sym, ap, ◌∙◌}
use Rattle.std.specs.Prelude.{Option}
use Rattle.lifeguard.specs.State.{nibble_at, span}
use Rattle.worker_records.specs.Blocks.{or_else}
use Rattle.worker_records.proofs.blocks.next_sent.Goals as goal

pub returns-in-None : goal.returns-in-None
returns-in-None g c bytes tells = c.first_undefined.ensures bytes tells
    ∙ ap (λ (z : Option ℕ). or_else z (find (λ a. (g.L.Lifeguard.rules c.args.guard).bad_value (nibble_at bytes a)) (span c.args.part.addr c.args.part.len))) (sym c.in-None.is)
