use Rattle.std.proofs.Common.{sym, ◌∙◌}
use Rattle.inherit_track.specs.States.{state_in}
use Rattle.worker_records.proofs.RegisterLemmas.{there}
use Rattle.worker_records.proofs.state.State.known_mask.Goals as goal

pub unreachable-requires : goal.unreachable-requires
unreachable-requires c =
    c.requires.nothing c.args.r c.in-Held.field-0
    (there (state_in c.args.self.now.tracker) c.args.r c.requires.register ∙ (sym c.state.ensures.state ∙ c.in-Held.is))
