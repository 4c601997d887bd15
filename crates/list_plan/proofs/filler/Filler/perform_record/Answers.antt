use Rattle.std.proofs.Common.{sym, ap, subst}
use Rattle.std.proofs.Math.Logic.{∥∥₁_map}
use Rattle.lifeguard.specs.Rules.{Rules}
use Rattle.list_plan.specs.inner.Fills.{words_of}
use Rattle.list_plan.specs.inner.Rooms.{HasRoom, RecordHasRoom}
use Rattle.list_plan.proofs.filler.Filler.perform_record.Goals as goal

pub stored_mask-mask-requires-clause-valid : goal.stored_mask-mask-requires-clause-valid
stored_mask-mask-requires-clause-valid g c = ∥∥₁_map c.requires (λ (r : RecordHasRoom (g.L.Lifeguard.rules c.args.monitor.now.guard) (words_of c.args.self.now) c.args.monitor.now.harts c.args.what.now).
    (subst (RecordHasRoom (g.L.Lifeguard.rules c.args.monitor.now.guard) (words_of c.args.self.now) c.args.monitor.now.harts) c.in-Event.is r).0.1)

pub perform-requires : goal.perform-requires
perform-requires g c = ∥∥₁_map c.requires (λ (r : RecordHasRoom (g.L.Lifeguard.rules c.args.monitor.now.guard) (words_of c.args.self.now) c.args.monitor.now.harts c.args.what.now).
    subst (λ (z : Rules). HasRoom z (words_of c.args.self.now) c.in-Event.event.kind) (ap g.L.Lifeguard.rules (sym c.guard.ensures))
    (subst (RecordHasRoom (g.L.Lifeguard.rules c.args.monitor.now.guard) (words_of c.args.self.now) c.args.monitor.now.harts) c.in-Event.is r).1)
