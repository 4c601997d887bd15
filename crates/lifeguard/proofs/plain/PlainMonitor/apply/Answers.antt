use Rattle.std.proofs.Common.{arith}
use Rattle.std.proofs.lemmas.Result.{on_ok_weaker}
use Rattle.lifeguard.proofs.PlainLemmas.{represents_next}
use Rattle.lifeguard.proofs.plain.PlainMonitor.apply.Goals as goal

pub returns-clause-stands : goal.returns-clause-stands
returns-clause-stands g c =
    on_ok_weaker c.apply.result (λ step pages events stands. represents_next (g.L.Lifeguard.rules c.args.self.now.guard) pages events c.args.event.now c.args.self.now.shadow c.apply.new.self (omega arith) step stands) c.apply.ensures.ok
