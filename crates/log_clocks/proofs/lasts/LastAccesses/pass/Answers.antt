use Rattle.std.proofs.Common.{◌≡◌, ap, sym, ◌∙◌, subst}
use mathlib.Core.Option.{some-injective}
use Rattle.pl_event.specs.declared.log.Line.{Line}
use Rattle.pl_event.specs.declared.log.Record.{Record}
use Rattle.pl_event.specs.declared.log.Record.TheVariants as entry
use Rattle.pl_event.specs.Numbers.{hart_of}
use Rattle.pl_event.specs.Records.{IsRecord}
use Rattle.pl_event.specs.Runs.{IsSoundRecord}
use Rattle.log_clocks.proofs.Accesses.{still_last}
use Rattle.log_clocks.proofs.lasts.LastAccesses.pass.Goals as goal

pub take-requires : goal.take-requires
take-requires c = subst (λ (z : Record). IsSoundRecord 8 c.args.line.now.arcs z) c.in-Event.is c.requires.1

pub returns-in-Event-clause-ok : goal.returns-in-Event-clause-ok
returns-in-Event-clause-ok c size lines i has is = c.take.ensures.ok size lines i has
    (c.args.line.now, subst (λ (z : Record). IsRecord lines i (hart_of z) c.args.number c.args.line.now) c.in-Event.is is, c.in-Event.is)

pub returns-in-Notice-clause-ok : goal.returns-in-Notice-clause-ok
returns-in-Notice-clause-ok c size lines i has is = still_last size lines i c.args.self.now has
    (λ n event x. absurd (let same : x.0 ≡ c.args.line.now = some-injective x.0 c.args.line.now (sym x.1.at ∙ is.at) in
    let f : entry.Event event ≡ entry.Notice c.in-Notice.hart c.in-Notice.of = sym x.2 ∙ (ap (λ (z : Line). z.what) same ∙ c.in-Notice.is) in cc))
