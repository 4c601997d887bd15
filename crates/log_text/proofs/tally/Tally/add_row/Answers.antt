use Rattle.std.proofs.Common.{◌≡◌, ap, ◌∙◌, rules, arith}
use Rattle.pl_event.specs.Numbers.{hart_of}
use Rattle.log_text.proofs.RuleLemmas.{IsSound-from_broken}
use Rattle.log_text.proofs.AddedLines.{Keeps-added, Keeps-told, event_low, notice_low}
use Rattle.log_text.proofs.tally.Tally.add_row.Goals as goal

pub returns-in-Event-clause-keeps : goal.returns-in-Event-clause-keeps
returns-in-Event-clause-keeps c = λ before arcs keeps none.
    let old = c.args.self.now in
    let event = c.in-Event.event in
    let sound = rw c.in-Event.is at (IsSound-from_broken old.harts before c.args.what arcs none) in
    let own : c.record_hart.result ≡ event.hart = c.record_hart.ensures ∙ ap hart_of c.in-Event.is in
    let at : c.from-at.result ≡ event.hart = omega (arith, c.from-at.ensures, own, event_low old.harts before event arcs keeps.few sound) in
    rw c.in-Event.is
    (Keeps-added old c.add_kind.new.self before event arcs c.from-at.result keeps sound (search rules) (search rules) (search rules) at c.add_kind.ensures)

pub returns-in-Notice-clause-keeps : goal.returns-in-Notice-clause-keeps
returns-in-Notice-clause-keeps c = λ before arcs keeps none.
    let old = c.args.self.now in
    let of = c.in-Notice.of in
    let sound = rw c.in-Notice.is at (IsSound-from_broken old.harts before c.args.what arcs none) in
    let own : c.record_hart.result ≡ c.in-Notice.hart = c.record_hart.ensures ∙ ap hart_of c.in-Notice.is in
    let low = notice_low old.harts before c.in-Notice.hart of arcs keeps.few sound in
    let at : c.from-at.result ≡ c.in-Notice.hart = omega (arith, c.from-at.ensures, own, low.0) in
    let to : c.from-to.result ≡ of.hart = omega (arith, c.from-to.ensures, low.1) in
    rw c.in-Notice.is
    (Keeps-told old before c.in-Notice.hart of arcs c.from-at.result c.from-to.result c.max.result keeps sound (search rules) (search rules) (search rules) at to c.max.ensures)
