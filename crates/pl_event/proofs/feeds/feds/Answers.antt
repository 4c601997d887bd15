use Rattle.std.proofs.Common.{Vec, Global, refl, sym, ap, ◌∙◌}
use Rattle.pl_event.specs.declared.fed.Fed.{Fed}
use Rattle.pl_event.proofs.Before.{told_none, room, got, told_own, told_other}
use Rattle.pl_event.proofs.feeds.feds.Goals.{then-record_hart-hart+in_ok-push, else-record_hart-hart}
use Rattle.pl_event.proofs.feeds.feds.Goals as goal

pub loop-at-init : goal.loop-at-init
loop-at-init c = record {
  heads = c.new-heads.ensures c.args.lines.now;
  told = told_none c.args.hart c.args.lines.now c.new-feds.result.items c.new-feds.ensures.items;
}

pub fed-requires-clause-hart : goal.fed-requires-clause-hart
fed-requires-clause-hart c = (room c.args.harts c.args.lines.now c.requires.flow c.requires.harts c.requires.few c.loop-at.heads c.loop-at.at c.get-line.result c.loop-at.invariant.heads (got c.args.lines.now c.loop-at.at c.get-line.result c.get-line.ensures)).0

pub fed-requires-clause-records : goal.fed-requires-clause-records
fed-requires-clause-records c = (room c.args.harts c.args.lines.now c.requires.flow c.requires.harts c.requires.few c.loop-at.heads c.loop-at.at c.get-line.result c.loop-at.invariant.heads (got c.args.lines.now c.loop-at.at c.get-line.result c.get-line.ensures)).1

pub fed-requires-clause-place : goal.fed-requires-clause-place
fed-requires-clause-place c = (room c.args.harts c.args.lines.now c.requires.flow c.requires.harts c.requires.few c.loop-at.heads c.loop-at.at c.get-line.result c.loop-at.invariant.heads (got c.args.lines.now c.loop-at.at c.get-line.result c.get-line.ensures)).2

pub fed-requires-clause-events : goal.fed-requires-clause-events
fed-requires-clause-events c = (room c.args.harts c.args.lines.now c.requires.flow c.requires.harts c.requires.few c.loop-at.heads c.loop-at.at c.get-line.result c.loop-at.invariant.heads (got c.args.lines.now c.loop-at.at c.get-line.result c.get-line.ensures)).3

pub pass-requires-clause-hart : goal.pass-requires-clause-hart
pass-requires-clause-hart c = (room c.args.harts c.args.lines.now c.requires.flow c.requires.harts c.requires.few c.loop-at.heads c.loop-at.at c.get-line.result c.loop-at.invariant.heads (got c.args.lines.now c.loop-at.at c.get-line.result c.get-line.ensures)).0

pub pass-requires-clause-records : goal.pass-requires-clause-records
pass-requires-clause-records c = (room c.args.harts c.args.lines.now c.requires.flow c.requires.harts c.requires.few c.loop-at.heads c.loop-at.at c.get-line.result c.loop-at.invariant.heads (got c.args.lines.now c.loop-at.at c.get-line.result c.get-line.ensures)).1

pub pass-requires-clause-place : goal.pass-requires-clause-place
pass-requires-clause-place c = (room c.args.harts c.args.lines.now c.requires.flow c.requires.harts c.requires.few c.loop-at.heads c.loop-at.at c.get-line.result c.loop-at.invariant.heads (got c.args.lines.now c.loop-at.at c.get-line.result c.get-line.ensures)).2

pub pass-requires-clause-events : goal.pass-requires-clause-events
pass-requires-clause-events c = (room c.args.harts c.args.lines.now c.requires.flow c.requires.harts c.requires.few c.loop-at.heads c.loop-at.at c.get-line.result c.loop-at.invariant.heads (got c.args.lines.now c.loop-at.at c.get-line.result c.get-line.ensures)).3

pub loop-at-preserved : goal.loop-at-preserved
loop-at-preserved c =
    let at = got c.args.lines.now c.loop-at.at c.get-line.result c.get-line.ensures in
    record {
      heads = c.pass.ensures c.args.harts c.args.lines.now c.loop-at.at c.requires.flow c.loop-at.invariant.heads (record { at = at; hart = refl; number = refl });
      told = elim c.if-record_hart-hart.branch [
        | then-record_hart-hart+in_ok-push w ↦ told_own c.args.hart c.args.lines.now c.loop-at.at c.get-line.result c.loop-at.feds.items c.if-record_hart-hart.feds.items _ w.fed.result (sym c.record_hart.ensures ∙ w.if-record_hart-hart.true) at (w.fed.ensures c.args.harts c.args.lines.now c.loop-at.at c.requires.flow c.loop-at.invariant.heads (record { at = at; hart = refl; number = refl })) c.loop-at.invariant.told (ap (λ (z : Vec Fed Global). z.items) w.feds-is ∙ w.in_ok-push.ensures.items)
        | else-record_hart-hart w ↦ told_other c.args.hart c.args.lines.now c.loop-at.at c.get-line.result c.loop-at.feds.items c.if-record_hart-hart.feds.items _ (λ e. w.if-record_hart-hart.false (c.record_hart.ensures ∙ e)) at c.loop-at.invariant.told (ap (λ (z : Vec Fed Global). z.items) w.feds-is)
      ];
    }
