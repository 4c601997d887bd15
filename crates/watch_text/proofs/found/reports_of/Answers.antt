use Rattle.std.proofs.Common.{List, sym, subst}
use Rattle.turn_worker.specs.declared.worker.HartResult.{HartResult}
use Rattle.lifeguard_crew.specs.Merges.{AreOfRun}
use Rattle.watch_text.proofs.Inside.{inside}
use Rattle.watch_text.proofs.found.reports_of.Goals as goal

pub returns : goal.returns
returns c rules log run watched =
    c.in_ok-reports.ensures.plain rules log (subst (λ (rs : List HartResult). AreOfRun rules log rs)
    (sym c.deref.ensures.value) (record {
      harts = inside log run;
      size = watched.harts;
      reports = λ k found at. (watched.results k found at).reports;
    }))
