use Rattle.std.proofs.Common.{List, length, sym, ap, ◌∙◌}
use Rattle.std.proofs.lemmas.List.{length-take-le}
use Rattle.pl_event.specs.declared.fed.Fed.{Fed}
use Rattle.guard_table.specs.Seats.{seat_view}
use Rattle.lifeguard_worker.specs.Workers.{stream_of}
use Rattle.lifeguard_worker.proofs.FedLemmas.{length_feds}
use Rattle.lifeguard_worker.proofs.turns.WorkerTurnWorker.no_more.Goals as goal

pub invariant_of-self : goal.invariant_of-self
invariant_of-self g c =
    let w = c.args.self.now in
    let v = seat_view w.seat in
    record {
      is = record {
        run = w.is.run;
        kept = w.is.kept;
        progress = w.is.progress;
        forgotten = w.is.forgotten;
        follows = w.is.follows;
        inside = w.is.inside;
        within = w.is.within;
        few = w.is.few;
        whole = λ _. sym (length-take-le w.fed (stream_of v) w.is.within) ∙ (ap (λ (z : List Fed). length z) c.requires ∙ length_feds v.course.log.lines v.hart);
      };
    }
