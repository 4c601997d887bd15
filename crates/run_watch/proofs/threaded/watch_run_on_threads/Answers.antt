use Rattle.run_watch.proofs.threaded.watch_run_on_threads.Goals as goal

pub closed-requires-clause-ended : goal.closed-requires-clause-ended
closed-requires-clause-ended g c = record {
  workers = c.in_ok-monitor.field-0.workers.items;
  firsts = c.in_ok-monitor.ensures.firsts;
  finished = c.in_ok-finished.ensures.finished;
}
