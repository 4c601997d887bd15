use Rattle.std.proofs.Common.{◌≡◌, [], ◌++◌, List, true, append-nil, sym, ap, ◌∙◌}
use Rattle.pl_event.specs.declared.fed.Fed.{Fed}
use Rattle.turn_worker.specs.Workers.{WorkerView, stream_of}
use Rattle.log_watch.specs.Feeding.{IsFedBy}
use Rattle.log_watch.proofs.feeding.Feeding.finish.Goals as goal

-- a worker that was fed its whole stream
fed_whole : (start now : WorkerView) → IsFedBy start now [] (stream_of start) → now ≡ record start { fed = stream_of start }
fed_whole start now by = by.same ∙ ap (λ (fed : List Fed). record start { fed = fed }) (sym (append-nil now.fed) ∙ by.all)

pub no_more-requires : goal.no_more-requires
no_more-requires g c =
    let start = c.requires.0 in
    let same = fed_whole start (g.W.TurnWorker.view c.hand_over.new.self.worker) (c.in_ok-hand_over.ensures.fed start (stream_of start) c.requires.1) in
    ap (λ (v : WorkerView). v.fed) same ∙ sym (ap stream_of same)

pub returns : goal.returns
returns g c start by =
    c.no_more.ensures
    ∙ ap (λ (v : WorkerView). record v { ended = true }) (fed_whole start (g.W.TurnWorker.view c.hand_over.new.self.worker) (c.in_ok-hand_over.ensures.fed start (stream_of start) by))
