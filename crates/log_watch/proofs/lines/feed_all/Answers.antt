use Rattle.std.proofs.Common.{rules, ◌≡◌, List, length, map, sym, ap, ◌∙◌, subst}
use Rattle.std.proofs.lemmas.List.{length-map}
use Rattle.atomic_table.proofs.Lists.{at_map}
use Rattle.turn_worker.specs.Workers.{WorkerView}
use Rattle.ring_feed.proofs.Pairs.{written_back}
use Rattle.log_watch.specs.Feeding.{AreFedUpTo}
use Rattle.log_watch.specs.declared.feeding.Feeding.{Feeding}
use Rattle.log_watch.proofs.FeedingLemmas.{first_fed}
use Rattle.log_watch.proofs.lines.feed_all.Goals as goal

pub pass_lines-requires-clause-fed : goal.pass_lines-requires-clause-fed
pass_lines-requires-clause-fed g c = (
  map g.W.TurnWorker.view c.args.workers.items,
  subst (AreFedUpTo (λ f. g.W.TurnWorker.view f.worker) (λ f. f.piece.items) c.args.log.now.lines (map g.W.TurnWorker.view c.args.workers.items) 0) (sym c.as_mut_slice.ensures.value)
      (first_fed (λ f. f.worker) g.W.TurnWorker.view (λ f. f.piece.items) c.args.log.now.lines c.args.workers.items c.in_ok-feedings.feedings.items c.requires.unfed c.in_ok-feedings.ensures.workers c.in_ok-feedings.ensures.pieces),
)

pub finished-requires : goal.finished-requires
finished-requires g c =
    let starts : List WorkerView = map g.W.TurnWorker.view c.args.workers.items in
    let fs : List (Feeding g.row.W.Denot g.row.W-Guard.Denot) = c.in_ok-feedings.feedings.items in
    let first = first_fed (λ f. f.worker) g.W.TurnWorker.view (λ f. f.piece.items) c.args.log.now.lines c.args.workers.items fs c.requires.unfed c.in_ok-feedings.ensures.workers c.in_ok-feedings.ensures.pieces in
    let last = c.in_ok-pass_lines.ensures starts (subst (AreFedUpTo (λ f. g.W.TurnWorker.view f.worker) (λ f. f.piece.items) c.args.log.now.lines starts 0) (sym c.as_mut_slice.ensures.value) first) in (
      starts,
      subst (AreFedUpTo (λ f. g.W.TurnWorker.view f.worker) (λ f. f.piece.items) c.args.log.now.lines starts (length c.args.log.now.lines))
          (sym (written_back c.in_ok-feedings.feedings.len fs c.pass_lines.new.feedings (search rules) (last.size ∙ sym first.size))) last,
    )

pub returns : goal.returns
returns g c =
    let starts : List WorkerView = map g.W.TurnWorker.view c.args.workers.items in
    let fs : List (Feeding g.row.W.Denot g.row.W-Guard.Denot) = c.in_ok-feedings.feedings.items in
    let first = first_fed (λ f. f.worker) g.W.TurnWorker.view (λ f. f.piece.items) c.args.log.now.lines c.args.workers.items fs c.requires.unfed c.in_ok-feedings.ensures.workers c.in_ok-feedings.ensures.pieces in
    let last = c.in_ok-pass_lines.ensures starts (subst (AreFedUpTo (λ f. g.W.TurnWorker.view f.worker) (λ f. f.piece.items) c.args.log.now.lines starts 0) (sym c.as_mut_slice.ensures.value) first) in
    let back = written_back c.in_ok-feedings.feedings.len fs c.pass_lines.new.feedings (search rules) (last.size ∙ sym first.size) in
    let whole = c.in_ok-fed.ensures starts (subst (AreFedUpTo (λ f. g.W.TurnWorker.view f.worker) (λ f. f.piece.items) c.args.log.now.lines starts (length c.args.log.now.lines)) (sym back) last) in
    record {
      size = whole.0 ∙ (ap length back ∙ (last.size ∙ length-map c.args.workers.items g.W.TurnWorker.view));
      each = λ k v w at_v at_w. whole.1 k (g.W.TurnWorker.view v) w (at_map g.W.TurnWorker.view c.args.workers.items k v at_v) at_w;
    }
