use Rattle.std.proofs.Common.{rules, ◌≡◌, ◌∷◌, [], ◌+◌, ◌++◌, ◌<◌, ℕ, List, length, drop, filter, append-nil, sym, ap, ◌∙◌, subst, arith}
use Rattle.std.proofs.Math.Seq.{drop-length}
use Rattle.std.proofs.lemmas.Iterator.Adapters.{YieldsList-from_vec}
use Rattle.std.proofs.lemmas.Iterator.Consumers.{YieldsList-end, YieldsList-turn}
use Rattle.std.proofs.lemmas.List.{length_push}
use mathlib.Core.Option.{some}
use lib.ListN.{get_elem?}
use Rattle.pl_event.specs.declared.fed.Fed.{Fed}
use Rattle.pl_event.specs.declared.log.Line.{Line}
use Rattle.pl_event.specs.Feeds.{feds_from, feds_of}
use Rattle.pl_event.specs.Numbers.{is_of}
use Rattle.turn_worker.specs.Workers.{WorkerView, stream_of}
use Rattle.ring_feed.proofs.Pairs.{at_here, map_self, pairs_more}
use Rattle.lifeguard_crew.proofs.Same.{at_place}
use Rattle.log_watch.specs.Feeding.{AreFedUpTo, IsFedBy, IsFedWhole}
use Rattle.log_watch.proofs.FeedingLemmas.{place_low}
use Rattle.log_watch.specs.declared.feeding.Feeding.{Feeding}
use Rattle.log_watch.proofs.lines.finished.Goals as goal

-- after the last line a worker has, with its piece, its whole stream
whole : {F : Type 0} (view : F → WorkerView) (piece : F → List Fed) (lines : List Line) (starts : List WorkerView) (fs : List F) → AreFedUpTo view piece lines starts (length lines) fs
    → (k : ℕ) (start : WorkerView) (f : F) → get_elem? starts k ≡ some start → get_elem? fs k ≡ some f → IsFedBy start (view f) (piece f) (stream_of start)
whole view piece lines starts fs are k start f first here =
    let told = are.fed k start f first here in
    let none : filter (λ (x : Fed). is_of k x.line) (feds_from lines (length lines) (drop (length lines) lines)) ≡ [] = ap (λ (z : List Line). filter (λ (x : Fed). is_of k x.line) (feds_from lines (length lines) z)) (drop-length lines) in
    subst (IsFedBy start (view f) (piece f)) (sym (append-nil told.0) ∙ (ap (λ (z : List Fed). told.0 ++ z) (sym none) ∙ (told.2 ∙ sym (are.streams k start first)))) told.1

pub finish-requires : goal.finish-requires
finish-requires g c =
    let all = YieldsList-from_vec c.args.feedings.items (search rules) (search rules) in
    let turn = YieldsList-turn all c.loop-feeding.yielded c.loop-feeding.feeding-iterator c.loop-feeding.yielded_by _ c.next.new.self c.in-Some.feeding c.in-Some.is c.next.ensures.steps in
    let are = c.requires.1 in
    let n : ℕ = length c.loop-feeding.yielded in
    let start = at_place c.requires.0 n (let s : length c.args.feedings.items ≡ length c.requires.0 = are.size in let l : n < length c.args.feedings.items = turn.0 in omega arith) in (
      start.0,
      whole (λ f. g.W.TurnWorker.view f.worker) (λ f. f.piece.items) c.args.lines.now c.requires.0 c.args.feedings.items are n start.0 c.in-Some.feeding start.1
          (at_here c.args.feedings.items n c.in-Some.feeding turn.0 turn.1),
    )

pub loop-feeding-preserved : goal.loop-feeding-preserved
loop-feeding-preserved g c =
    let o = c.loop-feeding.invariant in
    let more = c.in_ok-push.ensures.items in
    let Whole : Feeding g.row.W.Denot g.row.W-Guard.Denot → g.row.W.Denot → Type 0
    = λ f w. (start : WorkerView) → IsFedBy start (g.W.TurnWorker.view f.worker) f.piece.items (stream_of start) → IsFedWhole start (g.W.TurnWorker.view w) in (
      omega (arith, ap length more, length_push c.loop-feeding.workers.items c.in_ok-finish.field-0, length_push c.loop-feeding.yielded c.in-Some.feeding, o.0),
      subst (λ (z : List g.row.W.Denot). (k : ℕ) (f : Feeding g.row.W.Denot g.row.W-Guard.Denot) (w : g.row.W.Denot) → get_elem? (c.loop-feeding.yielded ++ c.in-Some.feeding ∷ []) k ≡ some f
          → get_elem? z k ≡ some w → Whole f w) (sym more)
          (pairs_more Whole c.loop-feeding.yielded c.loop-feeding.workers.items c.in-Some.feeding c.in_ok-finish.field-0 o.0 o.1 c.in_ok-finish.ensures),
    )

pub returns : goal.returns
returns g c starts are =
    let vec = YieldsList-from_vec c.args.feedings.items (search rules) (search rules) in
    let last = YieldsList-end vec c.loop-feeding.yielded c.loop-feeding.feeding-iterator c.loop-feeding.yielded_by _ c.next.new.self c.in-None.is c.next.ensures.steps in
    let all : c.loop-feeding.yielded ≡ c.args.feedings.items = sym (map_self c.loop-feeding.yielded) ∙ last.0 in
    let long : length c.loop-feeding.workers.items ≡ length c.args.feedings.items = c.loop-feeding.invariant.0 ∙ ap length all in (
      long,
      λ k start w first here.
          let f = at_place c.args.feedings.items k (let s : length c.args.feedings.items ≡ length starts = are.size in let l : k < length starts = place_low starts k start first in omega arith) in
          c.loop-feeding.invariant.1 k f.0 w (subst (λ z. get_elem? z k ≡ some f.0) (sym all) f.1) here start
          (whole (λ x. g.W.TurnWorker.view x.worker) (λ x. x.piece.items) c.args.lines.now starts c.args.feedings.items are k start f.0 first f.1),
    )
