-- What a worker is after it was fed.
use Rattle.std.proofs.Common.{◌≡◌, ℕ, ◌+◌, ◌-◌, ◌<◌, ◌≤◌, ◌++◌, Bool, List, drop, length, map, take, ap, sym, ◌∙◌, subst, arith}
use Rattle.std.proofs.lemmas.List.{length-map, length-take-le}
use Rattle.atomic_table.specs.Seated.{TableId}
use Rattle.pl_event.specs.declared.fed.Fed.{Fed}
use Rattle.lifeguard.specs.Rules.{KeepsLaws, Rules}
use Rattle.order_core.specs.Course.{length_of}
use Rattle.guard_table.specs.declared.view.View.{View}
use Rattle.turn_worker.specs.Workers.{IsNextFed}
use Rattle.worker_records.specs.declared.state.State.{State}
use Rattle.worker_records.specs.Places.{run_at}
use Rattle.worker_records.proofs.CountLemmas.{size_small}
use Rattle.lifeguard_worker.specs.Rows.{Item, item_of}
use Rattle.lifeguard_worker.specs.Workers.{Follows, IsWorker, items_of, stream_of, worker_view}
use Rattle.lifeguard_worker.proofs.FedLemmas.{fed_inside, items_next, length_feds, next_after}
use Rattle.lifeguard_worker.proofs.MoveLemmas.{is_kept}

-- its list grew, by records that were refused
pub worker_grown : (rules : Rules) (v : View) (s : State) (told before : ℕ) (stream grown : List Item) (fed : ℕ) (ended : Bool) → IsWorker rules v s told before stream fed ended → Follows v before grown → length stream ≤ length grown → IsWorker rules v s told before grown fed ended
worker_grown rules v s told before stream grown fed ended is follows more = record {
  run = is.run;
  kept = is.kept;
  progress = is.progress;
  forgotten = is.forgotten;
  follows = follows;
  inside = omega (arith, is.inside, more);
  within = is.within;
  few = is.few;
  whole = is.whole;
}

module _ (rules : Rules) (table : TableId) (v : View) (s : State) (told before : ℕ) (stream : List Item) (fed : ℕ) (ended : Bool) (is : IsWorker rules v s told before stream fed ended) (items : List Fed) (next : IsNextFed (worker_view rules table v s fed ended) items) where
  size : length (take fed (stream_of v)) ≡ fed
  size = length-take-le fed (stream_of v) is.within

  next_fed : take (fed + length items) (stream_of v) ≡ take fed (stream_of v) ++ items
  next_fed = subst (λ (n : ℕ). take (n + length items) (stream_of v) ≡ take fed (stream_of v) ++ items) size next

  inside : fed + length items ≤ length (stream_of v)
  inside = omega (arith, size, fed_inside (stream_of v) (take fed (stream_of v)) items next)

  -- they follow in its list
  pub next_kept : take (fed - before + length items) (drop before (items_of v)) ≡ take (fed - before) stream ++ map item_of items
  next_kept =
      let within : fed ≤ length (items_of v) = omega (arith, is.within, length-map (stream_of v) item_of) in
      ap (λ (n : ℕ). take (fed - before + n) (drop before (items_of v))) (sym (length-map items item_of))
      ∙ next_after (items_of v) stream before is.follows fed (map item_of items) (omega (arith, is.forgotten, is.few)) is.inside within (items_next (stream_of v) items fed next_fed)

  pub fed_small : KeepsLaws rules → fed + length items < 4294967295
  fed_small laws =
      let small : length_of v.course v.hart < 4294967295 = size_small (run_at rules v) (is_kept rules v s told before stream fed ended laws is).run v.hart in
      omega (arith, inside, length_feds v.course.log.lines v.hart, small)

  -- its list grew by all of them
  pub worker_fed : (grown : List Item) → Follows v before grown → fed - before + length items ≤ length grown → IsWorker rules v s told before grown (fed + length items) ended
  worker_fed grown follows all = record {
    run = is.run;
    kept = is.kept;
    progress = is.progress;
    forgotten = is.forgotten;
    follows = follows;
    inside = omega (arith, all);
    within = inside;
    few = omega (arith, is.few);
    whole = λ e. let was : fed ≡ length_of v.course v.hart = is.whole e in omega (arith, was, inside, length_feds v.course.log.lines v.hart);
  }
