-- The workers of all harts before the first record, hart by hart.
use Rattle.std.proofs.Common.{◌≡◌, ℕ, zero, suc, ◌+◌, ◌<◌, List, [], ◌∷◌, ◌++◌, length, length-append, inl, inr, sym, ap, ◌∙◌, subst, arith}
use Rattle.std.specs.Prelude.{Contains}
use mathlib.Core.Option.{some, some-injective, some-ne-none}
use lib.ListN.{get_elem?}
use Rattle.atomic_table.specs.Seated.{TableId}
use Rattle.lifeguard.specs.Rules.{Rules}
use Rattle.order_core.specs.declared.course.Course.{Course}
use Rattle.order_core.specs.Course.{course_of}
use Rattle.order_core.proofs.Flatten.{at_append}
use Rattle.pl_event.specs.declared.log.Log.{Log}
use Rattle.pl_event.specs.declared.log.Line.{Line}
use Rattle.pl_event.specs.Feeds.{feds_of}
use Rattle.guard_table.specs.declared.view.View.{View}
use Rattle.guard_table.specs.Views.{first_view, fresh_view, made_seat}
use Rattle.log_plan.specs.Plans.{plan_of}
use Rattle.turn_worker.specs.Workers.{WorkerView, stream_of}
use Rattle.lifeguard_worker.specs.Workers.{first_worker}
use Rattle.log_watch.specs.Crews.{AreFirst}
use Rattle.log_watch.specs.Feeding.{AreUnfed}

-- the seat of a hart is as it would be made first
pub fresh_same : (h : ℕ) (v : View) (c : Course) → v.course ≡ c → fresh_view h v ≡ fresh_view h (first_view c)
fresh_same h v c e = λ i. fresh_view h (record (first_view c) { course = e i })

-- only harts below the next were made
pub made_below : (made : List ℕ) (h : ℕ) → ((x : ℕ) → Contains made x → x < h) → (x : ℕ) → Contains (h ∷ made) x → x < h + 1
made_below made h below x (zero, low, is) = let e : h ≡ x = is in omega arith
made_below made h below x (suc i, low, is) = let l : x < h = below x (i, (let m : suc i < suc (length made) = low in omega arith), is) in omega arith

-- these are workers at this table that have done nothing, for the first harts
pub record AreFirstUpTo {W : Type 0} (view : W → WorkerView) (rules : Rules) (table : TableId) (c : Course) (workers : List W) (n : ℕ) : Type 0 where
  pub size : length workers ≡ n
  pub each : (k : ℕ) (w : W) → get_elem? workers k ≡ some w → view w ≡ first_worker rules table (fresh_view k (first_view c))

module _ {W : Type 0} (view : W → WorkerView) (rules : Rules) (table : TableId) (c : Course) where
  pub first_more : (workers : List W) (n : ℕ) (w : W) (v : View) → AreFirstUpTo view rules table c workers n → v.course ≡ c → view w ≡ first_worker rules table (fresh_view n v)
      → AreFirstUpTo view rules table c (workers ++ w ∷ []) (n + 1)
  first_more workers n w v are same is = record {
    size = length-append workers (w ∷ []) ∙ ap (λ (z : ℕ). z + 1) are.size;
    each = λ k x at. elim (at_append workers (w ∷ []) k x at) [
      | inl old ↦ are.each k x old
      | inr new ↦ last k x new.0 new.1 new.2
    ];
  }
    where
      last : (k : ℕ) (x : W) (q : ℕ) → k ≡ length workers + q → get_elem? (w ∷ []) q ≡ some x → view x ≡ first_worker rules table (fresh_view k (first_view c))
      last k x zero e at = subst (λ (z : W). view z ≡ first_worker rules table (fresh_view k (first_view c))) (some-injective w x at)
          (is ∙ (ap (first_worker rules table) (fresh_same n v c same) ∙ ap (λ (z : ℕ). first_worker rules table (fresh_view z (first_view c))) (let s : length workers ≡ n = are.size in omega arith)))
      last k x (suc q) e at = absurd (some-ne-none x (sym at))

-- they were fed nothing, and their streams are those of the log
pub unfed : {W : Type 0} (view : W → WorkerView) (rules : Rules) (table : TableId) (log : Log) (workers : List W) → AreFirst view rules table (course_of (plan_of rules log)) workers → AreUnfed view log.lines workers
unfed view rules table log workers are k w at = (ap (λ (v : WorkerView). v.fed) (are.each k w at), ap stream_of (are.each k w at))
