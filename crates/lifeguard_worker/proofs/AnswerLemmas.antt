-- How a turn of one record ends.
use Rattle.std.proofs.Common.{◌≡◌, ◌≢◌, ℕ, ◌+◌, ◌*◌, ◌<◌, ◌≤◌, Bool, List, Option, Some, length, take, refl, sym, ap, ◌∙◌, subst, arith, lt_of_not-le}
use Rattle.std.specs.Prelude.{◌-◌, slice_index}
use mathlib.Core.Logic.{dite}
use native.Mathlib.Decide.{dec_le}
use Rattle.std.proofs.lemmas.List.{length-take-le}
use Rattle.atomic_table.specs.Seated.{TableId}
use Rattle.pl_event.specs.Feeds.{feds_of}
use Rattle.pl_event.specs.Needs.{need_of, needs_of}
use Rattle.lifeguard.specs.Rules.{Rules}
use Rattle.order_core.specs.declared.course.Course.{Course}
use Rattle.order_core.specs.Core.{IsCursor, IsPassed}
use Rattle.order_core.specs.Course.{course_of}
use Rattle.order_core.proofs.Known.{Known, known}
use Rattle.guard_table.specs.declared.view.View.{View}
use Rattle.guard_table.specs.Views.{advertised}
use Rattle.turn_worker.specs.declared.worker.Turn.{Turn}
use Rattle.turn_worker.specs.declared.worker.Turn.TheVariants.{Moved, Waiting, Dry, Done, NoMemory}
use Rattle.turn_worker.specs.Turns.{IsAnswer, IsLaterBy, IsUsedUp, IsWaiting}
use Rattle.turn_worker.specs.Workers.{WorkerView}
use Rattle.worker_laws.specs.Runs.{Run}
use Rattle.worker_laws.proofs.Turning.{may_advertise}
use Rattle.worker_records.specs.declared.state.State.{State}
use Rattle.worker_records.specs.Places.{run_at}
use Rattle.worker_records.specs.States.{IsKept, IsReady, parts_of}
use Rattle.lifeguard_worker.specs.declared.needs.Short.{Short}
use Rattle.lifeguard_worker.specs.Turns.{HasLooked, HasSeenBelow, IsShort}
use Rattle.lifeguard_worker.specs.Rows.{Item}
use Rattle.lifeguard_worker.specs.Workers.{IsWorker, stream_of, worker_view}
use Rattle.lifeguard_worker.proofs.LookLemmas.{need_at}
use Rattle.lifeguard_worker.proofs.MoveLemmas.{Moves, met_next, moves_looked, moves_then, moves_told, next_within, worker_then}

module _ (rules : Rules) (table : TableId) (w : View) (t : State) (told before : ℕ) (stream : List Item) (fed : ℕ) (ended : Bool) (is : IsWorker rules w t told before stream fed ended) (all : w.progress ≡ t.taken) where
  size : length (take fed (stream_of w)) ≡ fed
  size = length-take-le fed (stream_of w) is.within

  pub used_up : t.taken ≡ fed → IsUsedUp (worker_view rules table w t fed ended)
  used_up e = record { all = e ∙ sym size; told = all }

  module _ (kept : IsKept rules w t) (left : t.taken < fed) (v0 v : View) (short : Short) (is_short : IsShort (needs_of w.course.log.lines w.hart (t.taken + 1)) v0 v short) (seen : w.seen ≡ v.seen) (learnt : w.learnt ≡ v.learnt) where
    abbrev p : Run
    p = run_at rules w

    k : Known (course_of p.plan)
    k = known (course_of p.plan) kept.run.lawful

    needs : need_of w.course.log.lines short.hart w.hart (t.taken + 1) ≡ Some short.need
    needs = sym (need_at w.course.log.lines w.hart (t.taken + 1) short.hart is_short.inside) ∙ is_short.need

    loaded : slice_index w.seen short.hart ≡ short.seen
    loaded = ap (λ (z : List ℕ). slice_index z short.hart) seen ∙ is_short.loaded

    unseen : slice_index w.seen short.hart < short.need
    unseen = let a : slice_index w.seen short.hart ≡ short.seen = loaded in let b : short.seen < short.need = is_short.unseen in omega arith

    passed : IsPassed w.course w.written (slice_index w.seen) w.hart t.taken
    passed = subst (λ (c : Course). IsPassed c w.written (slice_index w.seen) w.hart t.taken) (sym is.run.planned)
        (may_advertise p kept.run k w.hart w t.taken (parts_of t) kept.kept t.taken (omega arith))

    within : (m : ℕ) → IsPassed w.course w.written (slice_index w.seen) w.hart m → m ≤ t.taken
    within m more = dite (dec_le m t.taken) (λ le. le)
        (λ no. absurd (let lt : t.taken < m = lt_of_not-le no in
        let a : short.need ≤ slice_index w.seen short.hart = more.1 short.hart short.need (t.taken + 1) needs (omega arith) in
        let b : slice_index w.seen short.hart < short.need = unseen in omega arith))

    cursor : IsCursor w.course w.written (slice_index w.seen) w.hart t.taken
    cursor = record { passed = passed; most = within }

    pub waiting : IsWaiting (worker_view rules table w t fed ended) short.hart short.need short.seen
    waiting = record {
      left = subst (λ (n : ℕ). t.taken < n) (sym size) left;
      told = all;
      waits = record {
        told = subst (λ (n : ℕ). IsCursor w.course w.written (slice_index w.seen) w.hart n) (sym all) cursor;
        needs = subst (λ (n : ℕ). need_of w.course.log.lines short.hart w.hart (n + 1) ≡ Some short.need) (sym all) needs;
        unseen = unseen;
      };
      loaded = loaded;
      learnt = subst (λ (z : List ℕ). slice_index z short.hart ≤ short.seen) (sym learnt) is_short.learnt;
      lowest = λ u need lt e. subst (λ (z : List ℕ). need ≤ slice_index z u) (sym seen)
          (is_short.lowest u need lt (need_at w.course.log.lines w.hart (t.taken + 1) u (let a : short.hart < 8 = is_short.inside in let b : u < short.hart = lt in omega arith) ∙ e));
    }

-- ---- within a turn

module _ (rules : Rules) (table table' : TableId) (v v1 v2 : View) (s t : State) (told before : ℕ) (stream : List Item) (fed : ℕ) (ended : Bool) (is : IsWorker rules v s told before stream fed ended) (left : s.taken < fed) (looked : HasLooked v v1) where
  course : v1.course ≡ v.course
  course = ap (λ (z : View). z.course) looked.same

  -- after looks of which one found too little, all that is taken is told
  pub waits_then : (upto : ℕ) → upto ≡ s.taken → v2 ≡ advertised upto v1 → IsKept rules v2 t → t.taken ≡ s.taken → (needs : List (Option ℕ)) → needs ≡ needs_of v.course.log.lines v.hart (s.taken + 1) → (short : Short) → IsShort needs v v1 short
      → IsAnswer 1 (worker_view rules table v s fed ended) (worker_view rules table' v2 t fed ended) (Waiting short.hart short.need short.seen)
  waits_then upto all view kept taken needs needs_is short is_short =
      let shown : v1.progress ≡ told = ap (λ (z : View). z.progress) looked.same ∙ is.progress in
      let low : v.progress ≤ s.taken = is.kept.taken.told in
      let moves : Moves v v2 = moves_then v v1 v2 (moves_looked v v1 looked) (moves_told v1 v2 upto view (omega (arith, shown, all, low, is.progress))) in
      let told_all : v2.progress ≡ t.taken = ap (λ (z : View). z.progress) view ∙ (all ∙ sym taken) in
      let few : t.taken ≤ fed = omega (arith, taken, left) in
      let now : IsWorker rules v2 t t.taken before stream fed ended = worker_then rules v v2 s t told t.taken before stream fed ended is moves kept told_all (omega (arith, taken)) few in
      let same : needs ≡ needs_of v2.course.log.lines v2.hart (t.taken + 1) = needs_is ∙ (ap (λ (n : ℕ). needs_of v.course.log.lines v.hart (n + 1)) (sym taken) ∙ ap (λ (z : View). needs_of z.course.log.lines z.hart (t.taken + 1)) (sym moves.same)) in (
        (omega (arith, taken)),
        (let a : slice_index v.looks short.hart < slice_index v1.looks short.hart = is_short.looked in
            subst (λ (z : View). slice_index v.looks short.hart < slice_index z.looks short.hart) (sym view) a),
        waiting rules table' v2 t t.taken before stream fed ended now told_all kept (omega (arith, taken, left)) v v1 short
            (subst (λ (z : List (Option ℕ)). IsShort z v v1 short) same is_short)
            (ap (λ (z : View). z.seen) view) (ap (λ (z : View). z.learnt) view),
      )

  -- after looks that found enough, the next record may be taken
  pub ready_then : (upto : ℕ) → v2 ≡ advertised upto v1 → IsKept rules v2 t → t.taken ≡ s.taken → s.taken + 1 ≤ upto + 64 → (needs : List (Option ℕ)) → needs ≡ needs_of v.course.log.lines v.hart (s.taken + 1) → HasSeenBelow needs v1 8 → IsReady rules v2 t
  ready_then upto view kept taken near needs needs_is below =
      let all : v2.course ≡ v.course = ap (λ (z : View). z.course) view ∙ course in
      let hart : v2.hart ≡ v.hart = ap (λ (z : View). z.hart) view ∙ ap (λ (z : View). z.hart) looked.same in
      let same : needs ≡ needs_of v2.course.log.lines v2.hart (t.taken + 1) = needs_is ∙ (ap (λ (n : ℕ). needs_of v.course.log.lines v.hart (n + 1)) (sym taken) ∙ (ap (λ (z : Course). needs_of z.log.lines v.hart (t.taken + 1)) (sym all) ∙ ap (λ (z : ℕ). needs_of v2.course.log.lines z (t.taken + 1)) (sym hart))) in
      let within : fed ≤ length (stream_of v2) = subst (λ (z : Course). fed ≤ length (feds_of v2.hart z.log.lines)) (sym all) (subst (λ (h : ℕ). fed ≤ length (feds_of h v.course.log.lines)) (sym hart) is.within) in
      let k = known (course_of (run_at rules v2).plan) kept.run.lawful in
      record {
        run = kept.run;
        kept = kept.kept;
        next = record {
          within = next_within rules v2 fed t.taken within (omega (arith, taken, left));
          met = met_next (course_of (run_at rules v2).plan) k v2 v2.hart t.taken kept.kept.taken.met
              (subst (λ (z : List (Option ℕ)). HasSeenBelow z v2 8) same (subst (λ (z : View). HasSeenBelow needs z 8) (sym view) below));
          near = (let e : v2.progress ≡ upto = ap (λ (z : View). z.progress) view in omega (arith, e, taken, near));
        };
      }

-- ---- turns of several records

pub later_none : (v : WorkerView) → IsLaterBy 0 v v
later_none v = record {
  same = refl;
  seat = refl;
  taken = omega arith;
  few = omega arith;
  written = omega arith;
  progress = omega arith;
  seen = λ u. omega arith;
  looks = λ u. omega arith;
  spare = omega arith;
}

pub later_more : (a b : ℕ) (u v w : WorkerView) → IsLaterBy a u v → IsLaterBy b v w → IsLaterBy (a + b) u w
later_more a b u v w x y = record {
  same = y.same ∙ ap (λ (z : WorkerView). record z { seat = w.seat; taken = w.taken; spare = w.spare }) x.same;
  seat = y.seat ∙ ap (λ (z : View). record z { written = w.seat.written; progress = w.seat.progress; seen = w.seat.seen; looks = w.seat.looks }) x.seat;
  taken = omega (arith, x.taken, y.taken);
  few = omega (arith, x.few, y.few);
  written = omega (arith, x.written, y.written);
  progress = omega (arith, x.progress, y.progress);
  seen = λ t. (let d : slice_index u.seat.seen t ≤ slice_index v.seat.seen t = x.seen t in let e : slice_index v.seat.seen t ≤ slice_index w.seat.seen t = y.seen t in omega arith);
  looks = λ t. (let d : slice_index u.seat.looks t ≤ slice_index v.seat.looks t = x.looks t in let e : slice_index v.seat.looks t ≤ slice_index w.seat.looks t = y.looks t in omega arith);
  spare = omega (arith, x.spare, y.spare, x.taken, y.taken);
}

-- an answer to a turn of one record, after i others
pub answer_last : (n i : ℕ) (u v w : WorkerView) (a : Turn) → a ≢ Moved → IsLaterBy i u v → v.taken ≡ u.taken + i → i < n → IsAnswer 1 v w a → IsAnswer n u w a
answer_last n i u v w Moved other later taken lt is = absurd (other refl)
answer_last n i u v w (Waiting h need seen) other later taken lt is = (
  (let a : w.taken < v.taken + 1 = is.0 in omega arith),
  (let a : slice_index v.seat.looks h < slice_index w.seat.looks h = is.1 in let b : slice_index u.seat.looks h ≤ slice_index v.seat.looks h = later.looks h in omega arith),
  is.2,
)
answer_last n i u v w Dry other later taken lt is = ((let a : w.taken < v.taken + 1 = is.0 in omega arith), is.1, is.2)
answer_last n i u v w Done other later taken lt is = ((let a : w.taken < v.taken + 1 = is.0 in omega arith), is.1)
answer_last n i u v w NoMemory other later taken lt is = (
  (let a : w.taken < v.taken + 1 = is.0 in omega arith),
  (let a : v.spare < 3 * 1 = is.1 in let b : u.spare ≤ v.spare + 3 * (v.taken - u.taken) = later.spare in omega arith),
)

pub later_less : (a n : ℕ) (v w : WorkerView) → a ≤ n → IsLaterBy a v w → IsLaterBy n v w
later_less a n v w le x = record {
  same = x.same;
  seat = x.seat;
  taken = x.taken;
  few = omega (arith, le, x.few);
  written = x.written;
  progress = x.progress;
  seen = x.seen;
  looks = x.looks;
  spare = x.spare;
}

-- the steps counted, before and after one more turn
pub steps_more : (i : ℕ) (u v w : WorkerView) (first before after : ℕ) → IsLaterBy i u v → before + u.steps u.taken ≡ first + u.steps v.taken → after + v.steps v.taken ≡ before + v.steps w.taken → after + u.steps u.taken ≡ first + u.steps w.taken
steps_more i u v w first before after later x y =
    let same : v.steps ≡ u.steps = ap (λ (z : WorkerView). z.steps) later.same in
    let z : after + u.steps v.taken ≡ before + u.steps w.taken = subst (λ (f : ℕ → ℕ). after + f v.taken ≡ before + f w.taken) same y in
    omega (arith, x, z)
