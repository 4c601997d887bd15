-- What the parts of a turn do to a worker.
use Rattle.std.proofs.Common.{◌≡◌, ℕ, ◌+◌, ◌-◌, ◌*◌, ◌<◌, ◌≤◌, Bool, true, false, List, [], ◌∷◌, Some, length, take, refl, sym, ap, ◌∙◌, subst, arith}
use Rattle.std.specs.Prelude.{slice_get, slice_index}
use Rattle.std.proofs.lemmas.List.{length-map, length-take-le}
use mathlib.Core.Logic.{dite}
use native.Mathlib.Decide.{ℕ_discrete}
use Rattle.atomic_table.specs.Seated.{TableId}
use Rattle.pl_event.specs.declared.fed.Fed.{Fed}
use Rattle.pl_event.specs.declared.log.Line.{Line}
use Rattle.pl_event.specs.Feeds.{fed_at}
use Rattle.pl_event.specs.Needs.{need_of, needs_of}
use Rattle.pl_event.specs.Records.{records_before, IsRecord}
use Rattle.lifeguard.specs.Rules.{KeepsLaws, Rules}
use Rattle.order_core.specs.declared.course.Course.{Course}
use Rattle.order_core.specs.Core.{IsMet}
use Rattle.order_core.specs.Course.{Planned, course_of}
use Rattle.order_core.specs.Lawful.{IsLawful}
use Rattle.order_core.proofs.Known.{Known, known}
use Rattle.guard_table.specs.declared.seats.GuardSeat.{GuardSeat}
use Rattle.guard_table.specs.declared.seats.Monitor.{Monitor}
use Rattle.guard_table.specs.declared.view.View.{View}
use Rattle.guard_table.specs.Seats.{IsSeatOf, seat_view}
use Rattle.guard_table.specs.Views.{advertised, learnt_from}
use Rattle.log_plan.specs.Plans.{plan_of}
use Rattle.turn_worker.specs.Turns.{IsLaterBy}
use Rattle.worker_laws.specs.Folds.{steps_at}
use Rattle.worker_laws.specs.Kept.{Kept, Parts, first_parts}
use Rattle.worker_laws.specs.Runs.{size}
use Rattle.worker_laws.proofs.Ending.{kept_first}
use Rattle.worker_laws.proofs.Feeding.{fed_record, fed_within}
use Rattle.worker_laws.proofs.Keeping.{some_is}
use Rattle.worker_laws.proofs.PlanRun.{log_is_run}
use Rattle.worker_laws.proofs.Turning.{kept_learnt}
use Rattle.worker_records.specs.declared.state.State.{State}
use Rattle.worker_records.specs.Accesses.{HasWritten}
use Rattle.worker_records.specs.Places.{IsAt, run_at}
use Rattle.worker_records.specs.States.{IsKept, parts_of, spare}
use Rattle.lifeguard_worker.specs.Turns.{HasLooked, HasSeenBelow}
use Rattle.lifeguard_worker.specs.declared.rows.Entry.{Entry}
use Rattle.lifeguard_worker.specs.Rows.{Item, entry_of, item_of}
use Rattle.lifeguard_worker.specs.Workers.{IsOfRun, IsWorker, items_of, stream_of, worker_view}
use Rattle.lifeguard_worker.proofs.FedLemmas.{at_taken, item_at}
use Rattle.lifeguard_worker.proofs.LookLemmas.{kept_looks, need_at}

-- ---- the seat

-- the hart has written, told and looked, and nothing else
pub record Moves (v w : View) : Type 0 where
  pub same : w ≡ record v { written = w.written; progress = w.progress; seen = w.seen; looks = w.looks }
  pub written : v.written ≤ w.written
  pub progress : v.progress ≤ w.progress
  pub seen : (u : ℕ) → slice_index v.seen u ≤ slice_index w.seen u
  pub looks : (u : ℕ) → slice_index v.looks u ≤ slice_index w.looks u

le_refl : (n : ℕ) → n ≤ n
le_refl n = omega arith

pub moves_looked : (v w : View) → HasLooked v w → Moves v w
moves_looked v w looked = subst (λ (z : View). Moves v z) (sym looked.same) (record {
  same = refl;
  written = le_refl v.written;
  progress = le_refl v.progress;
  seen = looked.seen;
  looks = looked.looks;
})

pub moves_told : (v w : View) (n : ℕ) → w ≡ advertised n v → v.progress ≤ n → Moves v w
moves_told v w n e le = subst (λ (z : View). Moves v z) (sym e) (record {
  same = refl;
  written = le_refl v.written;
  progress = le;
  seen = λ u. le_refl (slice_index v.seen u);
  looks = λ u. le_refl (slice_index v.looks u);
})

pub moves_written : (v w : View) → HasWritten v w → Moves v w
moves_written v w written = subst (λ (z : View). Moves v z) (sym written.same) (record {
  same = refl;
  written = written.more;
  progress = le_refl v.progress;
  seen = λ u. le_refl (slice_index v.seen u);
  looks = λ u. le_refl (slice_index v.looks u);
})

pub moves_then : (u v w : View) → Moves u v → Moves v w → Moves u w
moves_then u v w a b = record {
  same = b.same ∙ ap (λ (z : View). record z { written = w.written; progress = w.progress; seen = w.seen; looks = w.looks }) a.same;
  written = omega (arith, a.written, b.written);
  progress = omega (arith, a.progress, b.progress);
  seen = λ t. (let x : slice_index u.seen t ≤ slice_index v.seen t = a.seen t in let y : slice_index v.seen t ≤ slice_index w.seen t = b.seen t in omega arith);
  looks = λ t. (let x : slice_index u.looks t ≤ slice_index v.looks t = a.looks t in let y : slice_index v.looks t ≤ slice_index w.looks t = b.looks t in omega arith);
}

pub at_then : {P : Type 0} (planned : P → Planned) (m : Monitor P) (rules : Rules) (seat seat' : GuardSeat) → IsAt planned m rules seat → IsSeatOf planned m seat' → Moves (seat_view seat) (seat_view seat') → IsAt planned m rules seat'
at_then planned m rules seat seat' at of moves = record { of = of; plan = at.plan ∙ ap (λ (z : View). plan_of rules z.course.log) (sym moves.same) }

pub steps_then : (rules : Rules) (v w : View) → Moves v w → steps_at (run_at rules w) w.hart ≡ steps_at (run_at rules v) v.hart
steps_then rules v w moves = ap (λ (z : View). steps_at (run_at rules z) z.hart) moves.same

-- ---- what a worker keeps

pub is_kept : (rules : Rules) (v : View) (s : State) (told before : ℕ) (stream : List Item) (fed : ℕ) (ended : Bool) → KeepsLaws rules → IsWorker rules v s told before stream fed ended → IsKept rules v s
is_kept rules v s told before stream fed ended laws is = record {
  run = log_is_run rules v.course.log laws (subst (λ (c : Course). ∥ IsLawful c ∥₁) is.run.planned is.run.lawful);
  kept = is.kept;
}

pub kept_at : (rules : Rules) (v w : View) (s : State) → Moves v w → IsKept rules v s → Kept (run_at rules v) v.hart w s.taken (parts_of s) → IsKept rules w s
kept_at rules v w s moves is kept = subst (λ (z : View). IsKept rules z s) (sym moves.same)
    (record { run = is.run; kept = subst (λ (z : View). Kept (run_at rules v) v.hart z s.taken (parts_of s)) moves.same kept })

pub same_parts : (s t : State) → t ≡ record s { reports = t.reports } → t.reports.items ≡ s.reports.items → parts_of t ≡ parts_of s
same_parts s t others items = ap parts_of others ∙ ap (λ (z : _). record (parts_of s) { reports = z }) items

pub worker_then : (rules : Rules) (v w : View) (s t : State) (told told' before : ℕ) (stream : List Item) (fed : ℕ) (ended : Bool) → IsWorker rules v s told before stream fed ended → Moves v w → IsKept rules w t → w.progress ≡ told' → s.taken ≤ t.taken → t.taken ≤ fed
    → IsWorker rules w t told' before stream fed ended
worker_then rules v w s t told told' before stream fed ended is moves kept shown up few = subst (λ (z : View). IsWorker rules z t told' before stream fed ended) (sym moves.same)
    (record {
      run = record { lawful = is.run.lawful; planned = is.run.planned };
      kept = subst (λ (z : View). Kept (run_at rules z) z.hart z t.taken (parts_of t)) moves.same kept.kept;
      progress = shown;
      forgotten = omega (arith, up, is.forgotten);
      follows = is.follows;
      inside = is.inside;
      within = is.within;
      few = few;
      whole = is.whole;
    })

pub later_then : (rules : Rules) (table table' : TableId) (v w : View) (s t : State) (fed : ℕ) (ended : Bool) (n : ℕ) → table' ≡ table → Moves v w → s.taken ≤ t.taken → t.taken ≤ s.taken + n → spare s ≤ spare t + 3 * (t.taken - s.taken)
    → IsLaterBy n (worker_view rules table v s fed ended) (worker_view rules table' w t fed ended)
later_then rules table table' v w s t fed ended n e moves up few room = subst (λ (z : TableId). IsLaterBy n (worker_view rules table v s fed ended) (worker_view rules z w t fed ended)) (sym e)
    (record {
      same = ap (λ (z : View). record (worker_view rules table z t fed ended) { seat = w }) moves.same;
      seat = moves.same;
      taken = up;
      few = few;
      written = moves.written;
      progress = moves.progress;
      seen = moves.seen;
      looks = moves.looks;
      spare = room;
    })

-- ---- the next record

-- the first records of a stream, which are there
first_of : (v : View) (m : ℕ) → m ≤ length (stream_of v) → take (length (take m (stream_of v))) (stream_of v) ≡ take m (stream_of v)
first_of v m le = ap (λ (n : ℕ). take n (stream_of v)) (length-take-le m (stream_of v) le)

pub next_fed : (rules : Rules) (v : View) (s : State) (told before : ℕ) (stream : List Item) (fed : ℕ) (ended : Bool) → IsWorker rules v s told before stream fed ended → s.taken < fed → (next : Item) → slice_get stream (s.taken - before) ≡ Some next
    → (i : ℕ) × (line : Line) × IsRecord v.course.log.lines i v.hart (s.taken + 1) line × (next ≡ item_of (fed_at v.course.log.lines i line))
next_fed rules v s told before stream fed ended is left next got =
    let whole : List Fed = stream_of v in
    let size : length (take fed whole) ≡ fed = length-take-le fed whole is.within in
    let within : fed ≤ length (items_of v) = omega (arith, is.within, length-map whole item_of) in
    let t = fed_record (run_at rules v) v.hart (take fed whole) (first_of v fed is.within) s.taken (omega (arith, size, left)) in (
      t.0,
      t.1,
      t.2,
      some_is next (item_of (fed_at v.course.log.lines t.0 t.1))
          (sym (at_taken (items_of v) stream before is.follows s.taken fed is.forgotten left is.inside within next got)
          ∙ item_at whole fed s.taken (fed_at v.course.log.lines t.0 t.1) t.3),
    )

pub next_within : (rules : Rules) (v : View) (fed n : ℕ) → fed ≤ length (stream_of v) → n < fed → n + 1 ≤ size (run_at rules v) v.hart
next_within rules v fed n within lt =
    let size : length (take fed (stream_of v)) ≡ fed = length-take-le fed (stream_of v) within in
    fed_within (run_at rules v) v.hart (take fed (stream_of v)) (first_of v fed within) n (omega (arith, size, lt))

pub fed_needs : (lines : List Line) (h i m : ℕ) (line : Line) → IsRecord lines i h m line → (fed : Item) → fed ≡ item_of (fed_at lines i line) → fed.needs ≡ needs_of lines h m
fed_needs lines h i m line is fed e = ap (λ (f : Item). f.needs) e ∙ (ap (λ (z : ℕ). needs_of lines z (records_before z lines i + 1)) is.hart ∙ ap (needs_of lines h) is.number)

pub met_next : (c : Course) → Known c → (w : View) (h n : ℕ) → IsMet c (slice_index w.seen) h n → HasSeenBelow (needs_of c.log.lines h (n + 1)) w 8 → IsMet c (slice_index w.seen) h (n + 1)
met_next c k w h n met below u need j is le = dite (ℕ_discrete j (n + 1))
    (λ e. let low : u < c.log.harts = k.needs u need h j is in let eight : c.log.harts ≤ 8 = k.harts in
    below u need (omega arith) (need_at c.log.lines h (n + 1) u (omega arith) ∙ subst (λ (z : ℕ). need_of c.log.lines u h z ≡ Some need) e is))
    (λ ne. met u need j is (let o : j ≡ n + 1 → ⊥ = ne in omega arith))

-- a record that is fed, as the next one
abbrev pub IsFedNext : View → ℕ → Entry → Type 0
IsFedNext v n fed = (i : ℕ) × (line : Line) × IsRecord v.course.log.lines i v.hart (n + 1) line × (fed ≡ entry_of (fed_at v.course.log.lines i line))

pub fed_then : (v w : View) (n n' : ℕ) (fed : Entry) → Moves v w → n' ≡ n → IsFedNext v n fed → IsFedNext w n' fed
fed_then v w n n' fed moves e is = subst (λ (z : View). IsFedNext z n' fed) (sym moves.same) (subst (λ (k : ℕ). IsFedNext v k fed) (sym e) is)

-- after room was made for reports
pub room_kept : (rules : Rules) (v w : View) (s t : State) (told before : ℕ) (stream : List Item) (fed : ℕ) (ended : Bool) → KeepsLaws rules → IsWorker rules v s told before stream fed ended → HasLooked v w
    → t ≡ record s { reports = t.reports } → t.reports.items ≡ s.reports.items → IsKept rules w t
room_kept rules v w s t told before stream fed ended laws is looked others items =
    let same : t.taken ≡ s.taken = ap (λ (z : State). z.taken) others in
    kept_at rules v w t (moves_looked v w looked) (record {
      run = (is_kept rules v s told before stream fed ended laws is).run;
      kept = subst (λ (z : Parts). Kept (run_at rules v) v.hart v t.taken z) (sym (same_parts s t others items)) (subst (λ (n : ℕ). Kept (run_at rules v) v.hart v n (parts_of s)) (sym same) is.kept);
    })
    (subst (λ (z : Parts). Kept (run_at rules v) v.hart w t.taken z) (sym (same_parts s t others items)) (subst (λ (n : ℕ). Kept (run_at rules v) v.hart w n (parts_of s)) (sym same)
    (kept_looks (run_at rules v) v.hart v w s.taken (parts_of s) looked is.kept)))

pub looked_kept : (rules : Rules) (v w : View) (s : State) (told before : ℕ) (stream : List Item) (fed : ℕ) (ended : Bool) → KeepsLaws rules → IsWorker rules v s told before stream fed ended → HasLooked v w → IsKept rules w s
looked_kept rules v w s told before stream fed ended laws is looked =
    kept_at rules v w s (moves_looked v w looked) (is_kept rules v s told before stream fed ended laws is) (kept_looks (run_at rules v) v.hart v w s.taken (parts_of s) looked is.kept)

-- a note is learnt
pub worker_learnt : (rules : Rules) (v : View) (s : State) (told before : ℕ) (stream : List Item) (fed : ℕ) (ended : Bool) → KeepsLaws rules → IsWorker rules v s told before stream fed ended → (note : View) → IsWorker rules (learnt_from note v) s told before stream fed ended
worker_learnt rules v s told before stream fed ended laws is note =
    let run = (is_kept rules v s told before stream fed ended laws is).run in
    record {
      run = record { lawful = is.run.lawful; planned = is.run.planned };
      kept = kept_learnt (run_at rules v) run (known (course_of (run_at rules v).plan) run.lawful) v.hart v s.taken (parts_of s) is.kept note;
      progress = is.progress;
      forgotten = is.forgotten;
      follows = is.follows;
      inside = is.inside;
      within = is.within;
      few = is.few;
      whole = is.whole;
    }

-- at the start
pub worker_first : (rules : Rules) (v : View) (s : State) (stream : List Item) → KeepsLaws rules → IsOfRun rules v → v.written ≡ 0 → v.progress ≡ 0 → s.taken ≡ 0 → parts_of s ≡ first_parts → stream ≡ [] → IsWorker rules v s 0 0 stream 0 false
worker_first rules v s stream laws of written progress taken parts none =
    let run = log_is_run rules v.course.log laws (subst (λ (c : Course). ∥ IsLawful c ∥₁) of.planned of.lawful) in
    record {
      run = of;
      kept = subst (λ (n : ℕ). Kept (run_at rules v) v.hart v n (parts_of s)) (sym taken) (subst (λ (z : Parts). Kept (run_at rules v) v.hart v 0 z) (sym parts)
          (kept_first (run_at rules v) run (known (course_of (run_at rules v).plan) run.lawful) v.hart v written progress));
      progress = progress;
      forgotten = omega arith;
      follows = subst (λ (z : List Item). take (length z) (items_of v) ≡ z) (sym none) (nothing (items_of v));
      inside = omega arith;
      within = omega arith;
      few = omega (arith, taken);
      whole = λ e. absurd (let f : false ≡ true = e in cc);
    }
  where
    nothing : (xs : List Item) → take 0 xs ≡ []
    nothing [] = refl
    nothing (x ∷ xs) = refl
