-- Workers that are fed, turned and told, one after the other.
use Rattle.std.proofs.Common.{◌≡◌, ◌≢◌, ℕ, ◌+◌, ◌<◌, ◌≤◌, ◌++◌, [], List, false, length, set, append_assoc, refl, sym, ap, ◌∙◌, subst, ⊎_elim, arith, length-set}
use Rattle.std.proofs.lemmas.List.Elements.{filter-append}
use mathlib.Core.Option.{some, some-injective}
use lib.ListN.{get_elem?}
use Rattle.atomic_table.proofs.Lists.{at_set, set_else}
use Rattle.order_core.proofs.Flatten.{inside}
use Rattle.order_core.specs.Course.{Planned}
use Rattle.pl_event.specs.declared.fed.Fed.{Fed}
use Rattle.pl_event.specs.Feeds.{feds_of}
use Rattle.pl_event.specs.Numbers.{is_of}
use Rattle.lifeguard.specs.Ranges.{reports_on}
use Rattle.lifeguard.specs.Plain.{final_state}
use Rattle.guard_table.specs.declared.seats.Monitor.{Monitor}
use Rattle.turn_worker.specs.declared.worker.HartResult.{HartResult}
use Rattle.turn_worker.specs.Results.{IsResult, checks_of}
use Rattle.turn_worker.specs.Workers.{WorkerView, size, stream_of}
use Rattle.lifeguard_crew.specs.declared.finished.Finished.{Finished}
use Rattle.lifeguard_crew.specs.Drivers.{IsFinished, IsFreshCrew, IsReadyCrew, lines_of}
use Rattle.lifeguard_crew.specs.inner.Online.{EachLed, Every, FirstLed, IsFed, IsFedUpTo, IsOfRun, IsSameWorker, IsTold, IsTurned}
use Rattle.ring_feed.specs.Streams.{records_on}
use Rattle.lifeguard_crew.proofs.Same.{at_place}

module _ {W : Type 0} (view : W → WorkerView) where
  pub none_led : (Q : WorkerView → WorkerView → Type 0) (ws : List W) → FirstLed 0 Q view ws ws
  none_led Q ws = record { size = refl; each = λ k v w low. absurd (omega arith); others = λ k le. refl }

  -- one worker more
  pub one_led : (Q : WorkerView → WorkerView → Type 0) (i : ℕ) (old new : List W) (a b : W) → FirstLed i Q view old new
      → get_elem? new i ≡ some a → Q (view a) (view b) → FirstLed (i + 1) Q view old (set new i b)
  one_led Q i old new a b led at step = record {
    size = length-set new i b ∙ led.size;
    each = λ k v w low was now. ⊎_elim
        (λ (p : (k ≡ i) × (b ≡ w)).
        let here : get_elem? old i ≡ some v = subst (λ (z : ℕ). get_elem? old z ≡ some v) p.0 was in
        let same : a ≡ v = some-injective a v (sym at ∙ (led.others i (omega arith) ∙ here)) in
        subst (λ (z : W). Q (view z) (view w)) same (subst (λ (z : W). Q (view a) (view z)) p.1 step))
        (λ (p : (k ≢ i) × (get_elem? new k ≡ some w)). let other : k ≢ i = p.0 in led.each k v w (omega arith) was p.1)
        (at_set new i k b w now);
    others = λ k le. set_else new i k b (λ e. omega arith) ∙ led.others k (omega arith);
  }

  pub all_led : (Q : WorkerView → WorkerView → Type 0) (n : ℕ) (old new : List W) → length old ≤ n → FirstLed n Q view old new
      → EachLed Q view old new
  all_led Q n old new all led = record {
    size = led.size;
    each = λ k v w was now. led.each k v w (let low : k < length old = inside old k v was in omega arith) was now;
  }

  -- what holds of the workers that are still as they were
  pub as_it_was : (F : WorkerView → Type 0) (Q : WorkerView → WorkerView → Type 0) (i : ℕ) (old new : List W) (w : W) → Every F view old
      → FirstLed i Q view old new → get_elem? new i ≡ some w → F (view w)
  as_it_was F Q i old new w every led at = every i w (sym (led.others i (omega arith)) ∙ at)

  pub led_self : (Q : WorkerView → WorkerView → Type 0) (ws : List W) → ((v : WorkerView) → Q v v) → EachLed Q view ws ws
  led_self Q ws same = record {
    size = refl;
    each = λ k v w was now. subst (λ (z : W). Q (view v) (view z)) (some-injective v w (sym was ∙ now)) (same (view v));
  }

  -- the worker that was there
  earlier : (Q : WorkerView → WorkerView → Type 0) (old new : List W) → EachLed Q view old new → (k : ℕ) (w : W) → get_elem? new k ≡ some w
      → (v : W) × (get_elem? old k ≡ some v) × Q (view v) (view w)
  earlier Q old new led k w now =
      let low : k < length new = inside new k w now in
      let sizes : length new ≡ length old = led.size in
      let v = at_place old k (omega arith) in
      (v.0, v.1, led.each k v.0 w v.1 now)

  pub led_then : (A B C : WorkerView → WorkerView → Type 0) (us vs ws : List W)
      → ((u v w : WorkerView) → A u v → B v w → C u w) → EachLed A view us vs → EachLed B view vs ws → EachLed C view us ws
  led_then A B C us vs ws both a b = record {
    size = b.size ∙ a.size;
    each = λ k u w was now.
        let v = earlier B vs ws b k w now in
        both (view u) (view v.0) (view w) (a.each k u v.0 was v.1) v.2;
  }

  pub every_led : (F G : WorkerView → Type 0) (Q : WorkerView → WorkerView → Type 0) (old new : List W)
      → ((v w : WorkerView) → F v → Q v w → G w) → Every F view old → EachLed Q view old new → Every G view new
  every_led F G Q old new keeps every led k w now =
      let v = earlier Q old new led k w now in
      keeps (view v.0) (view w) (every k v.0 v.1) v.2

-- what the steps keep

pub turned_same : (v w : WorkerView) → IsTurned v w → IsSameWorker v w
turned_same v w e = ap (λ (z : WorkerView). record z { fed = []; ended = false }) e

pub turned_then : (u v w : WorkerView) → IsTurned u v → IsTurned v w → IsTurned u w
turned_then u v w a b = b ∙ a

pub same_then : (u v w : WorkerView) → IsSameWorker u v → IsSameWorker v w → IsSameWorker u w
same_then u v w a b = b ∙ a

pub told_same : (v w : WorkerView) → IsTold v w → IsSameWorker v w
told_same v w e = ap (λ (z : WorkerView). record z {
  seat = record z.seat { written = 0; progress = 0; seen = []; learnt = []; looks = [] };
  taken = 0;
  spare = 0;
  fed = [];
  ended = false;
}) e

pub same_told : (u v w : WorkerView) → IsSameWorker u v → IsTold v w → IsSameWorker u w
same_told u v w a b = told_same v w b ∙ a

pub fed_same : (piece : List Fed) (v w : WorkerView) → IsFed piece v w → IsSameWorker v w
fed_same piece v w e = ap (λ (z : WorkerView). record z {
  seat = record z.seat { written = 0; progress = 0; seen = []; learnt = []; looks = [] };
  taken = 0;
  spare = 0;
  fed = [];
  ended = false;
}) e

pub passed_same : (piece : List Fed) (u v w : WorkerView) → IsFed piece u v → IsTurned v w → IsSameWorker u w
passed_same piece u v w a b = turned_same v w b ∙ fed_same piece u v a

pub run_same : {P : Type 0} (planned : P → Planned) (m : Monitor P) (v w : WorkerView) → IsOfRun planned m v → IsSameWorker v w
    → IsOfRun planned m w
run_same planned m v w is e = record {
  at = (ap (λ (z : WorkerView). z.table) e ∙ is.at.0, ap (λ (z : WorkerView). z.seat.course) e ∙ is.at.1);
  plan = is.plan ∙ sym (ap (λ (z : WorkerView). z.plan) e);
}

pub run_turned : {P : Type 0} (planned : P → Planned) (m : Monitor P) (v w : WorkerView) → IsOfRun planned m v → IsTurned v w
    → IsOfRun planned m w
run_turned planned m v w is e = run_same planned m v w is (turned_same v w e)

pub run_fed : {P : Type 0} (planned : P → Planned) (m : Monitor P) (piece : List Fed) (v w : WorkerView) → IsOfRun planned m v → IsFed piece v w
    → IsOfRun planned m w
run_fed planned m piece v w is e = run_same planned m v w is (fed_same piece v w e)

-- what of these records is of the hart follows in the stream
pub fed_next : (piece rest : List Fed) (v w : WorkerView) → IsFedUpTo (piece ++ rest) v → IsFed piece v w → IsFedUpTo rest w
fed_next piece rest v w up e =
    let h = v.seat.hart in
    let parts : records_on h (piece ++ rest) ≡ records_on h piece ++ records_on h rest = filter-append (λ (fed : Fed). is_of h fed.line) piece rest in
    ap (λ (z : WorkerView). z.fed ++ records_on z.seat.hart rest) e
    ∙ (append_assoc v.fed (records_on h piece) (records_on h rest)
    ∙ (ap (λ (z : List Fed). v.fed ++ z) (sym parts) ∙ (up ∙ ap stream_of (sym e))))

pub turned_next : (rest : List Fed) (v w : WorkerView) → IsFedUpTo rest v → IsTurned v w → IsFedUpTo rest w
turned_next rest v w up e = ap (λ (z : WorkerView). z.fed ++ records_on z.seat.hart rest) e ∙ (up ∙ ap stream_of (sym e))

pub up_to : (xs ys : List Fed) (v : WorkerView) → xs ≡ ys → IsFedUpTo xs v → IsFedUpTo ys v
up_to xs ys v e up = subst (λ (z : List Fed). IsFedUpTo z v) e up

module _ {P W : Type 0} (planned : P → Planned) (view : W → WorkerView) (m : Monitor P) where
  pub fresh_run : (ws : List W) → IsFreshCrew planned view m ws → Every (IsOfRun planned m) view ws
  fresh_run ws crew k w at = let is = crew.fresh k w at in record { at = is.at; plan = is.plan }

  pub fresh_fed : (ws : List W) (rest : List Fed) → IsFreshCrew planned view m ws → rest ≡ lines_of planned m → Every (IsFedUpTo rest) view ws
  fresh_fed ws rest crew lines k w at =
      let is = crew.fresh k w at in
      ap (λ (z : List Fed). z ++ records_on (view w).seat.hart rest) is.fed
      ∙ (ap (records_on (view w).seat.hart) lines ∙ ap (λ z. feds_of (view w).seat.hart z.log.lines) (sym is.at.1))

  pub whole_ready : (ws us xs : List W) → IsFreshCrew planned view m ws → EachLed IsSameWorker view ws us → EachLed IsTold view us xs
      → IsReadyCrew planned view m xs
  whole_ready ws us xs crew same told =
      let all = led_then view IsSameWorker IsTold IsSameWorker ws us xs same_told same told in
      let run = every_led view (IsOfRun planned m) (IsOfRun planned m) IsSameWorker ws xs (run_same planned m) (fresh_run ws crew) all in
      record {
        crew = record {
          size = all.size ∙ crew.crew.size;
          course = λ k x at. let w = earlier view IsSameWorker ws xs all k x at in
              ap (λ (z : WorkerView). z.seat.course) w.2 ∙ crew.crew.course k w.0 w.1;
          hart = λ k x at. let w = earlier view IsSameWorker ws xs all k x at in
              ap (λ (z : WorkerView). z.seat.hart) w.2 ∙ crew.crew.hart k w.0 w.1;
        };
        ready = λ k x at. let u = earlier view IsTold us xs told k x at in
            record { at = (run k x at).at; plan = (run k x at).plan; ended = ap (λ (z : WorkerView). z.ended) u.2 };
      }

  result_fixed : (v w : WorkerView) (r : HartResult) → IsSameWorker v w → IsResult w r → IsResult v r
  result_fixed v w r e is = record {
    hart = is.hart ∙ ap (λ (z : WorkerView). z.seat.hart) e;
    reports = is.reports ∙ ap (λ (z : WorkerView). reports_on z.seat.hart (final_state z.rules z.seat.course.log).reports) e;
    masks = λ register lt. is.masks register lt ∙ ap (λ (z : WorkerView). (final_state z.rules z.seat.course.log).masks z.seat.hart register) e;
    checks = is.checks ∙ ap (λ (z : WorkerView). checks_of z.rules z.seat.hart z.seat.course.log.lines) e;
    misses = is.misses ∙ ap (λ (z : WorkerView). z.misses (size z)) e;
  }

  -- what was found of workers was found of them as they were at the start
  pub found_same : (ws us : List W) (f : Finished) → EachLed IsSameWorker view ws us → IsFinished planned view m us f → IsFinished planned view m ws f
  found_same ws us f same found = record {
    results = found.results ∙ same.size;
    seats = found.seats ∙ same.size;
    result = λ k w r was here.
        let low : k < length ws = inside ws k w was in
        let sizes : length us ≡ length ws = same.size in
        let u = at_place us k (omega arith) in
        result_fixed (view w) (view u.0) r (same.each k w u.0 was u.1) (found.result k u.0 r u.1 here);
    seat = found.seat;
  }
