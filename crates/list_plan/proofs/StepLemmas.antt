-- What one line of a log adds to the words, to the state and to the lists.
use Rattle.std.proofs.Common.{◌≡◌, ℕ, zero, suc, ◌+◌, ◌<◌, ◌≤◌, List, [], ◌∷◌, ◌++◌, length, take, Option, Some, None, slice_get, refl, sym, ap, ◌∙◌, subst, arith}
use Rattle.std.specs.List.{cons_option}
use Rattle.std.specs.Option.{option_to_list}
use Rattle.pl_event.specs.declared.event.Event.{Event}
use Rattle.pl_event.specs.declared.log.Line.{Line}
use Rattle.pl_event.specs.declared.log.Log.{Log}
use Rattle.pl_event.specs.Numbers.{event_of, events_of, hart_of}
use Rattle.pl_event.specs.Records.{records_before}
use Rattle.pl_event.specs.Runs.{IsRunLog}
use Rattle.pl_event.proofs.Before.{events_more, got}
use Rattle.lifeguard.specs.declared.shadow.Shadow.{Shadow}
use Rattle.lifeguard.specs.Rules.{Rules, KeepsLaws}
use Rattle.lifeguard.specs.Shadow.{Represents, place_of, state_of}
use Rattle.order_core.specs.Filled.{words_after}
use Rattle.order_core.specs.Shapes.{after_shapes, fill}
use Rattle.shadow_layout.specs.Logs.{log_shapes, record_shapes}
use Rattle.log_plan.specs.Plans.{opening_list, plan_of}
use Rattle.list_plan.specs.inner.Rooms.{RecordHasRoom}
use Rattle.list_plan.proofs.LineLemmas.{has_room}
use Rattle.list_plan.proofs.RoomLemmas.{line_shapes_are}
use Rattle.list_plan.proofs.RowLemmas.{ops_here}

-- the events so far are no more than the lines
events_few : (lines : List Line) (i : ℕ) → length (events_of (take i lines)) ≤ i
events_few [] zero = omega arith
events_few [] (suc i) = omega arith
events_few (x ∷ lines) zero = omega arith
events_few (x ∷ lines) (suc i) = by (event_of x.what) (events_few lines i)
  where
    by : (o : Option Event) → length (events_of (take i lines)) ≤ i → length (cons_option o (events_of (take i lines))) ≤ suc i
    by None l = omega arith
    by (Some e) l = omega arith

ends : (o : Option Event) → cons_option o [] ≡ option_to_list o
ends None = refl
ends (Some e) = refl

abbrev events_up_to : List Line → ℕ → List Event
events_up_to lines i = events_of (take i lines)

events_next : (lines : List Line) (i : ℕ) (line : Line) → slice_get lines i ≡ Some line → events_of (take i lines) ++ cons_option (event_of line.what) [] ≡ events_of (take (i + 1) lines)
events_next lines i line here =
    let next : suc i ≡ i + 1 = omega arith in
    ap (λ (es : List Event). events_of (take i lines) ++ es) (ends (event_of line.what)) ∙ (sym (events_more lines i line (got lines i line here)) ∙ ap (events_up_to lines) next)

-- one event more has a place
pub place_low : (rules : Rules) (log : Log) (i : ℕ) (shadow : Shadow) → Represents rules log.pages (events_of (take i log.lines)) shadow → i < length log.lines → length log.lines ≤ 2000000 → place_of shadow < 2000000
place_low rules log i shadow r lt few =
    let p : shadow.place ≡ length (events_of (take i log.lines)) = r.place in
    let f : length (events_of (take i log.lines)) ≤ i = events_few log.lines i in
    omega arith

state_next : (rules : Rules) (log : Log) (i : ℕ) (line : Line) → slice_get log.lines i ≡ Some line → (shadow : Shadow) → Represents rules log.pages (events_of (take i log.lines) ++ cons_option (event_of line.what) []) shadow → Represents rules log.pages (events_of (take (i + 1) log.lines)) shadow
state_next rules log i line here shadow r = subst (λ (es : List Event). Represents rules log.pages es shadow) (events_next log.lines i line here) r

module _ (given rules : Rules) (same : given ≡ rules) (log : Log) (i : ℕ) (line : Line) (here : slice_get log.lines i ≡ Some line) (shadow : Shadow) (state : Represents rules log.pages (events_of (take i log.lines)) shadow)
    (w : ℕ → ℕ) (words : w ≡ words_after (log_shapes rules log) (opening_list rules log.pages) i) where
  shapes_are : record_shapes given log.block (state_of shadow) w line.what ≡ log_shapes rules log i (words_after (log_shapes rules log) (opening_list rules log.pages) i)
  shapes_are = (λ d. record_shapes (same d) log.block (state.state d) (words d) line.what) ∙ sym (line_shapes_are rules log i (words_after (log_shapes rules log) (opening_list rules log.pages) i) line here)

  pub words_next : (new : ℕ → ℕ) → new ≡ after_shapes w (record_shapes given log.block (state_of shadow) w line.what) → new ≡ words_after (log_shapes rules log) (opening_list rules log.pages) (i + 1)
  words_next new is = is ∙ ((λ d. after_shapes (words d) (shapes_are d)) ∙ (let n : suc i ≡ i + 1 = omega arith in ap (words_after (log_shapes rules log) (opening_list rules log.pages)) n))

  pub ops_are : (h : ℕ) → h ≡ hart_of line.what → fill w (record_shapes given log.block (state_of shadow) w line.what) ≡ (plan_of rules log).operations h (records_before h log.lines i + 1)
  ops_are h own = (λ d. fill (words d) (shapes_are d)) ∙ sym (ops_here rules log i h line (got log.lines i line here) own)

  pub room_here : ∥ IsRunLog log ∥₁ → KeepsLaws rules → (harts : ℕ) → harts ≡ log.harts → ∥ RecordHasRoom given w harts line.what ∥₁
  room_here run laws harts e = subst (λ (z : Rules × ℕ). ∥ RecordHasRoom z.0 w z.1 line.what ∥₁) (λ d. (sym same d, sym e d)) (has_room log run i line here rules laws w words)

  pub state_step : (new : Shadow) → (Represents given log.pages (events_of (take i log.lines)) shadow → Represents given log.pages (events_of (take i log.lines) ++ cons_option (event_of line.what) []) new) → Represents rules log.pages (events_of (take (i + 1) log.lines)) new
  state_step new f = state_next rules log i line here new (subst (λ (r : Rules). Represents r log.pages (events_of (take i log.lines) ++ cons_option (event_of line.what) []) new) same (f (subst (λ (r : Rules). Represents r log.pages (events_of (take i log.lines)) shadow) (sym same) state)))
