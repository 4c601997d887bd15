-- The lists of records, and how they grow.
use Rattle.std.proofs.Common.{◌≡◌, ◌≢◌, ℕ, zero, suc, ◌+◌, ◌<◌, List, [], ◌∷◌, ◌++◌, length, length-append, map, get_or, set, get_or-set_same, get_or-set_other, slice_get, Option, Some, None, Vec, Global, refl, sym, ap, ◌∙◌, subst, arith}
use Rattle.std.proofs.lemmas.List.{map-set, length-map, get_or-map}
use mathlib.Core.Option.{some}
use lib.ListN.{get_elem?}
use mathlib.Core.Logic.{dite}
use native.Mathlib.Decide.{ℕ_discrete}
use Rattle.pl_event.specs.declared.log.Line.{Line}
use Rattle.pl_event.specs.declared.log.Log.{Log}
use Rattle.pl_event.specs.Numbers.{hart_of}
use Rattle.pl_event.specs.Records.{line_number, records_before, IsRecord}
use Rattle.pl_event.proofs.Places as places
use Rattle.lifeguard.specs.Rules.{Rules}
use Rattle.order_core.specs.declared.course.Op.{Op}
use Rattle.order_core.specs.declared.record_plan.RecordPlan.{RecordPlan}
use Rattle.order_core.specs.Filled.{operations_at, words_after}
use Rattle.order_core.specs.Lists.{stream_of}
use Rattle.order_core.specs.Shapes.{fill}
use Rattle.shadow_layout.specs.Logs.{log_shapes}
use Rattle.log_plan.specs.Plans.{opening_list, plan_of}
use Rattle.list_plan.specs.inner.Rows.{HasRows, IsRow}

abbrev items : Vec RecordPlan Global → List RecordPlan
items v = v.items

stream_is : (vs : List (Vec RecordPlan Global)) (h : ℕ) → stream_of vs h ≡ get_or (map items vs) h []
stream_is [] h = refl
stream_is (v ∷ vs) zero = refl
stream_is (v ∷ vs) (suc h) = stream_is vs h

pub stream_here : (vs : List (Vec RecordPlan Global)) (i : ℕ) (v : Vec RecordPlan Global) → i < length vs → stream_of (set vs i v) i ≡ v.items
stream_here vs i v low = stream_is (set vs i v) i ∙ (ap (λ (xs : List (List RecordPlan)). get_or xs i []) (map-set items vs i v) ∙ get_or-set_same (map items vs) i v.items [] (omega (arith, length-map vs items)))

pub stream_other : (vs : List (Vec RecordPlan Global)) (i j : ℕ) (v : Vec RecordPlan Global) → j ≢ i → stream_of (set vs i v) j ≡ stream_of vs j
stream_other vs i j v other = stream_is (set vs i v) j ∙ (ap (λ (xs : List (List RecordPlan)). get_or xs j []) (map-set items vs i v) ∙ (get_or-set_other (map items vs) i j v.items [] other ∙ sym (stream_is vs j)))

pub stream_read : (vs : List (Vec RecordPlan Global)) (i : ℕ) (v : Vec RecordPlan Global) → i < length vs → v ≡ get_or vs i v → v.items ≡ stream_of vs i
stream_read vs i v low is = ap items is ∙ (sym (get_or-map items vs i v [] low) ∙ sym (stream_is vs i))

-- a list without records more
pub none_more : (vs : List (Vec RecordPlan Global)) (v : Vec RecordPlan Global) → v.items ≡ [] → ((h : ℕ) → stream_of vs h ≡ []) → (h : ℕ) → stream_of (vs ++ v ∷ []) h ≡ []
none_more [] v e all zero = e
none_more [] v e all (suc h) = refl
none_more (x ∷ vs) v e all zero = all zero
none_more (x ∷ vs) v e all (suc h) = none_more vs v e (λ k. all (suc k)) h

abbrev some_row : RecordPlan → Option RecordPlan
some_row r = Some r

-- what holds of each element and of the one after them
last_or : (P : ℕ → RecordPlan → Type 0) (xs : List RecordPlan) (x : RecordPlan) → ((m : ℕ) (r : RecordPlan) → slice_get xs m ≡ Some r → P m r) → P (length xs) x → (m : ℕ) (r : RecordPlan) → slice_get (xs ++ x ∷ []) m ≡ Some r → P m r
last_or P [] x old new zero r e =
    let f : some_row x ≡ some_row r = e in
    let same : x ≡ r = cc in
    subst (λ (z : RecordPlan). P 0 z) same new
last_or P [] x old new (suc m) r e = absurd (let f : None ≡ some_row r = e in cc)
last_or P (y ∷ xs) x old new zero r e = old zero r e
last_or P (y ∷ xs) x old new (suc m) r e = last_or (λ (k : ℕ). P (suc k)) xs x (λ k s t. old (suc k) s t) new m r e

pub no_rows_yet : (lines : List Line) (ops : ℕ → ℕ → List Op) (streams : List (Vec RecordPlan Global)) → ((h : ℕ) → stream_of streams h ≡ []) → HasRows lines ops 0 streams
no_rows_yet lines ops streams none = record {
  count = λ h lt. ap (λ (xs : List RecordPlan). length xs) (none h) ∙ sym (places.before_none lines h);
  rows = λ h m r lt e. absurd (let f : None ≡ some_row r = ap (λ (xs : List RecordPlan). slice_get xs m) (sym (none h)) ∙ e in cc);
}

-- one line more
pub rows_next : (lines : List Line) (ops : ℕ → ℕ → List Op) (i : ℕ) (line : Line) → get_elem? lines i ≡ some line → (hart : ℕ) → hart ≡ hart_of line.what
    → (old new : List (Vec RecordPlan Global)) (row : RecordPlan) → length new ≡ length old → hart < length old
    → stream_of new hart ≡ stream_of old hart ++ row ∷ [] → ((h : ℕ) → h ≢ hart → stream_of new h ≡ stream_of old h)
    → IsRow lines ops hart (records_before hart lines i + 1) row → HasRows lines ops i old → HasRows lines ops (i + 1) new
rows_next lines ops i line at hart own old new row long low added others is rows = record {
  count = λ h lt. dite (ℕ_discrete h hart)
      (λ e. subst (λ (z : ℕ). length (stream_of new z) ≡ records_before z lines (i + 1)) (sym e)
      (ap (λ (xs : List RecordPlan). length xs) added ∙ (length-append (stream_of old hart) (row ∷ [])
      ∙ (ap (λ (n : ℕ). n + 1) (rows.count hart low) ∙ sym (places.before_own lines i hart line at (sym own))))))
      (λ ne. ap (λ (xs : List RecordPlan). length xs) (others h ne) ∙ (rows.count h (subst (λ (n : ℕ). h < n) long lt) ∙ sym (places.before_other lines i h line at (λ e. ne (sym e ∙ sym own)))));
  rows = λ h m r lt e. dite (ℕ_discrete h hart)
      (λ same. subst (λ (z : ℕ). IsRow lines ops z (m + 1) r) (sym same)
      (last_or (λ (k : ℕ) (s : RecordPlan). IsRow lines ops hart (k + 1) s) (stream_of old hart) row (λ k s t. rows.rows hart k s low t)
      (subst (λ (n : ℕ). IsRow lines ops hart (n + 1) row) (sym (rows.count hart low)) is)
      m r (ap (λ (xs : List RecordPlan). slice_get xs m) (sym added) ∙ (ap (λ (z : ℕ). slice_get (stream_of new z) m) (sym same) ∙ e))))
      (λ ne. rows.rows h m r (subst (λ (n : ℕ). h < n) long lt) (ap (λ (xs : List RecordPlan). slice_get xs m) (sym (others h ne)) ∙ e));
}

-- the plan's operations of the record of a line
pub ops_here : (rules : Rules) (log : Log) (i h : ℕ) (line : Line) → get_elem? log.lines i ≡ some line → h ≡ hart_of line.what
    → (plan_of rules log).operations h (records_before h log.lines i + 1)
    ≡ fill (words_after (log_shapes rules log) (opening_list rules log.pages) i) (log_shapes rules log i (words_after (log_shapes rules log) (opening_list rules log.pages) i))
ops_here rules log i h line at own =
    let here : IsRecord log.lines i h (records_before h log.lines i + 1) line = record { at = at; hart = sym own; number = refl } in
    let found : line_number log.lines h (records_before h log.lines i + 1) ≡ i + 1 = places.line_number_of log.lines i h (records_before h log.lines i + 1) line here in
    ap (operations_at (log_shapes rules log) (opening_list rules log.pages)) (found ∙ (let n : i + 1 ≡ suc i = omega arith in n))
