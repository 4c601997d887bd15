-- Records that are fed: they are the next ones of the hart's stream.
use Rattle.std.proofs.Common.{◌≡◌, ℕ, ◌+◌, ◌-◌, ◌<◌, ◌≤◌, suc, Bool, true, false, cond, filter, if◌then◌else◌, Option, map, List, [], ◌∷◌, ◌++◌, drop, length, take, get_or, Some, refl, sym, ap, ◌∙◌, subst, arith}
use Rattle.std.proofs.lemmas.List.{drop-append-le, drop-take, get_or-append-add, get_or-drop, get_or-take, length-append, length-map, length-take, length-take-le, map-append, take-take, take_more}
use Rattle.std.proofs.lemmas.Option.{get_or_from_slice_get, slice_get-get_or, slice_get-map}
use Rattle.std.specs.Prelude.{slice_get}
use Rattle.std.specs.List.{take-map}
use Rattle.std.specs.Option.{option_map}
use Rattle.pl_event.specs.declared.event.Event.{Event}
use Rattle.pl_event.specs.declared.fed.Fed.{Fed}
use Rattle.pl_event.specs.declared.log.Line.{Line}
use Rattle.pl_event.specs.declared.log.Record.TheVariants as entry
use Rattle.pl_event.specs.Feeds.{fed_at, feds_from, feds_of}
use Rattle.pl_event.specs.Numbers.{hart_of, is_of}
use Rattle.pl_event.specs.Records.{records_before, IsRecord}
use Rattle.pl_event.proofs.Sources.{found}
use Rattle.lifeguard.specs.Plain.{reports_of}
use Rattle.worker_laws.specs.Runs.{IsKind, IsRun, Run, before, kind_in, kind_of, reports_before}
use Rattle.worker_laws.proofs.Own.{event_reports}
use Rattle.lifeguard_worker.specs.declared.rows.Entry.{Entry}
use Rattle.lifeguard_worker.specs.Rows.{Item, entry_of, item_of}

-- ---- the stream grows by a record that follows

module _ {X : Type 0} (whole first fed : List X) (n : ℕ) (same : length first ≡ n) (next : take (n + length fed) whole ≡ first ++ fed) where
  long : n + length fed ≤ length whole
  long = let e = sym (length-take (n + length fed) whole) ∙ (ap length next ∙ length-append first fed) in omega (arith, e, same)

  pub begins_more : (s : List X) (i : ℕ) (x : X) → take (length s) whole ≡ s → length s ≡ n + i → i < length fed → x ≡ get_or fed i x → take (length (s ++ x ∷ [])) whole ≡ s ++ x ∷ []
  begins_more s i x is at lt here =
      let size : length (s ++ x ∷ []) ≡ length s + 1 = length-append s (x ∷ []) in
      let inside : length s < length whole = omega (arith, at, lt, long) in
      let place : n + i ≡ length first + i = omega (arith, same) in
      let read : get_or whole (length s) x ≡ x = ap (λ (j : ℕ). get_or whole j x) at
      ∙ (sym (get_or-take (n + length fed) whole (n + i) x (omega (arith, lt)))
      ∙ (ap (λ (z : List X). get_or z (n + i) x) next
      ∙ (ap (λ (j : ℕ). get_or (first ++ fed) j x) place ∙ (get_or-append-add first fed i x ∙ sym here)))) in
      ap (λ (j : ℕ). take j whole) size ∙ (take_more whole (length s) x inside
      ∙ ((λ d. is d ++ read d ∷ [])))

-- ---- how many records a hart has

length_from : (lines : List Line) (h i : ℕ) (rest : List Line) → length (filter (λ (f : Fed). is_of h f.line) (feds_from lines i rest)) ≡ records_before h rest (length rest)
length_from lines h i [] = refl
length_from lines h i (l ∷ rest) = by (length_from lines h (suc i) rest) (is_of h l)
  where
    by : length (filter (λ (f : Fed). is_of h f.line) (feds_from lines (suc i) rest)) ≡ records_before h rest (length rest)
        → (b : Bool) → length (cond b (fed_at lines i l ∷ filter (λ (f : Fed). is_of h f.line) (feds_from lines (suc i) rest)) (filter (λ (f : Fed). is_of h f.line) (feds_from lines (suc i) rest))) ≡ (if b then 1 else 0) + records_before h rest (length rest)
    by deep true = omega (arith, deep)
    by deep false = omega (arith, deep)

pub length_feds : (lines : List Line) (h : ℕ) → length (feds_of h lines) ≡ records_before h lines (length lines)
length_feds lines h = length_from lines h 0 lines

-- ---- a list whose records stand in the whole from a place on

module _ {X : Type 0} (whole stream : List X) (b : ℕ) (follows : take (length stream) (drop b whole) ≡ stream) where
  -- the record at a place of the whole is read at that place in the list
  pub at_taken : (n fed : ℕ) → b ≤ n → n < fed → fed ≤ b + length stream → fed ≤ length whole → (next : X) → slice_get stream (n - b) ≡ Some next → slice_get (take fed whole) n ≡ Some next
  at_taken n fed low left inside within next got =
      let size : length (take fed whole) ≡ fed = length-take-le fed whole within in
      let place : b + (n - b) ≡ n = omega (arith, low) in
      slice_get-get_or (take fed whole) n next (omega (arith, size, left))
      ∙ ap (λ (z : X). Some z) (get_or-take fed whole n next left
      ∙ (ap (λ (k : ℕ). get_or whole k next) (sym place)
      ∙ (sym (get_or-drop b whole (n - b) next)
      ∙ (sym (get_or-take (length stream) (drop b whole) (n - b) next (omega (arith, low, left, inside)))
      ∙ (ap (λ (z : List X). get_or z (n - b) next) follows ∙ get_or_from_slice_get stream (n - b) next next got)))))

  -- what follows so many first records of the whole follows the rest of them in the list
  pub next_after : (fed : ℕ) (more : List X) → b ≤ fed → fed ≤ b + length stream → fed ≤ length whole → take (fed + length more) whole ≡ take fed whole ++ more → take (fed - b + length more) (drop b whole) ≡ take (fed - b) stream ++ more
  next_after fed more low inside within next =
      let size : length (take fed whole) ≡ fed = length-take-le fed whole within in
      let place : fed + length more ≡ b + (fed - b + length more) = omega (arith, low) in
      let first : fed ≡ b + (fed - b) = omega (arith, low) in
      let kept : take (fed - b) (drop b whole) ≡ take (fed - b) stream = sym (take-take (fed - b) (length stream) (drop b whole) (omega (arith, inside))) ∙ ap (λ (z : List X). take (fed - b) z) follows in
      let rest : drop b (take fed whole) ≡ take (fed - b) stream = ap (λ (k : ℕ). drop b (take k whole)) first ∙ (drop-take b (fed - b) whole ∙ kept) in
      sym (drop-take b (fed - b + length more) whole)
      ∙ (ap (λ (k : ℕ). drop b (take k whole)) (sym place)
      ∙ (ap (λ (z : List X). drop b z) next
      ∙ (drop-append-le b (take fed whole) more (omega (arith, size, low))
      ∙ ap (λ (z : List X). z ++ more) rest)))

pub fed_inside : (whole first fed : List Fed) → take (length first + length fed) whole ≡ first ++ fed → length first + length fed ≤ length whole
fed_inside whole first fed next = long whole first fed (length first) refl next

-- ---- what is used of fed records

-- the item at a place of a stream's first records is that of the record
pub item_at : (whole : List Fed) (fed n : ℕ) (x : Fed) → slice_get (take fed whole) n ≡ Some x → slice_get (take fed (map item_of whole)) n ≡ Some (item_of x)
item_at whole fed n x at =
    ap (λ (z : List Item). slice_get z n) (take-map item_of fed whole)
    ∙ (slice_get-map item_of (take fed whole) n ∙ ap (λ (o : Option Fed). option_map item_of o) at)

-- the items of records that follow
pub items_next : (whole more : List Fed) (fed : ℕ) → take (fed + length more) whole ≡ take fed whole ++ more
    → take (fed + length (map item_of more)) (map item_of whole) ≡ take fed (map item_of whole) ++ map item_of more
items_next whole more fed next =
    ap (λ (n : ℕ). take (fed + n) (map item_of whole)) (length-map more item_of)
    ∙ (take-map item_of (fed + length more) whole
    ∙ (ap (λ (z : List Fed). map item_of z) next
    ∙ (map-append item_of (take fed whole) more
    ∙ ap (λ (z : List Item). z ++ map item_of more) (sym (take-map item_of fed whole)))))

-- ---- a fed record

module _ (p : Run) (h i m : ℕ) (line : Line) (is : IsRecord p.plan.log.lines i h m line) (fed : Entry) (fed_is : fed ≡ entry_of (fed_at p.plan.log.lines i line)) (event : Event) (what : fed.what ≡ entry.Event event) where
  line_what : line.what ≡ entry.Event event
  line_what = ap (λ (f : Entry). f.what) (sym fed_is) ∙ what

  pub event_kind : IsKind p h m event.kind
  event_kind = ap kind_in (found p.plan.log.lines i h m line is) ∙ ap kind_of line_what

  pub event_hart : event.hart ≡ h
  event_hart = sym (ap hart_of line_what) ∙ is.hart

  pub event_told : IsRun p → reports_before p h (m + 1) ≡ reports_before p h m ++ reports_of p.rules (record { place = fed.place; hart = event.hart; number = fed.event_number }) event.kind (before p h m).state
  event_told run =
      subst (λ (f : Entry). reports_before p h (m + 1) ≡ reports_before p h m ++ reports_of p.rules (record { place = f.place; hart = event.hart; number = f.event_number }) event.kind (before p h m).state) (sym fed_is)
      (subst (λ (z : ℕ). reports_before p h (m + 1) ≡ reports_before p h m ++ reports_of p.rules (record { place = (fed_at p.plan.log.lines i line).place; hart = z; number = (fed_at p.plan.log.lines i line).event_number }) event.kind (before p h m).state) (sym event_hart)
      (event_reports p run h i m line is event line_what))
