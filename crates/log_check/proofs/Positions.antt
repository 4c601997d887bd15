-- Events and records by their positions.
use Rattle.std.proofs.Common.{◌≡◌, ℕ, zero, suc, ◌+◌, ◌^◌, ◌<◌, ◌≤◌, List, [], ◌∷◌, length, Some, slice_get, All, slice_index, set, get_or, get_or-set_same, get_or-set_other, refl, sym, ap, ◌∙◌, subst, arith}
use mathlib.Core.Option.{some, some-injective}
use Rattle.std.proofs.lemmas.List.Elements.{All-get_or}
use mathlib.Core.Logic.{dite}
use native.Mathlib.Decide.{ℕ_discrete}
use lib.ListN.{get_elem?}
use Rattle.pl_event.specs.declared.event.Event.{Event}
use Rattle.pl_event.specs.declared.heads.Heads.{Heads}
use Rattle.pl_event.specs.declared.log.Line.{Line}
use Rattle.pl_event.specs.declared.log.Point.{Point}
use Rattle.pl_event.specs.declared.log.Record.TheVariants as entry
use Rattle.pl_event.specs.Edges.{IsFlow}
use Rattle.pl_event.specs.Heads.{Tells, IsNext}
use Rattle.pl_event.specs.Numbers.{hart_of}
use Rattle.pl_event.specs.Records.{records_before, IsRecord, IsEvent}
use Rattle.pl_event.specs.declared.log.Record.{Record}
use Rattle.pl_event.specs.Runs.{IsSoundLine, IsSoundRecord}
use Rattle.pl_event.proofs.Before.{room, got}
use Rattle.pl_event.proofs.Places.{inside, before_own, before_other, before_most}
use Rattle.log_clocks.proofs.Accesses.{at_one}

-- an event has one number
pub one_number : (g : List Line) (i n m : ℕ) (a b : Event) → IsEvent g i n a → IsEvent g i m b → n ≡ m
one_number g i n m a b x y =
    let same : a ≡ b = at_one g i n m a b x y in
    sym x.1.number ∙ (ap (λ (z : Event). records_before z.hart g i + 1) same ∙ y.1.number)

-- an event's line
pub next_of : (g : List Line) (i m : ℕ) (b : Event) (is : IsEvent g i m b) → IsNext g i b.hart is.0
next_of g i m b is = record { at = is.1.at; hart = is.1.hart; number = refl }

pub event_of_line : (g : List Line) (i n h : ℕ) (line : Line) (event : Event) → IsRecord g i h n line → line.what ≡ entry.Event event → IsEvent g i n event
event_of_line g i n h line event is what =
    let own : h ≡ event.hart = sym is.hart ∙ ap hart_of what in
    (line, subst (λ (z : ℕ). IsRecord g i z n line) own is, what)

pub not_notice : (g : List Line) (i : ℕ) (line : Line) (h : ℕ) (p : Point) → get_elem? g i ≡ some line → line.what ≡ entry.Notice h p → (n : ℕ) (event : Event) → IsEvent g i n event → ⊥
not_notice g i line h p at what n event x =
    let same : x.0 ≡ line = some-injective x.0 line (sym x.1.at ∙ at) in
    let f : entry.Event event ≡ entry.Notice h p = sym x.2 ∙ (ap (λ (z : Line). z.what) same ∙ what) in
    cc

-- a hart of the log
pub low_hart : (harts : ℕ) (g : List Line) → IsFlow harts g → harts ≤ 8 → (i n : ℕ) (a : Event) → IsEvent g i n a → a.hart < 8
low_hart harts g flow few i n a is = let l : a.hart < harts = flow.within i a.hart n is.0 is.1 in omega arith

-- one record more can be counted
pub record_room : (g : List Line) → length g < 2 ^ 32 → (s : Heads) (i h : ℕ) → Tells s g i → i < length g → h < 8 → slice_index s.records h + 1 < 2 ^ 32
record_room g short s i h st inside low =
    let e : slice_index s.records h ≡ records_before h g i = st.records h low in
    let l : records_before h g i ≤ i = before_most g h i in
    omega arith

-- what a line read from the log needs to be counted
pub line_room : (harts : ℕ) (g : List Line) → IsFlow harts g → harts ≤ 8 → length g < 2 ^ 32 → (s : Heads) (i : ℕ) (l : Line) → Tells s g i → slice_get g i ≡ Some l
    → (hart_of l.what < 8) × (slice_index s.records (hart_of l.what) + 1 < 2 ^ 32) × (s.place + 1 < 2 ^ 32) × (slice_index s.events (hart_of l.what) + 1 < 2 ^ 32)
line_room harts g flow few short s i l st e = room harts g flow few short s i l st (got g i l e)

pub line_next : (g : List Line) (i r : ℕ) (l : Line) → slice_get g i ≡ Some l → r ≡ hart_of l.what → IsNext g i r l
line_next g i r l e own = record { at = got g i l e; hart = sym own; number = refl }

pub event_hart : (g : List Line) (i n : ℕ) (b : Event) (l : Line) → IsEvent g i n b → slice_get g i ≡ Some l → b.hart ≡ hart_of l.what
event_hart g i n b l is e = sym is.1.hart ∙ ap (λ (z : Line). hart_of z.what) (some-injective is.0 l (sym is.1.at ∙ got g i l e))

-- the number of the line that is counted
pub number_now : (g : List Line) (x r : ℕ) (numbers : List ℕ) → length numbers ≡ 8 → r < 8
    → ((h : ℕ) → h < 8 → slice_index numbers h ≡ records_before h g x)
    → slice_index (set numbers r (slice_index numbers r + 1)) r ≡ records_before r g x + 1
number_now g x r numbers long low each =
    get_or-set_same numbers r (slice_index numbers r + 1) 0 (omega arith) ∙ ap (λ (z : ℕ). z + 1) (each r low)

-- of x lines no hart has more than x
pub most_now : (x r : ℕ) (numbers : List ℕ) → length numbers ≡ 8 → r < 8 → ((h : ℕ) → h < 8 → slice_index numbers h ≤ x)
    → (h : ℕ) → h < 8 → slice_index (set numbers r (slice_index numbers r + 1)) h ≤ x + 1
most_now x r numbers long low most h lh = dite (ℕ_discrete h r)
    (λ e. subst (λ (z : ℕ). slice_index (set numbers r (slice_index numbers r + 1)) z ≤ x + 1) (sym e)
    (let s : slice_index (set numbers r (slice_index numbers r + 1)) r ≡ slice_index numbers r + 1 = get_or-set_same numbers r (slice_index numbers r + 1) 0 (omega arith) in
    let l : slice_index numbers r ≤ x = most r low in omega arith))
    (λ ne. let s : slice_index (set numbers r (slice_index numbers r + 1)) h ≡ slice_index numbers h = get_or-set_other numbers r h (slice_index numbers r + 1) 0 ne in
    let l : slice_index numbers h ≤ x = most h lh in omega arith)

-- a line of a log of at most eight harts is sound among eight
pub sound_line : (harts : ℕ) (g : List Line) → harts ≤ 8 → All (IsSoundLine harts) g → (i : ℕ) (l : Line) → get_elem? g i ≡ some l → IsSoundLine 8 l
sound_line harts g few all i l at =
    let low : i < length g = inside g i l at in
    let there : get_or g i l ≡ l = some-injective (get_or g i l) l (sym (at_index g i l low) ∙ at) in
    let sound : IsSoundLine harts l = subst (λ (z : Line). IsSoundLine harts z) there (All-get_or (λ (z : Line). IsSoundLine harts z) g i l low all) in
    (sound.0, wider l.what sound.1)
  where
    at_index : (g : List Line) (i : ℕ) (d : Line) → i < length g → get_elem? g i ≡ some (get_or g i d)
    at_index [] i d low = absurd (omega arith)
    at_index (x ∷ g) zero d low = refl
    at_index (x ∷ g) (suc i) d low = at_index g i d (omega arith)

    wider : (what : Record) → IsSoundRecord harts l.arcs what → IsSoundRecord 8 l.arcs what
    wider (entry.Event event) s = ((let o : event.hart < harts = s.0 in omega arith), s.1)
    wider (entry.Notice h p) s = s

-- numbers that are counted line by line
pub numbers_more : (g : List Line) (x r : ℕ) (l : Line) → get_elem? g x ≡ some l → r ≡ hart_of l.what → (numbers : List ℕ) → length numbers ≡ 8 → r < 8
    → ((h : ℕ) → h < 8 → slice_index numbers h ≡ records_before h g x)
    → (h : ℕ) → h < 8 → slice_index (set numbers r (slice_index numbers r + 1)) h ≡ records_before h g (x + 1)
numbers_more g x r l at own numbers long low each h lh = dite (ℕ_discrete h r)
    (λ e. subst (λ (z : ℕ). slice_index (set numbers r (slice_index numbers r + 1)) z ≡ records_before z g (x + 1)) (sym e)
    (get_or-set_same numbers r (slice_index numbers r + 1) 0 (omega arith) ∙ (ap (λ (z : ℕ). z + 1) (each r low) ∙ sym (before_own g x r l at (sym own)))))
    (λ ne. get_or-set_other numbers r h (slice_index numbers r + 1) 0 ne ∙ (each h lh ∙ sym (before_other g x h l at (λ z. ne (sym z ∙ sym own)))))
