-- A log that grows: the clocks and the last accesses of its first lines stay.
use Rattle.std.proofs.Common.{◌≡◌, ℕ, zero, suc, ◌+◌, ◌<◌, ◌≤◌, ◌++◌, List, [], ◌∷◌, take, length, refl, sym, ap, ◌∙◌, subst, arith, if◌then◌else◌}
use Rattle.std.proofs.lemmas.List.{take-append-le}
use mathlib.Core.Option.{some, some-injective}
use lib.ListN.{get_elem?}
use Rattle.pl_event.specs.declared.event.Event.{Event}
use Rattle.pl_event.specs.declared.log.Line.{Line}
use Rattle.pl_event.specs.declared.heads.Heads.{Heads}
use Rattle.pl_event.specs.Edges.{Into, IsFlow, IsNotice}
use Rattle.pl_event.specs.Graph.{IsClock}
use Rattle.pl_event.specs.Heads.{Tells}
use Rattle.pl_event.specs.Numbers.{is_of, events_of, events_on}
use Rattle.pl_event.specs.Records.{records_before, IsEvent}
use Rattle.pl_event.proofs.Growth.{record_on, record_back, record_low, clock_on}
use Rattle.log_clocks.specs.declared.clock.Clock.{Clock}
use Rattle.log_clocks.specs.declared.clocks.Clocks.{Clocks}
use Rattle.log_clocks.specs.declared.lasts.LastAccesses.{LastAccesses}
use Rattle.log_clocks.specs.Clocks.{time, slot_in, clock_at, known, known_in, HasClocks, HasSameClocks}
use Rattle.log_clocks.specs.LastAccesses.{last, IsAccess, HasLast, HasSameTable, IsNoAccess}
use Rattle.log_clocks.specs.declared.lasts.Row.{Row}
use Rattle.log_clocks.specs.inner.Rows.{in_row, row_at, IsIndexed}
use Rattle.log_clocks.proofs.Accesses.{still_last}

pub before_same : (g e : List Line) (h i : ℕ) → i ≤ length g → records_before h (g ++ e) i ≡ records_before h g i
before_same [] [] h i l = refl
before_same [] (x ∷ e) h zero l = refl
before_same [] (x ∷ e) h (suc i) l = absurd (omega arith)
before_same (y ∷ g) e h zero l = refl
before_same (y ∷ g) e h (suc i) l = ap (λ (z : ℕ). (if is_of h y then 1 else 0) + z) (before_same g e h i (omega arith))

pub at_end : (g : List Line) (new : Line) → get_elem? (g ++ new ∷ []) (length g) ≡ some new
at_end [] new = refl
at_end (l ∷ g) new = at_end g new

pub event_on : (g e : List Line) (i n : ℕ) (a : Event) → IsEvent g i n a → IsEvent (g ++ e) i n a
event_on g e i n a x = (x.0, record_on g e i a.hart n x.0 x.1, x.2)

pub event_back : (g e : List Line) (i n : ℕ) (a : Event) → i < length g → IsEvent (g ++ e) i n a → IsEvent g i n a
event_back g e i n a low x = (x.0, record_back g e i a.hart n x.0 low x.1, x.2)

pub notice_on : (g e : List Line) (h m u n : ℕ) → IsNotice g h m u n → IsNotice (g ++ e) h m u n
notice_on g e h m u n a = (a.0, a.1, record_on g e a.0 h m a.1 a.2, a.3)

pub notice_back : (g e : List Line) (h m u n : ℕ) → m ≤ records_before h g (length g) → IsNotice (g ++ e) h m u n → IsNotice g h m u n
notice_back g e h m u n le a = (a.0, a.1, record_back g e a.0 h m a.1 (record_low g e a.0 h m a.1 le a.2) a.2, a.3)

pub tells_on : (g e : List Line) (s : Heads) → Tells s g (length g) → Tells s (g ++ e) (length g)
tells_on g e s t = record {
  place = t.place ∙ ap (λ (z : List Line). length (events_of z)) (sym first);
  events = λ h low. t.events h low ∙ ap (λ (z : List Line). events_on h (events_of z)) (sym first);
  records = λ h low. t.records h low ∙ sym (same h);
  told = λ h p is. subst (λ (z : ℕ). IsNotice (g ++ e) h z p.hart p.number) (sym (same h)) (notice_on g e h (records_before h g (length g)) p.hart p.number (t.told h p is));
  all = λ h u n low note. t.all h u n low (notice_back g e h (records_before h g (length g)) u n (omega arith) (subst (λ (z : ℕ). IsNotice (g ++ e) h z u n) (same h) note));
  awaited = t.awaited;
}
  where
    first : take (length g) (g ++ e) ≡ take (length g) g
    first = take-append-le (length g) g e (omega arith)

    same : (h : ℕ) → records_before h (g ++ e) (length g) ≡ records_before h g (length g)
    same h = before_same g e h (length g) (omega arith)

pub clocks_on : (harts : ℕ) (g e : List Line) → IsFlow harts (g ++ e) → (clocks : Clocks) → HasClocks clocks g (length g) → HasClocks clocks (g ++ e) (length g)
clocks_on harts g e flow clocks has = record {
  numbers = λ h low. has.numbers h low ∙ sym (same h);
  right = λ h m le. (let s : records_before h (g ++ e) (length g) ≡ records_before h g (length g) = same h in let l : m ≤ records_before h g (length g) = omega arith in clock_on harts g e flow h m (known clocks h m) l (has.right h m l));
  first = has.first;
  within = has.within;
}
  where
    same : (h : ℕ) → records_before h (g ++ e) (length g) ≡ records_before h g (length g)
    same h = before_same g e h (length g) (omega arith)

pub lasts_on : (g e : List Line) (lasts : LastAccesses) (size : ℕ) → HasLast lasts size g (length g) → HasLast lasts size (g ++ e) (length g)
lasts_on g e lasts size has = record {
  sized = has.sized;
  told = λ u block store least. (let a = has.told u block store least in (a.0, a.1, a.2, event_on g e a.0 (last lasts block store u) a.1 a.3, a.4, a.5));
  every = λ u n block store a. has.every u n block store (a.0, a.1, a.2, event_back g e a.0 n a.1 a.2 a.3, a.4, a.5);
  indexed = has.indexed;
}

pub passed_on : (g : List Line) (line : Line) (lasts : LastAccesses) (size : ℕ) → IsNoAccess size line → HasLast lasts size g (length g) → HasLast lasts size (g ++ line ∷ []) (length g + 1)
passed_on g line lasts size none has = still_last size (g ++ line ∷ []) (length g) lasts (lasts_on g (line ∷ []) lasts size has)
    (λ n event x. none event (ap (λ (z : Line). z.what) (some-injective line x.0 (sym (at_end g line) ∙ x.1.at)) ∙ x.2))

pub same_clocks : (g : List Line) (i : ℕ) (old new : Clocks) → HasSameClocks old new → HasClocks old g i → HasClocks new g i
same_clocks g i old new same has = record {
  numbers = λ h low. ap (λ (z : List ℕ). length z) (same.records h) ∙ has.numbers h low;
  right = λ h m le. subst (λ (z : List ℕ × List Clock). IsClock (Into g) h m (known_in z.0 z.1 h m)) (λ d. (sym (same.records h) d, sym same.kept d)) (has.right h m le);
  first = λ u. ap (λ (z : List Clock). time (clock_at z 0) u) same.kept ∙ has.first u;
  within = λ h m. subst (λ (z : List ℕ × List Clock). slot_in z.0 m < length z.1) (λ d. (sym (same.records h) d, sym same.kept d)) (has.within h m);
}

pub same_table : (g : List Line) (size i : ℕ) (old new : LastAccesses) → HasSameTable old new → HasLast old size g i → HasLast new size g i
same_table g size i old new same has = record {
  sized = same.size ∙ has.sized;
  told = λ u block store. subst (λ (z : List ℕ × List Row). 1 ≤ in_row (row_at z.0 z.1 block) store u → IsAccess size g i u (in_row (row_at z.0 z.1 block) store u) block store) (λ d. (sym same.index d, sym same.rows d)) (has.told u block store);
  every = λ u n block store a. subst (λ (z : List ℕ × List Row). n ≤ in_row (row_at z.0 z.1 block) store u) (λ d. (sym same.index d, sym same.rows d)) (has.every u n block store a);
  indexed = subst (λ (z : List ℕ × List Row). IsIndexed z.0 z.1) (λ d. (sym same.index d, sym same.rows d)) has.indexed;
}
