-- Which events are ordered before the one at a position, and what that says of the log.
use Rattle.std.proofs.Common.{◌≡◌, ⊎_elim, ℕ, ◌+◌, ◌<◌, ◌≤◌, List, refl, sym, ap, ◌∙◌, subst, arith}
use mathlib.Core.Logic.{dite}
use native.Mathlib.Decide.{ℕ_discrete}
use Rattle.pl_event.specs.declared.event.Event.{Event}
use Rattle.pl_event.specs.declared.log.Line.{Line}
use Rattle.pl_event.specs.declared.log.Log.{Log}
use Rattle.pl_event.specs.declared.log.Point.{Point}
use Rattle.pl_event.specs.Conflicts.{access_of, ShareBlock, IsPair, AreOrdered}
use Rattle.pl_event.specs.Edges.{Into, IsFlow}
use Rattle.pl_event.specs.Graph.{Path, IsClock}
use Rattle.pl_event.specs.Records.{records_before, IsEvent}
use Rattle.pl_event.specs.Unordered.{IsOrderedPair, IsFirstUnordered}
use Rattle.log_clocks.specs.declared.clock.Clock.{Clock}
use Rattle.log_clocks.specs.Clocks.{time}
use Rattle.log_clocks.specs.LastAccesses.{KnowsShared}
use Rattle.log_clocks.proofs.Accesses.{at_one}
use Rattle.log_check.specs.Answers.{NamesFirst}
use Rattle.log_check.specs.inner.Partners.{IsClear, IsPartner}
use Rattle.log_check.proofs.Positions.{one_number, low_hart}

pub nothing_ordered : (size : ℕ) (g : List Line) → AreOrdered size g 0
nothing_ordered size g = record {
  accesses = λ i j a n b m low pair share. absurd (omega arith);
  alerts = λ i j a n b m low pair meet. absurd (omega arith);
}

-- one event more
pub ordered_more : (size : ℕ) (g : List Line) (at : ℕ) → AreOrdered size g at → IsClear size g at at → AreOrdered size g (at + 1)
ordered_more size g at before clear = record {
  accesses = λ i j a n b m low pair share. dite (ℕ_discrete j at)
      (λ e. let p : IsPair g i at a n b m = subst (λ (z : ℕ). IsPair g i z a n b m) e pair in (clear i a n b m p.before p).accesses share)
      (λ ne. before.accesses i j a n b m (omega arith) pair share);
  alerts = λ i j a n b m low pair meet. dite (ℕ_discrete j at)
      (λ e. let p : IsPair g i at a n b m = subst (λ (z : ℕ). IsPair g i z a n b m) e pair in (clear i a n b m p.before p).alerts meet)
      (λ ne. before.alerts i j a n b m (omega arith) pair meet);
}

-- no event is at the position
pub clear_nothing : (size : ℕ) (g : List Line) (upto at : ℕ) → ((n : ℕ) (b : Event) → IsEvent g at n b → ⊥) → IsClear size g upto at
clear_nothing size g upto at none k a n b m low pair = absurd (none m b pair.second)

pub clear_start : (size : ℕ) (g : List Line) (at : ℕ) → IsClear size g 0 at
clear_start size g at k a n b m low pair = absurd (omega arith)

module _ (size : ℕ) (g : List Line) (at m : ℕ) (b : Event) (is : IsEvent g at m b) where
  -- what holds of this event's pairs holds of all pairs that end at its position
  pub clear_of : (upto : ℕ) → ((k : ℕ) (a : Event) (n : ℕ) → k < upto → IsPair g k at a n b m → IsOrderedPair size g a n b m) → IsClear size g upto at
  clear_of upto each k a n c p low pair =
      let same : b ≡ c = at_one g at m p b c is pair.second in
      let num : m ≡ p = one_number g at m p b c is pair.second in
      subst (λ (z : Event × ℕ). IsOrderedPair size g a n z.0 z.1) (λ d. (same d, num d))
      (each k a n low (subst (λ (z : Event × ℕ). IsPair g k at a n z.0 z.1) (λ d. (sym same d, sym num d)) pair))

  pub clear_more : (x : ℕ) → ((a : Event) (n : ℕ) → IsPair g x at a n b m → IsOrderedPair size g a n b m) → IsClear size g x at → IsClear size g (x + 1) at
  clear_more x fine clear = clear_of (x + 1) (λ k a n low pair. dite (ℕ_discrete k x)
      (λ e. fine a n (subst (λ (z : ℕ). IsPair g z at a n b m) e pair))
      (λ ne. clear k a n b m (omega arith) pair))

  -- the clock knows each earlier record that shares the block
  pub path_of : (harts : ℕ) → IsFlow harts g → harts ≤ 8 → (clock : Clock) → IsClock (Into g) b.hart m (time clock) → KnowsShared size g b m clock
      → (x : ℕ) (a : Event) (n : ℕ) → IsPair g x at a n b m → ShareBlock (access_of size a.kind) (access_of size b.kind) → Path (Into g) a.hart n b.hart m
  path_of harts flow few clock right known x a n pair share =
      let low : a.hart < 8 = low_hart harts g flow few x n a pair.first in
      let le : n ≤ time clock a.hart = known a.hart n low (record { i = x; j = at; a = a; b = b; pair = pair; first = refl; second = refl; block = share }) in
      let one : records_before a.hart g x + 1 ≡ n = pair.first.1.number in
      ⊎_elim (λ (s : (a.hart ≡ b.hart) × (n ≡ m)). absurd (pair.apart s.0)) (λ (p : Path (Into g) a.hart n b.hart m). p) (right.told a.hart n (omega arith) le)

-- the partner makes the first pair
pub names_first : (log : Log) (at : ℕ) (earlier later : Point) → AreOrdered log.block log.lines at → IsPartner log.block log.lines at earlier
    → (m : ℕ) (b : Event) → IsEvent log.lines at m b → b.hart ≡ later.hart → m ≡ later.number → NamesFirst log earlier later
names_first log at earlier later ordered p m b is hart number =
    let same : b ≡ p.b = at_one log.lines at m p.m b p.b is p.pair.second in
    let num : p.m ≡ later.number = sym (one_number log.lines at m p.m b p.b is p.pair.second) ∙ number in
    record {
      i = p.i;
      j = at;
      a = p.a;
      b = p.b;
      pair = subst (λ (z : ℕ). IsFirstUnordered log p.i at p.a earlier.number p.b z) num (record {
        pair = p.pair;
        unordered = p.unordered;
        later = ordered;
        earlier = λ k c q low pair. p.clear k c q p.b p.m low pair;
      });
      first = p.hart;
      second = sym (ap (λ (z : Event). z.hart) same) ∙ hart;
    }
