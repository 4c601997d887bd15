use Rattle.std.proofs.Common.{◌≡◌, ℕ, ◌+◌, ◌<◌, ◌≤◌, List, [], ◌∷◌, ◌++◌, Option, Vec, Global, take, length, length-append, refl, sym, ap, ◌∙◌, subst, arith}
use Rattle.std.proofs.lemmas.List.{get_or_append_left}
use lib.Seq.{get_or-append_seam}
use Rattle.pl_event.specs.Edges.{Into}
use Rattle.pl_event.specs.Graph.{IsClock}
use Rattle.pl_event.specs.Records.{records_before}
use Rattle.log_clocks.specs.declared.clock.Clock.{Clock}
use Rattle.log_clocks.specs.declared.clocks.Clocks.{Clocks}
use Rattle.log_clocks.specs.Clocks.{time, slots, slots_in, slot_of, clock_at, kept_at, known}
use Rattle.log_clocks.specs.inner.Joins.{IsJoin, IsClosed}
use Rattle.log_clocks.proofs.RecordClocks.{clock_here}
use Rattle.log_clocks.proofs.Knowing.{closed}
use Rattle.log_clocks.proofs.Keeping.{front_again, whole_again, kept_anyway, known_last, has_more}
use Rattle.log_clocks.proofs.clocks.Clocks.next.Goals.{then-is_raised+in_ok-slot, else-is_raised}
use Rattle.log_clocks.proofs.clocks.Clocks.next.Goals as goal

-- what is kept before the record is added
record Kept (old : Clocks) (h : ℕ) (c : Clock) (now : Clocks) (slot : ℕ) : Type 0 where
  pub slots_stay : (u : ℕ) → slots now u ≡ slots old u
  pub kept : (s : ℕ) → s < length old.kept.items → kept_at now s ≡ kept_at old s
  pub longer : length old.kept.items ≤ length now.kept.items
  pub there : slot < length now.kept.items
  pub same : (u : ℕ) → (u ≡ h → ⊥) → time (kept_at now slot) u ≡ time c u

pub returns-clause-ok : goal.returns-clause-ok
returns-clause-ok c harts g i line flow few has next need = (
  clock,
  has_more g i c.args.hart line next c.requires.hart c.args.self.now c.add.new.self has c.set.new.self c.if-is_raised.slot
      (c.in_ok-add.ensures.added ∙ ap (λ (xs : List ℕ). xs ++ c.if-is_raised.slot ∷ []) (facts.slots_stay c.args.hart))
      (λ u ne. c.in_ok-add.ensures.others u ne ∙ facts.slots_stay u)
      (λ s l. ap (λ (v : Vec Clock Global). clock_at v.items s) c.in_ok-add.ensures.kept ∙ facts.kept s l)
      (subst (λ (v : Vec Clock Global). length c.args.self.now.kept.items ≤ length v.items) (sym c.in_ok-add.ensures.kept) facts.longer)
      (subst (λ (v : Vec Clock Global). c.if-is_raised.slot < length v.items) (sym c.in_ok-add.ensures.kept) facts.there)
      clock itself
      (λ u ne. ap (λ (v : Vec Clock Global). time (clock_at v.items c.if-is_raised.slot) u) c.in_ok-add.ensures.kept ∙ facts.same u ne),
  itself,
)
  where
    number : c.count-number.result ≡ records_before c.args.hart g i
    number = c.count-number.ensures ∙ has.numbers c.args.hart c.requires.hart

    last : c.slot-last.result ≡ slot_of c.args.self.now c.args.hart (records_before c.args.hart g i)
    last = c.slot-last.ensures ∙ ap (slot_of c.args.self.now c.args.hart) number

    itself : time c.set.new.self c.args.hart ≡ records_before c.args.hart g i + 1
    itself = c.set.ensures.here ∙ ap (λ (z : ℕ). z + 1) number

    started : (u : ℕ) → time c.of.result u ≡ known c.args.self.now c.args.hart (records_before c.args.hart g i) u
    started u = c.of.ensures u ∙ ap (λ (z : ℕ). known c.args.self.now c.args.hart z u) number

    clock : IsClock (Into g) c.args.hart (records_before c.args.hart g i + 1) (time c.set.new.self)
    clock = clock_here harts g flow few i c.args.hart line next (known c.args.self.now) has.right (time c.of.result) (time c.joined-is_raised.result.0) (time c.set.new.self) (λ u ne. started u)
        (subst (λ (z : List (Option ℕ)). IsJoin z 8 (known c.args.self.now) (time c.of.result) (time c.joined-is_raised.result.0)) need
        (c.joined-is_raised.ensures.joined (subst (λ (z : List (Option ℕ)). IsClosed z (known c.args.self.now) (time c.of.result)) (sym need)
        (closed c.args.self.now harts g flow few i c.args.hart line next has (time c.of.result) started))))
        itself c.set.ensures.others

    raised : (now : Clocks) (slot : ℕ) → now.slots ≡ c.args.self.now.slots → (slot ≡ length c.args.self.now.kept.items) × (now.kept.items ≡ c.args.self.now.kept.items ++ c.set.new.self ∷ []) → Kept c.args.self.now c.args.hart c.set.new.self now slot
    raised now slot stay kept = record {
      slots_stay = λ u. ap (λ (z : Vec (Vec ℕ Global) Global). slots_in z.items u) stay;
      kept = λ s l. ap (λ (z : List Clock). clock_at z s) kept.1 ∙ get_or_append_left c.args.self.now.kept.items (c.set.new.self ∷ []) (record { numbers = [] }) s l;
      longer = (let e : length now.kept.items ≡ length c.args.self.now.kept.items + 1 = ap (λ (z : List Clock). length z) kept.1 ∙ length-append c.args.self.now.kept.items (c.set.new.self ∷ []) in omega arith);
      there = (let e : length now.kept.items ≡ length c.args.self.now.kept.items + 1 = ap (λ (z : List Clock). length z) kept.1 ∙ length-append c.args.self.now.kept.items (c.set.new.self ∷ []) in let s : slot ≡ length c.args.self.now.kept.items = kept.0 in omega arith);
      same = λ u ne. ap (λ (z : List Clock). time (clock_at z slot) u) kept.1
          ∙ (ap (λ (z : ℕ). time (clock_at (c.args.self.now.kept.items ++ c.set.new.self ∷ []) z) u) kept.0 ∙ ap (λ (z : Clock). time z u) (get_or-append_seam c.args.self.now.kept.items c.set.new.self [] (record { numbers = [] })));
    }

    facts : Kept c.args.self.now c.args.hart c.set.new.self c.if-is_raised.self c.if-is_raised.slot
    facts = elim c.if-is_raised.branch [
      | then-is_raised+in_ok-slot w ↦ subst (λ (z : Clocks × ℕ). Kept c.args.self.now c.args.hart c.set.new.self z.0 z.1) (λ d. (sym w.self-is d, sym w.slot-is d))
          (raised w.keep.new.self w.in_ok-slot.slot w.keep.ensures.slots w.in_ok-slot.ensures.kept)
      | else-is_raised w ↦ subst (λ (z : Clocks × ℕ). Kept c.args.self.now c.args.hart c.set.new.self z.0 z.1) (λ d. (sym w.self-is d, sym w.slot-is d)) (record {
        slots_stay = λ u. refl;
        kept = λ s l. refl;
        longer = omega arith;
        there = (let l : slot_of c.args.self.now c.args.hart (records_before c.args.hart g i) < length c.args.self.now.kept.items = has.within c.args.hart (records_before c.args.hart g i) in let e : c.slot-last.result ≡ slot_of c.args.self.now c.args.hart (records_before c.args.hart g i) = last in omega arith);
        same = λ u ne. ap (λ (z : ℕ). time (kept_at c.args.self.now z) u) last ∙ (known_last c.args.self.now g i c.args.hart (records_before c.args.hart g i) u has ne
            ∙ (sym (started u) ∙ (ap (λ (z : Clock). time z u) (sym (c.joined-is_raised.ensures.same w.if-is_raised.false)) ∙ sym (c.set.ensures.others u ne))));
      })
    ]

pub returns-in_err-slot-clause-err : goal.returns-in_err-slot-clause-err
returns-in_err-slot-clause-err c = kept_anyway c.from_residual.result _
    (record { records = λ h. ap (λ (z : Vec (Vec ℕ Global) Global). slots_in z.items h) c.keep.ensures.slots; kept = c.in_err-slot.ensures.err })

pub returns-in_err-add-clause-err : goal.returns-in_err-add-clause-err
returns-in_err-add-clause-err c = kept_anyway c.from_residual-in_err-add.result _ (record {
  records = λ h. c.in_err-add.ensures.err.1 h ∙ slots_stay h;
  kept = c.in_err-add.ensures.err.0 ∙ (ap (λ (n : ℕ). take n c.if-is_raised.self.kept.items) c.clocks-count.ensures ∙ front);
})
  where
    slots_stay : (h : ℕ) → slots c.if-is_raised.self h ≡ slots c.args.self.now h
    slots_stay h = elim c.if-is_raised.branch [
      | then-is_raised+in_ok-slot w ↦ subst (λ (z : Clocks). slots z h ≡ slots c.args.self.now h) (sym w.self-is) (ap (λ (z : Vec (Vec ℕ Global) Global). slots_in z.items h) w.keep.ensures.slots)
      | else-is_raised w ↦ subst (λ (z : Clocks). slots z h ≡ slots c.args.self.now h) (sym w.self-is) refl
    ]

    front : take (length c.args.self.now.kept.items) c.if-is_raised.self.kept.items ≡ c.args.self.now.kept.items
    front = elim c.if-is_raised.branch [
      | then-is_raised+in_ok-slot w ↦ subst (λ (z : Clocks). take (length c.args.self.now.kept.items) z.kept.items ≡ c.args.self.now.kept.items) (sym w.self-is)
          (ap (take (length c.args.self.now.kept.items)) w.in_ok-slot.ensures.kept.1 ∙ front_again c.args.self.now.kept.items (c.set.new.self ∷ []))
      | else-is_raised w ↦ subst (λ (z : Clocks). take (length c.args.self.now.kept.items) z.kept.items ≡ c.args.self.now.kept.items) (sym w.self-is) (whole_again c.args.self.now.kept.items)
    ]
