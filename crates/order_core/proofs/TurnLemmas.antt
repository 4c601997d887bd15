-- What a hart that has come to an operation may do.
use Rattle.std.proofs.Common.{◌≡◌, ℕ, ◌+◌, ◌<◌, true, false, refl, sym, ap, ◌∙◌, arith}
use Rattle.order_core.specs.declared.course.Course.{Course}
use Rattle.order_core.specs.declared.course.Op.{Op}
use Rattle.order_core.specs.declared.course.Operation.{Operation}
use Rattle.order_core.specs.Lanes.{Meets}
use Rattle.order_core.specs.Course.{Planned, At, course_of, operation_of, rank}
use Rattle.order_core.specs.Core.{Core, IsMet, IsOpen, IsNextWrite, IsPassed, opening_core, after_write}
use Rattle.order_core.specs.Counts.{writes_before}
use Rattle.order_core.specs.Turns.{HasComeTo, HasTurn, HasComeToEnd}
use Rattle.order_core.proofs.Counts.{rank_by_name, next_write, next_read, no_more, next_record, first_record}
use Rattle.order_core.proofs.Known.{Known}
use Rattle.order_core.proofs.Named.{op_at, op_none}
use Rattle.order_core.proofs.PlaceLemmas.{in_place, by_place, counted}
use Rattle.order_core.proofs.Ranks.{put_here}
use Rattle.order_core.proofs.Walks.{names, short}

module _ (plan : Planned) (is : Known (course_of plan)) (k : Core) (h m i : ℕ) (o : Op) (turn : HasTurn plan k h m i o) where
  abbrev c : Course
  c = course_of plan

  abbrev a : Operation
  a = operation_of h m i o

  there : (p : ℕ) × At c p a
  there = op_at plan h m i o turn.0.from_one turn.0.number turn.0.op

  pub opened : o.write ≡ false → (p : ℕ) × IsOpen c k h p a
  opened r = (there.0, (there.1, r, refl, turn.1.met, turn.1.above, clear))
    where
      clear : (q : ℕ) (d : Operation) → At c q d → d.what.write ≡ true → d.hart ≡ h → Meets d.what a.what → (rank h c.operations q < k.written h → q < there.0) × (q < there.0 → rank h c.operations q < k.written h)
      clear q d at w own on =
          let low : i < 4294967295 = short plan is there.0 a there.1 in
          let n = counted c (names plan is) (short plan is) h m i (k.written h) q d (omega arith) turn.1.writes at own w in (
            (λ l. by_place c (names plan is) (short plan is) q there.0 d a at there.1 own (n.0 l)),
            (λ l. n.1 (in_place c (names plan is) (short plan is) q there.0 d a at there.1 own l)),
          )

  pub may_write : o.write ≡ true → (p : ℕ) × IsNextWrite c k h p a
  may_write w = (there.0, (there.1, w, refl, rank_by_name c (names plan is) (short plan is) h m i there.0 a there.1 (refl, refl, refl) ∙ sym turn.1.writes, turn.1.met))

  pub has_read : o.write ≡ false → HasComeTo c k h m (i + 1)
  has_read r = record {
    writes = turn.1.writes ∙ sym (next_read c (names plan is) (short plan is) h m i there.0 a there.1 (refl, refl, refl) r);
    met = turn.1.met;
    above = turn.1.above;
  }

  pub has_written : o.write ≡ true → (n : ℕ) → HasComeTo c (after_write k a n) h m (i + 1)
  has_written w n = record {
    writes = put_here k.written h (k.written h + 1) ∙ (ap (λ (z : ℕ). z + 1) turn.1.writes ∙ sym (next_write c (names plan is) (short plan is) h m i there.0 a there.1 (refl, refl, refl) w));
    met = turn.1.met;
    above = turn.1.above;
  }

module _ (plan : Planned) (is : Known (course_of plan)) (h : ℕ) where
  pub first_turn : IsMet (course_of plan) (λ u. 0) h 1 → HasComeTo (course_of plan) (opening_core (course_of plan)) h 1 0
  first_turn met = record {
    writes = sym (first_record (course_of plan) (names plan is) (short plan is) (λ p a at. (is.inside p a at).from_one) h);
    met = met;
    above = omega arith;
  }

  module _ (k : Core) (m i : ℕ) (end : HasComeToEnd plan k h m i) where
    -- its performed writes are those before the next record
    all_written : k.written h ≡ writes_before (course_of plan) h (m + 1) 0
    all_written =
        let low : i < 4294967296 = end.small in
        end.at.writes
        ∙ (sym (no_more (course_of plan) (names plan is) (short plan is) h m i 4294967295 (omega arith) (op_none plan h m i end.no_more))
        ∙ next_record (course_of plan) (names plan is) (short plan is) h m)

    pub passes : IsPassed (course_of plan) (k.written h) (k.seen h) h m
    passes = (
      end.number,
      end.at.met,
      λ p a at own w low.
          let small : a.op < 4294967295 = short plan is p a at in
          (counted (course_of plan) (names plan is) (short plan is) h (m + 1) 0 (k.written h) p a (omega arith) all_written at own w).1 (omega arith),
    )

    pub next_turn : IsMet (course_of plan) (k.seen h) h (m + 1) → HasComeTo (course_of plan) k h (m + 1) 0
    next_turn met = record { writes = all_written; met = met; above = (let low : k.progress h < m = end.at.above in omega arith) }
