-- How many records and checks a hart has.
use Rattle.std.proofs.Common.{◌≡◌, ℕ, zero, suc, ◌+◌, ◌<◌, ◌≤◌, Bool, true, false, not, ◌&&◌, ◌==◌, List, [], ◌∷◌, length, Option, Some, None, refl, sym, ap, ◌∙◌, arith, add-one, if◌then◌else◌}
use Rattle.std.proofs.Math.Logic.{∥∥₁_elim}
use denote.Struct.Props.{props}
use Rattle.pl_event.specs.declared.log.Line.{Line}
use Rattle.pl_event.specs.Numbers.{is_of}
use Rattle.pl_event.specs.Records.{record_of, records_before}
use Rattle.lifeguard.specs.Plain.{is_taint}
use Rattle.order_core.specs.Course.{course_of}
use Rattle.order_core.specs.Lawful.{IsLawful}
use Rattle.idem_filter.specs.declared.filter.Check.{Check}
use Rattle.idem_filter.specs.Filter.{Slots, hits}
use Rattle.worker_laws.specs.Reads.{directory_of}
use Rattle.worker_laws.specs.Runs.{IsReach, IsRun, Run, before, kind_in, reach_in, size}
use Rattle.worker_laws.specs.Folds.{check_at, checks_at, is_check, is_miss, is_step, misses_at, one_if, slots_at, steps_at}

one_at_most : (b : Bool) → one_if b ≤ 1
one_at_most true = omega arith
one_at_most false = omega arith

few_records : (h : ℕ) (lines : List Line) (i : ℕ) → records_before h lines i ≤ i
few_records h [] i = omega arith
few_records h (line ∷ lines) zero = omega arith
few_records h (line ∷ lines) (suc i) = let a : records_before h lines i ≤ i = few_records h lines i in let b : one_if (is_of h line) ≤ 1 = one_at_most (is_of h line) in omega arith

pub size_small : (p : Run) → IsRun p → (h : ℕ) → size p h < 4294967295
size_small p run h = ∥∥₁_elim run.lawful (hlevel props) (λ (l : IsLawful (course_of p.plan)).
    let a : size p h ≤ length p.plan.log.lines = few_records h p.plan.log.lines (length p.plan.log.lines) in
    let b : length p.plan.log.lines < 4294967295 = l.few in omega arith)

pub few_checks : (p : Run) (h n : ℕ) → checks_at p h n ≤ n
few_checks p h zero = omega arith
few_checks p h (suc n) = let a : checks_at p h n ≤ n = few_checks p h n in let b : one_if (is_check (check_at p h (suc n))) ≤ 1 = one_at_most (is_check (check_at p h (suc n))) in omega arith

pub few_misses : (p : Run) (h n : ℕ) → misses_at p h n ≤ n
few_misses p h zero = omega arith
few_misses p h (suc n) = let a : misses_at p h n ≤ n = few_misses p h n in let b : one_if (is_miss (check_at p h (suc n)) (slots_at p h n)) ≤ 1 = one_at_most (is_miss (check_at p h (suc n)) (slots_at p h n)) in omega arith

-- the steps of the next record
pub steps_next : (p : Run) (h n : ℕ) → steps_at p h (n + 1) ≡ steps_at p h n + one_if (is_step (before p h (n + 1)) (check_at p h (n + 1)) (slots_at p h n))
steps_next p h n = ap (steps_at p h) (add-one n) ∙ ap (λ (z : ℕ). steps_at p h n + one_if (is_step (before p h z) (check_at p h z) (slots_at p h n))) (sym (add-one n))

-- a record without a check makes none
pub steps_same : (p : Run) (h n : ℕ) → check_at p h (n + 1) ≡ None → steps_at p h (n + 1) ≡ steps_at p h n
steps_same p h n none = steps_next p h n ∙ (ap (λ (o : Option Check). steps_at p h n + one_if (is_step (before p h (n + 1)) o (slots_at p h n))) none ∙ no_more (steps_at p h n))
  where
    no_more : (x : ℕ) → x + 0 ≡ x
    no_more x = omega arith

-- ---- the check of the next record

pub check_there : (p : Run) (h m : ℕ) (c : Check) → is_taint p.rules.name ≡ false → IsReach p h m c → check_at p h m ≡ Some c
check_there p h m c other reach = ap (λ (b : Bool). if b then None else reach_in (kind_in (record_of p.plan.log.lines h m))) other ∙ reach

pub check_none : (p : Run) (h m : ℕ) → is_taint p.rules.name ≡ true → check_at p h m ≡ None
check_none p h m taint = ap (λ (b : Bool). if b then None else reach_in (kind_in (record_of p.plan.log.lines h m))) taint

module _ (p : Run) (h n : ℕ) (c : Check) (slots : Slots) (are : slots ≡ slots_at p h n) (is : check_at p h (n + 1) ≡ Some c) where
  with_check : steps_at p h (n + 1) ≡ steps_at p h n + one_if (not (hits slots c.addr c.width) && not ((before p h (n + 1)).words (directory_of c.addr) == 0))
  with_check = steps_next p h n ∙ (ap (λ (o : Option Check). steps_at p h n + one_if (is_step (before p h (n + 1)) o (slots_at p h n))) is
      ∙ ap (λ (z : Slots). steps_at p h n + one_if (not (hits z c.addr c.width) && not ((before p h (n + 1)).words (directory_of c.addr) == 0))) (sym are))

  pub steps_passed : hits slots c.addr c.width ≡ true → steps_at p h (n + 1) ≡ steps_at p h n
  steps_passed hit = with_check ∙ (ap (λ (b : Bool). steps_at p h n + one_if (not b && not ((before p h (n + 1)).words (directory_of c.addr) == 0))) hit ∙ no_more (steps_at p h n))
    where
      no_more : (x : ℕ) → x + 0 ≡ x
      no_more x = omega arith

  pub steps_made : (d : ℕ) → hits slots c.addr c.width ≡ false → d ≡ (before p h (n + 1)).words (directory_of c.addr) → steps_at p h (n + 1) ≡ steps_at p h n + one_if (not (d == 0))
  steps_made d miss e = with_check ∙ (ap (λ (b : Bool). steps_at p h n + one_if (not b && not ((before p h (n + 1)).words (directory_of c.addr) == 0))) miss
      ∙ ap (λ (z : ℕ). steps_at p h n + one_if (not (z == 0))) (sym e))
