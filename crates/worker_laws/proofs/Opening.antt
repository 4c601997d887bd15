-- Reads that a hart may make: when it comes to them, and after what it does meanwhile.
use Rattle.std.proofs.Common.{◌≡◌, ℕ, zero, suc, ◌+◌, ◌<◌, ◌≤◌, true, false, List, [], ◌∷◌, None, get_or, set, refl, sym, ◌∙◌, subst, arith}
use Rattle.std.specs.Prelude.{slice_get, slice_index}
use Rattle.order_core.specs.declared.course.Course.{Course}
use Rattle.order_core.specs.declared.course.Op.{Op}
use Rattle.order_core.specs.declared.course.Operation.{Operation}
use Rattle.order_core.specs.Core.{IsMet, IsNextWrite, IsOpen, IsPassed, put}
use Rattle.order_core.specs.Counts.{writes_before}
use Rattle.order_core.specs.Course.{IsListed, course_of, operation_of, length_of}
use Rattle.order_core.specs.Lanes.{Meets}
use Rattle.order_core.specs.Turns.{HasComeTo}
use Rattle.order_core.proofs.Counts.{next_record, no_more, once}
use Rattle.order_core.proofs.Known.{Known}
use Rattle.order_core.proofs.Named.{op_none}
use Rattle.order_core.proofs.PlaceLemmas.{counted}
use Rattle.order_core.proofs.Progress.{read_after_see, read_after_write}
use Rattle.order_core.proofs.Ranks.{put_here}
use Rattle.order_core.proofs.TurnLemmas as turns
use Rattle.order_core.proofs.Walks.{names, short}
use Rattle.guard_table.specs.declared.view.View.{View}
use Rattle.guard_table.specs.Views.{known_core, looked, advertised, wrote}
use Rattle.worker_laws.specs.Runs.{Run, size}
use Rattle.worker_laws.specs.Reads.{MayReadNow}

-- a number set in a list to one that is not below it
pub raised : (l : List ℕ) (i n u : ℕ) → get_or l i 0 ≤ n → get_or l u 0 ≤ get_or (set l i n) u 0
raised [] i n u le = omega arith
raised (x ∷ xs) zero n zero le = le
raised (x ∷ xs) zero n (suc u) le = omega arith
raised (x ∷ xs) (suc i) n zero le = omega arith
raised (x ∷ xs) (suc i) n (suc u) le = raised xs i n u le

module _ (p : Run) (k : Known (course_of p.plan)) (h : ℕ) where
  abbrev c : Course
  c = course_of p.plan

  -- a read may be made when the hart comes to it
  pub able_now : (v : View) (m i : ℕ) (o : Op) → IsListed p.plan h m i o → HasComeTo c (known_core v) h m i → o.write ≡ false → MayReadNow p h v m i o
  able_now v m i o listed come r = record {
    listed = listed;
    able = λ q at.
        let t = turns.opened p.plan k (known_core v) h m i o (listed, come) r in
        subst (λ (z : ℕ). IsOpen c (known_core v) h z (operation_of h m i o))
        (once c (names p.plan k) (short p.plan k) t.0 q (operation_of h m i o) (operation_of h m i o) t.1.0 at refl refl refl) t.1;
  }

  -- still after a look at another hart
  pub able_looked : (v : View) (u n m i : ℕ) (o : Op) → slice_index v.seen u ≤ n → MayReadNow p h v m i o → MayReadNow p h (looked u n v) m i o
  able_looked v u n m i o le is = record {
    listed = is.listed;
    able = λ q at. read_after_see c h q (operation_of h m i o) v.written v.progress (λ x. get_or v.seen x 0) (λ x. get_or (set v.seen u n) x 0) (λ x. raised v.seen u n x le) (is.able q at);
  }

  -- after an advertisement below its record
  pub able_advertised : (v : View) (upto m i : ℕ) (o : Op) → upto < m → MayReadNow p h v m i o → MayReadNow p h (advertised upto v) m i o
  able_advertised v upto m i o low is = record {
    listed = is.listed;
    able = λ q at. let may = is.able q at in (may.0, may.1, may.2, may.3, low, may.5);
  }

  -- and after a write that does not clash with it
  pub able_wrote : (v : View) (x m i : ℕ) (d : Operation) (o : Op) → IsNextWrite c (known_core v) h x d → (Meets d.what o → ⊥) → MayReadNow p h v m i o → MayReadNow p h (wrote v) m i o
  able_wrote v x m i d o next apart is = record {
    listed = is.listed;
    able = λ q at. read_after_write c h q x (operation_of h m i o) d v.written v.progress (λ y. get_or v.seen y 0) (is.able q at) next.0 next.1 next.2 next.3 apart;
  }

  -- the writes of the first records are performed: as many of them may be advertised
  pub passed : (v : View) (n upto : ℕ) → upto ≤ n → n ≤ size p h → v.written ≡ writes_before c h (n + 1) 0 → IsMet c (slice_index v.seen) h n → IsPassed c v.written (slice_index v.seen) h upto
  passed v n upto le few count met = (
    (let f : n ≤ length_of c h = few in omega arith),
    (λ u i j need l. met u i j need (omega arith)),
    (λ q a at own w l. let s : a.op < 4294967295 = short p.plan k q a at in
        (counted c (names p.plan k) (short p.plan k) h (n + 1) 0 v.written q a (omega arith) count at own w).1 (omega arith)),
  )

  -- the last operation of a record is made
  pub all_made : (v : View) (m i : ℕ) → i < 4294967295 → HasComeTo c (known_core v) h m i → slice_get (p.plan.operations h m) i ≡ None → v.written ≡ writes_before c h (m + 1) 0
  all_made v m i small come none = come.writes
      ∙ (sym (no_more c (names p.plan k) (short p.plan k) h m i 4294967295 (omega arith) (op_none p.plan h m i none))
      ∙ next_record c (names p.plan k) (short p.plan k) h m)

  -- a write that the hart comes to is its next
  pub next_write : (v : View) (m i : ℕ) (o : Op) → IsListed p.plan h m i o → HasComeTo c (known_core v) h m i → o.write ≡ true → (q : ℕ) × IsNextWrite c (known_core v) h q (operation_of h m i o)
  next_write v m i o listed come w = turns.may_write p.plan k (known_core v) h m i o (listed, come) w

  pub come_read : (v : View) (m i : ℕ) (o : Op) → IsListed p.plan h m i o → HasComeTo c (known_core v) h m i → o.write ≡ false → HasComeTo c (known_core v) h m (i + 1)
  come_read v m i o listed come r = turns.has_read p.plan k (known_core v) h m i o (listed, come) r

  pub come_wrote : (v : View) (m i : ℕ) (o : Op) → IsListed p.plan h m i o → HasComeTo c (known_core v) h m i → o.write ≡ true → HasComeTo c (known_core (wrote v)) h m (i + 1)
  come_wrote v m i o listed come w = record {
    writes = (let t = turns.has_written p.plan k (known_core v) h m i o (listed, come) w 0 in
        sym (at_own (λ (g : ℕ). v.written) (v.written + 1)) ∙ t.writes);
    met = come.met;
    above = come.above;
  }
    where
      at_own : (f : ℕ → ℕ) (x : ℕ) → put f h x h ≡ x
      at_own f x = put_here f h x
