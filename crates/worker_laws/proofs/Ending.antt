-- A worker's start and its end.
use Rattle.std.proofs.Common.{◌≡◌, ℕ, zero, suc, ◌+◌, ◌-◌, ◌<◌, Bool, true, false, not, ◌&&◌, eqb, List, [], ◌∷◌, length, Option, Some, None, count_by, refl, sym, ap, ◌∙◌, arith, ne_eqb, if◌then◌else◌}
use Rattle.std.proofs.lemmas.List.Sums.{sum_by-cons}
use Rattle.pl_event.specs.declared.event.Kind.{Kind}
use Rattle.pl_event.specs.declared.event.Kind.TheVariants.{Ld, St, Op, Mv, Im, Br, Jr, Al, Fr, Bf, Mp, Um, Rd, Wr, Ex, Ft}
use Rattle.pl_event.specs.declared.log.Line.{Line}
use Rattle.pl_event.specs.declared.log.Record.{Record}
use Rattle.pl_event.specs.declared.log.Record.TheVariants as entry
use Rattle.pl_event.specs.Conflicts.{is_access}
use Rattle.pl_event.specs.Numbers.{events_of, is_of}
use Rattle.pl_event.specs.Records.{record_of, records_before}
use Rattle.lifeguard.specs.Plain.{is_taint, plain_result}
use Rattle.lifeguard.specs.Ranges.{reports_on}
use Rattle.lifeguard.specs.Rules.{Rules}
use Rattle.lifeguard.specs.State.{State}
use Rattle.order_core.specs.Course.{course_of}
use Rattle.order_core.proofs.Counts.{first_record}
use Rattle.order_core.proofs.Known.{Known}
use Rattle.order_core.proofs.Walks.{names, short}
use Rattle.guard_table.specs.declared.view.View.{View}
use Rattle.inherit_track.specs.declared.state.Held.{Held}
use Rattle.inherit_track.specs.declared.state.RegState.TheVariants as reg
use Rattle.turn_worker.specs.Results.{checks_of, has_access, has_check}
use Rattle.worker_laws.specs.Runs.{IsRun, Moment, Run, before, kind_of, reach_in, reach_of, size}
use Rattle.worker_laws.specs.Folds.{check_in, checks_at, is_check, one_if}
use Rattle.worker_laws.specs.Kept.{Kept, Parts, first_parts}
use Rattle.worker_laws.proofs.Own.{after_all, first_masks, first_reports}
use Rattle.worker_laws.proofs.Taking.{found_empty}

same_known : (x y : ℕ) → reg.Known x ≡ reg.Known y → x ≡ y
same_known x y e = cc

no_held : (P : Type 0) (x : ℕ) (s : Held) → reg.Known x ≡ reg.Held s → P
no_held P x s e = absurd (cc)

module _ (p : Run) (run : IsRun p) (k : Known (course_of p.plan)) (h : ℕ) (v : View) where
  pub kept_first : v.written ≡ 0 → v.progress ≡ 0 → Kept p h v 0 first_parts
  kept_first none low = record {
    taken = record {
      within = omega arith;
      written = none ∙ sym (first_record (course_of p.plan) (names p.plan k) (short p.plan k) (λ q a at. (k.inside q a at).from_one) h);
      met = λ u n m need le. absurd (k.first u n h m le need);
      told = omega (arith, low);
      lag = omega arith;
    };
    right = record {
      known = λ r y lt e. sym (same_known 0 y e) ∙ sym (first_masks p run h r);
      held = λ r s lt e. no_held _ 0 s e;
    };
    found = found_empty p run k h 0;
    counted = record { slots = refl; checks = refl; misses = refl; reports = sym (first_reports p run h) };
  }

  abbrev end : State
  end = plain_result p.rules p.plan.log.pages (events_of p.plan.log.lines)

  last : (before p h (size p h + 1)).state ≡ end
  last = ap (λ (z : Moment). z.state) (after_all p run h) ∙ run.last

  module _ (parts : Parts) (kept : Kept p h v (size p h) parts) where
    pub end_reports : parts.reports ≡ reports_on h end.reports
    end_reports = kept.counted.reports ∙ ap (λ (s : State). reports_on h s.reports) last

    pub end_masks : (r mask : ℕ) → r < 34 → parts.states r ≡ reg.Known mask → mask ≡ end.masks h r
    end_masks r mask lt e = kept.right.known r mask lt e ∙ ap (λ (s : State). s.masks h r) last

-- ---- checks over a hart's records, and over all lines

module _ (f : Option Line → ℕ) (h : ℕ) where
  abbrev total : List Line → ℕ → ℕ
  total lines zero = 0
  total lines (suc k) = total lines k + f (record_of lines h (suc k))

  module _ (x : Line) (lines : List Line) where
    other : is_of h x ≡ false → (k : ℕ) → total (x ∷ lines) k ≡ total lines k
    other e zero = refl
    other e (suc k) = (λ d. other e k d + f (if e d then (if eqb (suc k) 1 then Some x else record_of lines h (suc k - 1)) else record_of lines h (suc k)))

    first_is : is_of h x ≡ true → record_of (x ∷ lines) h 1 ≡ Some x
    first_is e = ap (λ (b : Bool). if b then Some x else record_of lines h 1) e

    later_is : is_of h x ≡ true → (k : ℕ) → record_of (x ∷ lines) h (suc (suc k)) ≡ record_of lines h (suc k)
    later_is e k =
        let n : suc (suc k) - 1 ≡ suc k = omega arith in
        ap (λ (b : Bool). if b then (if eqb (suc (suc k)) 1 then Some x else record_of lines h (suc (suc k) - 1)) else record_of lines h (suc (suc k))) e
        ∙ (ap (λ (c : Bool). if c then Some x else record_of lines h (suc (suc k) - 1)) (ne_eqb (suc (suc k)) 1 (λ z. (let q : suc (suc k) ≡ 1 = z in omega arith)))
        ∙ ap (record_of lines h) n)

    own : is_of h x ≡ true → (k : ℕ) → total (x ∷ lines) (suc k) ≡ f (Some x) + total lines k
    own e zero = ap (λ (o : Option Line). 0 + f o) (first_is e) ∙ (let z : 0 + f (Some x) ≡ f (Some x) + 0 = omega arith in z)
    own e (suc k) = (λ d. own e k d + f (later_is e k d)) ∙ (let z : f (Some x) + total lines k + f (record_of lines h (suc k)) ≡ f (Some x) + (total lines k + f (record_of lines h (suc k))) = omega arith in z)

  module _ (g : Line → Bool) (is : (l : Line) → f (Some l) ≡ one_if (g l)) where
    counts : (lines : List Line) → total lines (records_before h lines (length lines)) ≡ count_by (λ (l : Line). is_of h l && g l) lines
    counts [] = refl
    counts (x ∷ lines) = by (counts lines) (is_of h x) refl
      where
        counted : count_by (λ (l : Line). is_of h l && g l) (x ∷ lines) ≡ one_if (is_of h x && g x) + count_by (λ (l : Line). is_of h l && g l) lines
        counted = sum_by-cons (λ (l : Line). if is_of h l && g l then 1 else 0) x lines

        by : total lines (records_before h lines (length lines)) ≡ count_by (λ (l : Line). is_of h l && g l) lines → (b : Bool) → is_of h x ≡ b → total (x ∷ lines) ((if is_of h x then 1 else 0) + records_before h lines (length lines)) ≡ count_by (λ (l : Line). is_of h l && g l) (x ∷ lines)
        by deep true e =
            let m : 1 + records_before h lines (length lines) ≡ suc (records_before h lines (length lines)) = omega arith in
            ap (λ (b : Bool). total (x ∷ lines) ((if b then 1 else 0) + records_before h lines (length lines))) e ∙ (ap (total (x ∷ lines)) m ∙ (own x lines e (records_before h lines (length lines))
            ∙ ((λ d. is x d + deep d) ∙ (sym (counted ∙ ap (λ (b : Bool). one_if (b && g x) + count_by (λ (l : Line). is_of h l && g l) lines) e)))))
        by deep false e =
            let m : 0 + records_before h lines (length lines) ≡ records_before h lines (length lines) = omega arith in
            ap (λ (b : Bool). total (x ∷ lines) ((if b then 1 else 0) + records_before h lines (length lines))) e ∙ (ap (total (x ∷ lines)) m ∙ (other x lines e (records_before h lines (length lines))
            ∙ (deep ∙ (let z : count_by (λ (l : Line). is_of h l && g l) lines ≡ 0 + count_by (λ (l : Line). is_of h l && g l) lines = omega arith in
            z ∙ sym (counted ∙ ap (λ (b : Bool). one_if (b && g x) + count_by (λ (l : Line). is_of h l && g l) lines) e)))))

kind_check : (k : Kind) → is_check (reach_of k) ≡ is_access k
kind_check (Ld width rd rb addr) = refl
kind_check (St width rv rb addr) = refl
kind_check (Op rd r1 r2) = refl
kind_check (Mv rd rs) = refl
kind_check (Im rd) = refl
kind_check (Br r1 r2) = refl
kind_check (Jr rd rs) = refl
kind_check (Al addr len) = refl
kind_check (Fr addr len) = refl
kind_check (Bf addr) = refl
kind_check (Mp page count) = refl
kind_check (Um page count) = refl
kind_check (Rd addr len) = refl
kind_check (Wr addr len) = refl
kind_check Ex = refl
kind_check (Ft cause addr) = refl

record_check : (x : Record) → is_check (reach_in (kind_of x)) ≡ has_access x
record_check (entry.Event e) = kind_check e.kind
record_check (entry.Notice g point) = refl

line_check : (rules : Rules) (l : Line) → one_if (is_check (check_in rules (Some l))) ≡ one_if (has_check rules l)
line_check rules l = ap one_if (by (is_taint rules.name) (record_check l.what))
  where
    by : (b : Bool) → is_check (reach_in (kind_of l.what)) ≡ has_access l.what → is_check (if b then None else reach_in (kind_of l.what)) ≡ (has_access l.what && not b)
    by true e = no_more (has_access l.what)
      where
        no_more : (c : Bool) → false ≡ (c && false)
        no_more true = refl
        no_more false = refl
    by false e = e ∙ still (has_access l.what)
      where
        still : (c : Bool) → c ≡ (c && true)
        still true = refl
        still false = refl

-- the checks of all records of a hart
pub all_checks : (p : Run) (h : ℕ) → checks_at p h (size p h) ≡ checks_of p.rules h p.plan.log.lines
all_checks p h = as_total (size p h) ∙ counts (λ (o : Option Line). one_if (is_check (check_in p.rules o))) h (has_check p.rules) (line_check p.rules) p.plan.log.lines
  where
    as_total : (n : ℕ) → checks_at p h n ≡ total (λ (o : Option Line). one_if (is_check (check_in p.rules o))) h p.plan.log.lines n
    as_total zero = refl
    as_total (suc n) = ap (λ (z : ℕ). z + one_if (is_check (check_in p.rules (record_of p.plan.log.lines h (suc n))))) (as_total n)
