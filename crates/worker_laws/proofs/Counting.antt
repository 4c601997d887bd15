-- A check is counted, and passes through the filter.
use Rattle.std.proofs.Common.{◌≡◌, ℕ, ◌+◌, Bool, true, false, not, List, Option, Some, None, refl, sym, ap, ◌∙◌, arith, if◌then◌else◌}
use Rattle.pl_event.specs.declared.event.Kind.{Kind}
use Rattle.pl_event.specs.declared.event.Kind.TheVariants.{Ld, St, Op, Mv, Im, Br, Jr, Al, Fr, Bf, Mp, Um, Rd, Wr, Ex, Ft}
use Rattle.pl_event.specs.declared.log.Line.{Line}
use Rattle.pl_event.specs.declared.log.Record.{Record}
use Rattle.pl_event.specs.declared.log.Record.TheVariants as entry
use Rattle.pl_event.specs.Alerts.{is_alert_kind}
use Rattle.pl_event.specs.Records.{record_of}
use Rattle.lifeguard.specs.declared.report.Report.{Report}
use Rattle.lifeguard.specs.Plain.{is_taint}
use Rattle.order_core.specs.Course.{course_of}
use Rattle.order_core.proofs.Known.{Known}
use Rattle.guard_table.specs.declared.view.View.{View}
use Rattle.idem_filter.specs.declared.filter.Check.{Check}
use Rattle.idem_filter.specs.Filter as filter
use Rattle.worker_laws.specs.Runs.{IsFlush, IsReach, IsRun, Run, before, flushes, flushes_in, kind_in, kind_of, reach_in, reach_of, reports_before}
use Rattle.worker_laws.specs.Folds.{check_in, checks_at, failed, is_check, is_miss, misses_at, one_if, slots_at}
use Rattle.worker_laws.specs.Kept.{AreCounted, IsNext, Kept, Parts}
use Rattle.worker_laws.proofs.Slots.{hit_again, hit_passes, slots_fail, slots_pass}
use Rattle.worker_laws.proofs.Taking.{checks_next, counted_plain, misses_next}

abbrev some_check : Check → Option Check
some_check c = Some c

never : (P : Type 0) (c : Check) → None ≡ some_check c → P
never P c e = absurd (cc)

no_alert : (k : Kind) (c : Check) → reach_of k ≡ Some c → is_alert_kind k ≡ false
no_alert (Ld width rd rb addr) c e = refl
no_alert (St width rv rb addr) c e = refl
no_alert (Op rd r1 r2) c e = refl
no_alert (Mv rd rs) c e = refl
no_alert (Im rd) c e = refl
no_alert (Br r1 r2) c e = refl
no_alert (Jr rd rs) c e = refl
no_alert (Al addr len) c e = never _ c e
no_alert (Fr addr len) c e = never _ c e
no_alert (Bf addr) c e = refl
no_alert (Mp page count) c e = never _ c e
no_alert (Um page count) c e = never _ c e
no_alert (Rd addr len) c e = never _ c e
no_alert (Wr addr len) c e = never _ c e
no_alert Ex c e = refl
no_alert (Ft cause addr) c e = refl

-- a load or a store flushes nothing
pub reach_calm : (p : Run) (h m : ℕ) (c : Check) → IsReach p h m c → IsFlush p h m → ⊥
reach_calm p h m c reach flush = by (record_of p.plan.log.lines h m) reach flush
  where
    on : (x : Record) → reach_in (kind_of x) ≡ Some c → flushes x ≡ true → ⊥
    on (entry.Event e) r f = let g : false ≡ true = sym (no_alert e.kind c r) ∙ f in cc
    on (entry.Notice g point) r f = never _ c r

    by : (x : Option Line) → reach_in (kind_in x) ≡ Some c → flushes_in x ≡ true → ⊥
    by None r f = never _ c r
    by (Some line) r f = on line.what r f

module _ (p : Run) (run : IsRun p) (k : Known (course_of p.plan)) (h : ℕ) (v : View) (n : ℕ) (parts : Parts) (after : List Report) (kept : Kept p h v n parts) (next : IsNext p h v n) (told : after ≡ reports_before p h (n + 1 + 1)) where
  -- under a taint check nothing is counted
  pub counted_taint : (c : Check) → IsReach p h (n + 1) c → is_taint p.rules.name ≡ true → AreCounted p h (n + 1) (record parts { reports = after })
  counted_taint c reach taint = counted_plain p run k h n parts after (ap (λ (b : Bool). if b then None else reach_in (kind_in (record_of p.plan.log.lines h (n + 1)))) taint) (reach_calm p h (n + 1) c reach) told kept.counted

  module _ (c : Check) (is : check_in p.rules (record_of p.plan.log.lines h (n + 1)) ≡ Some c) where
    reach : IsReach p h (n + 1) c
    reach = by (is_taint p.rules.name) is
      where
        by : (b : Bool) → (if b then None else reach_in (kind_in (record_of p.plan.log.lines h (n + 1)))) ≡ Some c → reach_in (kind_in (record_of p.plan.log.lines h (n + 1))) ≡ Some c
        by true e = never _ c e
        by false e = e

    calm : IsFlush p h (n + 1) → ⊥
    calm = reach_calm p h (n + 1) c reach

    one_more : parts.checks + 1 ≡ checks_at p h (n + 1)
    one_more = ap (λ (z : ℕ). z + 1) kept.counted.checks ∙ sym (checks_next p run k h n ∙ ap (λ (o : Option Check). checks_at p h n + one_if (is_check o)) is)

    misses_are : (b : Bool) → filter.hits parts.slots c.addr c.width ≡ b → misses_at p h (n + 1) ≡ parts.misses + one_if (not b)
    misses_are b e = misses_next p run k h n ∙ (ap (λ (o : Option Check). misses_at p h n + one_if (is_miss o (slots_at p h n))) is
        ∙ (ap (λ (s : filter.Slots). misses_at p h n + one_if (not (filter.hits s c.addr c.width))) (sym kept.counted.slots)
        ∙ (ap (λ (z : Bool). misses_at p h n + one_if (not z)) e ∙ ap (λ (z : ℕ). z + one_if (not b)) (sym kept.counted.misses))))

    hit_here : filter.hits parts.slots c.addr c.width ≡ true → filter.hits (slots_at p h n) c.addr c.width ≡ true
    hit_here hit = ap (λ (s : filter.Slots). filter.hits s c.addr c.width) (sym kept.counted.slots) ∙ hit

    pub hit_right : filter.hits parts.slots c.addr c.width ≡ true → failed p.rules (before p h (n + 1)) c ≡ None
    hit_right hit = hit_passes p run h n c next.within reach (hit_here hit)

    pub counted_hit : filter.hits parts.slots c.addr c.width ≡ true → AreCounted p h (n + 1) (record parts { checks = parts.checks + 1; reports = after })
    counted_hit hit = record {
      slots = kept.counted.slots ∙ sym (slots_pass p h n calm c is (hit_right hit) ∙ hit_again p run h n c (hit_here hit));
      checks = one_more;
      misses = (let z : parts.misses + 0 ≡ parts.misses = omega arith in sym (misses_are true hit ∙ z));
      reports = told;
    }

    pub counted_pass : filter.hits parts.slots c.addr c.width ≡ false → failed p.rules (before p h (n + 1)) c ≡ None
        → AreCounted p h (n + 1) (record parts { slots = filter.entered parts.slots c.addr c.width; checks = parts.checks + 1; misses = parts.misses + 1; reports = after })
    counted_pass miss pass = record {
      slots = ap (λ (s : filter.Slots). filter.entered s c.addr c.width) kept.counted.slots ∙ sym (slots_pass p h n calm c is pass);
      checks = one_more;
      misses = sym (misses_are false miss);
      reports = told;
    }

    pub counted_fail : (a : ℕ) → filter.hits parts.slots c.addr c.width ≡ false → failed p.rules (before p h (n + 1)) c ≡ Some a
        → AreCounted p h (n + 1) (record parts { checks = parts.checks + 1; misses = parts.misses + 1; reports = after })
    counted_fail a miss bad = record {
      slots = kept.counted.slots ∙ sym (slots_fail p h n calm c is a bad);
      checks = one_more;
      misses = sym (misses_are false miss);
      reports = told;
    }
