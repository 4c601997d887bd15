-- What is kept, from record to record.
use Rattle.std.proofs.Common.{◌≡◌, ℕ, zero, suc, ◌+◌, ◌<◌, ◌≤◌, Bool, true, false, List, Option, Some, None, refl, sym, ap, ◌∙◌, arith, add-one, if◌then◌else◌}
use Rattle.std.specs.Prelude.{replicate, slice_get, slice_index_or}
use Rattle.pl_base.specs.declared.widths.LoadWidth.{LoadWidth}
use Rattle.pl_base.specs.declared.widths.LoadWidth.TheVariants as load
use Rattle.pl_event.specs.declared.event.Kind.{Kind}
use Rattle.pl_event.specs.declared.event.Kind.TheVariants.{Op as Joins, Mv, Im, Br, Jr, Bf, Ex, Ft}
use Rattle.pl_event.specs.Alerts.{is_alert_kind}
use Rattle.pl_event.specs.Records.{record_of}
use Rattle.lifeguard.specs.declared.guard.Name.TheVariants as name
use Rattle.lifeguard.specs.declared.report.Report.{Report}
use Rattle.pl_base.specs.declared.widths.FaultCause.{FaultCause}
use Rattle.lifeguard.specs.Plain.{is_taint, loaded_mask}
use Rattle.lifeguard.specs.Rules.{Rules, KeepsLaws}
use Rattle.lifeguard.specs.State.{Bytes, nibble_at}
use Rattle.order_core.specs.declared.course.Op.{Op}
use Rattle.order_core.specs.Course.{course_of}
use Rattle.order_core.specs.Shapes.{fill}
use Rattle.order_core.specs.Turns.{HasComeTo}
use Rattle.shadow_layout.specs.Operations.{shapes}
use Rattle.order_core.proofs.Known.{Known}
use Rattle.guard_table.specs.declared.view.View.{View}
use Rattle.guard_table.specs.Views.{known_core}
use Rattle.idem_filter.specs.declared.filter.Check.{Check}
use Rattle.idem_filter.specs.Filter as filter
use Rattle.inherit_track.specs.declared.state.RegState.{RegState}
use Rattle.inherit_track.specs.declared.state.RegState.TheVariants as reg
use Rattle.inherit_track.specs.States.{with_state}
use Rattle.meta_lookaside.specs.declared.look_aside.Entry.{Entry}
use Rattle.meta_lookaside.specs.LookAside as look
use Rattle.shadow_frames.specs.Words.{directory_word}
use Rattle.worker_laws.specs.Runs.{Run, IsFlush, IsKind, IsRun, before, kind_in, masks_before, reach_in, reach_of, reports_before, size}
use Rattle.worker_laws.specs.Reads.{AreRight}
use Rattle.worker_laws.specs.Folds.{check_in, checks_at, is_check, is_miss, misses_at, one_if, slots_at}
use Rattle.worker_laws.specs.Kept.{AreCounted, AreFound, HasTaken, IsNext, Kept, Parts}
use Rattle.worker_laws.proofs.Keeping.{all_right, calm, lasts_next, operations_are, right_next, right_same, right_set}
use Rattle.worker_laws.proofs.Opening.{all_made}
use Rattle.worker_laws.proofs.Own.{event_masks}
use Rattle.worker_laws.proofs.Slots.{slots_flushed, slots_plain}

abbrev no_entry : Option Entry
no_entry = None

-- the same states, register by register
pub same_states : (p : Run) (h : ℕ) (v : View) (n m : ℕ) (old new : ℕ → RegState) → ((r : ℕ) → new r ≡ old r) → AreRight p h v n m old → AreRight p h v n m new
same_states p h v n m old new same are = record {
  known = λ r y lt e. are.known r y lt (sym (same r) ∙ e);
  held = λ r s lt e. are.held r s lt (sym (same r) ∙ e);
}

-- under an address check each load finds a clear mask
pub clear_mask : (rules : Rules) → KeepsLaws rules → rules.name ≡ name.Addr → (bytes : Bytes) → ((a : ℕ) → nibble_at bytes a < 8) → (width : LoadWidth) (addr : ℕ) → loaded_mask rules width bytes addr ≡ 0
clear_mask rules laws is bytes low width addr = by width
  where
    clear : (a : ℕ) → rules.load_bit (nibble_at bytes a) ≡ false
    clear a = laws.addr_loads is (nibble_at bytes a) (low a)

    by : (u : LoadWidth) → loaded_mask rules u bytes addr ≡ 0
    by load.B = rw (clear addr) refl
    by load.H = rw (clear addr, clear (addr + 1)) refl
    by load.W = rw (clear addr, clear (addr + 1), clear (addr + 2), clear (addr + 3)) refl
    by load.Bu = rw (clear addr) refl
    by load.Hu = rw (clear addr, clear (addr + 1)) refl

module _ (p : Run) (run : IsRun p) (k : Known (course_of p.plan)) (h : ℕ) where
  -- ---- the next record

  pub come : (v : View) (n : ℕ) → HasTaken p h v n → IsNext p h v n → HasComeTo (course_of p.plan) (known_core v) h (n + 1) 0
  come v n taken next = record { writes = taken.written; met = next.met; above = (let l : v.progress ≤ n = taken.told in omega arith) }

  -- all its operations are made, or left for later
  pub taken_next : (v : View) (n i : ℕ) → n + 1 ≤ size p h → n + 1 ≤ v.progress + 64 → i < 4294967295 → HasComeTo (course_of p.plan) (known_core v) h (n + 1) i → slice_get (p.plan.operations h (n + 1)) i ≡ None → HasTaken p h v (n + 1)
  taken_next v n i within near small at none = record {
    within = within;
    written = all_made p k h v (n + 1) i small at none;
    met = at.met;
    told = (let l : v.progress < n + 1 = at.above in omega arith);
    lag = near;
  }

  pub found_next : (n : ℕ) (slots : look.Slots) → (IsFlush p h (n + 1) → ⊥) → AreFound p h slots n → AreFound p h slots (n + 1)
  found_next n slots quiet are page frame e = lasts_next p h n (λ q. q.words (directory_word page) ≡ frame + 1) (are page frame e) quiet

  -- ---- counts

  abbrev check_next : ℕ → Option Check
  check_next n = check_in p.rules (record_of p.plan.log.lines h (n + 1))

  pub checks_next : (n : ℕ) → checks_at p h (n + 1) ≡ checks_at p h n + one_if (is_check (check_in p.rules (record_of p.plan.log.lines h (n + 1))))
  checks_next n = ap (checks_at p h) (add-one n) ∙ ap (λ (z : ℕ). checks_at p h n + one_if (is_check (check_in p.rules (record_of p.plan.log.lines h z)))) (sym (add-one n))

  pub misses_next : (n : ℕ) → misses_at p h (n + 1) ≡ misses_at p h n + one_if (is_miss (check_in p.rules (record_of p.plan.log.lines h (n + 1))) (slots_at p h n))
  misses_next n = ap (misses_at p h) (add-one n) ∙ ap (λ (z : ℕ). misses_at p h n + one_if (is_miss (check_in p.rules (record_of p.plan.log.lines h z)) (slots_at p h n))) (sym (add-one n))

  no_more : (x : ℕ) → x + 0 ≡ x
  no_more x = omega arith

  -- a record without a check that flushes nothing
  pub counted_plain : (n : ℕ) (parts : Parts) (after : List Report) → check_in p.rules (record_of p.plan.log.lines h (n + 1)) ≡ None → (IsFlush p h (n + 1) → ⊥) → after ≡ reports_before p h (n + 1 + 1) → AreCounted p h n parts
      → AreCounted p h (n + 1) (record parts { reports = after })
  counted_plain n parts after none quiet told counted = record {
    slots = counted.slots ∙ sym (slots_plain p h n quiet none);
    checks = counted.checks ∙ sym (checks_next n ∙ (ap (λ (o : Option Check). checks_at p h n + one_if (is_check o)) none ∙ no_more (checks_at p h n)));
    misses = counted.misses ∙ sym (misses_next n ∙ (ap (λ (o : Option Check). misses_at p h n + one_if (is_miss o (slots_at p h n))) none ∙ no_more (misses_at p h n)));
    reports = told;
  }

  -- a record that flushes
  pub counted_flush : (n : ℕ) (parts : Parts) (after : List Report) → check_in p.rules (record_of p.plan.log.lines h (n + 1)) ≡ None → IsFlush p h (n + 1) → after ≡ reports_before p h (n + 1 + 1) → AreCounted p h n parts
      → AreCounted p h (n + 1) (record parts { look = look.empty; slots = filter.empty; reports = after })
  counted_flush n parts after none flush told counted = record {
    slots = sym (slots_flushed p h n flush);
    checks = counted.checks ∙ sym (checks_next n ∙ (ap (λ (o : Option Check). checks_at p h n + one_if (is_check o)) none ∙ no_more (checks_at p h n)));
    misses = counted.misses ∙ sym (misses_next n ∙ (ap (λ (o : Option Check). misses_at p h n + one_if (is_miss o (slots_at p h n))) none ∙ no_more (misses_at p h n)));
    reports = told;
  }

  -- no check where nothing is reached
  pub unchecked : (m : ℕ) → reach_in (kind_in (record_of p.plan.log.lines h m)) ≡ None → check_in p.rules (record_of p.plan.log.lines h m) ≡ None
  unchecked m none = by (is_taint p.rules.name)
    where
      by : (b : Bool) → (if b then None else reach_in (kind_in (record_of p.plan.log.lines h m))) ≡ None
      by true = refl
      by false = none

  none_found : (page frame : ℕ) → look.found look.empty page ≡ Some frame → ⊥
  none_found page frame e = by (look.slot_of page) e
    where
      clear : (n i : ℕ) → slice_index_or (replicate n no_entry) i None ≡ no_entry
      clear zero i = refl
      clear (suc n) zero = refl
      clear (suc n) (suc i) = clear n i

      by : (i : ℕ) → look.frame_in (slice_index_or look.empty i None) page ≡ Some frame → ⊥
      by i e = (let f : None ≡ Some frame = sym (ap (λ (o : Option Entry). look.frame_in o page) (clear 16 i)) ∙ e in cc)

  pub found_empty : (n : ℕ) → AreFound p h look.empty n
  found_empty n page frame e = absurd (none_found page frame e)

  -- ---- a record without operations that reaches nothing and flushes nothing

  module _ (v : View) (n : ℕ) (parts : Parts) (after : List Report) (kept : Kept p h v n parts) (next : IsNext p h v n) (told : after ≡ reports_before p h (n + 1 + 1)) where
    silent : (kd : Kind) (states : ℕ → RegState) → IsKind p h (n + 1) kd → is_alert_kind kd ≡ false → reach_of kd ≡ None → slice_get (p.plan.operations h (n + 1)) 0 ≡ None → AreRight p h v (n + 1) (n + 1 + 1) states
        → Kept p h v (n + 1) (record parts { states = states; reports = after })
    silent kd states is quiet none empty are = record {
      taken = taken_next v n 0 next.within next.near (omega arith) (come v n kept.taken next) empty;
      right = are;
      found = found_next n parts.look still kept.found;
      counted = (let c = counted_plain n parts after (unchecked (n + 1) (ap reach_in is ∙ none)) still told kept.counted in
          record { slots = c.slots; checks = c.checks; misses = c.misses; reports = c.reports });
    }
      where
        still : IsFlush p h (n + 1) → ⊥
        still = calm p h (n + 1) kd is quiet

    -- the states so far, once the record is taken
    right_now : (kd : Kind) → IsKind p h (n + 1) kd → is_alert_kind kd ≡ false → AreRight p h v (n + 1) (n + 1) parts.states
    right_now kd is quiet = right_next p h v n (n + 1) parts.states (calm p h (n + 1) kd is quiet) kept.right

    empty_at : (kd : Kind) → IsKind p h (n + 1) kd → slice_get (fill (before p h (n + 1)).words (shapes p.rules p.plan.log.block h (before p h (n + 1)).state.masks (before p h (n + 1)).words kd)) 0 ≡ None
        → slice_get (p.plan.operations h (n + 1)) 0 ≡ None
    empty_at kd is e = ap (λ (z : List Op). slice_get z 0) (operations_are p run h (n + 1) kd (omega arith) next.within is) ∙ e

    pub kept_im : (rd : ℕ) → IsKind p h (n + 1) (Im rd) → Kept p h v (n + 1) (record parts { states = with_state parts.states rd (reg.Known 0); reports = after })
    kept_im rd is = silent (Im rd) (with_state parts.states rd (reg.Known 0)) is refl refl (empty_at (Im rd) is refl)
        (right_set p h v (n + 1) (n + 1) (n + 1 + 1) rd 0 (reg.Known 0) parts.states (right_now (Im rd) is refl) refl (λ r. event_masks p run h (n + 1) (Im rd) r is))

    -- a copy: what is held is held twice
    pub kept_mv : (rd rs : ℕ) → rs < 34 → IsKind p h (n + 1) (Mv rd rs) → Kept p h v (n + 1) (record parts { states = with_state parts.states rd (parts.states rs); reports = after })
    kept_mv rd rs low is = silent (Mv rd rs) (with_state parts.states rd (parts.states rs)) is refl refl (empty_at (Mv rd rs) is refl)
        (right_set p h v (n + 1) (n + 1) (n + 1 + 1) rd (masks_before p h (n + 1) rs) (parts.states rs) parts.states (right_now (Mv rd rs) is refl)
        (all_right p h v (n + 1) (n + 1) parts.states (right_now (Mv rd rs) is refl) rs low) (λ r. event_masks p run h (n + 1) (Mv rd rs) r is))

    pub kept_op : (rd r1 r2 a b : ℕ) → r1 < 34 → r2 < 34 → parts.states r1 ≡ reg.Known a → parts.states r2 ≡ reg.Known b → IsKind p h (n + 1) (Joins rd r1 r2)
        → Kept p h v (n + 1) (record parts { states = with_state parts.states rd (reg.Known (p.rules.joins a b)); reports = after })
    kept_op rd r1 r2 a b low1 low2 ea eb is = silent (Joins rd r1 r2) (with_state parts.states rd (reg.Known (p.rules.joins a b))) is refl refl (empty_at (Joins rd r1 r2) is refl)
        (right_set p h v (n + 1) (n + 1) (n + 1 + 1) rd (p.rules.joins (masks_before p h (n + 1) r1) (masks_before p h (n + 1) r2)) (reg.Known (p.rules.joins a b)) parts.states (right_now (Joins rd r1 r2) is refl)
        (λ d. p.rules.joins (kept.right.known r1 a low1 ea d) (kept.right.known r2 b low2 eb d)) (λ r. event_masks p run h (n + 1) (Joins rd r1 r2) r is))

    -- under an address check nothing is joined
    pub kept_addr_op : (rd r1 r2 : ℕ) → p.rules.name ≡ name.Addr → IsKind p h (n + 1) (Joins rd r1 r2) → Kept p h v (n + 1) (record parts { states = with_state parts.states rd (reg.Known 0); reports = after })
    kept_addr_op rd r1 r2 addr is = silent (Joins rd r1 r2) (with_state parts.states rd (reg.Known 0)) is refl refl (empty_at (Joins rd r1 r2) is refl)
        (right_set p h v (n + 1) (n + 1) (n + 1 + 1) rd (p.rules.joins (masks_before p h (n + 1) r1) (masks_before p h (n + 1) r2)) (reg.Known 0) parts.states (right_now (Joins rd r1 r2) is refl)
        (sym (run.laws.addr_joins addr (masks_before p h (n + 1) r1) (masks_before p h (n + 1) r2))) (λ r. event_masks p run h (n + 1) (Joins rd r1 r2) r is))

    pub kept_jr : (rd rs : ℕ) → IsKind p h (n + 1) (Jr rd rs) → Kept p h v (n + 1) (record parts { states = with_state parts.states rd (reg.Known 0); reports = after })
    kept_jr rd rs is = silent (Jr rd rs) (with_state parts.states rd (reg.Known 0)) is refl refl (empty_at (Jr rd rs) is refl)
        (right_set p h v (n + 1) (n + 1) (n + 1 + 1) rd 0 (reg.Known 0) parts.states (right_now (Jr rd rs) is refl) refl (λ r. event_masks p run h (n + 1) (Jr rd rs) r is))

    pub kept_bf : (addr : ℕ) → IsKind p h (n + 1) (Bf addr) → Kept p h v (n + 1) (record parts { states = with_state parts.states 10 (reg.Known 0); reports = after })
    kept_bf addr is = silent (Bf addr) (with_state parts.states 10 (reg.Known 0)) is refl refl (empty_at (Bf addr) is refl)
        (right_set p h v (n + 1) (n + 1) (n + 1 + 1) 10 0 (reg.Known 0) parts.states (right_now (Bf addr) is refl) refl (λ r. event_masks p run h (n + 1) (Bf addr) r is))

    pub kept_br : (r1 r2 : ℕ) → IsKind p h (n + 1) (Br r1 r2) → Kept p h v (n + 1) (record parts { reports = after })
    kept_br r1 r2 is = silent (Br r1 r2) parts.states is refl refl (empty_at (Br r1 r2) is refl)
        (right_same p h v (n + 1) (n + 1) (n + 1 + 1) parts.states (right_now (Br r1 r2) is refl) (λ r. event_masks p run h (n + 1) (Br r1 r2) r is))

    pub kept_ex : IsKind p h (n + 1) Ex → Kept p h v (n + 1) (record parts { reports = after })
    kept_ex is = silent Ex parts.states is refl refl (empty_at Ex is refl)
        (right_same p h v (n + 1) (n + 1) (n + 1 + 1) parts.states (right_now Ex is refl) (λ r. event_masks p run h (n + 1) Ex r is))

    pub kept_ft : (cause : FaultCause) (addr : ℕ) → IsKind p h (n + 1) (Ft cause addr) → Kept p h v (n + 1) (record parts { reports = after })
    kept_ft cause addr is = silent (Ft cause addr) parts.states is refl refl (empty_at (Ft cause addr) is refl)
        (right_same p h v (n + 1) (n + 1) (n + 1 + 1) parts.states (right_now (Ft cause addr) is refl) (λ r. event_masks p run h (n + 1) (Ft cause addr) r is))
