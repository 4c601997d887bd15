-- Notices, alert events, looks, advertisements, late reads, and what the look-aside finds.
use Rattle.std.proofs.Common.{◌≡◌, ℕ, zero, suc, ◌+◌, ◌-◌, ◌^◌, ◌<◌, ◌≤◌, ◌⊎◌, inl, inr, Bool, true, false, eqb, List, [], ◌∷◌, Option, Some, None, refl, sym, ap, ◌∙◌, arith, if◌then◌else◌}
use Rattle.std.proofs.Math.Logic.{∥∥₁_elim}
use denote.Struct.Props.{props}
use Rattle.std.specs.Prelude.{slice_get, slice_index, slice_index_or, slice_set}
use Rattle.pl_event.specs.declared.event.Kind.{Kind}
use Rattle.pl_event.specs.declared.event.Kind.TheVariants.{Ld, St, Op as Joins, Mv, Im, Br, Jr, Al, Fr, Bf, Mp, Um, Rd, Wr, Ex, Ft}
use Rattle.pl_event.specs.declared.log.Line.{Line}
use Rattle.pl_event.specs.declared.log.Record.{Record}
use Rattle.pl_event.specs.declared.log.Record.TheVariants as entry
use Rattle.pl_event.specs.Alerts.{is_alert_kind}
use Rattle.pl_event.specs.Records.{line_number, record_of, IsRecord}
use Rattle.pl_event.proofs.Places.{eqb_is}
use Rattle.pl_event.proofs.Sources.{found}
use Rattle.lifeguard.specs.declared.report.Report.{Report}
use Rattle.lifeguard.specs.Plain.{answered, loaded_mask, masks_after}
use Rattle.lifeguard.specs.Rules.{Rules}
use Rattle.lifeguard.specs.State.{Bytes, Masks}
use Rattle.order_core.specs.declared.course.Op.{Op}
use Rattle.order_core.specs.Core.{IsPassed}
use Rattle.order_core.specs.Course.{course_of}
use Rattle.order_core.specs.Lanes.{HasValueOf}
use Rattle.order_core.specs.Shapes.{fill}
use Rattle.order_core.specs.Turns.{HasComeTo}
use Rattle.order_core.proofs.Known.{Known}
use Rattle.guard_table.specs.declared.view.View.{View}
use Rattle.guard_table.specs.Views.{advertised, known_core, learnt_from, looked}
use Rattle.idem_filter.specs.declared.filter.Check.{Check}
use Rattle.idem_filter.specs.Filter as filter
use Rattle.inherit_track.specs.declared.state.Held.{Held}
use Rattle.inherit_track.specs.declared.state.RegState.{RegState}
use Rattle.inherit_track.specs.declared.state.RegState.TheVariants as reg
use Rattle.inherit_track.specs.States.{IsResolved, with_state}
use Rattle.meta_lookaside.specs.LookAside as look
use Rattle.shadow_frames.specs.Words.{WordsRepresent, directory_word}
use Rattle.shadow_layout.specs.Logs.{record_shapes}
use Rattle.worker_laws.specs.Runs.{IsFlush, IsKind, IsReach, IsRun, Lasts, Run, before, flushes, flushes_in, kind_in, kind_of, masks_before, reach_in, reach_of, reports_before, size}
use Rattle.worker_laws.specs.Reads.{IsHeld, directory_of, directory_read, mask_in, value_read}
use Rattle.worker_laws.specs.Kept.{AreFound, IsNext, Kept, Parts}
use Rattle.worker_laws.proofs.Keeping.{lasts_now, right_advertised, right_known, right_learnt, right_looked, right_resolved, right_same, right_set}
use Rattle.worker_laws.proofs.Opening.{passed, raised}
use Rattle.worker_laws.proofs.Own.{event_masks, notice_masks, notice_reports}
use Rattle.worker_laws.proofs.Reading.{mask_read, whole_word}
use Rattle.worker_laws.proofs.Steady.{directory_lasts}
use Rattle.worker_laws.proofs.Taking.{come, counted_flush, found_empty, found_next, taken_next, unchecked}

no_false : (P : Type 0) → false ≡ true → P
no_false P e = absurd (cc)

-- an alert event answers a call
answers : (rules : Rules) (h : ℕ) (kd : Kind) (bytes : Bytes) (masks : Masks) → is_alert_kind kd ≡ true → masks_after rules h kd bytes masks ≡ answered h masks
answers rules h (Ld width rd rb addr) bytes masks e = no_false _ e
answers rules h (St width rv rb addr) bytes masks e = no_false _ e
answers rules h (Joins rd r1 r2) bytes masks e = no_false _ e
answers rules h (Mv rd rs) bytes masks e = no_false _ e
answers rules h (Im rd) bytes masks e = no_false _ e
answers rules h (Br r1 r2) bytes masks e = no_false _ e
answers rules h (Jr rd rs) bytes masks e = no_false _ e
answers rules h (Al addr len) bytes masks e = refl
answers rules h (Fr addr len) bytes masks e = refl
answers rules h (Bf addr) bytes masks e = no_false _ e
answers rules h (Mp page count) bytes masks e = refl
answers rules h (Um page count) bytes masks e = refl
answers rules h (Rd addr len) bytes masks e = refl
answers rules h (Wr addr len) bytes masks e = refl
answers rules h Ex bytes masks e = no_false _ e
answers rules h (Ft cause addr) bytes masks e = no_false _ e

pub no_reach : (kd : Kind) → is_alert_kind kd ≡ true → reach_of kd ≡ None
no_reach (Ld width rd rb addr) e = no_false _ e
no_reach (St width rv rb addr) e = no_false _ e
no_reach (Joins rd r1 r2) e = refl
no_reach (Mv rd rs) e = refl
no_reach (Im rd) e = refl
no_reach (Br r1 r2) e = refl
no_reach (Jr rd rs) e = refl
no_reach (Al addr len) e = refl
no_reach (Fr addr len) e = refl
no_reach (Bf addr) e = refl
no_reach (Mp page count) e = refl
no_reach (Um page count) e = refl
no_reach (Rd addr len) e = refl
no_reach (Wr addr len) e = refl
no_reach Ex e = refl
no_reach (Ft cause addr) e = refl

alert_flushes : (p : Run) (h m : ℕ) (kd : Kind) → IsKind p h m kd → is_alert_kind kd ≡ true → IsFlush p h m
alert_flushes p h m kd is alert = by (record_of p.plan.log.lines h m) is
  where
    some_kind : (a b : Kind) → Some a ≡ Some b → a ≡ b
    some_kind a b e = cc

    on : (x : Record) → kind_of x ≡ Some kd → flushes x ≡ true
    on (entry.Event e) s = ap is_alert_kind (some_kind e.kind kd s) ∙ alert
    on (entry.Notice g point) s = refl

    by : (x : Option Line) → kind_in x ≡ Some kd → flushes_in x ≡ true
    by None s = absurd (let t : None ≡ Some kd = s in cc)
    by (Some line) s = on line.what s

-- ---- what the look-aside finds after an entry

frame_is : (a b : ℕ) → Some a ≡ Some b → a ≡ b
frame_is a b e = cc

no_frame : (P : Type 0) (f : ℕ) → None ≡ Some f → P
no_frame P f e = absurd (cc)

set_page : (slots : look.Slots) (i j page frame g f : ℕ) → look.frame_in (slice_index_or (slice_set slots i (Some (record { page = page; frame = frame }))) j None) g ≡ Some f
    → ((g ≡ page) × (f ≡ frame)) ⊎ (look.frame_in (slice_index_or slots j None) g ≡ Some f)
set_page [] i j page frame g f e = inr e
set_page (x ∷ xs) zero zero page frame g f e = by (eqb page g) refl e
  where
    by : (b : Bool) → eqb page g ≡ b → (if b then Some frame else None) ≡ Some f → ((g ≡ page) × (f ≡ frame)) ⊎ (look.frame_in (slice_index_or (x ∷ xs) 0 None) g ≡ Some f)
    by true same e = inl (sym (eqb_is page g same), sym (frame_is frame f e))
    by false same e = no_frame _ f e
set_page (x ∷ xs) zero (suc j) page frame g f e = inr e
set_page (x ∷ xs) (suc i) zero page frame g f e = inr e
set_page (x ∷ xs) (suc i) (suc j) page frame g f e = set_page xs i j page frame g f e

module _ (p : Run) (run : IsRun p) (k : Known (course_of p.plan)) (h : ℕ) where
  -- the directory's word that the record read is entered
  pub found_entered : (n page frame : ℕ) (slots : look.Slots) → (IsFlush p h (n + 1) → ⊥) → n + 1 ≤ size p h → page < 4096 → (before p h (n + 1)).words (directory_word page) ≡ frame + 1
      → AreFound p h slots n → AreFound p h (look.entered slots page frame) (n + 1)
  found_entered n page frame slots quiet le small word are g f e = by (set_page slots (look.slot_of page) (look.slot_of g) page frame g f e)
    where
      by : ((g ≡ page) × (f ≡ frame)) ⊎ (look.found slots g ≡ Some f) → Lasts p h (n + 1) (λ q. q.words (directory_word g) ≡ f + 1)
      by (inl s) = λ m c less up calm reach.
          ap (λ (z : ℕ). (before p h m).words (17 + z)) s.0
          ∙ (directory_lasts p run h (n + 1) (omega arith) le quiet (17 + page) (omega arith) m c less up calm reach ∙ (word ∙ ap (λ (z : ℕ). z + 1) (sym s.1)))
      by (inr o) = found_next p run k h n slots quiet are g f o

  module _ (v : View) (n : ℕ) (parts : Parts) (kept : Kept p h v n parts) where
    -- what is found is the page's frame at the next load or store
    pub found_now : IsNext p h v n → (c : Check) → IsReach p h (n + 1) c → (page frame : ℕ) → look.found parts.look page ≡ Some frame → (before p h (n + 1)).words (directory_word page) ≡ frame + 1
    found_now next c reach page frame e = lasts_now p h n c (λ q. q.words (directory_word page) ≡ frame + 1) (kept.found page frame e) next.within reach

    -- ---- a notice

    pub kept_notice : IsNext p h v n → (i : ℕ) (line : Line) → IsRecord p.plan.log.lines i h (n + 1) line → kind_of line.what ≡ None → ((r : ℕ) (s : Held) → parts.states r ≡ reg.Held s → ⊥)
        → Kept p h v (n + 1) (record parts { look = look.empty; slots = filter.empty })
    kept_notice next i line is none nothing = record {
      taken = taken_next p run k h v n 0 next.within next.near (omega arith) (come p run k h v n kept.taken next) (ap (λ (z : List Op). slice_get z 0) empty);
      right = right_same p h v (n + 1) (n + 1) (n + 1 + 1) parts.states (right_known p h v v n (n + 1) (n + 1) parts.states nothing kept.right) (notice_masks p run h i (n + 1) line is none);
      found = found_empty p run k h (n + 1);
      counted = (let c = counted_flush p run k h n parts parts.reports (unchecked p run k h (n + 1) (ap reach_in kinds)) flush (kept.counted.reports ∙ sym (notice_reports p run h i (n + 1) line is none)) kept.counted in
          record { slots = c.slots; checks = c.checks; misses = c.misses; reports = c.reports });
    }
      where
        kinds : kind_in (record_of p.plan.log.lines h (n + 1)) ≡ None
        kinds = ap kind_in (found p.plan.log.lines i h (n + 1) line is) ∙ none

        told : (x : Record) → kind_of x ≡ None → flushes x ≡ true
        told (entry.Event e) z = absurd (let t : Some e.kind ≡ None = z in cc)
        told (entry.Notice g point) z = refl

        flush : IsFlush p h (n + 1)
        flush = ap flushes_in (found p.plan.log.lines i h (n + 1) line is) ∙ told line.what none

        nothing_done : (x : Record) → kind_of x ≡ None → fill (p.moment i).words (record_shapes p.rules p.plan.log.block (p.moment i).state (p.moment i).words x) ≡ []
        nothing_done (entry.Event e) z = absurd (let t : Some e.kind ≡ None = z in cc)
        nothing_done (entry.Notice g point) z = refl

        empty : p.plan.operations h (n + 1) ≡ []
        empty = run.operations i h (n + 1) line is ∙ nothing_done line.what none

    -- ---- an alert event, after its last operation

    pub kept_alert : (w : View) (i : ℕ) (kd : Kind) (after : List Report) → IsKind p h (n + 1) kd → is_alert_kind kd ≡ true → ((r : ℕ) (s : Held) → parts.states r ≡ reg.Held s → ⊥)
        → n + 1 ≤ size p h → n + 1 ≤ w.progress + 64 → i < 4294967295 → HasComeTo (course_of p.plan) (known_core w) h (n + 1) i → slice_get (p.plan.operations h (n + 1)) i ≡ None → after ≡ reports_before p h (n + 1 + 1)
        → Kept p h w (n + 1) (record parts { states = with_state parts.states 10 (reg.Known 0); look = look.empty; slots = filter.empty; reports = after })
    kept_alert w i kd after is alert nothing within near small at none told = record {
      taken = taken_next p run k h w n i within near small at none;
      right = right_set p h w (n + 1) (n + 1) (n + 1 + 1) 10 0 (reg.Known 0) parts.states (right_known p h v w n (n + 1) (n + 1) parts.states nothing kept.right) refl
          (λ r. event_masks p run h (n + 1) kd r is ∙ ap (λ (z : Masks). z h r) (answers p.rules h kd (before p h (n + 1)).state.bytes (before p h (n + 1)).state.masks alert));
      found = found_empty p run k h (n + 1);
      counted = (let c = counted_flush p run k h n parts after (unchecked p run k h (n + 1) (ap reach_in is ∙ no_reach kd alert)) (alert_flushes p h (n + 1) kd is alert) told kept.counted in
          record { slots = c.slots; checks = c.checks; misses = c.misses; reports = c.reports });
    }

    -- ---- the seat

    pub kept_looked : (u x : ℕ) → slice_index v.seen u ≤ x → Kept p h (looked u x v) n parts
    kept_looked u x le = record {
      taken = record {
        within = kept.taken.within;
        written = kept.taken.written;
        met = λ g i j need l. (let a : i ≤ slice_index v.seen g = kept.taken.met g i j need l in let b : slice_index v.seen g ≤ slice_index (slice_set v.seen u x) g = raised v.seen u x g le in omega arith);
        told = kept.taken.told;
        lag = kept.taken.lag;
      };
      right = right_looked p h k v u x n (n + 1) parts.states le kept.right;
      found = kept.found;
      counted = kept.counted;
    }

    pub kept_advertised : (upto : ℕ) → upto ≤ n → n ≤ upto + 64 → ((r : ℕ) (s : Held) → parts.states r ≡ reg.Held s → upto < s.number) → Kept p h (advertised upto v) n parts
    kept_advertised upto le lag low = record {
      taken = record { within = kept.taken.within; written = kept.taken.written; met = kept.taken.met; told = le; lag = lag };
      right = right_advertised p h k v upto n (n + 1) parts.states low kept.right;
      found = kept.found;
      counted = kept.counted;
    }

    pub kept_learnt : (note : View) → Kept p h (learnt_from note v) n parts
    kept_learnt note = record {
      taken = record { within = kept.taken.within; written = kept.taken.written; met = kept.taken.met; told = kept.taken.told; lag = kept.taken.lag };
      right = right_learnt p h note v n (n + 1) parts.states kept.right;
      found = kept.found;
      counted = kept.counted;
    }

    pub may_advertise : (upto : ℕ) → upto ≤ n → IsPassed (course_of p.plan) v.written (slice_index v.seen) h upto
    may_advertise upto le = passed p k h v n upto le kept.taken.within kept.taken.written kept.taken.met

    -- ---- a held load

    module _ (r : ℕ) (s : Held) (lt : r < 34) (e : parts.states r ≡ reg.Held s) where
      held : IsHeld p h v n s (masks_before p h (n + 1) r)
      held = kept.right.held r s lt e

      pub directory_found : (x : ℕ) → x < 2 ^ 64 → HasValueOf (directory_read (before p h s.number).words s.addr) x → x ≡ (before p h s.number).words (directory_of s.addr)
      directory_found x low has = whole_word (directory_read (before p h s.number).words s.addr) x refl low (run.wide_words (line_number p.plan.log.lines h s.number - 1) (directory_of s.addr)) has

      pub mask_found : (x : ℕ) → HasValueOf (value_read p.plan.log.block (before p h s.number).words s.addr) x → mask_in p.rules s.width x s.addr ≡ loaded_mask p.rules s.width (before p h s.number).state.bytes s.addr
      mask_found x has = ∥∥₁_elim (run.represents (line_number p.plan.log.lines h s.number - 1)) (hlevel props) (λ (st : WordsRepresent (before p h s.number).words (before p h s.number).state.bytes).
          mask_read p.rules p.plan.log.block (before p h s.number).words (before p h s.number).state.bytes s.width s.addr x st held.near held.narrow held.some_page has)

      pub kept_resolved : (x : ℕ) (states : ℕ → RegState) → HasValueOf (value_read p.plan.log.block (before p h s.number).words s.addr) x → IsResolved s (mask_in p.rules s.width x s.addr) parts.states states
          → Kept p h v n (record parts { states = states })
      kept_resolved x states has resolved = record {
        taken = kept.taken;
        right = right_resolved p h v n (n + 1) (mask_in p.rules s.width x s.addr) s parts.states states held.source (mask_found x has) resolved kept.right;
        found = kept.found;
        counted = record { slots = kept.counted.slots; checks = kept.counted.checks; misses = kept.counted.misses; reports = kept.counted.reports };
      }
