-- A load or a store is made, up to its reports.
use Rattle.std.proofs.Common.{◌≡◌, ◌≢◌, ℕ, zero, suc, ◌+◌, ◌*◌, ◌/◌, ◌<◌, ◌⊎◌, inl, inr, Bool, false, List, Option, None, refl, sym, ap, ◌∙◌, subst, arith}
use mathlib.Core.Logic.{dite}
use native.Mathlib.Decide.{ℕ_discrete}
use Rattle.pl_base.specs.declared.widths.LoadWidth.{LoadWidth}
use Rattle.pl_base.specs.declared.widths.LoadWidth.TheVariants as load
use Rattle.pl_base.specs.declared.widths.StoreWidth.{StoreWidth}
use Rattle.pl_base.specs.Widths.{load_bytes, store_bytes}
use Rattle.pl_event.specs.declared.event.Kind.{Kind}
use Rattle.pl_event.specs.declared.event.Kind.TheVariants.{Ld, St}
use Rattle.lifeguard.specs.declared.guard.Name.{Name}
use Rattle.lifeguard.specs.declared.guard.Name.TheVariants as name
use Rattle.lifeguard.specs.declared.report.Report.{Report}
use Rattle.lifeguard.specs.Plain.{bad_sent, bad_touch, load_bits, loaded_mask}
use Rattle.lifeguard.specs.Rules.{Rules}
use Rattle.lifeguard.specs.State.{nibble_at}
use Rattle.order_core.specs.Course.{course_of}
use Rattle.order_core.proofs.Known.{Known, known}
use Rattle.guard_table.specs.declared.view.View.{View}
use Rattle.guard_table.specs.Views.{wrote}
use Rattle.inherit_track.specs.declared.state.Held.{Held}
use Rattle.inherit_track.specs.declared.state.RegState.{RegState}
use Rattle.inherit_track.specs.declared.state.RegState.TheVariants as reg
use Rattle.inherit_track.specs.States.{LiesIn, state_in, with_state}
use Rattle.worker_laws.specs.Runs.{IsKind, IsRun, Run, before, reach_in, reports_before}
use Rattle.worker_laws.specs.Reads.{directory_of}
use Rattle.worker_laws.specs.Kept.{AreCounted, AreFound, Kept, Parts}
use Rattle.worker_laws.specs.Kept as laws
use Rattle.worker_laws.proofs.Keeping.{IsRight}
use Rattle.worker_laws.proofs.Loading.{held_load, kept_load, kept_store, kept_unwritten}
use Rattle.worker_laws.proofs.Taking.{clear_mask}
use Rattle.worker_records.specs.declared.checks.Outcome.{Outcome}
use Rattle.worker_records.specs.declared.state.Found.{Found}
use Rattle.worker_records.specs.declared.state.State.{State}
use Rattle.worker_records.specs.Accesses.{loaded_by, loaded_state, unmarked}
use Rattle.worker_records.specs.Checks.{bad_of, check_of, counted, IsOutcome, kept_frame, NextReaches}
use Rattle.worker_records.specs.Places.{run_at}
use Rattle.worker_records.specs.Registers.{registers_of}
use Rattle.worker_records.specs.States.{IsKept, IsMade, IsNext, IsReady, parts_of}
use Rattle.worker_records.proofs.AccessLemmas.{low_nibble, no_nibble}
use Rattle.worker_records.proofs.OutcomeLemmas.{bad_is, counted_then, frames_kept}
use Rattle.worker_records.proofs.RegisterLemmas.{put_there}

-- of other states with as many records and the same reports
pub made_from : (rules : Rules) (v w : View) (s s' t : State) (kind : Kind) (found : Found) → s'.taken ≡ s.taken → s'.reports ≡ s.reports → IsMade rules v w s' t kind found → IsMade rules v w s t kind found
made_from rules v w s s' t kind found taken reports made = record {
  kept = subst (λ (n : ℕ). (after : List Report) → after ≡ reports_before (run_at rules v) v.hart (n + 1 + 1) → Kept (run_at rules v) v.hart w (n + 1) (record (parts_of t) { reports = after })) taken made.kept;
  taken = made.taken ∙ taken;
  reports = made.reports ∙ reports;
  touched = subst (λ (n : ℕ). found.touched ≡ bad_touch rules (before (run_at rules v) v.hart (n + 1)).state.bytes kind) taken made.touched;
  sent = subst (λ (n : ℕ). found.sent ≡ bad_sent rules (before (run_at rules v) v.hart (n + 1)).state.bytes kind) taken made.sent;
}

-- filter, counts and look-aside of t are those of s after a check that ended so
pub record IsThrough (s t : State) (addr len d : ℕ) (o : Outcome) : Type 0 where
  pub taken : t.taken ≡ s.taken
  pub reports : t.reports ≡ s.reports
  pub slots : t.filter ≡ (counted o (check_of addr len) (parts_of s)).slots
  pub checks : t.checks ≡ (counted o (check_of addr len) (parts_of s)).checks
  pub misses : t.misses ≡ (counted o (check_of addr len) (parts_of s)).misses
  pub look : t.look ≡ kept_frame s.look addr d

pub through_of : (s s1 s2 t : State) (addr len d : ℕ) (o : Outcome) → parts_of s1 ≡ counted o (check_of addr len) (parts_of s) → s1 ≡ record s { filter = s1.filter; checks = s1.checks; misses = s1.misses } → s2.look ≡ kept_frame s1.look addr d
    → s2 ≡ record s1 { look = s2.look } → t ≡ record s2 { tracker = t.tracker } → IsThrough s t addr len d o
through_of s s1 s2 t addr len d o parts first look second third = record {
  taken = ap (λ (z : State). z.taken) third ∙ (ap (λ (z : State). z.taken) second ∙ ap (λ (z : State). z.taken) first);
  reports = ap (λ (z : State). z.reports) third ∙ (ap (λ (z : State). z.reports) second ∙ ap (λ (z : State). z.reports) first);
  slots = ap (λ (z : State). z.filter) third ∙ (ap (λ (z : State). z.filter) second ∙ ap (λ (z : Parts). z.slots) parts);
  checks = ap (λ (z : State). z.checks) third ∙ (ap (λ (z : State). z.checks) second ∙ ap (λ (z : Parts). z.checks) parts);
  misses = ap (λ (z : State). z.misses) third ∙ (ap (λ (z : State). z.misses) second ∙ ap (λ (z : Parts). z.misses) parts);
  look = ap (λ (z : State). z.look) third ∙ (look ∙ ap (λ (z : State). kept_frame z.look addr d) first);
}

module _ (rules : Rules) (v : View) (s : State) (ready : IsReady rules v s) (addr len : ℕ) (reach : NextReaches rules v s (check_of addr len)) (d : ℕ) (is_d : d ≡ (before (run_at rules v) v.hart (s.taken + 1)).words (directory_of addr))
    (o : Outcome) (is : IsOutcome rules v s (check_of addr len) o) (t : State) (through : IsThrough s t addr len d o) (after : List Report) (told : after ≡ reports_before (run_at rules v) v.hart (s.taken + 1 + 1)) where
  pub found_then : AreFound (run_at rules v) v.hart t.look (s.taken + 1)
  found_then = subst (λ (z : _). AreFound (run_at rules v) v.hart z (s.taken + 1)) (sym through.look) (frames_kept (run_at rules v) v s.taken (parts_of s) ready (check_of addr len) reach d is_d)

  pub counts_then : AreCounted (run_at rules v) v.hart (s.taken + 1) (record (parts_of t) { reports = after })
  counts_then = counted_then rules v s ready (check_of addr len) reach o is (record (parts_of t) { reports = after }) after told through.slots through.checks through.misses refl

-- ---- loads

no_bits : (width : LoadWidth) (a b c e : Bool) → a ≡ false → b ≡ false → c ≡ false → e ≡ false → load_bits width a b c e ≡ 0
no_bits load.B a b c e fa fb fc fe = rw fa refl
no_bits load.H a b c e fa fb fc fe = rw (fa, fb) refl
no_bits load.W a b c e fa fb fc fe = rw (fa, fb, fc, fe) refl
no_bits load.Bu a b c e fa fb fc fe = rw fa refl
no_bits load.Hu a b c e fa fb fc fe = rw (fa, fb) refl

module _ (rules : Rules) (v : View) (s : State) (width : LoadWidth) (rd rb addr : ℕ) (next : IsNext rules v s (Ld width rd rb addr)) where
  k : Known (course_of (run_at rules v).plan)
  k = known (course_of (run_at rules v).plan) next.ready.run.lawful

  pub load_reach : NextReaches rules v s (check_of addr (load_bytes width))
  load_reach = ap reach_in next.is

  abbrev from : Held
  from = record { addr = addr; width = width; number = s.taken + 1 }

  abbrev mask : ℕ
  mask = loaded_mask rules width (before (run_at rules v) v.hart (s.taken + 1)).state.bytes addr

  abbrev bit : ℕ → Bool
  bit a = rules.load_bit (nibble_at (before (run_at rules v) v.hart (s.taken + 1)).state.bytes a)

  -- on a page that is not mapped each nibble is 0
  unmapped : (before (run_at rules v) v.hart (s.taken + 1)).words (directory_of addr) ≡ 0 → load_bits width (rules.load_bit 0) (rules.load_bit 0) (rules.load_bit 0) (rules.load_bit 0) ≡ mask
  unmapped none = by width (λ i lt. ap rules.load_bit (sym (no_nibble (run_at rules v) v.hart (s.taken + 1) next.ready.run (check_of addr (load_bytes width)) load_reach none i lt)))
    where
      zeroth : addr + 0 ≡ addr
      zeroth = omega arith

      by : (u : LoadWidth) → ((i : ℕ) → i < load_bytes u → rules.load_bit 0 ≡ bit (addr + i)) → load_bits u (rules.load_bit 0) (rules.load_bit 0) (rules.load_bit 0) (rules.load_bit 0) ≡ load_bits u (bit addr) (bit (addr + 1)) (bit (addr + 2)) (bit (addr + 3))
      by load.B each = let a : rules.load_bit 0 ≡ bit addr = each 0 (omega arith) ∙ ap bit zeroth in rw (sym a) refl
      by load.H each = let a : rules.load_bit 0 ≡ bit addr = each 0 (omega arith) ∙ ap bit zeroth in rw (sym a, sym (each 1 (omega arith))) refl
      by load.W each = let a : rules.load_bit 0 ≡ bit addr = each 0 (omega arith) ∙ ap bit zeroth in rw (sym a, sym (each 1 (omega arith)), sym (each 2 (omega arith)), sym (each 3 (omega arith))) refl
      by load.Bu each = let a : rules.load_bit 0 ≡ bit addr = each 0 (omega arith) ∙ ap bit zeroth in rw (sym a) refl
      by load.Hu each = let a : rules.load_bit 0 ≡ bit addr = each 0 (omega arith) ∙ ap bit zeroth in rw (sym a, sym (each 1 (omega arith))) refl

  -- under an address check each load finds a clear mask
  by_addr : rules.name ≡ name.Addr → load_bits width (rules.load_bit 0) (rules.load_bit 0) (rules.load_bit 0) (rules.load_bit 0) ≡ mask
  by_addr e =
      let off : rules.load_bit 0 ≡ false = next.ready.run.laws.addr_loads e 0 (omega arith) in
      no_bits width _ _ _ _ off off off off
      ∙ sym (clear_mask rules next.ready.run.laws e (before (run_at rules v) v.hart (s.taken + 1)).state.bytes (low_nibble (run_at rules v) v.hart (s.taken + 1) next.ready.run (check_of addr (load_bytes width)) load_reach) width addr)

  right : (d : ℕ) → d ≡ (before (run_at rules v) v.hart (s.taken + 1)).words (directory_of addr) → IsRight (run_at rules v) v.hart v (s.taken + 1) (loaded_state rules from d) mask
  right zero is = unmapped (sym is)
  right (suc frame) is = by rules.name refl
    where
      mapped : (before (run_at rules v) v.hart (s.taken + 1)).words (directory_of addr) ≢ 0
      mapped e = let f : suc frame ≡ 0 = is ∙ e in absurd (omega arith)

      held : rules.name ≢ name.Addr → IsRight (run_at rules v) v.hart v (s.taken + 1) (reg.Held from) mask
      held other = held_load (run_at rules v) next.ready.run k v.hart v s.taken (parts_of s) next.ready.kept next.ready.next width rd rb addr next.is other mapped

      taint_not : name.Taint ≡ name.Addr → ⊥
      taint_not z = cc

      mem_not : name.Mem ≡ name.Addr → ⊥
      mem_not z = cc

      by : (x : Name) → x ≡ rules.name → IsRight (run_at rules v) v.hart v (s.taken + 1) (loaded_by x rules from) mask
      by name.Addr e = by_addr (sym e)
      by name.Taint e = held (λ z. taint_not (e ∙ z))
      by name.Mem e = held (λ z. mem_not (e ∙ z))

  pub load_made : (d : ℕ) → d ≡ (before (run_at rules v) v.hart (s.taken + 1)).words (directory_of addr) → (o : Outcome) → IsOutcome rules v s (check_of addr (load_bytes width)) o → (t : State) → IsThrough s t addr (load_bytes width) d o → rd < 34
      → ((r : ℕ) → state_in t.tracker r ≡ with_state (state_in s.tracker) rd (loaded_state rules from d) r) → IsMade rules v v s t (Ld width rd rb addr) (record { touched = bad_of o; sent = None })
  load_made d is_d o is t through low states = record {
    kept = λ after told. kept_load (run_at rules v) next.ready.run k v.hart v s.taken (parts_of s) next.ready.kept next.ready.next width rd rb addr next.is (loaded_state rules from d) (record (parts_of t) { reports = after }) (right d is_d)
        (put_there (state_in s.tracker) (state_in t.tracker) rd (loaded_state rules from d) low states)
        (found_then rules v s next.ready addr (load_bytes width) load_reach d is_d o is t through after told)
        (counts_then rules v s next.ready addr (load_bytes width) load_reach d is_d o is t through after told);
    taken = through.taken;
    reports = through.reports;
    touched = bad_is rules v s next.ready (check_of addr (load_bytes width)) load_reach o is;
    sent = refl;
  }

-- ---- stores

module _ (rules : Rules) (v : View) (s : State) (width : StoreWidth) (rv rb addr : ℕ) (next : IsNext rules v s (St width rv rb addr)) where
  kk : Known (course_of (run_at rules v).plan)
  kk = known (course_of (run_at rules v).plan) next.ready.run.lawful

  pub store_reach : NextReaches rules v s (check_of addr (store_bytes width))
  store_reach = ap reach_in next.is

  module _ (d : ℕ) (is_d : d ≡ (before (run_at rules v) v.hart (s.taken + 1)).words (directory_of addr)) (o : Outcome) (is : IsOutcome rules v s (check_of addr (store_bytes width)) o) (t : State) (through : IsThrough s t addr (store_bytes width) d o)
      (states : t.tracker ≡ s.tracker) where
    same : (r : ℕ) → registers_of (state_in t.tracker) r ≡ registers_of (state_in s.tracker) r
    same r = ap (λ (z : List RegState). registers_of (state_in z) r) states

    made_with : (w : View) → ((after : List Report) → after ≡ reports_before (run_at rules v) v.hart (s.taken + 1 + 1) → Kept (run_at rules v) v.hart w (s.taken + 1) (record (parts_of t) { reports = after }))
        → IsMade rules v w s t (St width rv rb addr) (record { touched = bad_of o; sent = None })
    made_with w kept = record {
      kept = kept;
      taken = through.taken;
      reports = through.reports;
      touched = bad_is rules v s next.ready (check_of addr (store_bytes width)) store_reach o is;
      sent = refl;
    }

    unwritten : (w : View) → w ≡ v → (d ≡ 0) ⊎ (rules.name ≡ name.Addr) → IsMade rules v w s t (St width rv rb addr) (record { touched = bad_of o; sent = None })
    unwritten w e none = made_with w (λ after told. subst (λ (z : View). Kept (run_at rules v) v.hart z (s.taken + 1) (record (parts_of t) { reports = after })) (sym e)
        (kept_unwritten (run_at rules v) next.ready.run kk v.hart v s.taken (parts_of s) next.ready.kept next.ready.next width rv rb addr next.is (record (parts_of t) { reports = after }) (by none) same
        (found_then rules v s next.ready addr (store_bytes width) store_reach d is_d o is t through after told)
        (counts_then rules v s next.ready addr (store_bytes width) store_reach d is_d o is t through after told)))
      where
        by : (d ≡ 0) ⊎ (rules.name ≡ name.Addr) → ((before (run_at rules v) v.hart (s.taken + 1)).words (directory_of addr) ≡ 0) ⊎ (rules.name ≡ name.Addr)
        by (inl z) = inl (sym is_d ∙ z)
        by (inr z) = inr z

    module _ (apart : (r : ℕ) (from : Held) → registers_of (state_in s.tracker) r ≡ reg.Held from → LiesIn ((run_at rules v).plan.log.block * (addr / (run_at rules v).plan.log.block)) (run_at rules v).plan.log.block from → ⊥) where
      written : (w : View) → w ≡ wrote v → d ≢ 0 → rules.name ≢ name.Addr → IsMade rules v w s t (St width rv rb addr) (record { touched = bad_of o; sent = None })
      written w e some other = made_with w (λ after told. subst (λ (z : View). Kept (run_at rules v) v.hart z (s.taken + 1) (record (parts_of t) { reports = after })) (sym e)
          (kept_store (run_at rules v) next.ready.run kk v.hart v s.taken (parts_of s) next.ready.kept next.ready.next width rv rb addr next.is other (λ z. some (is_d ∙ z)) apart (record (parts_of t) { reports = after }) same
          (found_then rules v s next.ready addr (store_bytes width) store_reach d is_d o is t through after told)
          (counts_then rules v s next.ready addr (store_bytes width) store_reach d is_d o is t through after told)))

      pub store_made : (w : View) → (d ≢ 0 → rules.name ≢ name.Addr → w ≡ wrote v) → ((d ≡ 0) ⊎ (rules.name ≡ name.Addr) → w ≡ v) → IsMade rules v w s t (St width rv rb addr) (record { touched = bad_of o; sent = None })
      store_made w does not = dite (ℕ_discrete d 0)
          (λ e. unwritten w (not (inl e)) (inl e))
          (λ some. by some rules.name refl)
        where
          taint_not : name.Taint ≡ name.Addr → ⊥
          taint_not z = cc

          mem_not : name.Mem ≡ name.Addr → ⊥
          mem_not z = cc

          by : d ≢ 0 → (x : Name) → x ≡ rules.name → IsMade rules v w s t (St width rv rb addr) (record { touched = bad_of o; sent = None })
          by some name.Addr e = unwritten w (not (inr (sym e))) (inr (sym e))
          by some name.Taint e = written w (does some (λ z. taint_not (e ∙ z))) some (λ z. taint_not (e ∙ z))
          by some name.Mem e = written w (does some (λ z. mem_not (e ∙ z))) some (λ z. mem_not (e ∙ z))

-- ---- after held loads were resolved

pub still_next : (rules : Rules) (v : View) (s s' : State) (kind : Kind) → IsNext rules v s kind → IsKept rules v s' → s'.taken ≡ s.taken → IsNext rules v s' kind
still_next rules v s s' kind next kept same = record {
  ready = record {
    run = kept.run;
    kept = kept.kept;
    next = subst (λ (n : ℕ). laws.IsNext (run_at rules v) v.hart v n) (sym same) next.ready.next;
  };
  is = subst (λ (n : ℕ). IsKind (run_at rules v) v.hart (n + 1) kind) (sym same) next.is;
}
