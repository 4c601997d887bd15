-- An alert event, before its first operation and after its last one.
use Rattle.std.proofs.Common.{◌≡◌, ℕ, ◌+◌, ◌<◌, ◌≤◌, List, [], append-nil, length, None, true, refl, sym, ap, ◌∙◌, subst, arith}
use Rattle.std.specs.Prelude.{slice_get}
use Rattle.pl_event.specs.declared.event.Kind.{Kind}
use Rattle.pl_event.specs.Alerts.{is_alert_kind}
use Rattle.lifeguard.specs.Rules.{Rules}
use Rattle.order_core.specs.Course.{course_of}
use Rattle.order_core.proofs.Known.{Known, known}
use Rattle.guard_table.specs.declared.view.View.{View}
use Rattle.idem_filter.specs.Filter as filter
use Rattle.inherit_track.specs.declared.state.RegState.{RegState}
use Rattle.inherit_track.specs.declared.state.RegState.TheVariants as reg
use Rattle.inherit_track.specs.States.{state_in, with_state}
use Rattle.meta_lookaside.specs.LookAside as look
use Rattle.worker_laws.specs.Runs.{before, shapes_at}
use Rattle.worker_laws.specs.Kept.{HoldsNothing, Kept}
use Rattle.worker_laws.proofs.Passing.{no_more}
use Rattle.worker_laws.proofs.Taking.{come}
use Rattle.worker_laws.proofs.Turning.{kept_alert}
use Rattle.worker_records.specs.declared.state.Found.{Found}
use Rattle.worker_records.specs.declared.state.State.{State}
use Rattle.worker_records.specs.Alerts.{IsAmid, IsFound}
use Rattle.worker_records.specs.Places.{run_at}
use Rattle.worker_records.specs.Registers.{registers_of}
use Rattle.worker_records.specs.States.{IsMade, IsNext, parts_of}
use Rattle.worker_records.proofs.RegisterLemmas.{put_states}

module _ (rules : Rules) (v : View) (s : State) (kind : Kind) (next : IsNext rules v s kind) where
  k : Known (course_of (run_at rules v).plan)
  k = known (course_of (run_at rules v).plan) next.ready.run.lawful

  from_one : 1 ≤ s.taken + 1
  from_one = omega arith

  pub amid_first : IsAmid (run_at rules v) v (s.taken + 1) 0 kind (before (run_at rules v) v.hart (s.taken + 1)).words (shapes_at (run_at rules v) v.hart (s.taken + 1) kind)
  amid_first = record {
    run = next.ready.run;
    from_one = from_one;
    within = next.ready.next.within;
    is = next.is;
    done = [];
    shapes = refl;
    count = refl;
    words = refl;
    come = come (run_at rules v) next.ready.run k v.hart v s.taken next.ready.kept.taken next.ready.next;
  }

  -- no operation is left
  module _ (n : ℕ) (op : ℕ) (w : ℕ → ℕ) (small : op < 4294967295) (last : IsAmid (run_at rules v) (record v { written = n }) (s.taken + 1) op kind w []) (alert : is_alert_kind kind ≡ true) (nothing : HoldsNothing (parts_of s))
      (x : List RegState) (cleared : (r : ℕ) → state_in x r ≡ with_state (state_in s.tracker) 10 (reg.Known 0) r) (lk : look.Slots) (sl : filter.Slots) (le : lk ≡ look.empty) (se : sl ≡ filter.empty) where
    none_left : slice_get ((run_at rules v).plan.operations v.hart (s.taken + 1)) op ≡ None
    none_left = ap (slice_get ((run_at rules v).plan.operations v.hart (s.taken + 1))) (sym (ap length (last.shapes ∙ append-nil last.done) ∙ last.count))
        ∙ no_more (run_at rules v) next.ready.run k v.hart (s.taken + 1) kind from_one next.ready.next.within next.is

    pub alert_made : (f : Found) → IsFound (run_at rules v) kind (before (run_at rules v) v.hart (s.taken + 1)).state f → IsMade rules v (record v { written = n }) s (record s { tracker = x; look = lk; filter = sl }) kind f
    alert_made f found = record {
      kept = λ after told. subst (λ (z : look.Slots). Kept (run_at rules v) v.hart (record v { written = n }) (s.taken + 1) (record (parts_of s) { states = registers_of (state_in x); look = z; slots = sl; reports = after })) (sym le)
          (subst (λ (z : filter.Slots). Kept (run_at rules v) v.hart (record v { written = n }) (s.taken + 1) (record (parts_of s) { states = registers_of (state_in x); look = look.empty; slots = z; reports = after })) (sym se)
          (subst (λ (z : ℕ → RegState). Kept (run_at rules v) v.hart (record v { written = n }) (s.taken + 1) (record (parts_of s) { states = z; look = look.empty; slots = filter.empty; reports = after }))
          (sym (put_states (state_in s.tracker) (state_in x) 10 (reg.Known 0) (omega arith) cleared))
          (kept_alert (run_at rules v) next.ready.run k v.hart v s.taken (parts_of s) next.ready.kept (record v { written = n }) op kind after next.is alert nothing next.ready.next.within next.ready.next.near small last.come none_left told)));
      taken = refl;
      reports = refl;
      touched = found.touched;
      sent = found.sent;
    }
