-- Events that reach no memory are made.
use Rattle.std.proofs.Common.{◌≡◌, ◌≢◌, ℕ, ◌+◌, ◌<◌, Bool, true, false, List, Option, Some, None, refl, sym, ap, ◌∙◌, subst, arith}
use Rattle.pl_event.specs.declared.event.Kind.{Kind}
use Rattle.pl_event.specs.declared.event.Kind.TheVariants.{Ld, St, Op, Mv, Im, Br, Jr, Al, Fr, Bf, Mp, Um, Rd, Wr, Ex, Ft}
use Rattle.lifeguard.specs.declared.report.Report.{Report}
use Rattle.lifeguard.specs.declared.guard.Name.{Name}
use Rattle.lifeguard.specs.declared.guard.Name.TheVariants as name
use Rattle.lifeguard.specs.Plain.{bad_sent, bad_touch}
use Rattle.lifeguard.specs.Rules.{Rules}
use Rattle.order_core.specs.Course.{course_of}
use Rattle.order_core.proofs.Known.{Known, known}
use Rattle.guard_table.specs.declared.view.View.{View}
use Rattle.inherit_track.specs.declared.state.RegState.{RegState}
use Rattle.inherit_track.specs.declared.state.RegState.TheVariants as reg
use Rattle.inherit_track.specs.States.{state_in, with_state}
use Rattle.worker_laws.specs.Runs.{IsRun, Run, before, reports_before}
use Rattle.worker_laws.specs.Kept.{Kept, Parts}
use Rattle.worker_laws.proofs.Taking.{kept_addr_op, kept_bf, kept_br, kept_ex, kept_ft, kept_im, kept_jr, kept_mv, kept_op}
use Rattle.worker_records.specs.declared.state.Found.{Found}
use Rattle.worker_records.specs.declared.state.State.{State}
use Rattle.worker_records.specs.Places.{run_at}
use Rattle.worker_records.specs.Plain.{cleared, found_none, is_still}
use Rattle.worker_records.specs.Registers.{registers_of}
use Rattle.worker_records.specs.States.{IsMade, IsNext, IsReady, parts_of}
use Rattle.worker_records.proofs.RegisterLemmas.{put_states, there}

no : (P : Type 0) → false ≡ true → P
no P e = absurd (cc)

none_is : (P : Type 0) (r : ℕ) → None ≡ Some r → P
none_is P r e = absurd (cc)

same_register : (a b : ℕ) → Some a ≡ Some b → a ≡ b
same_register a b e = cc

module _ (rules : Rules) (v : View) (s : State) where
  abbrev p : Run
  p = run_at rules v

  -- what is left to show where only registers change
  pub made_by : (x : List RegState) (states : ℕ → RegState) (kind : Kind) → registers_of (state_in x) ≡ states
      → ((after : List Report) → after ≡ reports_before (run_at rules v) v.hart (s.taken + 1 + 1) → Kept (run_at rules v) v.hart v (s.taken + 1) (record (parts_of s) { states = states; reports = after }))
      → None ≡ bad_touch rules (before (run_at rules v) v.hart (s.taken + 1)).state.bytes kind → None ≡ bad_sent rules (before (run_at rules v) v.hart (s.taken + 1)).state.bytes kind
      → IsMade rules v v s (record s { tracker = x }) kind found_none
  made_by x states kind same kept touched sent = record {
    kept = λ after told. subst (λ (z : ℕ → RegState). Kept (run_at rules v) v.hart v (s.taken + 1) (record (parts_of s) { states = z; reports = after })) (sym same) (kept after told);
    taken = refl;
    reports = refl;
    touched = touched;
    sent = sent;
  }

  module _ (ready : IsReady rules v s) where
    k : Known (course_of (run_at rules v).plan)
    k = known (course_of (run_at rules v).plan) ready.run.lawful

    still : (kind : Kind) → is_still kind ≡ true → IsNext rules v s kind → IsMade rules v v s s kind found_none
    still (Br r1 r2) e next = made_by s.tracker (registers_of (state_in s.tracker)) (Br r1 r2) refl (λ after told. kept_br (run_at rules v) ready.run k v.hart v s.taken (parts_of s) after ready.kept ready.next told r1 r2 next.is) refl refl
    still Ex e next = made_by s.tracker (registers_of (state_in s.tracker)) Ex refl (λ after told. kept_ex (run_at rules v) ready.run k v.hart v s.taken (parts_of s) after ready.kept ready.next told next.is) refl refl
    still (Ft cause addr) e next = made_by s.tracker (registers_of (state_in s.tracker)) (Ft cause addr) refl (λ after told. kept_ft (run_at rules v) ready.run k v.hart v s.taken (parts_of s) after ready.kept ready.next told cause addr next.is) refl refl
    still (Ld width rd rb addr) e next = no _ e
    still (St width rv rb addr) e next = no _ e
    still (Op rd r1 r2) e next = no _ e
    still (Mv rd rs) e next = no _ e
    still (Im rd) e next = no _ e
    still (Jr rd rs) e next = no _ e
    still (Al addr len) e next = no _ e
    still (Fr addr len) e next = no _ e
    still (Bf addr) e next = no _ e
    still (Mp page count) e next = no _ e
    still (Um page count) e next = no _ e
    still (Rd addr len) e next = no _ e
    still (Wr addr len) e next = no _ e

    module _ (x : List RegState) (rd : ℕ) (low : rd < 34) where
      abbrev HasCleared : ℕ → Type 0
      HasCleared q = (r : ℕ) → state_in x r ≡ with_state (state_in s.tracker) q (reg.Known 0) r

      states_are : (q : ℕ) → q ≡ rd → HasCleared rd → registers_of (state_in x) ≡ with_state (registers_of (state_in s.tracker)) q (reg.Known 0)
      states_are q e each = subst (λ (z : ℕ). registers_of (state_in x) ≡ with_state (registers_of (state_in s.tracker)) z (reg.Known 0)) (sym e) (put_states (state_in s.tracker) (state_in x) rd (reg.Known 0) low each)

      clear : HasCleared rd → (kind : Kind) → cleared kind ≡ Some rd → IsNext rules v s kind → IsMade rules v v s (record s { tracker = x }) kind found_none
      clear each (Im q) e next = made_by x (with_state (registers_of (state_in s.tracker)) q (reg.Known 0)) (Im q) (states_are q (same_register q rd e) each)
          (λ after told. kept_im (run_at rules v) ready.run k v.hart v s.taken (parts_of s) after ready.kept ready.next told q next.is) refl refl
      clear each (Jr q rs) e next = made_by x (with_state (registers_of (state_in s.tracker)) q (reg.Known 0)) (Jr q rs) (states_are q (same_register q rd e) each)
          (λ after told. kept_jr (run_at rules v) ready.run k v.hart v s.taken (parts_of s) after ready.kept ready.next told q rs next.is) refl refl
      clear each (Bf addr) e next = made_by x (with_state (registers_of (state_in s.tracker)) 10 (reg.Known 0)) (Bf addr) (states_are 10 (same_register 10 rd e) each)
          (λ after told. kept_bf (run_at rules v) ready.run k v.hart v s.taken (parts_of s) after ready.kept ready.next told addr next.is) refl refl
      clear each (Br r1 r2) e next = none_is _ rd e
      clear each Ex e next = none_is _ rd e
      clear each (Ft cause addr) e next = none_is _ rd e
      clear each (Ld width d rb addr) e next = none_is _ rd e
      clear each (St width rv rb addr) e next = none_is _ rd e
      clear each (Op d r1 r2) e next = none_is _ rd e
      clear each (Mv d rs) e next = none_is _ rd e
      clear each (Al addr len) e next = none_is _ rd e
      clear each (Fr addr len) e next = none_is _ rd e
      clear each (Mp page count) e next = none_is _ rd e
      clear each (Um page count) e next = none_is _ rd e
      clear each (Rd addr len) e next = none_is _ rd e
      clear each (Wr addr len) e next = none_is _ rd e

      copied : (rs : ℕ) → rs < 34 → ((r : ℕ) → state_in x r ≡ with_state (state_in s.tracker) rd (state_in s.tracker rs) r) → IsNext rules v s (Mv rd rs) → IsMade rules v v s (record s { tracker = x }) (Mv rd rs) found_none
      copied rs lt each next = made_by x (with_state (registers_of (state_in s.tracker)) rd (registers_of (state_in s.tracker) rs)) (Mv rd rs)
          (put_states (state_in s.tracker) (state_in x) rd (state_in s.tracker rs) low each ∙ ap (with_state (registers_of (state_in s.tracker)) rd) (sym (there (state_in s.tracker) rs lt)))
          (λ after told. kept_mv (run_at rules v) ready.run k v.hart v s.taken (parts_of s) after ready.kept ready.next told rd rs lt next.is) refl refl

      joined : (r1 r2 a b : ℕ) → r1 < 34 → r2 < 34 → state_in s.tracker r1 ≡ reg.Known a → state_in s.tracker r2 ≡ reg.Known b → (j : ℕ) → j ≡ rules.joins a b
          → ((r : ℕ) → state_in x r ≡ with_state (state_in s.tracker) rd (reg.Known j) r) → IsNext rules v s (Op rd r1 r2) → IsMade rules v v s (record s { tracker = x }) (Op rd r1 r2) found_none
      joined r1 r2 a b l1 l2 e1 e2 j is each next = made_by x (with_state (registers_of (state_in s.tracker)) rd (reg.Known (rules.joins a b))) (Op rd r1 r2)
          (put_states (state_in s.tracker) (state_in x) rd (reg.Known j) low each ∙ ap (λ (z : ℕ). with_state (registers_of (state_in s.tracker)) rd (reg.Known z)) is)
          (λ after told. kept_op (run_at rules v) ready.run k v.hart v s.taken (parts_of s) after ready.kept ready.next told rd r1 r2 a b l1 l2 (there (state_in s.tracker) r1 l1 ∙ e1) (there (state_in s.tracker) r2 l2 ∙ e2) next.is) refl refl

      unjoined : (r1 r2 : ℕ) → rules.name ≡ name.Addr → HasCleared rd → IsNext rules v s (Op rd r1 r2) → IsMade rules v v s (record s { tracker = x }) (Op rd r1 r2) found_none
      unjoined r1 r2 addr each next = made_by x (with_state (registers_of (state_in s.tracker)) rd (reg.Known 0)) (Op rd r1 r2) (put_states (state_in s.tracker) (state_in x) rd (reg.Known 0) low each)
          (λ after told. kept_addr_op (run_at rules v) ready.run k v.hart v s.taken (parts_of s) after ready.kept ready.next told rd r1 r2 addr next.is) refl refl

  pub still_made : (kind : Kind) → IsNext rules v s kind → is_still kind ≡ true → IsMade rules v v s s kind found_none
  still_made kind next e = still next.ready kind e next

  pub clear_made : (x : List RegState) (rd : ℕ) → rd < 34 → ((r : ℕ) → state_in x r ≡ with_state (state_in s.tracker) rd (reg.Known 0) r) → (kind : Kind) → IsNext rules v s kind → cleared kind ≡ Some rd
      → IsMade rules v v s (record s { tracker = x }) kind found_none
  clear_made x rd low each kind next e = clear next.ready x rd low each kind e next

  pub copy_made : (x : List RegState) (rd rs : ℕ) → rd < 34 → rs < 34 → ((r : ℕ) → state_in x r ≡ with_state (state_in s.tracker) rd (state_in s.tracker rs) r) → IsNext rules v s (Mv rd rs)
      → IsMade rules v v s (record s { tracker = x }) (Mv rd rs) found_none
  copy_made x rd rs low lt each next = copied next.ready x rd low rs lt each next

  pub join_made : (x : List RegState) (rd r1 r2 a b : ℕ) → rd < 34 → r1 < 34 → r2 < 34 → state_in s.tracker r1 ≡ reg.Known a → state_in s.tracker r2 ≡ reg.Known b → (j : ℕ) → j ≡ rules.joins a b
      → ((r : ℕ) → state_in x r ≡ with_state (state_in s.tracker) rd (reg.Known j) r) → IsNext rules v s (Op rd r1 r2) → IsMade rules v v s (record s { tracker = x }) (Op rd r1 r2) found_none
  join_made x rd r1 r2 a b low l1 l2 e1 e2 j is each next = joined next.ready x rd low r1 r2 a b l1 l2 e1 e2 j is each next

  pub addr_join_made : (x : List RegState) (rd r1 r2 : ℕ) → rd < 34 → rules.name ≡ name.Addr → ((r : ℕ) → state_in x r ≡ with_state (state_in s.tracker) rd (reg.Known 0) r) → IsNext rules v s (Op rd r1 r2)
      → IsMade rules v v s (record s { tracker = x }) (Op rd r1 r2) found_none
  addr_join_made x rd r1 r2 low addr each next = unjoined next.ready x rd low r1 r2 addr each next
