use Rattle.std.proofs.Common.{◌≡◌, ℕ, ◌+◌, false, sym, ap, ◌∙◌, subst}
use Rattle.order_core.specs.declared.course.Op.{Op}
use Rattle.order_core.specs.Lanes.{HasValueOf}
use Rattle.guard_table.specs.declared.view.View.{View}
use Rattle.guard_table.specs.Seats.{plan_of, seat_view}
use Rattle.inherit_track.specs.declared.state.RegState.TheVariants as reg
use Rattle.inherit_track.specs.States.{state_in}
use Rattle.worker_laws.specs.Runs.{Run, before}
use Rattle.worker_laws.specs.Reads.{directory_read, value_at, value_read}
use Rattle.worker_records.specs.Places.{run_at}
use Rattle.worker_records.specs.Registers.{registers_of}
use Rattle.worker_records.specs.States.{parts_of}
use Rattle.worker_records.specs.Steps.{IsReadOf}
use Rattle.worker_records.proofs.HeldLemmas.{directory_low, directory_may, directory_some, held, kept_after, low_nibbles, value_may}
use Rattle.worker_records.proofs.RegisterLemmas.{resolved_there, there}
use Rattle.worker_records.proofs.state.State.resolve.Goals as goal

pub directory_word-requires : goal.directory_word-requires
directory_word-requires g c =
    let v = seat_view c.args.seat.now in
    let s = c.args.self.now in
    let t = c.requires.held in
    let p : Run = run_at (g.L.Lifeguard.rules c.args.guard) v in
    let e : (parts_of s).states t.0 ≡ reg.Held c.args.from = there (state_in s.tracker) t.0 t.1 ∙ t.2 in
    (held p c.requires.kept.run v s.taken (parts_of s) c.requires.kept.kept t.0 c.args.from t.1 e (g.P.Plan.planned (plan_of c.args.monitor.now)) c.requires.at.plan).near

pub read-directory-requires-clause-may : goal.read-directory-requires-clause-may
read-directory-requires-clause-may g c =
    let v = seat_view c.args.seat.now in
    let s = c.args.self.now in
    let t = c.requires.held in
    let p : Run = run_at (g.L.Lifeguard.rules c.args.guard) v in
    let e : (parts_of s).states t.0 ≡ reg.Held c.args.from = there (state_in s.tracker) t.0 t.1 ∙ t.2 in
    (p, directory_read (before p v.hart c.args.from.number).words c.args.from.addr, directory_may p c.requires.kept.run v s.taken (parts_of s) c.requires.kept.kept t.0 c.args.from t.1 e (g.P.Plan.planned (plan_of c.args.monitor.now)) c.requires.at.plan c.directory_word.result c.directory_word.ensures)

pub shadow_word-at-requires-clause-some : goal.shadow_word-at-requires-clause-some
shadow_word-at-requires-clause-some g c =
    let v = seat_view c.args.seat.now in
    let s = c.args.self.now in
    let t = c.requires.held in
    let p : Run = run_at (g.L.Lifeguard.rules c.args.guard) v in
    let e : (parts_of s).states t.0 ≡ reg.Held c.args.from = there (state_in s.tracker) t.0 t.1 ∙ t.2 in
    directory_some p c.requires.kept.run v s.taken (parts_of s) c.requires.kept.kept t.0 c.args.from t.1 e (g.P.Plan.planned (plan_of c.args.monitor.now)) c.requires.at.plan c.directory_word.result c.directory_word.ensures c.read-directory.result c.read-directory.type_inv c.read-directory.ensures.value

pub shadow_word-at-requires-clause-frame : goal.shadow_word-at-requires-clause-frame
shadow_word-at-requires-clause-frame g c =
    let v = seat_view c.args.seat.now in
    let s = c.args.self.now in
    let t = c.requires.held in
    let p : Run = run_at (g.L.Lifeguard.rules c.args.guard) v in
    let e : (parts_of s).states t.0 ≡ reg.Held c.args.from = there (state_in s.tracker) t.0 t.1 ∙ t.2 in
    directory_low p c.requires.kept.run v s.taken (parts_of s) c.requires.kept.kept t.0 c.args.from t.1 e (g.P.Plan.planned (plan_of c.args.monitor.now)) c.requires.at.plan c.directory_word.result c.directory_word.ensures c.read-directory.result c.read-directory.type_inv c.read-directory.ensures.value

pub read-word-requires-clause-may : goal.read-word-requires-clause-may
read-word-requires-clause-may g c =
    let v = seat_view c.args.seat.now in
    let s = c.args.self.now in
    let t = c.requires.held in
    let p : Run = run_at (g.L.Lifeguard.rules c.args.guard) v in
    let e : (parts_of s).states t.0 ≡ reg.Held c.args.from = there (state_in s.tracker) t.0 t.1 ∙ t.2 in
    subst (λ (z : View). (q : Run) × (o : Op) × IsReadOf (g.P.Plan.planned (plan_of c.args.monitor.now)) z c.args.from.number c.value_op.result c.shadow_word-at.result false q o) (sym c.read-directory.ensures.view)
    (p, value_read v.course.log.block (before p v.hart c.args.from.number).words c.args.from.addr, value_may p c.requires.kept.run v s.taken (parts_of s) c.requires.kept.kept t.0 c.args.from t.1 e (g.P.Plan.planned (plan_of c.args.monitor.now)) c.requires.at.plan c.directory_word.result c.directory_word.ensures c.read-directory.result c.read-directory.type_inv c.read-directory.ensures.value c.value_op.result c.shadow_word-at.result (c.value_op.ensures ∙ ap value_at c.name.ensures) c.shadow_word-at.ensures)

pub word_mask-mask-requires-clause-narrow : goal.word_mask-mask-requires-clause-narrow
word_mask-mask-requires-clause-narrow g c =
    let v = seat_view c.args.seat.now in
    let s = c.args.self.now in
    let t = c.requires.held in
    let p : Run = run_at (g.L.Lifeguard.rules c.args.guard) v in
    let e : (parts_of s).states t.0 ≡ reg.Held c.args.from = there (state_in s.tracker) t.0 t.1 ∙ t.2 in
    (held p c.requires.kept.run v s.taken (parts_of s) c.requires.kept.kept t.0 c.args.from t.1 e (g.P.Plan.planned (plan_of c.args.monitor.now)) c.requires.at.plan).narrow

pub word_mask-mask-requires-clause-low : goal.word_mask-mask-requires-clause-low
word_mask-mask-requires-clause-low g c =
    let v = seat_view c.args.seat.now in
    let s = c.args.self.now in
    let t = c.requires.held in
    let p : Run = run_at (g.L.Lifeguard.rules c.args.guard) v in
    let e : (parts_of s).states t.0 ≡ reg.Held c.args.from = there (state_in s.tracker) t.0 t.1 ∙ t.2 in
    low_nibbles p c.requires.kept.run v s.taken (parts_of s) c.requires.kept.kept t.0 c.args.from t.1 e (g.P.Plan.planned (plan_of c.args.monitor.now)) c.requires.at.plan c.directory_word.result c.directory_word.ensures c.read-directory.result c.read-directory.type_inv c.read-directory.ensures.value c.value_op.result c.shadow_word-at.result (c.value_op.ensures ∙ ap value_at c.name.ensures) c.shadow_word-at.ensures c.read-word.result (subst (λ (z : View). (q : Run) (o : Op) → IsReadOf (g.P.Plan.planned (plan_of c.args.monitor.now)) z c.args.from.number c.value_op.result c.shadow_word-at.result false q o → HasValueOf o c.read-word.result) c.read-directory.ensures.view c.read-word.ensures.value)

pub returns-clause-kept : goal.returns-clause-kept
returns-clause-kept g c =
    let v = seat_view c.args.seat.now in
    let s = c.args.self.now in
    let t = c.requires.held in
    let p : Run = run_at (g.L.Lifeguard.rules c.args.guard) v in
    let e : (parts_of s).states t.0 ≡ reg.Held c.args.from = there (state_in s.tracker) t.0 t.1 ∙ t.2 in
    record {
      run = c.requires.kept.run;
      kept = kept_after p c.requires.kept.run v s.taken (parts_of s) c.requires.kept.kept t.0 c.args.from t.1 e (g.P.Plan.planned (plan_of c.args.monitor.now)) c.requires.at.plan c.directory_word.result c.directory_word.ensures c.read-directory.result c.read-directory.type_inv c.read-directory.ensures.value c.value_op.result c.shadow_word-at.result (c.value_op.ensures ∙ ap value_at c.name.ensures) c.shadow_word-at.ensures c.read-word.result (subst (λ (z : View). (q : Run) (o : Op) → IsReadOf (g.P.Plan.planned (plan_of c.args.monitor.now)) z c.args.from.number c.value_op.result c.shadow_word-at.result false q o → HasValueOf o c.read-word.result) c.read-directory.ensures.view c.read-word.ensures.value) c.word_mask-mask.result (registers_of (state_in c.resolve.new.self)) c.word_mask-mask.ensures.value
          (resolved_there c.args.from c.word_mask-mask.result (state_in s.tracker) (state_in c.resolve.new.self) c.resolve.ensures);
    }
