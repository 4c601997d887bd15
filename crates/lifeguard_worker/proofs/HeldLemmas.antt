-- Where all that is taken is told, no load is held.
use Rattle.std.proofs.Common.{ℕ, ◌<◌, ◌≤◌, arith}
use Rattle.order_core.proofs.Named.{op_at}
use Rattle.guard_table.specs.declared.view.View.{View}
use Rattle.lifeguard.specs.Rules.{Rules}
use Rattle.inherit_track.specs.States.{state_in}
use Rattle.worker_laws.specs.Runs.{Run}
use Rattle.worker_laws.specs.Reads.{MayReadNow}
use Rattle.worker_laws.specs.Kept.{HoldsNothing, Kept}
use Rattle.order_core.specs.declared.course.Op.{Op}
use Rattle.worker_records.specs.declared.state.State.{State}
use Rattle.worker_records.specs.Places.{run_at}
use Rattle.worker_records.specs.States.{parts_of}
use Rattle.worker_records.proofs.RegisterLemmas.{held_there}

-- a read that may be made is of a record above the progress word
above : (p : Run) (h : ℕ) (v : View) (m i : ℕ) (o : Op) → MayReadNow p h v m i o → v.progress < m
above p h v m i o may =
    let t = op_at p.plan h m i o may.listed.from_one may.listed.number may.listed.op in
    (may.able t.0 t.1).4

pub nothing_held : (rules : Rules) (v : View) (s : State) → Kept (run_at rules v) v.hart v s.taken (parts_of s) → s.taken ≤ v.progress → HoldsNothing (parts_of s)
nothing_held rules v s kept told r from e =
    let h = held_there (state_in s.tracker) r from e in
    let i = kept.right.held r from h.0 e in
    let past : from.number ≤ s.taken = i.past in
    let low : v.progress < from.number = above (run_at rules v) v.hart v from.number 0 _ i.directory in
    omega arith
