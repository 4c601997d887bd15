use Rattle.std.proofs.Common.{◌≡◌, ℕ, ◌+◌, sym, ap, ◌∙◌, subst}
use Rattle.guard_table.specs.Seats.{seat_view}
use Rattle.inherit_track.specs.declared.state.RegState.TheVariants as reg
use Rattle.inherit_track.specs.States.{state_in}
use Rattle.worker_laws.specs.Runs.{Run, masks_before}
use Rattle.worker_records.specs.Places.{run_at}
use Rattle.worker_records.specs.States.{parts_of}
use Rattle.worker_records.specs.declared.state.State.{State}
use Rattle.worker_records.proofs.RegisterLemmas.{there}
use Rattle.worker_records.proofs.state.State.mask_of.Goals as goal

pub returns-in-Known-clause-mask : goal.returns-in-Known-clause-mask
returns-in-Known-clause-mask g c =
    let s = c.args.self.now in
    c.requires.kept.kept.right.known c.args.r c.in-Known.mask c.requires.register
    (there (state_in s.tracker) c.args.r c.requires.register ∙ (sym c.state.ensures.state ∙ c.in-Known.is))

pub returns-in-Held-clause-mask : goal.returns-in-Held-clause-mask
returns-in-Held-clause-mask g c =
    let v = seat_view c.args.seat.now in
    let s = c.args.self.now in
    let p : Run = run_at (g.L.Lifeguard.rules c.args.guard) v in
    let same = ap (λ (z : State). z.taken) c.resolve.ensures.others in
    let known = c.resolve.ensures.resolved.known c.args.r (sym c.state.ensures.state ∙ c.in-Held.is) in
    subst (λ (z : ℕ). c.resolve.result ≡ masks_before p v.hart (z + 1) c.args.r) same
    (c.resolve.ensures.kept.kept.right.known c.args.r c.resolve.result c.requires.register
    (there (state_in c.resolve.new.self.tracker) c.args.r c.requires.register ∙ known))
