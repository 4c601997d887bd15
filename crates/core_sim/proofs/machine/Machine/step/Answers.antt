use Rattle.std.proofs.Common.{◌≡◌, ◌≢◌, ℕ, ◌<◌, List, [], length, slice_index_or, slice_set, refl, ap, sym, subst, ◌∙◌, arith}
use Rattle.guest_kernel.specs.State.{state_of}
use Rattle.core_sim.specs.declared.hart.Standing.{Standing}
use Rattle.core_sim.specs.declared.job.Item.{Item}
use Rattle.core_sim.specs.Doing.{Did, did, Does}
use Rattle.core_sim.specs.Harts.{live_harts}
use Rattle.core_sim.specs.Schedules.{turn_of_step}
use Rattle.core_sim.specs.Stands.{Stands}
use Rattle.core_sim.specs.Start.{standing_at}
use Rattle.core_sim.specs.Image.{MachineImage}
use Rattle.core_sim.proofs.Stepping.{whatever_failed, can_go_on, goes_on, limits, hart_is}
use Rattle.core_sim.proofs.machine.Machine.step.Goals as goal

pub returns-then-self-clause-comes : goal.returns-then-self-clause-comes
returns-then-self-clause-comes c = λ job entries stands.
    let here = subst (λ (m : MachineImage). Stands job entries m) (sym c.self.view_is) stands in
    let live : live_harts c.self.inside.harts.items ≢ [] = subst (λ (harts : List Standing). live_harts harts ≢ []) c.deref.ensures.value c.in-Some.ensures.live in
    record { why = limits job entries _ here live c.if-self.true; unchanged = refl }

pub returns-in_err-kind-clause-memory : goal.returns-in_err-kind-clause-memory
returns-in_err-kind-clause-memory c =
    let live : live_harts c.self.inside.harts.items ≢ [] = subst (λ (harts : List Standing). live_harts harts ≢ []) c.deref.ensures.value c.in-Some.ensures.live in
    whatever_failed c.from_residual.result _ (λ job entries stands. can_go_on job entries _ (subst (λ (m : MachineImage). Stands job entries m) (sym c.self.view_is) stands) live c.if-self.false)

pub returns-clause-comes : goal.returns-clause-comes
returns-clause-comes c = λ job entries stands.
    let here = subst (λ (m : MachineImage). Stands job entries m) (sym c.self.view_is) stands in
    let harts = c.self.inside.harts.items in
    let turn = c.in-Some.turn in
    let live : live_harts c.self.inside.harts.items ≢ [] = subst (λ (hs : List Standing). live_harts hs ≢ []) c.deref.ensures.value c.in-Some.ensures.live in
    let turn_here : c.in-Some.turn ≡ turn_of_step c.self.inside.items c.self.inside.turn (live_harts c.self.inside.harts.items) =
    c.in-Some.ensures.turn_is ∙ ap (λ (items : List Item). turn_of_step items c.self.inside.turn (live_harts c.deref.result.now)) c.as_slice.ensures
    ∙ ap (λ (hs : List Standing). turn_of_step c.self.inside.items c.self.inside.turn (live_harts hs)) c.deref.ensures.value in
    let within : c.in-Some.turn.hart < length c.self.inside.harts.items = omega (arith, c.in-Some.ensures.within, ap length c.deref.ensures.value) in
    let number : c.from-hart.result ≡ c.in-Some.turn.hart = c.from-hart.ensures in
    let state : c.index_mut.result.now.state ≡ (slice_index_or c.self.inside.harts.items c.in-Some.turn.hart (standing_at 0 0)).state =
    ap (λ (h : Standing). h.state) (c.index_mut.ensures.value ∙ ap (λ (n : ℕ). slice_index_or c.self.inside.harts.items n c.index_mut.result.now) number ∙ hart_is c.self.inside.harts.items c.in-Some.turn.hart c.index_mut.result.now (standing_at 0 0) within) in
    let came : Did = did c.in_ok-kind.kind c.execute.new.hart in
    let does : Does c.self.inside.text (state_of c.self.inside.kernel) (state_of c.execute.new.kernel) c.index_mut.result.now.state came = c.in_ok-kind.ensures.did in
    goes_on job entries _ _ c.in-Some.turn c.index_mut.result.now.state came _ here turn_here live c.if-self.false state does
    refl refl refl (ap (λ (n : ℕ). slice_set c.self.inside.harts.items n c.execute.new.hart) number) c.stepped-self-inside.ensures refl c.one.ensures
