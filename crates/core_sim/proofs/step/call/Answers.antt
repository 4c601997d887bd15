use Rattle.std.proofs.Common.{◌≡◌, refl, ap, ◌∙◌, subst}
use Rattle.guest_kernel.specs.declared.call.CallArgs.{CallArgs}
use Rattle.guest_kernel.specs.declared.call.KernelStep.TheVariants.{Ended, Went}
use Rattle.guest_kernel.specs.Calls.{call_of, IsAnswer}
use Rattle.guest_kernel.specs.State.{state_of, after}
use Rattle.core_sim.specs.Doing.{did_go_on}
use Rattle.core_sim.specs.Steps.{call_args}
use Rattle.core_sim.proofs.Doings.{call_does, made_args}
use Rattle.core_sim.proofs.step.call.Goals as goal

pub returns-in-Ended-clause-did : goal.returns-in-Ended-clause-did
returns-in-Ended-clause-did c =
    let args : CallArgs = record { a7 = c.reg.result; a0 = c.reg-2.result; a1 = c.reg-3.result; a2 = c.reg-4.result } in
    let same : args ≡ call_args c.args.hart.now.state = made_args _ _ _ _ _ _ _ _ c.reg.ensures.value c.reg-2.ensures.value c.reg-3.ensures.value c.reg-4.ensures.value in
    let answer : IsAnswer (call_of args.a7) (state_of c.args.kernel.now) args (Ended c.in-Ended.code) = rw c.in-Ended.is at c.in_ok-code.ensures.answer in
    let left : state_of c.call.new.self ≡ after (state_of c.args.kernel.now) (Ended c.in-Ended.code) = rw c.in-Ended.is at c.in_ok-code.ensures.after in
    call_does _ _ _ (Ended c.in-Ended.code) _ (subst (λ (a : CallArgs). IsAnswer (call_of a.a7) (state_of c.args.kernel.now) a (Ended c.in-Ended.code)) same answer) left refl

pub returns-in-Went-clause-did : goal.returns-in-Went-clause-did
returns-in-Went-clause-did c =
    let args : CallArgs = record { a7 = c.reg.result; a0 = c.reg-2.result; a1 = c.reg-3.result; a2 = c.reg-4.result } in
    let same : args ≡ call_args c.args.hart.now.state = made_args _ _ _ _ _ _ _ _ c.reg.ensures.value c.reg-2.ensures.value c.reg-3.ensures.value c.reg-4.ensures.value in
    let answer : IsAnswer (call_of args.a7) (state_of c.args.kernel.now) args (Went c.in-Went.a0 c.in-Went.kind) = rw c.in-Went.is at c.in_ok-code.ensures.answer in
    let left : state_of c.call.new.self ≡ after (state_of c.args.kernel.now) (Went c.in-Went.a0 c.in-Went.kind) = rw c.in-Went.is at c.in_ok-code.ensures.after in
    call_does _ _ _ (Went c.in-Went.a0 c.in-Went.kind) _ (subst (λ (a : CallArgs). IsAnswer (call_of a.a7) (state_of c.args.kernel.now) a (Went c.in-Went.a0 c.in-Went.kind)) same answer) left
    (c.goes_on.ensures ∙ ap (did_go_on c.in-Went.kind) c.end_call.ensures)
