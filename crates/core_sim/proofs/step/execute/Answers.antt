use Rattle.std.proofs.Common.{◌≡◌, Some, None, slice_index, sym, ◌∙◌, ap}
use Rattle.pl_base.specs.declared.widths.FaultCause.TheVariants.{Pc, Illegal}
use Rattle.rv_isa.specs.Table.{instruction_of}
use Rattle.rv_exec.specs.Meaning.{effect_at}
use Rattle.rv_exec.specs.declared.effect.Effect.TheVariants as effects
use Rattle.core_sim.specs.Doing.{did_fault}
use Rattle.core_sim.specs.Steps.{word_at}
use Rattle.core_sim.proofs.Doings.{does_none, does_some, plain_does, illegal_does}
use Rattle.core_sim.proofs.step.execute.Goals as goal

pub returns-in_default-clause-did : goal.returns-in_default-clause-did
returns-in_default-clause-did c =
    let h = c.args.hart.now.state in
    let pc : c.pc_of-pc.result ≡ c.args.hart.now.state.pc = c.pc_of-pc.ensures in
    let none : word_at c.args.text.now c.args.hart.now.state.pc ≡ None = ap (word_at c.args.text.now) (sym pc) ∙ c.in_default.ensures.none in
    does_none _ _ _ _ none (c.fault.ensures ∙ ap (did_fault h Pc) pc)

pub returns-in_default-instruction-clause-did : goal.returns-in_default-instruction-clause-did
returns-in_default-instruction-clause-did c =
    let h = c.args.hart.now.state in
    let pc : c.pc_of-pc.result ≡ c.args.hart.now.state.pc = c.pc_of-pc.ensures in
    let word = slice_index c.args.text.now c.in-Some.place in
    let some : word_at c.args.text.now c.args.hart.now.state.pc ≡ Some word = ap (word_at c.args.text.now) (sym pc) ∙ c.in-Some.ensures.some.is in
    let effect : effect_at h (instruction_of word) ≡ effects.Illegal = ap (effect_at h) (sym c.instruction.ensures.value ∙ c.in_default-instruction.is) in
    does_some _ _ _ _ _ word effects.Illegal some effect (illegal_does _ _ _ (c.fault-in_default-instruction.ensures ∙ ap (did_fault h Illegal) pc))

pub returns-in-Nothing-clause-did : goal.returns-in-Nothing-clause-did
returns-in-Nothing-clause-did c =
    let h = c.args.hart.now.state in
    let pc : c.pc_of-pc.result ≡ c.args.hart.now.state.pc = c.pc_of-pc.ensures in
    let word = slice_index c.args.text.now c.in-Some.place in
    let some : word_at c.args.text.now c.args.hart.now.state.pc ≡ Some word = ap (word_at c.args.text.now) (sym pc) ∙ c.in-Some.ensures.some.is in
    does_some _ _ _ _ _ word _ some (ap (effect_at h) (sym c.instruction.ensures.value ∙ c.in-Some-instruction.is) ∙ c.advance.ensures)
    (plain_does _ _ _ c.advance.new.state c.in-Nothing.kind _ c.in-Nothing.ensures.1 c.goes_on.ensures)
