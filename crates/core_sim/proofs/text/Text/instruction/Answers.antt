use Rattle.std.proofs.Common.{◌≡◌, ◌<◌, arith, IfSome, List, Option, length, get_or, ap, ◌∙◌, sym, subst}
use Rattle.std.proofs.lemmas.List.{get_or-map}
use Rattle.rv_isa.proofs.Reading.{valid_where_read}
use Rattle.rv_isa.specs.declared.instruction.Instr.{Instr}
use Rattle.rv_isa.specs.Table.{instruction_of}
use Rattle.rv_isa.specs.Valid.{IsValid}
use Rattle.core_sim.proofs.text.Text.instruction.Goals as goal

pub returns-clause-valid : goal.returns-clause-valid
returns-clause-valid c =
    let word = get_or c.self.inside.words.items c.args.place 0 in
    let within : c.args.place < length c.self.inside.words.items = omega (arith, c.requires, ap length c.self.view_is) in
    let is : c.index.result.now ≡ instruction_of word =
    c.index.ensures ∙ ap (λ (xs : List (Option Instr)). get_or xs c.args.place c.index.result.now) c.self.invariant ∙ get_or-map instruction_of c.self.inside.words.items c.args.place 0 c.index.result.now within in
    subst (λ (o : Option Instr). IfSome o IsValid) (sym is) (valid_where_read word)
