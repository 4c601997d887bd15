use Rattle.std.proofs.Common.{codes}
use Rattle.log_grammar.specs.Reads.{AreThree, IsKindOf, three_words, operands}
use Rattle.log_grammar.proofs.Chain.{made_none, made_some}
use Rattle.log_grammar.proofs.KindFields.{computed_kind, computed_made}
use Rattle.log_grammar.proofs.grammar.kind.computed.Goals as goal

pub returns-in_err-rd : goal.returns-in_err-rd
returns-in_err-rd c = made_none AreThree three_words computed_kind (IsKindOf (codes "op")) operands c.args.text.now c.from_residual.result computed_made c.from_residual.ensures c.in_err-rd.ensures

pub returns : goal.returns
returns c = made_some AreThree three_words computed_kind (IsKindOf (codes "op")) operands c.args.text.now (c.in_ok-rd.rd, c.in_ok-rd.r1, c.in_ok-rd.r2) c.in_ok-rd.rest computed_made c.in_ok-rd.ensures
