use Rattle.std.proofs.Common.{codes}
use Rattle.log_grammar.specs.Reads.{AreTwo, IsKindOf, two_words, operands}
use Rattle.log_grammar.proofs.Chain.{made_none, made_some}
use Rattle.log_grammar.proofs.KindFields.{copied_kind, copied_made}
use Rattle.log_grammar.proofs.grammar.kind.copied.Goals as goal

pub returns-in_err-rd : goal.returns-in_err-rd
returns-in_err-rd c = made_none AreTwo two_words copied_kind (IsKindOf (codes "mv")) operands c.args.text.now c.from_residual.result copied_made c.from_residual.ensures c.in_err-rd.ensures

pub returns : goal.returns
returns c = made_some AreTwo two_words copied_kind (IsKindOf (codes "mv")) operands c.args.text.now (c.in_ok-rd.rd, c.in_ok-rd.rs) c.in_ok-rd.rest copied_made c.in_ok-rd.ensures
