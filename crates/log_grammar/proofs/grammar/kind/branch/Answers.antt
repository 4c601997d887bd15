use Rattle.std.proofs.Common.{codes}
use Rattle.log_grammar.specs.Reads.{AreTwo, IsKindOf, two_words, operands}
use Rattle.log_grammar.proofs.Chain.{made_none, made_some}
use Rattle.log_grammar.proofs.KindFields.{branch_kind, branch_made}
use Rattle.log_grammar.proofs.grammar.kind.branch.Goals as goal

pub returns-in_err-r1 : goal.returns-in_err-r1
returns-in_err-r1 c = made_none AreTwo two_words branch_kind (IsKindOf (codes "br")) operands c.args.text.now c.from_residual.result branch_made c.from_residual.ensures c.in_err-r1.ensures

pub returns : goal.returns
returns c = made_some AreTwo two_words branch_kind (IsKindOf (codes "br")) operands c.args.text.now (c.in_ok-r1.r1, c.in_ok-r1.r2) c.in_ok-r1.rest branch_made c.in_ok-r1.ensures
