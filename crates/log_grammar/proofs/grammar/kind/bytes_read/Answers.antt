use Rattle.std.proofs.Common.{codes}
use Rattle.log_grammar.specs.Reads.{IsKindOf, operands}
use Rattle.log_grammar.proofs.Chain.{made_none, made_some}
use Rattle.log_grammar.proofs.KindFields.{IsPair, pair_words, read_kind, read_made}
use Rattle.log_grammar.proofs.grammar.kind.bytes_read.Goals as goal

pub returns-in_err-addr : goal.returns-in_err-addr
returns-in_err-addr c = made_none IsPair pair_words read_kind (IsKindOf (codes "rd")) operands c.args.text.now c.from_residual.result read_made c.from_residual.ensures c.in_err-addr.ensures

pub returns : goal.returns
returns c = made_some IsPair pair_words read_kind (IsKindOf (codes "rd")) operands c.args.text.now (c.in_ok-addr.addr, c.in_ok-addr.len) c.in_ok-addr.rest read_made c.in_ok-addr.ensures
