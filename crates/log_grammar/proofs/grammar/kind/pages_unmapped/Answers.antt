use Rattle.std.proofs.Common.{codes}
use Rattle.log_grammar.specs.Reads.{IsKindOf, operands}
use Rattle.log_grammar.proofs.Chain.{made_none, made_some}
use Rattle.log_grammar.proofs.KindFields.{IsPagePair, page_pair_words, unmapped_kind, unmapped_made}
use Rattle.log_grammar.proofs.grammar.kind.pages_unmapped.Goals as goal

pub returns-in_err-page : goal.returns-in_err-page
returns-in_err-page c = made_none IsPagePair page_pair_words unmapped_kind (IsKindOf (codes "um")) operands c.args.text.now c.from_residual.result unmapped_made c.from_residual.ensures c.in_err-page.ensures

pub returns : goal.returns
returns c = made_some IsPagePair page_pair_words unmapped_kind (IsKindOf (codes "um")) operands c.args.text.now (c.in_ok-page.page, c.in_ok-page.count) c.in_ok-page.rest unmapped_made c.in_ok-page.ensures
