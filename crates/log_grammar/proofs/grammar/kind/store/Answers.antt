use Rattle.std.proofs.Common.{codes}
use Rattle.log_grammar.specs.Reads.{IsAny, IsAccess, IsKindOf, access_words, operands}
use Rattle.log_grammar.proofs.Chain.{BothIn, both_words, both_later, both_some, made_none, made_some}
use Rattle.log_grammar.proofs.KindFields.{store_words, store_kind, store_made}
use Rattle.log_grammar.proofs.grammar.kind.store.Goals as goal

pub returns-in_err-rv : goal.returns-in_err-rv
returns-in_err-rv c =
    made_none (BothIn IsAny IsAccess) (both_words store_words access_words) store_kind (IsKindOf (codes "st")) operands c.args.text.now c.from_residual-in_err-rv.result store_made c.from_residual-in_err-rv.ensures
    (both_later IsAny IsAccess store_words access_words c.args.text.now c.in_ok-width.width c.in_ok-width.rest c.in_ok-width.ensures c.in_err-rv.ensures)

pub returns : goal.returns
returns c =
    made_some (BothIn IsAny IsAccess) (both_words store_words access_words) store_kind (IsKindOf (codes "st")) operands c.args.text.now (c.in_ok-width.width, (c.in_ok-rv.rv, c.in_ok-rv.rb, c.in_ok-rv.addr)) c.in_ok-rv.rest store_made
    (both_some IsAny IsAccess store_words access_words c.args.text.now c.in_ok-width.width (c.in_ok-rv.rv, c.in_ok-rv.rb, c.in_ok-rv.addr) c.in_ok-width.rest c.in_ok-rv.rest c.in_ok-width.ensures c.in_ok-rv.ensures)
