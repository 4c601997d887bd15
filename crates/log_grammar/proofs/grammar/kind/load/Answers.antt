use Rattle.std.proofs.Common.{codes}
use Rattle.log_grammar.specs.Reads.{IsAny, IsAccess, IsKindOf, access_words, operands}
use Rattle.log_grammar.proofs.Chain.{BothIn, both_words, both_later, both_some, made_none, made_some}
use Rattle.log_grammar.proofs.KindFields.{load_words, load_kind, load_made}
use Rattle.log_grammar.proofs.grammar.kind.load.Goals as goal

pub returns-in_err-rd : goal.returns-in_err-rd
returns-in_err-rd c =
    made_none (BothIn IsAny IsAccess) (both_words load_words access_words) load_kind (IsKindOf (codes "ld")) operands c.args.text.now c.from_residual-in_err-rd.result load_made c.from_residual-in_err-rd.ensures
    (both_later IsAny IsAccess load_words access_words c.args.text.now c.in_ok-width.width c.in_ok-width.rest c.in_ok-width.ensures c.in_err-rd.ensures)

pub returns : goal.returns
returns c =
    made_some (BothIn IsAny IsAccess) (both_words load_words access_words) load_kind (IsKindOf (codes "ld")) operands c.args.text.now (c.in_ok-width.width, (c.in_ok-rd.rd, c.in_ok-rd.rb, c.in_ok-rd.addr)) c.in_ok-rd.rest load_made
    (both_some IsAny IsAccess load_words access_words c.args.text.now c.in_ok-width.width (c.in_ok-rd.rd, c.in_ok-rd.rb, c.in_ok-rd.addr) c.in_ok-width.rest c.in_ok-rd.rest c.in_ok-width.ensures c.in_ok-rd.ensures)
