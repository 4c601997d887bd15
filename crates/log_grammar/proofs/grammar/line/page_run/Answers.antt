use Rattle.std.proofs.Common.{◌∷◌, codes}
use Rattle.log_grammar.specs.Reads.{IsAny, IsPageRun, page_words}
use Rattle.log_grammar.proofs.Chain.{BothIn, both_words, both_none, both_later, both_some, word_none, word_some, made_none, made_some}
use Rattle.log_grammar.proofs.KindFields.{IsPagePair, page_pair_words, page_kind_words, run_words, run_of, run_made}
use Rattle.log_grammar.proofs.grammar.line.page_run.Goals as goal

pub returns-in_err-first : goal.returns-in_err-first
returns-in_err-first c =
    made_none (BothIn IsPagePair IsAny) run_words run_of IsPageRun page_words (32 ∷ c.args.text.now) c.from_residual-in_err-first.result run_made c.from_residual-in_err-first.ensures
    (word_none (BothIn IsPagePair IsAny) (both_words page_pair_words page_kind_words) (codes "page") c.in_ok-rest.rest.now c.args.text.now c.in_ok-rest.ensures.found
    (both_none IsPagePair IsAny page_pair_words page_kind_words c.in_ok-rest.rest.now c.in_err-first.ensures))

pub returns-in_err-kind : goal.returns-in_err-kind
returns-in_err-kind c =
    made_none (BothIn IsPagePair IsAny) run_words run_of IsPageRun page_words (32 ∷ c.args.text.now) c.from_residual-in_err-kind.result run_made c.from_residual-in_err-kind.ensures
    (word_none (BothIn IsPagePair IsAny) (both_words page_pair_words page_kind_words) (codes "page") c.in_ok-rest.rest.now c.args.text.now c.in_ok-rest.ensures.found
    (both_later IsPagePair IsAny page_pair_words page_kind_words c.in_ok-rest.rest.now (c.in_ok-first.first, c.in_ok-first.count) c.in_ok-first.rest c.in_ok-first.ensures c.in_err-kind.ensures))

pub returns : goal.returns
returns c =
    made_some (BothIn IsPagePair IsAny) run_words run_of IsPageRun page_words (32 ∷ c.args.text.now) ((c.in_ok-first.first, c.in_ok-first.count), c.in_ok-kind.kind) c.in_ok-kind.rest run_made
    (word_some (BothIn IsPagePair IsAny) (both_words page_pair_words page_kind_words) (codes "page") c.in_ok-rest.rest.now c.args.text.now ((c.in_ok-first.first, c.in_ok-first.count), c.in_ok-kind.kind) c.in_ok-kind.rest c.in_ok-rest.ensures.found
    (both_some IsPagePair IsAny page_pair_words page_kind_words c.in_ok-rest.rest.now (c.in_ok-first.first, c.in_ok-first.count) c.in_ok-kind.kind c.in_ok-first.rest c.in_ok-kind.rest c.in_ok-first.ensures c.in_ok-kind.ensures))
