use Rattle.std.proofs.Common.{◌≡◌, ◌≤◌, ℕ, false, List, [], length, sym, ap, ◌∙◌}
use Rattle.std.proofs.lemmas.List.{append-nil}
use Rattle.std.proofs.lemmas.Bool.{eqb-false}
use Rattle.std.specs.Fmt.{digits}
use Rattle.pl_text.specs.Number.{BeginsWithNumber}
use Rattle.pl_text.proofs.number.parse_number.Goals as goal

whole : (base high n : ℕ) (word : List ℕ) → n ≤ high → word ≡ digits base false n → BeginsWithNumber base high word n []
whole base high n word le e = record { low = le; spelled = e ∙ sym (append-nil (digits base false n)); ends = λ h. h }

pub returns-in_err-n-clause-every : goal.returns-in_err-n-clause-every
returns-in_err-n-clause-every c = λ n le e. absurd (c.in_err-n.ensures.every n [] (whole c.args.base c.args.high n c.args.word.now le e))

pub returns-else-is_empty-clause-every : goal.returns-else-is_empty-clause-every
returns-else-is_empty-clause-every c = λ n le e.
    let none = (c.in_ok-n.ensures.every n [] (whole c.args.base c.args.high n c.args.word.now le e)).1 in
    absurd (eqb-false (length c.in_ok-n.rest.now) 0 (sym c.if-is_empty.ensures) (ap length none))
