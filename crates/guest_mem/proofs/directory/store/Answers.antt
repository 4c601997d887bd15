use Rattle.std.proofs.Common.{◌≡◌, ℕ, ◌/◌, true, false, arith, sym, ◌∙◌, ap}
use Rattle.std.proofs.lemmas.List.{length-take}
use Rattle.guest_mem.specs.Memory.{texts}
use Rattle.guest_mem.proofs.Pages.{all_mapped, first_is_unmapped, past_not_mapped, not_mapped, entry_is, mapped-page, texts-page, bytes-put, mapped-put, texts-put}
use Rattle.guest_mem.proofs.Numbers.{some_width}
use Rattle.guest_mem.proofs.directory.store.Goals as goal

pub returns-then-number-pages-clause-fault : goal.returns-then-number-pages-clause-fault
returns-then-number-pages-clause-fault c = first_is_unmapped _ _ _ (past_not_mapped _ _ c.if-number-pages.true) (some_width _ c.requires.width)

pub returns-in_default-clause-fault : goal.returns-in_default-clause-fault
returns-in_default-clause-fault c = first_is_unmapped _ _ _ (not_mapped _ _ (entry_is _ _ c.index-pages-number.result _ c.in_default.is c.if-number-pages.false)) (some_width _ c.requires.width)

pub returns-then-is_text-clause-fault : goal.returns-then-is_text-clause-fault
returns-then-is_text-clause-fault c =
    let here = entry_is _ _ c.index-pages-number.result _ c.in-Some.is c.if-number-pages.false in
    let is_text : texts c.args.pages.now (c.args.at / 4096) ≡ true = texts-page _ _ _ here ∙ sym c.is_text.ensures ∙ c.if-is_text.true in
    let some = some_width _ c.requires.width in
    (all_mapped _ _ _ (mapped-page _ _ _ here) c.requires.within, (c.args.at, omega arith, omega (arith, some), is_text))

pub returns-clause-can : goal.returns-clause-can
returns-clause-can c =
    let here = entry_is _ _ c.index-pages-number.result _ c.in-Some.is c.if-number-pages.false in
    let no_text : texts c.args.pages.now (c.args.at / 4096) ≡ false = texts-page _ _ _ here ∙ sym c.is_text.ensures ∙ c.if-is_text.false in
    record {
      all_mapped = all_mapped _ _ _ (mapped-page _ _ _ here) c.requires.within;
      no_text = λ k from before. ap (texts c.args.pages.now) (omega (arith, c.requires.within)) ∙ no_text;
    }

pub returns-clause-bytes : goal.returns-clause-bytes
returns-clause-bytes c =
    let here = entry_is _ _ c.index-pages-number.result _ c.in-Some.is c.if-number-pages.false in
    bytes-put _ c.args.at _ c.in-Some.page c.store.new.self c.if-number-pages.false here (omega (arith, c.requires.within, length-take {A = ℕ})) c.store.ensures.bytes

pub returns-clause-mapped : goal.returns-clause-mapped
returns-clause-mapped c = mapped-put _ _ c.in-Some.page _ c.if-number-pages.false (entry_is _ _ c.index-pages-number.result _ c.in-Some.is c.if-number-pages.false)

pub returns-clause-texts : goal.returns-clause-texts
returns-clause-texts c = texts-put _ _ c.in-Some.page _ c.if-number-pages.false (entry_is _ _ c.index-pages-number.result _ c.in-Some.is c.if-number-pages.false) c.store.ensures.text
