use Rattle.std.proofs.Common.{◌≡◌, ◌/◌, false, true}
use Rattle.guest_mem.specs.Memory.{mapped}
use Rattle.guest_mem.proofs.Pages.{mapped_within, bytes-put, mapped-put, texts-put, entry_is, not_mapped}
use Rattle.guest_mem.proofs.directory.put.Goals as goal

pub bounds-pages-at : goal.bounds-pages-at
bounds-pages-at c = mapped_within _ _ c.requires.mapped

pub returns-in-Some-clause-bytes : goal.returns-in-Some-clause-bytes
returns-in-Some-clause-bytes c =
    let within = mapped_within _ _ c.requires.mapped in
    bytes-put c.args.pages.now c.args.at c.args.piece.now c.in-Some.page c.copy_in.new.self within (entry_is _ _ c.index-pages-at.result _ c.in-Some.is within) c.requires.within c.copy_in.ensures.bytes

pub returns-in-Some-clause-mapped : goal.returns-in-Some-clause-mapped
returns-in-Some-clause-mapped c =
    let within = mapped_within _ _ c.requires.mapped in
    mapped-put _ _ c.in-Some.page _ within (entry_is _ _ c.index-pages-at.result _ c.in-Some.is within)

pub returns-in-Some-clause-texts : goal.returns-in-Some-clause-texts
returns-in-Some-clause-texts c =
    let within = mapped_within _ _ c.requires.mapped in
    texts-put _ _ c.in-Some.page _ within (entry_is _ _ c.index-pages-at.result _ c.in-Some.is within) c.copy_in.ensures.text

pub returns-in_default-clause-bytes : goal.returns-in_default-clause-bytes
returns-in_default-clause-bytes c =
    let within = mapped_within _ _ c.requires.mapped in
    let no : mapped c.args.pages.now (c.args.at / 4096) ≡ false = not_mapped _ _ (entry_is _ _ c.index-pages-at.result _ c.in_default.is within) in
    let yes : mapped c.args.pages.now (c.args.at / 4096) ≡ true = c.requires.mapped in
    cc
