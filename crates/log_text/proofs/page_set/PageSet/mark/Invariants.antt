use Rattle.std.proofs.Common.{◌≡◌, ◌-◌}
use Rattle.log_text.specs.Pages.{holds_at}
use Rattle.pl_base.specs.Pages.{marked}
use Rattle.log_text.proofs.page_set.PageSet.mark.Given as goal

abbrev pub invariant-pages : goal.invariant-pages
invariant-pages l = holds_at l.self.pages.items ≡ marked (holds_at l.initial.self.pages.items) l.from (l.page - l.from) l.mapped
