use Rattle.std.proofs.Common.{◌≡◌, ◌+◌, ◌-◌}
use Rattle.log_text.specs.Pages.{holds_at, some_page}
use Rattle.log_text.proofs.page_set.some_marked.Given as goal

abbrev pub invariant-pages : goal.invariant-pages
invariant-pages l = some_page (holds_at l.pages) l.first l.count ≡ some_page (holds_at l.pages) l.page (l.first + l.count - l.page)
