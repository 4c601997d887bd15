use Rattle.std.proofs.Common.{◌≡◌, ◌+◌, ◌-◌, not}
use Rattle.log_text.specs.Pages.{holds_at, some_page}
use Rattle.log_text.proofs.page_set.some_unmarked.Given as goal

abbrev pub invariant-pages : goal.invariant-pages
invariant-pages l = some_page (λ page. not (holds_at l.pages page)) l.first l.count ≡ some_page (λ page. not (holds_at l.pages page)) l.page (l.first + l.count - l.page)
