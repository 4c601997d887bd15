use Rattle.std.proofs.Common.{◌≡◌, ◌++◌, map, take}
use Rattle.std.specs.Prelude.{string_bytes}
use Rattle.log_grammar.specs.Spelling.{page, entries_text}
use Rattle.log_text.proofs.write.write_pages.Given as goal

-- the lines of the pages so far
abbrev pub invariant-pages : goal.invariant-pages
invariant-pages l = string_bytes l.out ≡ string_bytes l.initial.out ++ entries_text (map page (take l.run-index l.pages))
