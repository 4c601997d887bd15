use Rattle.std.proofs.Common.{◌≡◌, All, vec_len}
use Rattle.guest_mem.specs.Directory.{IsZeroPage}
use Rattle.guest_mem.proofs.directory.zero_pages.Given as goal

abbrev pub invariant-loop : goal.invariant-loop
invariant-loop l = All (IsZeroPage l.text) l.pages.items × (vec_len l.pages ≡ l.counter)
