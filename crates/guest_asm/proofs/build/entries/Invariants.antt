use Rattle.std.proofs.Common.{◌≡◌, ◌<◌, ◌^◌, drop, map, fold, length}
use Rattle.std.specs.Prelude.{All}
use Rattle.guest_asm.specs.Jobs.{placed, entry_after, entries_of}
use Rattle.guest_asm.specs.Scans.{defined}
use Rattle.guest_asm.proofs.build.entries.Given as goal

abbrev pub invariant-rows : goal.invariant-rows
invariant-rows l = (fold (entry_after (defined l.labels)) l.entries (map placed (drop l.row-index l.rows)) ≡ entries_of (defined l.labels) (map placed l.rows)) × (length l.entries ≡ 8) × All (λ entry. entry < 2 ^ 32) l.entries
