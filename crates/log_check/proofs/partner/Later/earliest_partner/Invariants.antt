use Rattle.std.proofs.Common.{◌≡◌, ℕ, ◌<◌, ◌≤◌, List, length, slice_index}
use Rattle.pl_event.specs.declared.log.Line.{Line}
use Rattle.pl_event.specs.Records.{records_before}
use Rattle.log_clocks.specs.Clocks.{time}
use Rattle.log_check.specs.inner.Partners.{IsClear, IsSought}
use Rattle.log_check.proofs.partner.Later.earliest_partner.Given as goal

abbrev pub invariant-loop-x : goal.invariant-loop-x
invariant-loop-x l = record {
  eight : length l.numbers ≡ 8;
  most : (h : ℕ) → h < 8 → slice_index l.numbers h ≤ l.x;
  numbers : (harts : ℕ) (g : List Line) (m : ℕ) → IsSought l.trace l.now harts g l.self.event m (time l.self.clock)
      → (h : ℕ) → h < 8 → slice_index l.numbers h ≡ records_before h g l.x;
  clear : (harts : ℕ) (g : List Line) (m : ℕ) → IsSought l.trace l.now harts g l.self.event m (time l.self.clock)
      → IsClear l.self.size g l.x (length l.trace);
}
