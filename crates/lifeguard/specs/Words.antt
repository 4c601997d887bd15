-- The words of the lifeguards.
use Rattle.std.specs.Prelude.{ℕ, List, codes}
use Rattle.lifeguard.specs.declared.guard.Name.{Name}
use Rattle.lifeguard.specs.declared.guard.Name.TheVariants as guard

-- the lifeguard's word
abbrev pub guard_word : Name → List ℕ
guard_word guard.Addr = codes "addrcheck"
guard_word guard.Taint = codes "taintcheck"
guard_word guard.Mem = codes "memcheck"
