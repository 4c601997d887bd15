-- How many bytes a load or a store moves.
use Rattle.std.specs.Prelude.{ℕ}
use Rattle.pl_base.specs.declared.widths.LoadWidth.{LoadWidth}
use Rattle.pl_base.specs.declared.widths.StoreWidth.{StoreWidth}
use Rattle.pl_base.specs.declared.widths.LoadWidth.TheVariants as load
use Rattle.pl_base.specs.declared.widths.StoreWidth.TheVariants as store

-- a byte, a halfword or a word
abbrev pub load_bytes : LoadWidth → ℕ
load_bytes load.B = 1
load_bytes load.H = 2
load_bytes load.W = 4
load_bytes load.Bu = 1
load_bytes load.Hu = 2

-- a byte, a halfword or a word
abbrev pub store_bytes : StoreWidth → ℕ
store_bytes store.B = 1
store_bytes store.H = 2
store_bytes store.W = 4
