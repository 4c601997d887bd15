-- Bytes of the memory as a list.
use Rattle.std.specs.Prelude.{◌≡◌, ℕ, ◌+◌, ◌++◌, ◌<◌, Option, Some, List, length, slice_index}
use Rattle.guest_mem.specs.Image.{PageImage}
use Rattle.guest_mem.specs.Memory.{bytes}

-- a list is the bytes from an address on, all of them mapped
pub record HoldsAt (memory : List (Option PageImage)) (addr count : ℕ) (list : List ℕ) : Type 0 where
  pub long : length list ≡ count
  pub each : (k : ℕ) → k < count → bytes memory (addr + k) ≡ Some (slice_index list k)

-- the bytes from an address on, all of them mapped, follow a list
pub record Appends (memory : List (Option PageImage)) (addr count : ℕ) (old new : List ℕ) : Type 0 where
  pub moved : List ℕ
  pub held : HoldsAt memory addr count moved
  pub new_is : new ≡ old ++ moved
