use Rattle.std.specs.Prelude.{◌≡◌, ℕ, zero, suc, ◌+◌, ◌-◌, ◌*◌, ◌/◌, ◌<◌, ◌≤◌, ◌⊎◌, if◌then◌else◌, Option, Some, None, List, length, slice_index, unwrap_or, IsSome}
use Rattle.pl_base.specs.Pages.{is_among}
use Rattle.pl_base.specs.declared.layout.TheConstants.{PAGE_BYTES}

-- how many bytes a load or a store moves
abbrev pub IsWidth : ℕ → Type 0
IsWidth width = (width ≡ 1) ⊎ (width ≡ 2) ⊎ (width ≡ 4)

-- the number in `count` bytes from `at` on, the lowest byte first
abbrev pub number_from : (ℕ → ℕ) → ℕ → ℕ → ℕ
number_from bytes at zero = 0
number_from bytes at (suc count) = bytes at + 256 * number_from bytes (at + 1) count

-- the same where a byte may be on no mapped page, which counts as 0
abbrev pub number_at : (ℕ → Option ℕ) → ℕ → ℕ → ℕ
number_at bytes = number_from (λ k. unwrap_or (bytes k) 0)

-- bytes after a list was written over them from `at` on
abbrev pub overwritten : (ℕ → ℕ) → ℕ → List ℕ → ℕ → ℕ
overwritten bytes at list k = if is_among at (length list) k then slice_index list (k - at) else bytes k

-- the same of a memory's bytes: those at the written addresses are the list's, all others stay
abbrev pub written : (ℕ → Option ℕ) → ℕ → List ℕ → ℕ → Option ℕ
written bytes at list k = if is_among at (length list) k then Some (slice_index list (k - at)) else bytes k

-- a memory's bytes after `count` pages from `first` on got that byte throughout, or none
abbrev pub repaged : (ℕ → Option ℕ) → ℕ → ℕ → Option ℕ → ℕ → Option ℕ
repaged bytes first count byte k = if is_among first count (k / PAGE_BYTES) then byte else bytes k

-- each of `count` addresses from `at` on lies on a mapped page
abbrev pub AllMapped : (ℕ → Option ℕ) → ℕ → ℕ → Type 0
AllMapped bytes at count = (k : ℕ) → at ≤ k → k < at + count → IsSome (bytes k)

-- `byte` is the first of `count` addresses from `at` on that lies on no mapped page
pub record IsFirstUnmapped (bytes : ℕ → Option ℕ) (at count byte : ℕ) : Type 0 where
  pub from : at ≤ byte
  pub within : byte < at + count
  pub unmapped : bytes byte ≡ None
  pub before : (k : ℕ) → at ≤ k → k < byte → IsSome (bytes k)
