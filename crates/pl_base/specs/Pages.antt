-- Pages by number, which of them pass a test, and how many. Addresses are told from one another in the same way.
use Rattle.std.specs.Prelude.{◌≡◌, ℕ, zero, suc, ◌+◌, ◌<◌, ◌≤◌, ◌&&◌, Bool, if◌then◌else◌, nat_le, nat_lt}

-- whether a page is one of `count` from `first` on
abbrev pub is_among : ℕ → ℕ → ℕ → Bool
is_among first count page = nat_le first page && nat_lt page (first + count)

-- a test of pages after `count` of them from `first` on got that answer
abbrev pub marked : (ℕ → Bool) → ℕ → ℕ → Bool → ℕ → Bool
marked test first count answer page = if is_among first count page then answer else test page

-- a test has the same answer at each of `count` pages from `first` on
abbrev pub EachPage : (ℕ → Bool) → ℕ → ℕ → Bool → Type 0
EachPage test first count answer = (page : ℕ) → first ≤ page → page < first + count → test page ≡ answer

-- how many of the pages below `count` pass a test
unfoldable pub count_below : (ℕ → Bool) → ℕ → ℕ
count_below test zero = 0
count_below test (suc count) = count_below test count + (if test count then 1 else 0)
