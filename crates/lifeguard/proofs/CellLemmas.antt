-- Cells stand for bytes.
use Rattle.std.proofs.Common.{◌≡◌, ◌≢◌, ℕ, suc, ◌+◌, ◌-◌, ◌<◌, ◌≤◌, Bool, true, false, cond, List, length, get_or, Option, Some, None, inl, inr, refl, sym, ap, ◌∙◌, arith, add-one}
use Rattle.std.specs.Prelude.{option_map, find, replicate}
use Rattle.std.proofs.lemmas.Bool.{cases_lt, cases_eq, lt-ltb, le-ltb, le-leb, lt-leb}
use Rattle.std.proofs.Math.ListN.{set}
use Rattle.std.proofs.lemmas.List.{get_or-set_same, get_or-set_other, get_or_default, get_or-replicate, get_or_past, length-replicate}
use mathlib.Core.Path.{fun_ext}
use Rattle.lifeguard.specs.State.{Bytes, nibble_at, is_in, changed, replaced, span, nothing}
use Rattle.lifeguard.specs.Shadow.{bytes_of, cell_value}

-- ---- a range that is written byte by byte

-- each byte of a range has what g makes of its place in the range and of what it had
abbrev pub written : (ℕ → Option ℕ → Option ℕ) → ℕ → ℕ → Bytes → Bytes
written g addr len bytes a = cond (is_in addr len a) (g (a - addr) (bytes a)) (bytes a)

is_in_none : (addr a : ℕ) → is_in addr 0 a ≡ false
is_in_none addr a =
    elim (cases_lt a addr) [
      | inl lt ↦ rw (lt-leb addr a lt) refl
      | inr le ↦ rw (le-leb addr a le, le-ltb a (addr + 0) (omega arith)) refl
    ]

is_in_last : (addr i at : ℕ) → at ≡ addr + i → is_in addr (i + 1) at ≡ true
is_in_last addr i at e = rw (le-leb addr at (omega arith), lt-ltb at (addr + (i + 1)) (omega arith)) refl

is_in_past : (addr i at : ℕ) → at ≡ addr + i → is_in addr i at ≡ false
is_in_past addr i at e = rw (le-leb addr at (omega arith), le-ltb at (addr + i) (omega arith)) refl

is_in_other : (addr i a : ℕ) → a ≢ addr + i → is_in addr (i + 1) a ≡ is_in addr i a
is_in_other addr i a ne =
    elim (cases_lt a addr) [
      | inl lt ↦ rw (lt-leb addr a lt) refl
      | inr high ↦ elim (cases_lt a (addr + i)) [
        | inl lt ↦ rw (le-leb addr a high, lt-ltb a (addr + (i + 1)) (omega arith), lt-ltb a (addr + i) lt) refl
        | inr past ↦ rw (le-leb addr a high, le-ltb a (addr + (i + 1)) (omega arith), le-ltb a (addr + i) past) refl
      ]
    ]

-- no byte is written yet
pub written_none : (g : ℕ → Option ℕ → Option ℕ) (addr len : ℕ) (bytes : Bytes) → len ≡ 0 → written g addr len bytes ≡ bytes
written_none g addr len bytes none = fun_ext (λ a. rw (none, is_in_none addr a) refl)

-- one more byte is written
pub written_next : (cells : List ℕ) (g : ℕ → Option ℕ → Option ℕ) (addr i j at value : ℕ) (old : Bytes) → at ≡ addr + i → j ≡ i + 1 → at < length cells
    → bytes_of cells ≡ written g addr i old → cell_value value ≡ g i (cell_value (get_or cells at 0))
    → bytes_of (set cells at value) ≡ written g addr j old
unfolding bytes_of
written_next cells g addr i j at value old place more lt before is = rw more (fun_ext (λ a.
    elim (cases_eq a at) [
      | inl e ↦
          let was : cell_value (get_or cells at 0) ≡ old at =
          ap cell_value (get_or_default cells at 0 8 lt) ∙ ap (λ (f : Bytes). f at) before ∙ rw (is_in_past addr i at place) refl in
          let here : at - addr ≡ i = omega arith in
          rw (e, get_or-set_same cells at value 8 lt, is_in_last addr i at place, here) (is ∙ ap (g i) was)
      | inr ne ↦ rw (get_or-set_other cells at a value 8 ne, is_in_other addr i a (λ e. ne (e ∙ sym place))) (ap (λ (f : Bytes). f a) before)
    ]))

pub changed-written : (f : ℕ → ℕ → ℕ) (addr len : ℕ) (bytes : Bytes) → changed f addr len bytes ≡ written (λ i. option_map (f i)) addr len bytes
unfolding changed
changed-written f addr len bytes = refl

pub replaced-written : (value : Option ℕ) (addr len : ℕ) (bytes : Bytes) → replaced value addr len bytes ≡ written (λ i old. value) addr len bytes
unfolding replaced
replaced-written value addr len bytes = refl

-- ---- the first bad byte

pub find_here : (p : ℕ → Bool) (a end : ℕ) → a < end → p a ≡ true → find p (span a (end - a)) ≡ Some a
find_here p a end lt is =
    let k : end - a ≡ suc (end - (a + 1)) = omega arith in
    rw (k, is) refl

pub find_next : (p : ℕ → Bool) (a end : ℕ) → a < end → p a ≡ false → find p (span a (end - a)) ≡ find p (span (a + 1) (end - (a + 1)))
find_next p a end lt is =
    let k : end - a ≡ suc (end - (a + 1)) = omega arith in
    rw (k, is, add-one) refl

pub find_none : (p : ℕ → Bool) (a end : ℕ) → end ≤ a → find p (span a (end - a)) ≡ None
find_none p a end le =
    let k : end - a ≡ 0 = omega arith in
    rw k refl

-- ---- reading

-- a cell of the list stands for its byte
pub bytes_of-at : (cells : List ℕ) (a : ℕ) → a < length cells → bytes_of cells a ≡ cell_value (get_or cells a 0)
unfolding bytes_of
bytes_of-at cells a lt = ap cell_value (get_or_default cells a 8 0 lt)

-- a place past the end stands for nothing
pub bytes_of_past : (cells : List ℕ) (a : ℕ) → length cells ≤ a → bytes_of cells a ≡ None
unfolding bytes_of
bytes_of_past cells a le = rw (get_or_past cells a 8 le) refl

-- a mapped byte reads as its cell
pub nibble_at_mapped : (cells : List ℕ) (a : ℕ) → a < length cells → get_or cells a 0 < 8 → nibble_at (bytes_of cells) a ≡ get_or cells a 0
nibble_at_mapped cells a lt low = rw (bytes_of-at cells a lt, lt-ltb (get_or cells a 0) 8 low) refl

-- a byte of no mapped page reads as 0
pub nibble_at_unmapped : (cells : List ℕ) (a : ℕ) → a < length cells → 8 ≤ get_or cells a 0 → nibble_at (bytes_of cells) a ≡ 0
nibble_at_unmapped cells a lt high = rw (bytes_of-at cells a lt, le-ltb (get_or cells a 0) 8 high) refl

-- bytes with one cell read alike
pub nibble_at_same : (cells : List ℕ) (a b : ℕ) → a < length cells → b < length cells → get_or cells a 0 ≡ get_or cells b 0 → nibble_at (bytes_of cells) a ≡ nibble_at (bytes_of cells) b
nibble_at_same cells a b first second same = rw (bytes_of-at cells a first, bytes_of-at cells b second, same) refl

-- ---- the start

abbrev pub empty_cells : ℕ → List ℕ
empty_cells size = replicate size 8

filled : (size a : ℕ) → get_or (empty_cells size) a 8 ≡ 8
filled size a = elim (cases_lt a size) [
  | inl lt ↦ get_or-replicate size a 8 8 lt
  | inr le ↦ get_or_past (replicate size 8) a 8 (omega (arith, length-replicate {A = ℕ}))
]

-- cells that all hold 8 map no byte
pub bytes_of-filled : (size : ℕ) → bytes_of (empty_cells size) ≡ nothing
unfolding bytes_of
bytes_of-filled size = fun_ext (λ a. rw (filled size a) refl)
