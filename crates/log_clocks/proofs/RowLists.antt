-- The rows of a table of last accesses, when one is made or written.
use Rattle.std.proofs.Common.{◌≡◌, ◌≢◌, ℕ, zero, suc, ◌+◌, ◌<◌, ◌≤◌, Bool, true, false, List, [], ◌∷◌, ◌++◌, length, slice_index, slice_index_or, set, replicate, get_or, get_or-set_same, get_or-set_other, length-set, length-append, refl, sym, ap, ◌∙◌, subst, arith}
use Rattle.std.proofs.lemmas.List.{get_or_append_left}
use lib.Seq.{get_or-append_seam}
use mathlib.Core.Logic.{dite}
use native.Mathlib.Decide.{ℕ_discrete}
use Rattle.pl_event.proofs.Before.{eight}
use Rattle.log_clocks.specs.declared.lasts.Row.{Row}
use Rattle.log_clocks.specs.inner.Rows.{zero_row, in_row, row_at, IsIndexed}

pub in_zero_row : (store : Bool) (u : ℕ) → in_row zero_row store u ≡ 0
in_zero_row true u = eight 0 u
in_zero_row false u = eight 0 u

abbrev pub zeros : ℕ → List ℕ
zeros n = replicate n 0

pub zeros_at : (n b : ℕ) → get_or (zeros n) b 0 ≡ 0
zeros_at zero b = refl
zeros_at (suc n) zero = refl
zeros_at (suc n) (suc b) = zeros_at n b

-- no block has occurred
module _ (index : List ℕ) (rows : List Row) (zeros : (b : ℕ) → slice_index index b ≡ 0) (only : rows ≡ zero_row ∷ []) where
  pub empty_indexed : IsIndexed index rows
  empty_indexed = record {
    first = ap (λ (z : List Row). slice_index_or z 0 zero_row) only;
    within = λ b. (let z : slice_index index b ≡ 0 = zeros b in let l : length rows ≡ 1 = ap (λ (z : List Row). length z) only in omega arith);
    apart = λ b c ne e. zeros b;
  }

  pub empty_row : (b : ℕ) → row_at index rows b ≡ zero_row
  empty_row b = ap (λ (z : ℕ). slice_index_or rows z zero_row) (zeros b) ∙ ap (λ (z : List Row). slice_index_or z 0 zero_row) only

-- a row is made for a block that has none of its own
module _ (index : List ℕ) (rows : List Row) (has : IsIndexed index rows) (block : ℕ) (low : block < length index) (free : slice_index index block ≡ 0) (count : ℕ) (is : count ≡ length rows) where
  abbrev index' : List ℕ
  index' = set index block count

  abbrev rows' : List Row
  rows' = rows ++ zero_row ∷ []

  here : slice_index index' block ≡ count
  here = get_or-set_same index block count 0 low

  other : (b : ℕ) → b ≢ block → slice_index index' b ≡ slice_index index b
  other b ne = get_or-set_other index block b count 0 ne

  long : length rows' ≡ length rows + 1
  long = length-append rows (zero_row ∷ [])

  some : 0 < length rows
  some = let l : slice_index index 0 < length rows = has.within 0 in omega arith

  made_within : (b : ℕ) → slice_index index' b < length rows'
  made_within b = dite (ℕ_discrete b block)
      (λ e. let h : slice_index index' block ≡ count = here in let l : length rows' ≡ length rows + 1 = long in subst (λ (z : ℕ). slice_index index' z < length rows') (sym e) (omega arith))
      (λ ne. let o : slice_index index' b ≡ slice_index index b = other b ne in let w : slice_index index b < length rows = has.within b in let l : length rows' ≡ length rows + 1 = long in omega arith)

  made_apart : (b c : ℕ) → b ≢ c → slice_index index' b ≡ slice_index index' c → slice_index index' b ≡ 0
  made_apart b c ne e = dite (ℕ_discrete b block)
      (λ eb. let nc : c ≢ block = λ ec. ne (eb ∙ sym ec) in
      let h : slice_index index' b ≡ count = ap (λ (z : ℕ). slice_index index' z) eb ∙ here in
      let o : slice_index index' c ≡ slice_index index c = other c nc in
      let w : slice_index index c < length rows = has.within c in
      absurd (omega arith))
      (λ nb. let ob : slice_index index' b ≡ slice_index index b = other b nb in
      let w : slice_index index b < length rows = has.within b in
      dite (ℕ_discrete c block)
      (λ ec. let h : slice_index index' c ≡ count = ap (λ (z : ℕ). slice_index index' z) ec ∙ here in absurd (omega arith))
      (λ nc. let oc : slice_index index' c ≡ slice_index index c = other c nc in
      let z : slice_index index b ≡ 0 = has.apart b c ne (omega arith) in
      omega arith))

  pub made_indexed : IsIndexed index' rows'
  made_indexed = record {
    first = get_or_append_left rows (zero_row ∷ []) zero_row 0 some ∙ has.first;
    within = made_within;
    apart = made_apart;
  }

  pub made_rows : (b : ℕ) → row_at index' rows' b ≡ row_at index rows b
  made_rows b = dite (ℕ_discrete b block)
      (λ e. subst (λ (z : ℕ). row_at index' rows' z ≡ row_at index rows z) (sym e)
      (ap (λ (z : ℕ). slice_index_or rows' z zero_row) (here ∙ is) ∙ (get_or-append_seam rows zero_row [] zero_row ∙ (sym has.first ∙ ap (λ (z : ℕ). slice_index_or rows z zero_row) (sym free)))))
      (λ ne. ap (λ (z : ℕ). slice_index_or rows' z zero_row) (other b ne) ∙ get_or_append_left rows (zero_row ∷ []) zero_row (slice_index index b) (has.within b))

  pub made_some : 1 ≤ count
  made_some = let l : 0 < length rows = some in omega arith

-- a block's own row is written
module _ (index : List ℕ) (rows : List Row) (has : IsIndexed index rows) (block slot : ℕ) (at : slice_index index block ≡ slot) (some : 1 ≤ slot) (low : slot < length rows) (row : Row) where
  pub written_indexed : IsIndexed index (set rows slot row)
  written_indexed = record {
    first = get_or-set_other rows slot 0 row zero_row (λ e. absurd (omega arith)) ∙ has.first;
    within = λ b. (let l : length (set rows slot row) ≡ length rows = length-set rows slot row in let w : slice_index index b < length rows = has.within b in omega arith);
    apart = has.apart;
  }

  pub written_here : row_at index (set rows slot row) block ≡ row
  written_here = ap (λ (z : ℕ). slice_index_or (set rows slot row) z zero_row) at ∙ get_or-set_same rows slot row zero_row low

  pub written_other : (b : ℕ) → b ≢ block → row_at index (set rows slot row) b ≡ row_at index rows b
  written_other b ne = get_or-set_other rows slot (slice_index index b) row zero_row
      (λ e. let z : slice_index index b ≡ 0 = has.apart b block ne (e ∙ sym at) in absurd (omega arith))
