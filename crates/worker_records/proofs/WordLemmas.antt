-- What a word tells of the bytes of an access, and what a store makes of it.
use Rattle.std.proofs.Common.{◌≡◌, ℕ, zero, suc, ◌+◌, ◌-◌, ◌*◌, ◌/◌, ◌%◌, ◌^◌, ◌<◌, ◌≤◌, ◌⊎◌, inl, inr, Bool, true, false, Some, None, find, sym, ap, ◌∙◌, arith, pow-suc, if◌then◌else◌}
use mathlib.Core.Logic.{dite}
use native.Mathlib.Decide.{dec_le}
use Rattle.lifeguard.specs.Rules.{Rules}
use Rattle.lifeguard.specs.Plain.{mask_bit}
use Rattle.lifeguard.specs.State.{is_in, span}
use Rattle.lifeguard.proofs.CellLemmas.{find_here, find_next, find_none}
use Rattle.pl_base.specs.declared.widths.StoreWidth.{StoreWidth}
use Rattle.pl_base.specs.Widths.{store_bytes}
use Rattle.shadow_frames.specs.Words.{nibble_of}
use Rattle.shadow_layout.specs.Operations.{changed_word, in_block, remade}
use Rattle.shadow_layout.proofs.NibbleLemmas.{changed_nibble}
use Rattle.worker_laws.specs.Reads.{stored_word}

-- ---- the first byte that passes a test

abbrev pub from_here : (ℕ → Bool) → ℕ → ℕ → ℕ → Type 0
from_here p addr len i = find p (span (addr + i) (addr + len - (addr + i))) ≡ find p (span addr len)

pub none_yet : (p : ℕ → Bool) (addr len : ℕ) → from_here p addr len 0
none_yet p addr len =
    let a : addr + 0 ≡ addr = omega arith in
    let b : addr + len - addr ≡ len = omega arith in
    ap (λ (z : ℕ). find p (span z (addr + len - z))) a ∙ ap (λ (z : ℕ). find p (span addr z)) b

pub next_passed : (p : ℕ → Bool) (addr len i : ℕ) → i < len → p (addr + i) ≡ false → from_here p addr len i → from_here p addr len (i + 1)
next_passed p addr len i lt off here =
    let a : addr + (i + 1) ≡ addr + i + 1 = omega arith in
    ap (λ (z : ℕ). find p (span z (addr + len - z))) a ∙ (sym (find_next p (addr + i) (addr + len) (omega arith) off) ∙ here)

pub here_first : (p : ℕ → Bool) (addr len i : ℕ) → i < len → p (addr + i) ≡ true → from_here p addr len i → Some (addr + i) ≡ find p (span addr len)
here_first p addr len i lt on here = sym (find_here p (addr + i) (addr + len) (omega arith) on) ∙ here

pub none_at_all : (p : ℕ → Bool) (addr len i : ℕ) → len ≤ i → from_here p addr len i → None ≡ find p (span addr len)
none_at_all p addr len i le here = sym (find_none p (addr + i) (addr + len) (omega arith)) ∙ here

-- ---- words with the same nibbles

pub nibble_small : (x i : ℕ) → nibble_of x i < 16
nibble_small x zero = omega arith
nibble_small x (suc i) = nibble_small (x / 16) i

same_nibbles : (n x y : ℕ) → x < 16 ^ n → y < 16 ^ n → ((i : ℕ) → i < n → nibble_of x i ≡ nibble_of y i) → x ≡ y
same_nibbles zero x y a b same = omega arith
same_nibbles (suc n) x y a b same =
    let e : 16 ^ suc n ≡ 16 ^ n * 16 = pow-suc 16 n in
    let low : x % 16 ≡ y % 16 = same 0 (omega arith) in
    let high : x / 16 ≡ y / 16 = same_nibbles n (x / 16) (y / 16) (omega arith) (omega arith) (λ i lt. same (suc i) (omega arith)) in
    omega arith

remade_below : (g : ℕ → ℕ → ℕ) (i n x : ℕ) → remade g i n x < 16 ^ n
remade_below g i zero x = omega arith
remade_below g i (suc n) x =
    let l : remade g (suc i) n (x / 16) < 16 ^ n = remade_below g (suc i) n (x / 16) in
    let e : 16 ^ suc n ≡ 16 ^ n * 16 = pow-suc 16 n in
    let m : g i (x % 16) % 16 < 16 = omega arith in
    omega arith

changed_below : (f : ℕ → ℕ → ℕ) (addr len block x : ℕ) → changed_word f addr len block x < 2 ^ 64
unfolding changed_word
changed_below f addr len block x = remade_below (in_block f addr len block) 0 16 x

pub changed_is : (f : ℕ → ℕ → ℕ) (addr len block x y : ℕ) → y < 2 ^ 64 → ((k : ℕ) → k < 16 → nibble_of y k ≡ in_block f addr len block k (nibble_of x k)) → y ≡ changed_word f addr len block x
changed_is f addr len block x y wide each = same_nibbles 16 y (changed_word f addr len block x) wide (changed_below f addr len block x) (λ k lt.
    let l : nibble_of y k < 16 = nibble_small y k in
    let m : nibble_of y k % 16 ≡ nibble_of y k = omega arith in
    sym m ∙ (ap (λ (z : ℕ). z % 16) (each k lt) ∙ sym (changed_nibble f addr len block x k lt)))

-- ---- the nibbles of a store

inside : (addr len j : ℕ) → j < len → is_in addr len (addr + j) ≡ true
inside addr len j lt = grind arith

outside_low : (addr len a : ℕ) → a < addr → is_in addr len a ≡ false
outside_low addr len a lt = grind arith

outside_high : (addr len a : ℕ) → addr + len ≤ a → is_in addr len a ≡ false
outside_high addr len a le = grind arith

chosen : (f : ℕ → ℕ) (old : ℕ) (b d : Bool) → b ≡ d → (if b then f old else old) ≡ (if d then f old else old)
chosen f old b d e = ap (λ (z : Bool). if z then f old else old) e

within : (f : ℕ → ℕ → ℕ) (addr len j old : ℕ) → j < len → addr % 16 + len ≤ 16 → in_block f addr len (addr / 16) (addr % 16 + j) old ≡ f j old
within f addr len j old lt fits =
    let at : 16 * (addr / 16) + (addr % 16 + j) ≡ addr + j = omega arith in
    let d : addr + j - addr ≡ j = omega arith in
    ap (λ (z : ℕ). if is_in addr len z then f (z - addr) old else old) at
    ∙ (chosen (f (addr + j - addr)) old (is_in addr len (addr + j)) true (inside addr len j lt) ∙ ap (λ (z : ℕ). f z old) d)

beside : (f : ℕ → ℕ → ℕ) (addr len k old : ℕ) → (k < addr % 16) ⊎ (addr % 16 + len ≤ k) → in_block f addr len (addr / 16) k old ≡ old
beside f addr len k old (inl lt) = chosen (f (16 * (addr / 16) + k - addr)) old (is_in addr len (16 * (addr / 16) + k)) false (outside_low addr len (16 * (addr / 16) + k) (omega arith))
beside f addr len k old (inr le) = chosen (f (16 * (addr / 16) + k - addr)) old (is_in addr len (16 * (addr / 16) + k)) false (outside_high addr len (16 * (addr / 16) + k) (omega arith))

-- a word whose nibbles of a range in its block are changed, and no others
pub changed_by : (f : ℕ → ℕ → ℕ) (addr len x y : ℕ) → addr % 16 + len ≤ 16 → y < 2 ^ 64
    → ((k : ℕ) → k < len → nibble_of y (addr % 16 + k) ≡ f k (nibble_of x (addr % 16 + k)))
    → ((k : ℕ) → k < 16 → (k < addr % 16) ⊎ (addr % 16 + len ≤ k) → nibble_of y k ≡ nibble_of x k)
    → y ≡ changed_word f addr len (addr / 16) x
changed_by f addr len x y fits wide done rest = changed_is f addr len (addr / 16) x y wide (λ k lt. by k lt)
  where
    by : (k : ℕ) → k < 16 → nibble_of y k ≡ in_block f addr len (addr / 16) k (nibble_of x k)
    by k lt = dite (dec_le (addr % 16) k)
        (λ le. dite (dec_le (addr % 16 + len) k)
        (λ past. rest k lt (inr past) ∙ sym (beside f addr len k (nibble_of x k) (inr past)))
        (λ n. let u : addr % 16 + len ≤ k → ⊥ = n in
        let e : addr % 16 + (k - addr % 16) ≡ k = omega arith in
        let j : k - addr % 16 < len = omega arith in
        ap (nibble_of y) (sym e) ∙ (done (k - addr % 16) j ∙ (sym (within f addr len (k - addr % 16) (nibble_of x (addr % 16 + (k - addr % 16))) j fits)
        ∙ ap (λ (z : ℕ). in_block f addr len (addr / 16) z (nibble_of x z)) e))))
        (λ n. let u : addr % 16 ≤ k → ⊥ = n in rest k lt (inl (omega arith)) ∙ sym (beside f addr len k (nibble_of x k) (inl (omega arith))))

pub stored_is : (rules : Rules) (mask : ℕ) (width : StoreWidth) (addr x y : ℕ) → addr % 4 + store_bytes width ≤ 4 → y < 2 ^ 64
    → ((k : ℕ) → k < store_bytes width → nibble_of y (addr % 16 + k) ≡ rules.store_nibble (nibble_of x (addr % 16 + k)) (mask_bit mask k))
    → ((k : ℕ) → k < 16 → (k < addr % 16) ⊎ (addr % 16 + store_bytes width ≤ k) → nibble_of y k ≡ nibble_of x k)
    → y ≡ stored_word rules mask width addr x
stored_is rules mask width addr x y fits wide done rest =
    changed_by (λ i old. rules.store_nibble old (mask_bit mask i)) addr (store_bytes width) x y (omega arith) wide done rest
