-- Words made of sixteen nibbles.
use Rattle.std.proofs.Common.{◌≡◌, ℕ, zero, suc, ◌+◌, ◌*◌, ◌/◌, ◌%◌, ◌<◌, ap, ◌∙◌, arith}
use Rattle.shadow_frames.specs.Words.{nibble_of}
use Rattle.shadow_layout.specs.Operations.{remade, in_block, changed_word}

split : (g r : ℕ) → g < 16 → ((g + 16 * r) % 16 ≡ g) × ((g + 16 * r) / 16 ≡ r)
split g r small = (omega arith, omega arith)

remade_here : (g : ℕ → ℕ → ℕ) (i n x : ℕ) → (remade g i (suc n) x % 16 ≡ g i (x % 16) % 16) × (remade g i (suc n) x / 16 ≡ remade g (suc i) n (x / 16))
remade_here g i n x = split (g i (x % 16) % 16) (remade g (suc i) n (x / 16)) (omega arith)

remade_nibble : (g : ℕ → ℕ → ℕ) (i n x k : ℕ) → k < n → nibble_of (remade g i n x) k ≡ g (i + k) (nibble_of x k) % 16
remade_nibble g i zero x k lt = absurd (omega arith)
remade_nibble g i (suc n) x zero lt = (remade_here g i n x).0 ∙ (let e : i ≡ i + 0 = omega arith in ap (λ (z : ℕ). g z (x % 16) % 16) e)
remade_nibble g i (suc n) x (suc k) lt =
    let e : suc i + k ≡ i + suc k = omega arith in
    ap (λ (z : ℕ). nibble_of z k) (remade_here g i n x).1
    ∙ (remade_nibble g (suc i) n (x / 16) k (omega arith)
    ∙ ap (λ (z : ℕ). g z (nibble_of (x / 16) k) % 16) e)

pub changed_nibble : (f : ℕ → ℕ → ℕ) (addr len block x k : ℕ) → k < 16 → nibble_of (changed_word f addr len block x) k ≡ in_block f addr len block k (nibble_of x k) % 16
unfolding changed_word
changed_nibble f addr len block x k lt =
    remade_nibble (in_block f addr len block) 0 16 x k lt
    ∙ (let e : 0 + k ≡ k = omega arith in ap (λ (z : ℕ). in_block f addr len block z (nibble_of x k) % 16) e)
