-- Setting and clearing one bit of a number.
use Rattle.std.proofs.Common.{◌≡◌, ◌≢◌, ℕ, zero, suc, ◌+◌, ◌*◌, ◌-◌, ◌/◌, ◌%◌, ◌^◌, ◌<◌, ◌≤◌, Bool, true, false, eqb, refl, sym, ap, ◌∙◌, arith, eq-eqb, ne_eqb, if◌then◌else◌}
use Rattle.std.proofs.lemmas.Nat.{shr-shr}
use Rattle.std.proofs.Math.Nat.{pow-suc}
use mathlib.Core.Logic.{dite}
use native.Mathlib.Decide.{ℕ_discrete}
use Rattle.shadow_frames.specs.Words.{bit}

-- a power of two, and the next
doubled : (k : ℕ) → 2 ^ suc k ≡ 2 ^ k * 2
doubled k = pow-suc 2 k

-- bit k + 1 of a number is bit k of its half
halved : (v k : ℕ) → bit v (suc k) ≡ bit (v / 2) k
halved v k =
    let e : v / 2 / 2 ^ k ≡ v / 2 ^ (1 + k) = shr-shr v 1 k in
    let s : suc k ≡ 1 + k = omega arith in
    ap (λ (z : ℕ). eqb (z % 2) 1) (ap (λ (z : ℕ). v / 2 ^ z) s ∙ sym e)

lowest : (v : ℕ) → bit v 0 ≡ eqb (v % 2) 1
lowest v = ap (λ (z : ℕ). eqb (z % 2) 1) (let e : v / 1 ≡ v = omega arith in e)

one_true : (x : ℕ) → eqb x 1 ≡ true → x ≡ 1
one_true x e = dite (ℕ_discrete x 1) (λ s. s) (λ n. let f : eqb x 1 ≡ false = ne_eqb x 1 n in absurd (cc))

one_false : (x : ℕ) → eqb x 1 ≡ false → x ≢ 1
one_false x e s = let f : eqb x 1 ≡ true = eq-eqb x 1 s in cc

next_eqb : (j k : ℕ) → eqb (suc j) (suc k) ≡ eqb j k
next_eqb j k = dite (ℕ_discrete j k)
    (λ s. eq-eqb (suc j) (suc k) (ap suc s) ∙ sym (eq-eqb j k s))
    (λ n. ne_eqb (suc j) (suc k) (λ s. n (omega arith)) ∙ sym (ne_eqb j k n))

-- a bit that is not set can be added
pub set_bit : (v k j : ℕ) → bit v k ≡ false → bit (v + 2 ^ k) j ≡ (if eqb j k then true else bit v j)
set_bit v zero zero e =
    let n : v % 2 ≢ 1 = one_false (v % 2) (sym (lowest v) ∙ e) in
    lowest (v + 1) ∙ (eq-eqb ((v + 1) % 2) 1 (omega arith) ∙ ap (λ (b : Bool). if b then true else bit v 0) (sym (eq-eqb 0 0 refl)))
set_bit v zero (suc j) e =
    let n : v % 2 ≢ 1 = one_false (v % 2) (sym (lowest v) ∙ e) in
    let same : (v + 1) / 2 ≡ v / 2 = omega arith in
    halved (v + 1) j ∙ (ap (λ (z : ℕ). bit z j) same ∙ (sym (halved v j) ∙ ap (λ (b : Bool). if b then true else bit v (suc j)) (sym (ne_eqb (suc j) 0 (λ s. omega arith)))))
set_bit v (suc k) zero e =
    let d : 2 ^ suc k ≡ 2 ^ k * 2 = doubled k in
    let same : (v + 2 ^ suc k) % 2 ≡ v % 2 = omega arith in
    lowest (v + 2 ^ suc k) ∙ (ap (λ (z : ℕ). eqb z 1) same ∙ (sym (lowest v) ∙ ap (λ (b : Bool). if b then true else bit v 0) (sym (ne_eqb 0 (suc k) (λ s. omega arith)))))
set_bit v (suc k) (suc j) e =
    let d : 2 ^ suc k ≡ 2 ^ k * 2 = doubled k in
    let half : (v + 2 ^ suc k) / 2 ≡ v / 2 + 2 ^ k = omega arith in
    halved (v + 2 ^ suc k) j ∙ (ap (λ (z : ℕ). bit z j) half ∙ (set_bit (v / 2) k j (sym (halved v k) ∙ e)
    ∙ (ap (λ (b : Bool). if b then true else bit (v / 2) j) (sym (next_eqb j k)) ∙ ap (λ (b : Bool). if eqb (suc j) (suc k) then true else b) (sym (halved v j)))))

-- a number with a bit is no smaller than the bit
pub bit_below : (v k : ℕ) → bit v k ≡ true → 2 ^ k ≤ v
bit_below v zero e = let n : v % 2 ≡ 1 = one_true (v % 2) (sym (lowest v) ∙ e) in omega arith
bit_below v (suc k) e =
    let d : 2 ^ suc k ≡ 2 ^ k * 2 = doubled k in
    let l : 2 ^ k ≤ v / 2 = bit_below (v / 2) k (sym (halved v k) ∙ e) in
    omega arith

-- a bit that is set can be taken away
pub clear_bit : (v k j : ℕ) → bit v k ≡ true → bit (v - 2 ^ k) j ≡ (if eqb j k then false else bit v j)
clear_bit v zero zero e =
    let n : v % 2 ≡ 1 = one_true (v % 2) (sym (lowest v) ∙ e) in
    lowest (v - 1) ∙ (ne_eqb ((v - 1) % 2) 1 (λ s. omega arith) ∙ ap (λ (b : Bool). if b then false else bit v 0) (sym (eq-eqb 0 0 refl)))
clear_bit v zero (suc j) e =
    let n : v % 2 ≡ 1 = one_true (v % 2) (sym (lowest v) ∙ e) in
    let same : (v - 1) / 2 ≡ v / 2 = omega arith in
    halved (v - 1) j ∙ (ap (λ (z : ℕ). bit z j) same ∙ (sym (halved v j) ∙ ap (λ (b : Bool). if b then false else bit v (suc j)) (sym (ne_eqb (suc j) 0 (λ s. omega arith)))))
clear_bit v (suc k) zero e =
    let d : 2 ^ suc k ≡ 2 ^ k * 2 = doubled k in
    let l : 2 ^ suc k ≤ v = bit_below v (suc k) e in
    let same : (v - 2 ^ suc k) % 2 ≡ v % 2 = omega arith in
    lowest (v - 2 ^ suc k) ∙ (ap (λ (z : ℕ). eqb z 1) same ∙ (sym (lowest v) ∙ ap (λ (b : Bool). if b then false else bit v 0) (sym (ne_eqb 0 (suc k) (λ s. omega arith)))))
clear_bit v (suc k) (suc j) e =
    let d : 2 ^ suc k ≡ 2 ^ k * 2 = doubled k in
    let half : (v - 2 ^ suc k) / 2 ≡ v / 2 - 2 ^ k = omega arith in
    halved (v - 2 ^ suc k) j ∙ (ap (λ (z : ℕ). bit z j) half ∙ (clear_bit (v / 2) k j (sym (halved v k) ∙ e)
    ∙ (ap (λ (b : Bool). if b then false else bit (v / 2) j) (sym (next_eqb j k)) ∙ ap (λ (b : Bool). if eqb (suc j) (suc k) then false else b) (sym (halved v j)))))

-- with one more bit a number of n bits is one of n bits
pub set_fits : (v k n : ℕ) → v < 2 ^ n → k < n → bit v k ≡ false → v + 2 ^ k < 2 ^ n
set_fits v k zero less l e = absurd (omega arith)
set_fits v zero (suc n) less l e =
    let m : v % 2 ≢ 1 = one_false (v % 2) (sym (lowest v) ∙ e) in
    let d : 2 ^ suc n ≡ 2 ^ n * 2 = doubled n in
    omega arith
set_fits v (suc k) (suc n) less l e =
    let d : 2 ^ suc k ≡ 2 ^ k * 2 = doubled k in
    let f : 2 ^ suc n ≡ 2 ^ n * 2 = doubled n in
    let h : v / 2 + 2 ^ k < 2 ^ n = set_fits (v / 2) k n (omega arith) (omega arith) (sym (halved v k) ∙ e) in
    omega arith
