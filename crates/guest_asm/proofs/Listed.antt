-- Eight hex digits are zeros and the digits of the number.
use Rattle.std.proofs.Common.{◌≡◌, ℕ, ◌-◌, List, [], ◌++◌, length, replicate, ap, ◌∙◌, arith}
use Rattle.std.specs.Fmt.{padded_integral, char_count}
use Rattle.std.proofs.lemmas.List.{append-nil}
use Rattle.guest_asm.specs.Listing.{hex, eight_digits, zeros_and_digits}

pub eight : (n : ℕ) → eight_digits n ≡ zeros_and_digits n
unfolding padded_integral char_count
eight n =
    let short : 8 - length (hex n) - 0 - 0 ≡ 8 - length (hex n) = omega arith in
    ap (λ (k : ℕ). replicate k 48 ++ (hex n ++ [])) short ∙ ap (λ (more : List ℕ). replicate (8 - length (hex n)) 48 ++ more) (append-nil (hex n))
