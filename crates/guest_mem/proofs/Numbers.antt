-- Numbers of bytes, and lists of them written or read piece by piece.
use Rattle.std.proofs.Common.{◌≡◌, ℕ, zero, suc, ◌+◌, ◌-◌, ◌<◌, ◌≤◌, inl, inr, List, [], ◌∷◌, ◌++◌, length, get_or, take, drop, Option, Some, refl, arith, sym, ap, ◌∙◌}
use borrow.Rule.Slice.PartMut.{put_mid}
use Rattle.std.proofs.lemmas.Bool.{cases_lt}
use Rattle.std.proofs.lemmas.List.{length-take-le, take_all, places}
use Rattle.guest_mem.specs.Bytes.{IsWidth, number_from, written}
use Rattle.guest_mem.proofs.Pages.{written-written}

-- a number depends on its bytes alone
pub number_same : (f g : ℕ → ℕ) (i j count : ℕ) → ((k : ℕ) → k < count → f (i + k) ≡ g (j + k)) → number_from f i count ≡ number_from g j count
number_same f g i j zero same = refl
number_same f g i j (suc count) same =
    let first : f i ≡ g j = ap f (omega arith) ∙ same 0 (omega arith) ∙ ap g (omega arith) in
    let rest : number_from f (i + 1) count ≡ number_from g (j + 1) count =
    number_same f g (i + 1) (j + 1) count (λ k before. ap f (omega arith) ∙ same (k + 1) (omega arith) ∙ ap g (omega arith)) in
    rw (first, rest) refl

-- a list up to a place, and what follows up to another
pub take_pieces : (xs : List ℕ) (i j : ℕ) → i ≤ j → take i xs ++ take (j - i) (drop i xs) ≡ take j xs
take_pieces xs zero j below = ap (λ n. take n xs) (omega arith)
take_pieces [] (suc i) j below = take_all (j - suc i) [] (omega arith) ∙ sym (take_all j [] (omega arith))
take_pieces (x ∷ xs) (suc i) zero below = absurd (omega arith)
take_pieces (x ∷ xs) (suc i) (suc j) below = ap (λ ys. x ∷ ys) (ap (λ n. take i xs ++ take n (drop i xs)) (omega arith) ∙ take_pieces xs i j (omega arith))

-- one more piece is written
pub put_more : (start before now : ℕ → Option ℕ) (at done end : ℕ) (from : List ℕ) → done ≤ end → end ≤ length from →
    before ≡ written start at (take done from) → now ≡ written before (at + done) (take (end - done) (drop done from)) → now ≡ written start at (take end from)
put_more start before now at done end from below within was is =
    let long : length (take done from) ≡ done = length-take-le done from (omega arith) in
    is ∙ ap (λ f. written f (at + done) (take (end - done) (drop done from))) was
    ∙ ap (λ n. written (written start at (take done from)) (at + n) (take (end - done) (drop done from))) (sym long)
    ∙ written-written start at (take done from) (take (end - done) (drop done from))
    ∙ ap (written start at) (take_pieces from done end below)

-- one more piece is read
pub read_more : (f : ℕ → Option ℕ) (at done end : ℕ) (into piece : List ℕ) → done ≤ end → end ≤ length into → length piece ≡ end - done →
    ((k : ℕ) → k < done → f (at + k) ≡ Some (get_or into k 0)) → ((k : ℕ) → k < length piece → f (at + done + k) ≡ Some (get_or piece k 0)) →
    (k : ℕ) → k < end → f (at + k) ≡ Some (get_or (put_mid done (end - done) into piece) k 0)
read_more f at done end into piece below within long was is k before =
    elim (cases_lt k done) [
      | inl early ↦ was k early ∙ ap Some (search (arith, places))
      | inr late ↦ ap f (omega arith) ∙ is (k - done) (omega arith) ∙ ap Some (search (arith, places))
    ]

pub some_width : (width : ℕ) → IsWidth width → 0 < width
some_width width (inl one) = omega arith
some_width width (inr (inl two)) = omega arith
some_width width (inr (inr four)) = omega arith

pub at_most_four : (width : ℕ) → IsWidth width → width ≤ 4
at_most_four width (inl one) = omega arith
at_most_four width (inr (inl two)) = omega arith
at_most_four width (inr (inr four)) = omega arith

pub length-put_mid : (done end : ℕ) (into piece : List ℕ) → done ≤ end → end ≤ length into → length piece ≡ end - done → length (put_mid done (end - done) into piece) ≡ length into
length-put_mid done end into piece below within long = search (arith, places)
