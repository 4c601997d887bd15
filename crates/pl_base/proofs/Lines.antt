-- Lists that end a line, and pieces of a buffer that follow one another.
use Rattle.std.proofs.Common.{◌≡◌, ℕ, suc, zero, ◌+◌, ◌-◌, ◌≤◌, ◌<◌, List, [], ◌∷◌, ◌++◌, length, take, drop, get_or, refl, sym, ap, subst, ◌∙◌, eq-eqb, add-one, arith, true}
use Rattle.std.specs.List.{slice_range}
use Rattle.std.proofs.Math.Seq.{take-add}
use Rattle.std.proofs.lemmas.List.Elements.{All-append}
use Rattle.std.proofs.lemmas.List.{get_or-drop, get_or_default, drop-drop, drop-take, length-take, length-drop, take-take, length-take-le, take-append-le, drop_at}
use Rattle.std.proofs.lemmas.Slice.{between_is}
use Rattle.pl_base.specs.Held.{HasNoLineFeed}
use Rattle.pl_base.specs.LineBuffer.{ends_line}

-- what is after some bytes of a list that ends a line ends a line
pub ends_line-drop : (n : ℕ) (xs : List ℕ) → ends_line xs ≡ true → ends_line (drop n xs) ≡ true
ends_line-drop zero xs h = h
ends_line-drop (suc n) [] h = refl
ends_line-drop (suc zero) (x ∷ []) h = refl
ends_line-drop (suc (suc n)) (x ∷ []) h = refl
ends_line-drop (suc n) (x ∷ y ∷ ys) h = ends_line-drop n (y ∷ ys) h

-- bytes that end a line do so after any others
pub ends_line-append : (xs ys : List ℕ) → 0 < length ys → ends_line ys ≡ true → ends_line (xs ++ ys) ≡ true
ends_line-append [] ys some h = h
ends_line-append (x ∷ xs) [] some h = absurd (omega (arith, some))
ends_line-append (x ∷ []) (y ∷ ys) some h = h
ends_line-append (x ∷ w ∷ xs) (y ∷ ys) some h = ends_line-append (w ∷ xs) (y ∷ ys) some h

ends_line-take-suc : (xs : List ℕ) (i : ℕ) → get_or xs i 0 ≡ 10 → ends_line (take (suc i) xs) ≡ true
ends_line-take-suc [] i e = refl
ends_line-take-suc (x ∷ xs) zero e = eq-eqb x 10 e
ends_line-take-suc (x ∷ []) (suc i) e = absurd (omega (arith, e))
ends_line-take-suc (x ∷ y ∷ ys) (suc i) e = ends_line-take-suc (y ∷ ys) i e

-- the bytes up to a line feed end a line
pub ends_line-take : (xs : List ℕ) (i : ℕ) → get_or xs i 0 ≡ 10 → ends_line (take (i + 1) xs) ≡ true
ends_line-take xs i e = rw add-one (ends_line-take-suc xs i e)

-- a piece and the one after it are one
pub slice_range-join : (xs : List ℕ) (a b c : ℕ) → a ≤ b → b ≤ c → slice_range xs a b ++ slice_range xs b c ≡ slice_range xs a c
slice_range-join xs a b c below above =
    let at : a + (b - a) ≡ b = omega arith in
    let all : c - a ≡ (b - a) + (c - b) = omega arith in
    let rest : drop (b - a) (drop a xs) ≡ drop b xs = drop-drop (b - a) a xs ∙ ap (λ (n : ℕ). drop n xs) at in
    sym (ap (λ (n : ℕ). take n (drop a xs)) all ∙ take-add (b - a) (c - b) (drop a xs) ∙ ap (λ (t : List ℕ). take (b - a) (drop a xs) ++ take (c - b) t) rest)

-- what is after some bytes of a piece
pub slice_range-drop : (xs : List ℕ) (a b n : ℕ) → n ≤ b - a → drop n (slice_range xs a b) ≡ slice_range xs (a + n) b
slice_range-drop xs a b n fits =
    let all : b - a ≡ n + (b - (a + n)) = omega arith in
    ap (λ (k : ℕ). drop n (take k (drop a xs))) all ∙ drop-take n (b - (a + n)) (drop a xs) ∙ ap (λ (t : List ℕ). take (b - (a + n)) t) (drop-drop n a xs)

-- a piece is no longer than its places are apart
pub slice_range-short : (xs : List ℕ) (a b : ℕ) → length (slice_range xs a b) ≤ b - a
slice_range-short xs a b = omega (arith, length-take (b - a) (drop a xs))

-- the piece that begins with what was begun and has the lines that were read after it ends a line
pub slice_range-lines : (xs : List ℕ) (a b n m : ℕ) → a ≤ b → 0 < n → n ≤ m → b + m ≤ length xs → ends_line (take n (slice_range xs b (b + m))) ≡ true → ends_line (slice_range xs a (b + n)) ≡ true
slice_range-lines xs a b n m order some fits within lines =
    let all : (b + m) - b ≡ m = omega arith in
    let part : (b + n) - b ≡ n = omega arith in
    let same : take n (slice_range xs b (b + m)) ≡ slice_range xs b (b + n) =
    ap (λ (k : ℕ). take n (take k (drop b xs))) all ∙ take-take n m (drop b xs) fits ∙ ap (λ (k : ℕ). take k (drop b xs)) (sym part) in
    let long : 0 < length (slice_range xs b (b + n)) = omega (arith, length-take ((b + n) - b) (drop b xs), length-drop b xs) in
    let ends : ends_line (slice_range xs b (b + n)) ≡ true = ap ends_line (sym same) ∙ lines in
    ap ends_line (sym (slice_range-join xs a b (b + n) order (omega arith))) ∙ ends_line-append (slice_range xs a b) (slice_range xs b (b + n)) long ends

-- a piece within a list is as long as its places are apart
pub slice_range-long : (xs : List ℕ) (a b : ℕ) → b ≤ length xs → length (slice_range xs a b) ≡ b - a
slice_range-long xs a b within = omega (arith, within, length-take (b - a) (drop a xs), length-drop a xs)

-- there is no line feed in what follows the last one
no_line_feed-after : (xs : List ℕ) (n : ℕ) → ((k : ℕ) → n ≤ k → k < length xs → get_or xs k 0 ≡ 10 → ⊥) → HasNoLineFeed (drop n xs)
no_line_feed-after xs n none k d within =
    let inside : n + k < length xs = omega (arith, within, length-drop n xs) in
    let same : get_or (drop n xs) k d ≡ get_or xs (n + k) 0 = get_or-drop n xs k d ∙ get_or_default xs (n + k) d 0 inside in
    λ is. none (n + k) (omega arith) inside (sym same ∙ is)

-- the same in the piece that was read after a place
pub no_line_feed-rest : (xs : List ℕ) (b n m : ℕ) → n ≤ m → ((k : ℕ) → n ≤ k → k < length (slice_range xs b (b + m)) → get_or (slice_range xs b (b + m)) k 0 ≡ 10 → ⊥) → HasNoLineFeed (slice_range xs (b + n) (b + m))
no_line_feed-rest xs b n m fits none = subst HasNoLineFeed (slice_range-drop xs b (b + m) n (omega (arith, fits))) (no_line_feed-after (slice_range xs b (b + m)) n none)

-- two pieces without a line feed that follow one another
pub no_line_feed-join : (xs : List ℕ) (a b n m : ℕ) → a ≤ b → n ≡ 0 → HasNoLineFeed (slice_range xs a b)
    → ((k : ℕ) → n ≤ k → k < length (slice_range xs b (b + m)) → get_or (slice_range xs b (b + m)) k 0 ≡ 10 → ⊥) → HasNoLineFeed (slice_range xs a (b + m))
no_line_feed-join xs a b n m order from before none =
    let after : HasNoLineFeed (slice_range xs b (b + m)) = no_line_feed-after (slice_range xs b (b + m)) 0 (λ k some. none k (omega arith)) in
    subst HasNoLineFeed (slice_range-join xs a b (b + m) order (omega arith)) (All-append (λ byte. byte ≡ 10 → ⊥) (slice_range xs a b) (slice_range xs b (b + m)) before after)

-- nothing is between a place and itself
pub slice_range-none : (xs : List ℕ) (a b : ℕ) → a ≡ b → slice_range xs a b ≡ []
slice_range-none xs a b e =
    let none : b - a ≡ 0 = omega arith in
    ap (λ (k : ℕ). take k (drop a xs)) none

-- two pieces that follow one another are the same wherever they are cut
pub slice_range-cuts : (xs : List ℕ) (a b cut end next : ℕ) → a ≡ b → a ≤ cut → cut ≤ next → b ≤ end → end ≤ next
    → slice_range xs a cut ++ slice_range xs cut next ≡ slice_range xs b end ++ slice_range xs end next
slice_range-cuts xs a b cut end next same p q r s =
    slice_range-join xs a cut next p q ∙ ap (λ (k : ℕ). slice_range xs k next) same ∙ sym (slice_range-join xs b end next r s)

-- a piece before the place where a read wrote is as it was
pub slice_range-kept : (xs ys zs : List ℕ) (a b at : ℕ) → b ≤ at → at ≤ length xs → slice_range (take at xs ++ (ys ++ zs)) a b ≡ slice_range xs a b
slice_range-kept xs ys zs a b at below within =
    let long : b ≤ length (take at xs) = omega (arith, length-take at xs) in
    between_is (take at xs ++ (ys ++ zs)) a b ∙ ap (λ (t : List ℕ). drop a t) (take-append-le b (take at xs) (ys ++ zs) long ∙ take-take b at xs below) ∙ sym (between_is xs a b)

-- the piece where a read wrote is what it wrote
pub slice_range-read : (xs ys zs : List ℕ) (at n : ℕ) → n ≤ length ys → at ≤ length xs → slice_range (take at xs ++ (ys ++ zs)) at (at + n) ≡ take n ys
slice_range-read xs ys zs at n fits within =
    let part : (at + n) - at ≡ n = omega arith in
    ap (λ (k : ℕ). take k (drop at (take at xs ++ (ys ++ zs)))) part ∙ ap (λ (t : List ℕ). take n t) (drop_at (take at xs) (ys ++ zs) at (length-take-le at xs within)) ∙ take-append-le n ys zs fits
