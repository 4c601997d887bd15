-- Known bytes through one call after another.
use Rattle.std.proofs.Common.{◌≡◌, ℕ, ◌+◌, ◌-◌, ◌≤◌, List, ◌++◌, length, take, drop, Some, None, Option, sym, ap, subst, ◌∙◌, append_assoc, arith}
use Rattle.std.specs.Prelude.{IfSome, ◌<◌}
use Rattle.std.proofs.Math.Seq.{take-length}
use Rattle.std.specs.Io.KnownBytes.{Consumes, Appends, IsAtEnd}
use Rattle.pl_base.specs.Fronts.{TakesBetween, TakesFront}
use Rattle.pl_base.specs.declared.loops.ReadEnd.{ReadEnd}
use Rattle.pl_base.specs.declared.loops.ReadEnd.TheVariants.{Fault, TooLong, NoMemory}
use Rattle.std.proofs.lemmas.List.{take_at, append-nil, take-append-drop, length-append, length-take, length-drop, drop-drop}

-- two pieces that were taken in turn are one
pub Consumes-then : (a b c : Option (List ℕ)) (xs ys : List ℕ) → Consumes a b xs → Consumes b c ys → Consumes a c (xs ++ ys)
Consumes-then None b c xs ys p q = tt
Consumes-then (Some u) None c xs ys p q = absurd p
Consumes-then (Some u) (Some v) None xs ys p q = absurd q
Consumes-then (Some u) (Some v) (Some w) xs ys p q = p ∙ ap (λ (t : List ℕ). xs ++ t) q ∙ sym (append_assoc xs ys w)

-- two pieces that were appended in turn are one
pub Appends-then : (a b c : Option (List ℕ)) (xs ys : List ℕ) → Appends a b xs → Appends b c ys → Appends a c (xs ++ ys)
Appends-then None b c xs ys p q = tt
Appends-then (Some u) None c xs ys p q = absurd p
Appends-then (Some u) (Some v) None xs ys p q = absurd q
Appends-then (Some u) (Some v) (Some w) xs ys p q = q ∙ ap (λ (t : List ℕ). t ++ ys) p ∙ append_assoc u xs ys

-- the piece that was copied to the beginning is the next one
pub next_piece : (bs xs ys : List ℕ) (at n : ℕ) → xs ≡ take n (drop at bs) → n ≤ length bs - at → drop at bs ≡ take n (xs ++ ys) ++ drop (at + n) bs
next_piece bs xs ys at n e le =
    let len : length xs ≡ n = ap length e ∙ omega (arith, length-take n (drop at bs), length-drop at bs) in
    rw (take_at xs ys n len, e) (sym (ap (λ (t : List ℕ). take n (drop at bs) ++ t) (sym (drop-drop n at bs)) ∙ take-append-drop n (drop at bs)))

-- what consumed more than n bytes had more
pub Consumes-longer : (a b : Option (List ℕ)) (xs : List ℕ) (n : ℕ) → n < length xs → Consumes a b xs → IfSome a (λ bs. n < length bs)
Consumes-longer None b xs n lt p = tt
Consumes-longer (Some u) None xs n lt p = absurd p
Consumes-longer (Some u) (Some v) xs n lt p = omega (arith, ap length p, length-append xs v)

-- a read of no bytes at the end took nothing more
pub Consumes-nothing : (a b c : Option (List ℕ)) (xs ys : List ℕ) {n : ℕ} → n ≡ 0 → Consumes a b xs → Consumes b c (take n ys) → Consumes a c xs
Consumes-nothing a b c xs ys e p q =
    let both = Consumes-then a b c xs (take 0 ys) p (subst (λ (k : ℕ). Consumes b c (take k ys)) e q) in
    subst (λ (t : List ℕ). Consumes a c t) (append-nil xs) both

-- what `&xs[n..]` is
pub slice_rest : (n : ℕ) (xs : List ℕ) → take (length xs - n) (drop n xs) ≡ drop n xs
slice_rest n xs = ap (λ (k : ℕ). take k (drop n xs)) (sym (length-drop n xs)) ∙ take-length (drop n xs)

-- what was consumed up to the end is all that was left
pub Consumes-whole : (a b : Option (List ℕ)) (xs : List ℕ) → IsAtEnd b → Consumes a b xs → IfSome a (λ left. left ≡ xs)
Consumes-whole None b xs end p = tt
Consumes-whole (Some u) None xs end p = absurd p
Consumes-whole (Some u) (Some v) xs end p = p ∙ ap (λ (t : List ℕ). xs ++ t) end ∙ append-nil xs

-- two pieces in turn are one
pub TakesBetween-then : (a b c : Option (List ℕ)) (xs ys : List ℕ) (least most : ℕ) → Consumes a b xs → Consumes b c ys → least ≤ length (xs ++ ys) → length (xs ++ ys) ≤ most → TakesBetween a c least most
TakesBetween-then a b c xs ys least most p q long short = record { front = xs ++ ys; long = long; short = short; taken = Consumes-then a b c xs ys p q }

-- what was taken before an error counts with what was taken at it
pub TakesFront-then : (end : ReadEnd) (a b c : Option (List ℕ)) (xs : List ℕ) (spare limit : ℕ) → spare + length xs ≡ limit → Consumes a b xs → TakesFront end b c spare → TakesFront end a c limit
TakesFront-then Fault a b c xs spare limit e p q = TakesBetween-then a b c xs q.front 0 limit p q.taken (omega arith) (simp length-append (omega (arith, q.short)))
TakesFront-then TooLong a b c xs spare limit e p q = TakesBetween-then a b c xs q.front (limit + 1) (limit + 65536) p q.taken (simp length-append (omega (arith, q.long))) (simp length-append (omega (arith, q.short)))
TakesFront-then NoMemory a b c xs spare limit e p q = TakesBetween-then a b c xs q.front 0 limit p q.taken (omega arith) (simp length-append (omega (arith, q.short)))
