-- Words spell one list of pairs at most.
use Rattle.std.specs.Prelude.{◌≡◌, ℕ, ◌<◌, ◌^◌, List, [], ◌∷◌, All}
use Rattle.std.specs.Fmt.{decimal}
use Rattle.std.specs.Str.Parse.{digits_value}
use Rattle.std.proofs.Common.{refl, ap, sym, ◌∙◌, arith}
use Rattle.std.proofs.lemmas.Fmt.{decimal_is_IsNumeral}
use Rattle.std.proofs.lemmas.List.Elements.{All-head, All-tail}
use Rattle.whence_trail.specs.declared.trail.Pair.{Pair}
use Rattle.whence_top.specs.Asking.{AsksFor, MayAsk, words_of}

same_number : (n m : ℕ) → n < 2 ^ 64 → m < 2 ^ 64 → decimal n ≡ decimal m → n ≡ m
same_number n m low few e =
    sym (decimal_is_IsNumeral n low).1 ∙ (ap (digits_value 10) e ∙ (decimal_is_IsNumeral m few).1)

same_pair : (a b : Pair) → MayAsk a → MayAsk b → decimal a.hart ≡ decimal b.hart → decimal a.number ≡ decimal b.number
    → a ≡ b
same_pair a b may too harts numbers =
    let same : a.hart ≡ b.hart =
    same_number a.hart b.hart (omega (arith, may.hart)) (omega (arith, too.hart)) harts in
    let one : a.number ≡ b.number =
    same_number a.number b.number (omega (arith, may.low)) (omega (arith, too.low)) numbers in
    λ j. record { hart = same j; number = one j }

same_words : (a b : List Pair) → All MayAsk a → All MayAsk b → words_of a ≡ words_of b → a ≡ b
same_words [] [] may too e = refl
same_words [] (y ∷ b) may too e = absurd (cc)
same_words (x ∷ a) [] may too e = absurd (cc)
same_words (x ∷ a) (y ∷ b) may too e =
    ap (λ (p : Pair). p ∷ a)
    (same_pair x y (All-head MayAsk x a may) (All-head MayAsk y b too) (cc) (cc))
    ∙ ap (λ (ps : List Pair). y ∷ ps) (same_words a b (All-tail MayAsk x a may) (All-tail MayAsk y b too) (cc))

pub same_pairs : (words : List (List ℕ)) (a b : List Pair) → AsksFor words a → AsksFor words b → a ≡ b
same_pairs words a b is too = same_words a b is.each too.each (sym is.spelled ∙ too.spelled)
