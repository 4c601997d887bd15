-- The width of a load: a letter, and a mark where it is unsigned.
use Rattle.std.proofs.Common.{◌≡◌, ℕ, ◌-◌, Bool, true, false, cond, List, [], ◌∷◌, ◌++◌, length, take, take_all, drop, Option, Some, None, refl, sym, ap, subst, ◌∙◌, arith}
use Rattle.std.specs.Prelude.{is_some, IfSome, IsSomeAnd}
use Rattle.std.specs.Borrow.{Bor}
use Rattle.pl_base.specs.declared.widths.LoadWidth.{LoadWidth}
use Rattle.pl_base.specs.declared.widths.LoadWidth.TheVariants as load
use Rattle.log_grammar.specs.Reads.{Closes}
use Rattle.log_grammar.specs.Spelling.{load_word}
use Rattle.log_grammar.proofs.ArcReading.{same_first}

abbrev pub mark : Bool → List ℕ
mark unsigned = cond unsigned (117 ∷ []) []

-- whether the mark begins the rest
pub record Marked (unsigned : Bool) (left : List ℕ) : Type 0 where
  pub there : unsigned ≡ true → (behind : List ℕ) × (left ≡ 117 ∷ behind)
  pub missing : unsigned ≡ false → (behind : List ℕ) → left ≡ 117 ∷ behind → ⊥

pub marked_by : (found : Option (Bor (List ℕ))) (unsigned : Bool) (left : List ℕ) → unsigned ≡ is_some found → IfSome found (λ r. left ≡ 117 ∷ r.now)
    → ((behind : List ℕ) → left ≡ 117 ∷ behind → IsSomeAnd found (λ r. r.now ≡ behind)) → Marked unsigned left
marked_by None unsigned left is there every = record { there = λ yes. absurd (let both = sym is ∙ yes in cc); missing = λ _ behind e. every behind e }
marked_by (Some r) unsigned left is there every = record { there = λ _. (r.now, there); missing = λ no. absurd (let both = sym is ∙ no in cc) }

-- what follows the mark, or after the letter
pub record Counts (unsigned : Bool) (n : ℕ) : Type 0 where
  pub one : unsigned ≡ true → n ≡ 1
  pub none : unsigned ≡ false → n ≡ 0

abbrev pub left_of : ℕ → List ℕ → List ℕ
left_of n left = take (length left - n) (drop n left)

left_whole : (left : List ℕ) → left_of 0 left ≡ left
left_whole left = take_all (length left - 0) left (omega arith)

left_one : (rest : List ℕ) (byte : ℕ) → left_of 1 (byte ∷ rest) ≡ rest
left_one rest byte = take_all (length (byte ∷ rest) - 1) rest (omega arith)

pub behind_mark : (unsigned : Bool) (n : ℕ) (left rest : List ℕ) → Counts unsigned n → left ≡ mark unsigned ++ rest → left_of n left ≡ rest
behind_mark true n left rest counts e = ap (λ (k : ℕ). left_of k left) (counts.one refl) ∙ ap (left_of 1) e ∙ left_one rest 117
behind_mark false n left rest counts e = ap (λ (k : ℕ). left_of k left) (counts.none refl) ∙ left_whole left ∙ e

pub split_mark : (unsigned : Bool) (n : ℕ) (left : List ℕ) → Counts unsigned n → Marked unsigned left → left ≡ mark unsigned ++ left_of n left
split_mark true n left counts marked =
    let there = marked.there refl in
    there.1 ∙ ap (λ (t : List ℕ). 117 ∷ t) (sym (behind_mark true n left there.0 counts there.1))
split_mark false n left counts marked = sym (behind_mark false n left left counts refl)

bare : (first letter : ℕ) (unsigned : Bool) (left rest : List ℕ) → Marked unsigned left → Closes rest → first ∷ rest ≡ letter ∷ left → (first ∷ [] ≡ letter ∷ mark unsigned) × (left ≡ mark unsigned ++ rest)
bare first letter true left rest marked closes e =
    let there = marked.there refl in
    let low : Closes (117 ∷ there.0) = subst Closes (same_rest first letter rest left e ∙ there.1) closes in
    absurd (omega (arith, low))
  where
    same_rest : (x y : ℕ) (a b : List ℕ) → x ∷ a ≡ y ∷ b → a ≡ b
    same_rest x y a b e = cc
bare first letter false left rest marked closes e = (ap (λ (x : ℕ). x ∷ []) (same_first first letter rest left e), let tail : left ≡ rest = cc in tail)

with_mark : (first letter : ℕ) (unsigned : Bool) (left rest : List ℕ) → Marked unsigned left → first ∷ 117 ∷ rest ≡ letter ∷ left → (first ∷ 117 ∷ [] ≡ letter ∷ mark unsigned) × (left ≡ mark unsigned ++ rest)
with_mark first letter true left rest marked e = (ap (λ (x : ℕ). x ∷ 117 ∷ []) (same_first first letter (117 ∷ rest) left e), let tail : left ≡ 117 ∷ rest = cc in tail)
with_mark first letter false left rest marked e = absurd (marked.missing refl rest (let tail : left ≡ 117 ∷ rest = cc in tail))

-- where the word of a width is, it is the letter and the mark
pub parted : (width : LoadWidth) (letter : ℕ) (unsigned : Bool) (left rest : List ℕ) → Marked unsigned left → Closes rest → load_word width ++ rest ≡ letter ∷ left
    → (load_word width ≡ letter ∷ mark unsigned) × (left ≡ mark unsigned ++ rest)
parted load.B letter unsigned left rest marked closes e = bare 98 letter unsigned left rest marked closes e
parted load.H letter unsigned left rest marked closes e = bare 104 letter unsigned left rest marked closes e
parted load.W letter unsigned left rest marked closes e = bare 119 letter unsigned left rest marked closes e
parted load.Bu letter unsigned left rest marked closes e = with_mark 98 letter unsigned left rest marked e
parted load.Hu letter unsigned left rest marked closes e = with_mark 104 letter unsigned left rest marked e

pub same_width : (a b : LoadWidth) → Some a ≡ Some b → a ≡ b
same_width a b e = cc

pub no_width : (a : LoadWidth) → None ≡ Some a → ⊥
no_width a e = cc
