-- The pieces of a format literal, joined as the definitions join them.
use Rattle.std.proofs.Common.{◌≡◌, ℕ, ℤ, ap, refl, ◌∙◌, append_assoc, List, [], ◌∷◌, ◌++◌}
use Rattle.std.specs.Fmt.{decimal, signed_decimal}
use Rattle.rv_isa.specs.Listing.{register, address, two, three}

-- 32 is a blank, 120 an x, 44 a comma, and 40 and 41 are brackets
two_joined : (name a b : List ℕ) → name ++ (32 ∷ 120 ∷ (a ++ (44 ∷ 32 ∷ b))) ≡ name ++ two (120 ∷ a) b
two_joined name a b = simp append_assoc refl

three_joined : (name a b d : List ℕ) → name ++ (32 ∷ 120 ∷ (a ++ (44 ∷ 32 ∷ (120 ∷ (b ++ (44 ∷ 32 ∷ d)))))) ≡ name ++ three (120 ∷ a) (120 ∷ b) d
three_joined name a b d = simp append_assoc refl

address_joined : (z r : List ℕ) → z ++ (40 ∷ 120 ∷ (r ++ (41 ∷ []))) ≡ z ++ (40 ∷ []) ++ (120 ∷ r) ++ (41 ∷ [])
address_joined z r = simp append_assoc refl

pub upper_text : (name : List ℕ) (r n : ℕ) → name ++ (32 ∷ 120 ∷ (decimal r ++ (44 ∷ 32 ∷ decimal n))) ≡ name ++ two (register r) (decimal n)
upper_text name r n = two_joined name (decimal r) (decimal n)

pub offset_text : (name : List ℕ) (r : ℕ) (y z : ℤ) → y ≡ z → name ++ (32 ∷ 120 ∷ (decimal r ++ (44 ∷ 32 ∷ signed_decimal y))) ≡ name ++ two (register r) (signed_decimal z)
offset_text name r y z e = rw e (two_joined name (decimal r) (signed_decimal z))

pub address_text : (name : List ℕ) (r b : ℕ) (y z : ℤ) → y ≡ z → name ++ (32 ∷ 120 ∷ (decimal r ++ (44 ∷ 32 ∷ (signed_decimal y ++ (40 ∷ 120 ∷ (decimal b ++ (41 ∷ []))))))) ≡ name ++ two (register r) (address z b)
address_text name r b y z e =
    rw e (two_joined name (decimal r) (signed_decimal z ++ (40 ∷ 120 ∷ (decimal b ++ (41 ∷ []))))
    ∙ ap (λ t. name ++ two (register r) t) (address_joined (signed_decimal z) (decimal b)))

pub number_text : (name : List ℕ) (a b : ℕ) (y z : ℤ) → y ≡ z → name ++ (32 ∷ 120 ∷ (decimal a ++ (44 ∷ 32 ∷ (120 ∷ (decimal b ++ (44 ∷ 32 ∷ signed_decimal y)))))) ≡ name ++ three (register a) (register b) (signed_decimal z)
number_text name a b y z e = rw e (three_joined name (decimal a) (decimal b) (signed_decimal z))

pub registers_text : (name : List ℕ) (a b d : ℕ) → name ++ (32 ∷ 120 ∷ (decimal a ++ (44 ∷ 32 ∷ (120 ∷ (decimal b ++ (44 ∷ 32 ∷ (120 ∷ decimal d))))))) ≡ name ++ three (register a) (register b) (register d)
registers_text name a b d = three_joined name (decimal a) (decimal b) (120 ∷ decimal d)
