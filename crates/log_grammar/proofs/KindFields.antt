-- The kinds with each first word, as their fields.
use Rattle.std.proofs.Common.{◌≡◌, ℕ, List, [], ◌∷◌, codes, refl, arith}
use Rattle.std.specs.Fmt.{decimal}
use Rattle.pl_base.specs.declared.widths.LoadWidth.{LoadWidth}
use Rattle.pl_base.specs.declared.widths.StoreWidth.{StoreWidth}
use Rattle.pl_event.specs.declared.event.Kind.{Kind}
use Rattle.pl_event.specs.declared.event.Kind.TheVariants.{Ld, St, Op, Mv, Im, Br, Jr, Al, Fr, Bf, Mp, Um, Rd, Wr, Ex, Ft}
use Rattle.pl_event.specs.declared.log.PageKind.{PageKind}
use Rattle.pl_event.specs.declared.log.PageRun.{PageRun}
use Rattle.log_grammar.specs.Form.{IsBlock, IsPages}
use Rattle.log_grammar.specs.Spelling.{hex, load_word, store_word, page_word}
use Rattle.log_grammar.specs.Reads.{IsAny, IsAccess, AreTwo, AreThree, IsKindOf, IsPageRun, access_words, two_words, three_words, operands, page_words}
use Rattle.log_grammar.proofs.Chain.{BothIn, both_words, IsMade}

abbrev pub IsPair : ℕ × ℕ → Type 0
IsPair b = IsBlock b.0 b.1

abbrev pub pair_words : ℕ × ℕ → List (List ℕ)
pair_words b = hex b.0 ∷ decimal b.1 ∷ []

abbrev pub IsPagePair : ℕ × ℕ → Type 0
IsPagePair p = IsPages p.0 p.1

abbrev pub page_pair_words : ℕ × ℕ → List (List ℕ)
page_pair_words p = decimal p.0 ∷ decimal p.1 ∷ []

abbrev pub load_words : LoadWidth → List (List ℕ)
load_words width = load_word width ∷ []

abbrev pub store_words : StoreWidth → List (List ℕ)
store_words width = store_word width ∷ []

same_letters : (a b c d : ℕ) → (a ∷ b ∷ []) ∷ [] ≡ (c ∷ d ∷ []) ∷ [] → (a ≡ c) × (b ≡ d)
same_letters a b c d e = (cc, cc)

abbrev pub load_kind : LoadWidth × (ℕ × ℕ × ℕ) → Kind
load_kind p = Ld p.0 p.1.0 p.1.1 p.1.2

load_parts : (k : Kind) → IsKindOf (codes "ld") k → (p : LoadWidth × (ℕ × ℕ × ℕ)) × BothIn IsAny IsAccess p × (load_kind p ≡ k)
load_parts (Ld width rd rb addr) i = ((width, (rd, rb, addr)), (tt, i.1), refl)
load_parts (St width rv rb addr) i = absurd (omega (arith, (same_letters 115 116 108 100 i.0).0))
load_parts (Op rd r1 r2) i = absurd (omega (arith, (same_letters 111 112 108 100 i.0).0))
load_parts (Mv rd rs) i = absurd (omega (arith, (same_letters 109 118 108 100 i.0).0))
load_parts (Im rd) i = absurd (omega (arith, (same_letters 105 109 108 100 i.0).0))
load_parts (Br r1 r2) i = absurd (omega (arith, (same_letters 98 114 108 100 i.0).0))
load_parts (Jr rd rs) i = absurd (omega (arith, (same_letters 106 114 108 100 i.0).0))
load_parts (Al addr len) i = absurd (omega (arith, (same_letters 97 108 108 100 i.0).0))
load_parts (Fr addr len) i = absurd (omega (arith, (same_letters 102 114 108 100 i.0).0))
load_parts (Bf addr) i = absurd (omega (arith, (same_letters 98 102 108 100 i.0).0))
load_parts (Mp first count) i = absurd (omega (arith, (same_letters 109 112 108 100 i.0).0))
load_parts (Um first count) i = absurd (omega (arith, (same_letters 117 109 108 100 i.0).0))
load_parts (Rd addr len) i = absurd (omega (arith, (same_letters 114 100 108 100 i.0).0))
load_parts (Wr addr len) i = absurd (omega (arith, (same_letters 119 114 108 100 i.0).0))
load_parts Ex i = absurd (omega (arith, (same_letters 101 120 108 100 i.0).0))
load_parts (Ft cause addr) i = absurd (omega (arith, (same_letters 102 116 108 100 i.0).0))

pub load_made : IsMade (BothIn IsAny IsAccess) (both_words load_words access_words) load_kind (IsKindOf (codes "ld")) operands
load_made = record { whole = λ p i. (refl, i.1); same = λ p. refl; parts = load_parts }

abbrev pub store_kind : StoreWidth × (ℕ × ℕ × ℕ) → Kind
store_kind p = St p.0 p.1.0 p.1.1 p.1.2

store_parts : (k : Kind) → IsKindOf (codes "st") k → (p : StoreWidth × (ℕ × ℕ × ℕ)) × BothIn IsAny IsAccess p × (store_kind p ≡ k)
store_parts (Ld width rd rb addr) i = absurd (omega (arith, (same_letters 108 100 115 116 i.0).0))
store_parts (St width rv rb addr) i = ((width, (rv, rb, addr)), (tt, i.1), refl)
store_parts (Op rd r1 r2) i = absurd (omega (arith, (same_letters 111 112 115 116 i.0).0))
store_parts (Mv rd rs) i = absurd (omega (arith, (same_letters 109 118 115 116 i.0).0))
store_parts (Im rd) i = absurd (omega (arith, (same_letters 105 109 115 116 i.0).0))
store_parts (Br r1 r2) i = absurd (omega (arith, (same_letters 98 114 115 116 i.0).0))
store_parts (Jr rd rs) i = absurd (omega (arith, (same_letters 106 114 115 116 i.0).0))
store_parts (Al addr len) i = absurd (omega (arith, (same_letters 97 108 115 116 i.0).0))
store_parts (Fr addr len) i = absurd (omega (arith, (same_letters 102 114 115 116 i.0).0))
store_parts (Bf addr) i = absurd (omega (arith, (same_letters 98 102 115 116 i.0).0))
store_parts (Mp first count) i = absurd (omega (arith, (same_letters 109 112 115 116 i.0).0))
store_parts (Um first count) i = absurd (omega (arith, (same_letters 117 109 115 116 i.0).0))
store_parts (Rd addr len) i = absurd (omega (arith, (same_letters 114 100 115 116 i.0).0))
store_parts (Wr addr len) i = absurd (omega (arith, (same_letters 119 114 115 116 i.0).0))
store_parts Ex i = absurd (omega (arith, (same_letters 101 120 115 116 i.0).0))
store_parts (Ft cause addr) i = absurd (omega (arith, (same_letters 102 116 115 116 i.0).0))

pub store_made : IsMade (BothIn IsAny IsAccess) (both_words store_words access_words) store_kind (IsKindOf (codes "st")) operands
store_made = record { whole = λ p i. (refl, i.1); same = λ p. refl; parts = store_parts }

abbrev pub computed_kind : ℕ × ℕ × ℕ → Kind
computed_kind p = Op p.0 p.1 p.2

computed_parts : (k : Kind) → IsKindOf (codes "op") k → (p : ℕ × ℕ × ℕ) × AreThree p × (computed_kind p ≡ k)
computed_parts (Ld width rd rb addr) i = absurd (omega (arith, (same_letters 108 100 111 112 i.0).0))
computed_parts (St width rv rb addr) i = absurd (omega (arith, (same_letters 115 116 111 112 i.0).0))
computed_parts (Op rd r1 r2) i = ((rd, r1, r2), i.1, refl)
computed_parts (Mv rd rs) i = absurd (omega (arith, (same_letters 109 118 111 112 i.0).0))
computed_parts (Im rd) i = absurd (omega (arith, (same_letters 105 109 111 112 i.0).0))
computed_parts (Br r1 r2) i = absurd (omega (arith, (same_letters 98 114 111 112 i.0).0))
computed_parts (Jr rd rs) i = absurd (omega (arith, (same_letters 106 114 111 112 i.0).0))
computed_parts (Al addr len) i = absurd (omega (arith, (same_letters 97 108 111 112 i.0).0))
computed_parts (Fr addr len) i = absurd (omega (arith, (same_letters 102 114 111 112 i.0).0))
computed_parts (Bf addr) i = absurd (omega (arith, (same_letters 98 102 111 112 i.0).0))
computed_parts (Mp first count) i = absurd (omega (arith, (same_letters 109 112 111 112 i.0).0))
computed_parts (Um first count) i = absurd (omega (arith, (same_letters 117 109 111 112 i.0).0))
computed_parts (Rd addr len) i = absurd (omega (arith, (same_letters 114 100 111 112 i.0).0))
computed_parts (Wr addr len) i = absurd (omega (arith, (same_letters 119 114 111 112 i.0).0))
computed_parts Ex i = absurd (omega (arith, (same_letters 101 120 111 112 i.0).0))
computed_parts (Ft cause addr) i = absurd (omega (arith, (same_letters 102 116 111 112 i.0).0))

pub computed_made : IsMade AreThree three_words computed_kind (IsKindOf (codes "op")) operands
computed_made = record { whole = λ p i. (refl, i); same = λ p. refl; parts = computed_parts }

abbrev pub copied_kind : ℕ × ℕ → Kind
copied_kind p = Mv p.0 p.1

copied_parts : (k : Kind) → IsKindOf (codes "mv") k → (p : ℕ × ℕ) × AreTwo p × (copied_kind p ≡ k)
copied_parts (Ld width rd rb addr) i = absurd (omega (arith, (same_letters 108 100 109 118 i.0).0))
copied_parts (St width rv rb addr) i = absurd (omega (arith, (same_letters 115 116 109 118 i.0).0))
copied_parts (Op rd r1 r2) i = absurd (omega (arith, (same_letters 111 112 109 118 i.0).0))
copied_parts (Mv rd rs) i = ((rd, rs), i.1, refl)
copied_parts (Im rd) i = absurd (omega (arith, (same_letters 105 109 109 118 i.0).0))
copied_parts (Br r1 r2) i = absurd (omega (arith, (same_letters 98 114 109 118 i.0).0))
copied_parts (Jr rd rs) i = absurd (omega (arith, (same_letters 106 114 109 118 i.0).0))
copied_parts (Al addr len) i = absurd (omega (arith, (same_letters 97 108 109 118 i.0).0))
copied_parts (Fr addr len) i = absurd (omega (arith, (same_letters 102 114 109 118 i.0).0))
copied_parts (Bf addr) i = absurd (omega (arith, (same_letters 98 102 109 118 i.0).0))
copied_parts (Mp first count) i = absurd (omega (arith, (same_letters 109 112 109 118 i.0).1))
copied_parts (Um first count) i = absurd (omega (arith, (same_letters 117 109 109 118 i.0).0))
copied_parts (Rd addr len) i = absurd (omega (arith, (same_letters 114 100 109 118 i.0).0))
copied_parts (Wr addr len) i = absurd (omega (arith, (same_letters 119 114 109 118 i.0).0))
copied_parts Ex i = absurd (omega (arith, (same_letters 101 120 109 118 i.0).0))
copied_parts (Ft cause addr) i = absurd (omega (arith, (same_letters 102 116 109 118 i.0).0))

pub copied_made : IsMade AreTwo two_words copied_kind (IsKindOf (codes "mv")) operands
copied_made = record { whole = λ p i. (refl, i); same = λ p. refl; parts = copied_parts }

abbrev pub branch_kind : ℕ × ℕ → Kind
branch_kind p = Br p.0 p.1

branch_parts : (k : Kind) → IsKindOf (codes "br") k → (p : ℕ × ℕ) × AreTwo p × (branch_kind p ≡ k)
branch_parts (Ld width rd rb addr) i = absurd (omega (arith, (same_letters 108 100 98 114 i.0).0))
branch_parts (St width rv rb addr) i = absurd (omega (arith, (same_letters 115 116 98 114 i.0).0))
branch_parts (Op rd r1 r2) i = absurd (omega (arith, (same_letters 111 112 98 114 i.0).0))
branch_parts (Mv rd rs) i = absurd (omega (arith, (same_letters 109 118 98 114 i.0).0))
branch_parts (Im rd) i = absurd (omega (arith, (same_letters 105 109 98 114 i.0).0))
branch_parts (Br r1 r2) i = ((r1, r2), i.1, refl)
branch_parts (Jr rd rs) i = absurd (omega (arith, (same_letters 106 114 98 114 i.0).0))
branch_parts (Al addr len) i = absurd (omega (arith, (same_letters 97 108 98 114 i.0).0))
branch_parts (Fr addr len) i = absurd (omega (arith, (same_letters 102 114 98 114 i.0).0))
branch_parts (Bf addr) i = absurd (omega (arith, (same_letters 98 102 98 114 i.0).1))
branch_parts (Mp first count) i = absurd (omega (arith, (same_letters 109 112 98 114 i.0).0))
branch_parts (Um first count) i = absurd (omega (arith, (same_letters 117 109 98 114 i.0).0))
branch_parts (Rd addr len) i = absurd (omega (arith, (same_letters 114 100 98 114 i.0).0))
branch_parts (Wr addr len) i = absurd (omega (arith, (same_letters 119 114 98 114 i.0).0))
branch_parts Ex i = absurd (omega (arith, (same_letters 101 120 98 114 i.0).0))
branch_parts (Ft cause addr) i = absurd (omega (arith, (same_letters 102 116 98 114 i.0).0))

pub branch_made : IsMade AreTwo two_words branch_kind (IsKindOf (codes "br")) operands
branch_made = record { whole = λ p i. (refl, i); same = λ p. refl; parts = branch_parts }

abbrev pub jump_kind : ℕ × ℕ → Kind
jump_kind p = Jr p.0 p.1

jump_parts : (k : Kind) → IsKindOf (codes "jr") k → (p : ℕ × ℕ) × AreTwo p × (jump_kind p ≡ k)
jump_parts (Ld width rd rb addr) i = absurd (omega (arith, (same_letters 108 100 106 114 i.0).0))
jump_parts (St width rv rb addr) i = absurd (omega (arith, (same_letters 115 116 106 114 i.0).0))
jump_parts (Op rd r1 r2) i = absurd (omega (arith, (same_letters 111 112 106 114 i.0).0))
jump_parts (Mv rd rs) i = absurd (omega (arith, (same_letters 109 118 106 114 i.0).0))
jump_parts (Im rd) i = absurd (omega (arith, (same_letters 105 109 106 114 i.0).0))
jump_parts (Br r1 r2) i = absurd (omega (arith, (same_letters 98 114 106 114 i.0).0))
jump_parts (Jr rd rs) i = ((rd, rs), i.1, refl)
jump_parts (Al addr len) i = absurd (omega (arith, (same_letters 97 108 106 114 i.0).0))
jump_parts (Fr addr len) i = absurd (omega (arith, (same_letters 102 114 106 114 i.0).0))
jump_parts (Bf addr) i = absurd (omega (arith, (same_letters 98 102 106 114 i.0).0))
jump_parts (Mp first count) i = absurd (omega (arith, (same_letters 109 112 106 114 i.0).0))
jump_parts (Um first count) i = absurd (omega (arith, (same_letters 117 109 106 114 i.0).0))
jump_parts (Rd addr len) i = absurd (omega (arith, (same_letters 114 100 106 114 i.0).0))
jump_parts (Wr addr len) i = absurd (omega (arith, (same_letters 119 114 106 114 i.0).0))
jump_parts Ex i = absurd (omega (arith, (same_letters 101 120 106 114 i.0).0))
jump_parts (Ft cause addr) i = absurd (omega (arith, (same_letters 102 116 106 114 i.0).0))

pub jump_made : IsMade AreTwo two_words jump_kind (IsKindOf (codes "jr")) operands
jump_made = record { whole = λ p i. (refl, i); same = λ p. refl; parts = jump_parts }

abbrev pub taken_kind : ℕ × ℕ → Kind
taken_kind p = Al p.0 p.1

taken_parts : (k : Kind) → IsKindOf (codes "al") k → (p : ℕ × ℕ) × IsPair p × (taken_kind p ≡ k)
taken_parts (Ld width rd rb addr) i = absurd (omega (arith, (same_letters 108 100 97 108 i.0).0))
taken_parts (St width rv rb addr) i = absurd (omega (arith, (same_letters 115 116 97 108 i.0).0))
taken_parts (Op rd r1 r2) i = absurd (omega (arith, (same_letters 111 112 97 108 i.0).0))
taken_parts (Mv rd rs) i = absurd (omega (arith, (same_letters 109 118 97 108 i.0).0))
taken_parts (Im rd) i = absurd (omega (arith, (same_letters 105 109 97 108 i.0).0))
taken_parts (Br r1 r2) i = absurd (omega (arith, (same_letters 98 114 97 108 i.0).0))
taken_parts (Jr rd rs) i = absurd (omega (arith, (same_letters 106 114 97 108 i.0).0))
taken_parts (Al addr len) i = ((addr, len), i.1, refl)
taken_parts (Fr addr len) i = absurd (omega (arith, (same_letters 102 114 97 108 i.0).0))
taken_parts (Bf addr) i = absurd (omega (arith, (same_letters 98 102 97 108 i.0).0))
taken_parts (Mp first count) i = absurd (omega (arith, (same_letters 109 112 97 108 i.0).0))
taken_parts (Um first count) i = absurd (omega (arith, (same_letters 117 109 97 108 i.0).0))
taken_parts (Rd addr len) i = absurd (omega (arith, (same_letters 114 100 97 108 i.0).0))
taken_parts (Wr addr len) i = absurd (omega (arith, (same_letters 119 114 97 108 i.0).0))
taken_parts Ex i = absurd (omega (arith, (same_letters 101 120 97 108 i.0).0))
taken_parts (Ft cause addr) i = absurd (omega (arith, (same_letters 102 116 97 108 i.0).0))

pub taken_made : IsMade IsPair pair_words taken_kind (IsKindOf (codes "al")) operands
taken_made = record { whole = λ p i. (refl, i); same = λ p. refl; parts = taken_parts }

abbrev pub given_kind : ℕ × ℕ → Kind
given_kind p = Fr p.0 p.1

given_parts : (k : Kind) → IsKindOf (codes "fr") k → (p : ℕ × ℕ) × IsPair p × (given_kind p ≡ k)
given_parts (Ld width rd rb addr) i = absurd (omega (arith, (same_letters 108 100 102 114 i.0).0))
given_parts (St width rv rb addr) i = absurd (omega (arith, (same_letters 115 116 102 114 i.0).0))
given_parts (Op rd r1 r2) i = absurd (omega (arith, (same_letters 111 112 102 114 i.0).0))
given_parts (Mv rd rs) i = absurd (omega (arith, (same_letters 109 118 102 114 i.0).0))
given_parts (Im rd) i = absurd (omega (arith, (same_letters 105 109 102 114 i.0).0))
given_parts (Br r1 r2) i = absurd (omega (arith, (same_letters 98 114 102 114 i.0).0))
given_parts (Jr rd rs) i = absurd (omega (arith, (same_letters 106 114 102 114 i.0).0))
given_parts (Al addr len) i = absurd (omega (arith, (same_letters 97 108 102 114 i.0).0))
given_parts (Fr addr len) i = ((addr, len), i.1, refl)
given_parts (Bf addr) i = absurd (omega (arith, (same_letters 98 102 102 114 i.0).0))
given_parts (Mp first count) i = absurd (omega (arith, (same_letters 109 112 102 114 i.0).0))
given_parts (Um first count) i = absurd (omega (arith, (same_letters 117 109 102 114 i.0).0))
given_parts (Rd addr len) i = absurd (omega (arith, (same_letters 114 100 102 114 i.0).0))
given_parts (Wr addr len) i = absurd (omega (arith, (same_letters 119 114 102 114 i.0).0))
given_parts Ex i = absurd (omega (arith, (same_letters 101 120 102 114 i.0).0))
given_parts (Ft cause addr) i = absurd (omega (arith, (same_letters 102 116 102 114 i.0).1))

pub given_made : IsMade IsPair pair_words given_kind (IsKindOf (codes "fr")) operands
given_made = record { whole = λ p i. (refl, i); same = λ p. refl; parts = given_parts }

abbrev pub mapped_kind : ℕ × ℕ → Kind
mapped_kind p = Mp p.0 p.1

mapped_parts : (k : Kind) → IsKindOf (codes "mp") k → (p : ℕ × ℕ) × IsPagePair p × (mapped_kind p ≡ k)
mapped_parts (Ld width rd rb addr) i = absurd (omega (arith, (same_letters 108 100 109 112 i.0).0))
mapped_parts (St width rv rb addr) i = absurd (omega (arith, (same_letters 115 116 109 112 i.0).0))
mapped_parts (Op rd r1 r2) i = absurd (omega (arith, (same_letters 111 112 109 112 i.0).0))
mapped_parts (Mv rd rs) i = absurd (omega (arith, (same_letters 109 118 109 112 i.0).1))
mapped_parts (Im rd) i = absurd (omega (arith, (same_letters 105 109 109 112 i.0).0))
mapped_parts (Br r1 r2) i = absurd (omega (arith, (same_letters 98 114 109 112 i.0).0))
mapped_parts (Jr rd rs) i = absurd (omega (arith, (same_letters 106 114 109 112 i.0).0))
mapped_parts (Al addr len) i = absurd (omega (arith, (same_letters 97 108 109 112 i.0).0))
mapped_parts (Fr addr len) i = absurd (omega (arith, (same_letters 102 114 109 112 i.0).0))
mapped_parts (Bf addr) i = absurd (omega (arith, (same_letters 98 102 109 112 i.0).0))
mapped_parts (Mp first count) i = ((first, count), i.1, refl)
mapped_parts (Um first count) i = absurd (omega (arith, (same_letters 117 109 109 112 i.0).0))
mapped_parts (Rd addr len) i = absurd (omega (arith, (same_letters 114 100 109 112 i.0).0))
mapped_parts (Wr addr len) i = absurd (omega (arith, (same_letters 119 114 109 112 i.0).0))
mapped_parts Ex i = absurd (omega (arith, (same_letters 101 120 109 112 i.0).0))
mapped_parts (Ft cause addr) i = absurd (omega (arith, (same_letters 102 116 109 112 i.0).0))

pub mapped_made : IsMade IsPagePair page_pair_words mapped_kind (IsKindOf (codes "mp")) operands
mapped_made = record { whole = λ p i. (refl, i); same = λ p. refl; parts = mapped_parts }

abbrev pub unmapped_kind : ℕ × ℕ → Kind
unmapped_kind p = Um p.0 p.1

unmapped_parts : (k : Kind) → IsKindOf (codes "um") k → (p : ℕ × ℕ) × IsPagePair p × (unmapped_kind p ≡ k)
unmapped_parts (Ld width rd rb addr) i = absurd (omega (arith, (same_letters 108 100 117 109 i.0).0))
unmapped_parts (St width rv rb addr) i = absurd (omega (arith, (same_letters 115 116 117 109 i.0).0))
unmapped_parts (Op rd r1 r2) i = absurd (omega (arith, (same_letters 111 112 117 109 i.0).0))
unmapped_parts (Mv rd rs) i = absurd (omega (arith, (same_letters 109 118 117 109 i.0).0))
unmapped_parts (Im rd) i = absurd (omega (arith, (same_letters 105 109 117 109 i.0).0))
unmapped_parts (Br r1 r2) i = absurd (omega (arith, (same_letters 98 114 117 109 i.0).0))
unmapped_parts (Jr rd rs) i = absurd (omega (arith, (same_letters 106 114 117 109 i.0).0))
unmapped_parts (Al addr len) i = absurd (omega (arith, (same_letters 97 108 117 109 i.0).0))
unmapped_parts (Fr addr len) i = absurd (omega (arith, (same_letters 102 114 117 109 i.0).0))
unmapped_parts (Bf addr) i = absurd (omega (arith, (same_letters 98 102 117 109 i.0).0))
unmapped_parts (Mp first count) i = absurd (omega (arith, (same_letters 109 112 117 109 i.0).0))
unmapped_parts (Um first count) i = ((first, count), i.1, refl)
unmapped_parts (Rd addr len) i = absurd (omega (arith, (same_letters 114 100 117 109 i.0).0))
unmapped_parts (Wr addr len) i = absurd (omega (arith, (same_letters 119 114 117 109 i.0).0))
unmapped_parts Ex i = absurd (omega (arith, (same_letters 101 120 117 109 i.0).0))
unmapped_parts (Ft cause addr) i = absurd (omega (arith, (same_letters 102 116 117 109 i.0).0))

pub unmapped_made : IsMade IsPagePair page_pair_words unmapped_kind (IsKindOf (codes "um")) operands
unmapped_made = record { whole = λ p i. (refl, i); same = λ p. refl; parts = unmapped_parts }

abbrev pub read_kind : ℕ × ℕ → Kind
read_kind p = Rd p.0 p.1

read_parts : (k : Kind) → IsKindOf (codes "rd") k → (p : ℕ × ℕ) × IsPair p × (read_kind p ≡ k)
read_parts (Ld width rd rb addr) i = absurd (omega (arith, (same_letters 108 100 114 100 i.0).0))
read_parts (St width rv rb addr) i = absurd (omega (arith, (same_letters 115 116 114 100 i.0).0))
read_parts (Op rd r1 r2) i = absurd (omega (arith, (same_letters 111 112 114 100 i.0).0))
read_parts (Mv rd rs) i = absurd (omega (arith, (same_letters 109 118 114 100 i.0).0))
read_parts (Im rd) i = absurd (omega (arith, (same_letters 105 109 114 100 i.0).0))
read_parts (Br r1 r2) i = absurd (omega (arith, (same_letters 98 114 114 100 i.0).0))
read_parts (Jr rd rs) i = absurd (omega (arith, (same_letters 106 114 114 100 i.0).0))
read_parts (Al addr len) i = absurd (omega (arith, (same_letters 97 108 114 100 i.0).0))
read_parts (Fr addr len) i = absurd (omega (arith, (same_letters 102 114 114 100 i.0).0))
read_parts (Bf addr) i = absurd (omega (arith, (same_letters 98 102 114 100 i.0).0))
read_parts (Mp first count) i = absurd (omega (arith, (same_letters 109 112 114 100 i.0).0))
read_parts (Um first count) i = absurd (omega (arith, (same_letters 117 109 114 100 i.0).0))
read_parts (Rd addr len) i = ((addr, len), i.1, refl)
read_parts (Wr addr len) i = absurd (omega (arith, (same_letters 119 114 114 100 i.0).0))
read_parts Ex i = absurd (omega (arith, (same_letters 101 120 114 100 i.0).0))
read_parts (Ft cause addr) i = absurd (omega (arith, (same_letters 102 116 114 100 i.0).0))

pub read_made : IsMade IsPair pair_words read_kind (IsKindOf (codes "rd")) operands
read_made = record { whole = λ p i. (refl, i); same = λ p. refl; parts = read_parts }

abbrev pub written_kind : ℕ × ℕ → Kind
written_kind p = Wr p.0 p.1

written_parts : (k : Kind) → IsKindOf (codes "wr") k → (p : ℕ × ℕ) × IsPair p × (written_kind p ≡ k)
written_parts (Ld width rd rb addr) i = absurd (omega (arith, (same_letters 108 100 119 114 i.0).0))
written_parts (St width rv rb addr) i = absurd (omega (arith, (same_letters 115 116 119 114 i.0).0))
written_parts (Op rd r1 r2) i = absurd (omega (arith, (same_letters 111 112 119 114 i.0).0))
written_parts (Mv rd rs) i = absurd (omega (arith, (same_letters 109 118 119 114 i.0).0))
written_parts (Im rd) i = absurd (omega (arith, (same_letters 105 109 119 114 i.0).0))
written_parts (Br r1 r2) i = absurd (omega (arith, (same_letters 98 114 119 114 i.0).0))
written_parts (Jr rd rs) i = absurd (omega (arith, (same_letters 106 114 119 114 i.0).0))
written_parts (Al addr len) i = absurd (omega (arith, (same_letters 97 108 119 114 i.0).0))
written_parts (Fr addr len) i = absurd (omega (arith, (same_letters 102 114 119 114 i.0).0))
written_parts (Bf addr) i = absurd (omega (arith, (same_letters 98 102 119 114 i.0).0))
written_parts (Mp first count) i = absurd (omega (arith, (same_letters 109 112 119 114 i.0).0))
written_parts (Um first count) i = absurd (omega (arith, (same_letters 117 109 119 114 i.0).0))
written_parts (Rd addr len) i = absurd (omega (arith, (same_letters 114 100 119 114 i.0).0))
written_parts (Wr addr len) i = ((addr, len), i.1, refl)
written_parts Ex i = absurd (omega (arith, (same_letters 101 120 119 114 i.0).0))
written_parts (Ft cause addr) i = absurd (omega (arith, (same_letters 102 116 119 114 i.0).0))

pub written_made : IsMade IsPair pair_words written_kind (IsKindOf (codes "wr")) operands
written_made = record { whole = λ p i. (refl, i); same = λ p. refl; parts = written_parts }

-- a run of pages, as its fields
abbrev pub page_kind_words : PageKind → List (List ℕ)
page_kind_words kind = page_word kind ∷ []

abbrev pub run_words : (ℕ × ℕ) × PageKind → List (List ℕ)
run_words p = codes "page" ∷ both_words page_pair_words page_kind_words p

abbrev pub run_of : (ℕ × ℕ) × PageKind → PageRun
run_of p = record { first = p.0.0; count = p.0.1; kind = p.1 }

pub run_made : IsMade (BothIn IsPagePair IsAny) run_words run_of IsPageRun page_words
run_made = record { whole = λ p i. i.0; same = λ p. refl; parts = λ run i. (((run.first, run.count), run.kind), (i, tt), refl) }
