-- What is put lands in the lanes of its write.
use Rattle.std.proofs.Common.{◌≡◌, ℕ, zero, suc, ◌*◌, ◌/◌, ◌%◌, ◌^◌, ◌<◌, Bool, true, false, refl, sym, ap, ◌∙◌, subst, arith}
use Rattle.std.proofs.lemmas.Nat.{xor_shr, xor_mod}
use Rattle.std.specs.Int.Bits.{bit_xor, xor_assoc, xor_self, xor_zero_l, xor_zero_r}
use Rattle.order_core.specs.declared.course.Course.{Course}
use Rattle.order_core.specs.declared.course.Operation.{Operation}
use Rattle.order_core.specs.Lanes.{lane, covers, Lands}
use Rattle.order_core.specs.Course.{lane_before}
use Rattle.guard_table.specs.declared.put.Put.{Put}
use Rattle.guard_table.specs.declared.put.Put.TheVariants.{Store, Flip}
use Rattle.guard_table.specs.Puts.{IsPutOf, after_put}

lane_xor : (j a b : ℕ) → lane j (bit_xor a b) ≡ bit_xor (lane j a) (lane j b)
lane_xor j a b = ap (λ (z : ℕ). z % 2 ^ 16) (xor_shr a b (16 * j)) ∙ xor_mod (a / 2 ^ (16 * j)) (b / 2 ^ (16 * j)) 16

undo : (p q : ℕ) → bit_xor p (bit_xor p q) ≡ q
undo p q = sym (xor_assoc p p q) ∙ (ap (λ (z : ℕ). bit_xor z q) (xor_self p) ∙ xor_zero_l q)

all_covered : (j : ℕ) → j < 4 → covers 15 j ≡ true
unfolding covers
all_covered zero l = refl
all_covered (suc zero) l = refl
all_covered (suc (suc zero)) l = refl
all_covered (suc (suc (suc zero))) l = refl
all_covered (suc (suc (suc (suc j)))) l = absurd (omega arith)

not_both : (b : Bool) → b ≡ true → b ≡ false → ⊥
not_both b t f = cc

-- where the word has in the lanes of the write what the sequential run has before it
pub lands : (c : Course) (p : ℕ) (a : Operation) (put : Put) → IsPutOf c p a put → (x : ℕ)
    → ((j : ℕ) → j < 4 → covers a.what.lanes j ≡ true → lane j x ≡ lane_before c p a.what.word j) → Lands a.what x (after_put put x)
lands c p a (Store value) is x finds j four = (
  (λ cov. is.1 j four cov),
  (λ cov. absurd (not_both (covers a.what.lanes j) (subst (λ (z : ℕ). covers z j ≡ true) (sym is.0) (all_covered j four)) cov)),
)
lands c p a (Flip bits) is x finds j four = (
  (λ cov. lane_xor j x bits ∙ (ap (bit_xor (lane j x)) ((is j four).0 cov ∙ ap (λ (z : ℕ). bit_xor z (lane j a.what.value)) (sym (finds j four cov))) ∙ undo (lane j x) (lane j a.what.value))),
  (λ cov. lane_xor j x bits ∙ (ap (bit_xor (lane j x)) ((is j four).1 cov) ∙ xor_zero_r (lane j x))),
)
