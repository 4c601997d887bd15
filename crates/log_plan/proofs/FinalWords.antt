-- Words that are the same in the table represent the same bytes.
use Rattle.std.proofs.Common.{◌≡◌, ℕ, zero, suc, ◌+◌, ◌*◌, ◌-◌, ◌/◌, ◌%◌, ◌^◌, ◌<◌, ◌≤◌, List, [], ◌∷◌, refl, sym, ap, ◌∙◌, subst, arith, Some}
use Rattle.lifeguard.specs.State.{Bytes}
use Rattle.order_core.specs.Shapes.{Shape, AreFitting, AreSoundShapes}
use Rattle.shadow_frames.specs.Words.{WordsRepresent, bit, byte_in, byte_of, is_used, nibble_of}

pub fitting_of : (n : ℕ) (ss : List Shape) → AreSoundShapes n ss → AreFitting ss
fitting_of n [] a = tt
fitting_of n (s ∷ ss) a = (a.0.fitting, fitting_of n ss a.1)

module _ (w x : ℕ → ℕ) (bytes : Bytes) (equal : (u : ℕ) → 9 ≤ u → u < 135185 → x u ≡ w u) (st : WordsRepresent w bytes) where
  directory : (p : ℕ) → p < 4096 → x (17 + p) ≡ w (17 + p)
  directory p lt = equal (17 + p) (omega arith) (omega arith)

  marks : (f : ℕ) → f < 512 → is_used x f ≡ is_used w f
  marks f lt = ap (λ (z : ℕ). bit z (f % 64)) (equal (9 + f / 64) (omega arith) (omega arith))

  in_frames : (a d : ℕ) → d ≤ 512 → byte_in x a d ≡ byte_in w a d
  in_frames a zero le = refl
  in_frames a (suc d) le = ap (λ (z : ℕ). Some (nibble_of z (a % 16))) (equal (4113 + 256 * (suc d - 1) + a % 4096 / 16) (omega arith) (omega arith))

  byte : (a : ℕ) → a < 2 ^ 24 → byte_of x a ≡ byte_of w a
  byte a lt = ap (byte_in x a) (directory (a / 4096) (omega arith)) ∙ in_frames a (w (17 + a / 4096)) (st.low (a / 4096) (omega arith))

  pub represents_equal : WordsRepresent x bytes
  represents_equal = record {
    same = λ a lt. st.same a lt ∙ sym (byte a lt);
    low = λ p lt. subst (λ (z : ℕ). z ≤ 512) (sym (directory p lt)) (st.low p lt);
    apart = λ p q lp lq some e. st.apart p q lp lq (λ z. some (directory p lp ∙ z)) (sym (directory p lp) ∙ (e ∙ directory q lq));
    used = λ f lt is. let t = st.used f lt (sym (marks f lt) ∙ is) in (t.0, t.1, directory t.0 t.1 ∙ t.2);
    marked = λ p f lt is. let e : w (17 + p) ≡ f + 1 = sym (directory p lt) ∙ is in let l : w (17 + p) ≤ 512 = st.low p lt in marks f (omega arith) ∙ st.marked p f lt e;
  }
