-- Which pages words and bytes have, where words represent bytes.
use Rattle.std.proofs.Common.{◌≡◌, ◌≢◌, ℕ, zero, suc, ◌+◌, ◌*◌, ◌/◌, ◌<◌, Bool, true, false, ltb, Option, refl, sym, ap, ◌∙◌, arith, lt-ltb, if◌then◌else◌}
use mathlib.Core.Logic.{dite}
use native.Mathlib.Decide.{ℕ_discrete, dec_le}
use Rattle.pl_base.specs.Pages.{count_below}
use Rattle.pl_base.proofs.Pages.{count_like}
use Rattle.lifeguard.specs.State.{Bytes, is_in, replaced}
use Rattle.shadow_frames.specs.Words.{WordsRepresent, byte_in, has_page, is_mapped, is_there, mapped_pages}
use Rattle.shadow_frames.proofs.Ranges.{in_span, off_span}

no_both : (b : Bool) → b ≡ true → b ≡ false → ⊥
no_both b t f = cc

module _ (w : ℕ → ℕ) (bytes : Bytes) (st : WordsRepresent w bytes) where
  page_is : (q : ℕ) → q < 4096 → is_mapped w q ≡ has_page bytes q
  page_is q lt =
      let e : q * 4096 / 4096 ≡ q = omega arith in
      by (w (17 + q)) ∙ sym (ap is_there (st.same (q * 4096) (omega arith)) ∙ ap (λ (z : ℕ). is_there (byte_in w (q * 4096) (w (17 + z)))) e)
    where
      by : (d : ℕ) → ltb 0 d ≡ is_there (byte_in w (q * 4096) d)
      by zero = refl
      by (suc d) = lt-ltb 0 (suc d) (omega arith)

  pub pages_is : mapped_pages w ≡ count_below (has_page bytes) 4096
  unfolding mapped_pages
  pages_is = count_like (is_mapped w) (has_page bytes) 4096 (λ q lt. page_is q lt)

  pub no_page : (q : ℕ) → q < 4096 → has_page bytes q ≡ false → w (17 + q) ≡ 0
  no_page q lt e = dite (ℕ_discrete (w (17 + q)) 0) (λ z. z) (λ n. absurd (no_both (is_mapped w q) (lt-ltb 0 (w (17 + q)) (omega arith)) (page_is q lt ∙ e)))

  pub some_page : (q : ℕ) → q < 4096 → has_page bytes q ≡ true → w (17 + q) ≢ 0
  some_page q lt e z = no_both (is_mapped w q) (page_is q lt ∙ e) (ap (ltb 0) z)

-- whether a page is mapped where pages were replaced
pub page_replaced : (value : Option ℕ) (page count : ℕ) (bytes : Bytes) (q : ℕ) → has_page (replaced value (page * 4096) (count * 4096) bytes) q ≡ (if is_in page count q then is_there value else has_page bytes q)
unfolding replaced
page_replaced value page count bytes q = dite (dec_le page q)
    (λ l. dite (dec_le (page + count) q)
    (λ g. out (off_span (page * 4096) (count * 4096) (q * 4096) (λ x y. omega arith)) (off_span page count q (λ x y. omega arith)))
    (λ g. ap (λ (b : Bool). is_there (if b then value else bytes (q * 4096))) (in_span (page * 4096) (count * 4096) (q * 4096) (omega arith) (omega arith))
    ∙ sym (ap (λ (b : Bool). if b then is_there value else has_page bytes q) (in_span page count q l (omega arith)))))
    (λ n. out (off_span (page * 4096) (count * 4096) (q * 4096) (λ x y. n (omega arith))) (off_span page count q (λ x y. n x)))
  where
    out : is_in (page * 4096) (count * 4096) (q * 4096) ≡ false → is_in page count q ≡ false → is_there (if is_in (page * 4096) (count * 4096) (q * 4096) then value else bytes (q * 4096)) ≡ (if is_in page count q then is_there value else has_page bytes q)
    out a b = ap (λ (z : Bool). is_there (if z then value else bytes (q * 4096))) a ∙ sym (ap (λ (z : Bool). if z then is_there value else has_page bytes q) b)
