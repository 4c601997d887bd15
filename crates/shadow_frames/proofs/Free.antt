-- Where fewer than 512 pages are mapped, a frame is free.
use Rattle.std.proofs.Common.{◌≡◌, ◌≢◌, ℕ, zero, suc, ◌+◌, ◌<◌, ◌≤◌, ◌⊎◌, Bool, true, false, cond, refl, sym, ap, ◌∙◌, subst, arith, inl, inr, ⊎_elim, lt-ltb, if◌then◌else◌}
use mathlib.Core.Logic.{dite}
use native.Mathlib.Decide.{ℕ_discrete, dec_le}
use Rattle.pl_base.specs.Pages.{count_below, marked}
use Rattle.pl_base.proofs.Pages.{count_marked, marked-before, marked-past}
use Rattle.lifeguard.specs.State.{Bytes}
use Rattle.shadow_frames.specs.Frames.{free_from, lowest_free}
use Rattle.shadow_frames.specs.Words.{WordsRepresent, is_used, is_mapped, mapped_pages}

-- another page than the one that is marked
pub marked_else : (test : ℕ → Bool) (p q : ℕ) (answer : Bool) → q ≢ p → marked test p 1 answer q ≡ test q
marked_else test p q answer ne = dite (dec_le (q + 1) p)
    (λ l. marked-before test p 1 answer q (omega arith))
    (λ g. marked-past test p 1 answer q (omega arith))

one_more : (b : Bool) (x y : ℕ) → b ≡ true → x + cond b 1 0 ≡ y + 0 → y ≡ 1 + x
one_more true x y t e = omega arith
one_more false x y t e = absurd (cc)

pub one_less : (test : ℕ → Bool) (p n : ℕ) → p < n → test p ≡ true → count_below test n ≡ 1 + count_below (marked test p 1 false) n
one_less test p n lt t = one_more (test p) (count_below (marked test p 1 false) n) (count_below test n) t (count_marked test p false n lt)

-- n frames that lead to different pages
many : (w : ℕ → ℕ) (m n : ℕ) (test : ℕ → Bool) → ((f : ℕ) → f < n → (p : ℕ) × (p < m) × (test p ≡ true) × (w (17 + p) ≡ f + 1)) → n ≤ count_below test m
many w m zero test g = omega arith
many w m (suc n) test g =
    let top = g n (omega arith) in
    let p : ℕ = top.0 in
    let less : count_below test m ≡ 1 + count_below (marked test p 1 false) m = one_less test p m top.1 top.2 in
    let rest : n ≤ count_below (marked test p 1 false) m = many w m n (marked test p 1 false) (λ f lt.
    let x = g f (omega arith) in
    let ne : x.0 ≢ p = λ e. (let a : w (17 + x.0) ≡ f + 1 = x.3 in let b : w (17 + x.0) ≡ n + 1 = subst (λ (z : ℕ). w (17 + z) ≡ n + 1) (sym e) top.3 in omega arith) in
    (x.0, x.1, marked_else test p x.0 false ne ∙ x.2, x.3)) in
    omega arith

pub bool_cases : (P : Type 0) (b : Bool) → (b ≡ true → P) → (b ≡ false → P) → P
bool_cases P true f g = f refl
bool_cases P false f g = g refl

-- the first free frame, or none is
found : (w : ℕ → ℕ) (f n : ℕ) → ((free_from w f n < f + n) × (is_used w (free_from w f n) ≡ false)) ⊎ ((g : ℕ) → f ≤ g → g < f + n → is_used w g ≡ true)
found w f zero = inr (λ g low high. absurd (omega arith))
found w f (suc n) = bool_cases _ (is_used w f)
    (λ used. subst (λ (b : Bool). (((if b then free_from w (suc f) n else f) < f + suc n) × (is_used w (if b then free_from w (suc f) n else f) ≡ false)) ⊎ ((g : ℕ) → f ≤ g → g < f + suc n → is_used w g ≡ true)) (sym used)
    (⊎_elim (λ (t : (free_from w (suc f) n < suc f + n) × (is_used w (free_from w (suc f) n) ≡ false)). inl (omega (arith, t.0), t.1))
    (λ (t : (g : ℕ) → suc f ≤ g → g < suc f + n → is_used w g ≡ true). inr (λ g low high. dite (ℕ_discrete g f) (λ e. ap (is_used w) e ∙ used) (λ ne. t g (omega arith) (omega arith))))
    (found w (suc f) n)))
    (λ free. subst (λ (b : Bool). (((if b then free_from w (suc f) n else f) < f + suc n) × (is_used w (if b then free_from w (suc f) n else f) ≡ false)) ⊎ ((g : ℕ) → f ≤ g → g < f + suc n → is_used w g ≡ true)) (sym free) (inl (omega arith, free)))

all_used : (w : ℕ → ℕ) (bytes : Bytes) → WordsRepresent w bytes → ((g : ℕ) → 0 ≤ g → g < 0 + 512 → is_used w g ≡ true) → (f : ℕ) → f < 512 → (p : ℕ) × (p < 4096) × (is_mapped w p ≡ true) × (w (17 + p) ≡ f + 1)
all_used w bytes st t f lt =
    let x = st.used f lt (t f (omega arith) (omega arith)) in
    let a : w (17 + x.0) ≡ f + 1 = x.2 in
    let b : 0 < w (17 + x.0) = omega arith in
    (x.0, x.1, lt-ltb 0 (w (17 + x.0)) b, x.2)

few_not : (n : ℕ) → 512 ≤ n → n < 512 → ⊥
few_not n a b = omega arith

pub free_frame : (w : ℕ → ℕ) (bytes : Bytes) → WordsRepresent w bytes → mapped_pages w < 512 → (lowest_free w < 512) × (is_used w (lowest_free w) ≡ false)
unfolding mapped_pages lowest_free
free_frame w bytes st few = by (found w 0 512)
  where
    by : ((free_from w 0 512 < 0 + 512) × (is_used w (free_from w 0 512) ≡ false)) ⊎ ((g : ℕ) → 0 ≤ g → g < 0 + 512 → is_used w g ≡ true) → (free_from w 0 512 < 512) × (is_used w (free_from w 0 512) ≡ false)
    by (inl t) = t
    by (inr t) =
        let all : 512 ≤ count_below (is_mapped w) 4096 = many w 4096 512 (is_mapped w) (all_used w bytes st t) in
        absurd (few_not (count_below (is_mapped w) 4096) all few)
