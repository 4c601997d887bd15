-- The harts and the words after one of them is changed.
use Rattle.std.proofs.Common.{◌≡◌, ℕ, ◌<◌, ◌≤◌, List, length, slice_index, slice_set, sym, ap, ◌∙◌, subst, arith}
use Rattle.std.proofs.lemmas.List.{get_or-set_other, get_or-set_same, length-set}
use mathlib.Core.Logic.{dite}
use native.Mathlib.Decide.{ℕ_discrete}
use Rattle.order_core.specs.declared.course.Course.{Course}
use Rattle.order_core.specs.declared.state.HartState.{HartState}
use Rattle.order_core.specs.Core.{put}
use Rattle.order_core.specs.States.{hart_in, idle, core_in}
use Rattle.order_core.specs.inner.Kept.{IsKept, AreKept}
use Rattle.order_core.proofs.Ranks.{put_here, put_else}

-- what is read of each hart, after one is set
pub read_set : {A : Type 0} (f : HartState → A) (harts : List HartState) (g : ℕ) (x : HartState) → g < length harts → (λ h. f (hart_in (slice_set harts g x) h)) ≡ put (λ h. f (hart_in harts h)) g (f x)
read_set f harts g x low = λ i h. at h i
  where
    at : (h : ℕ) → f (hart_in (slice_set harts g x) h) ≡ put (λ u. f (hart_in harts u)) g (f x) h
    at h = dite (ℕ_discrete h g)
        (λ e. subst (λ (z : ℕ). f (hart_in (slice_set harts g x) z) ≡ put (λ u. f (hart_in harts u)) g (f x) z) (sym e)
        (ap f (get_or-set_same harts g x idle low) ∙ sym (put_here (λ u. f (hart_in harts u)) g (f x))))
        (λ ne. ap f (get_or-set_other harts g h x idle ne) ∙ sym (put_else (λ u. f (hart_in harts u)) g h (f x) ne))

pub number_set : (xs : List ℕ) (i n : ℕ) → i < length xs → slice_index (slice_set xs i n) ≡ put (slice_index xs) i n
number_set xs i n low = λ d u. at u d
  where
    at : (u : ℕ) → slice_index (slice_set xs i n) u ≡ put (slice_index xs) i n u
    at u = dite (ℕ_discrete u i)
        (λ e. subst (λ (z : ℕ). slice_index (slice_set xs i n) z ≡ put (slice_index xs) i n z) (sym e) (get_or-set_same xs i n 0 low ∙ sym (put_here (slice_index xs) i n)))
        (λ ne. get_or-set_other xs i u n 0 ne ∙ sym (put_else (slice_index xs) i u n ne))

-- the core's state after hart g is set
pub core_set : (harts : List HartState) (words : List ℕ) (g : ℕ) (x : HartState) → g < length harts
    → core_in (slice_set harts g x) words ≡ record {
      written = put (core_in harts words).written g x.written;
      progress = put (core_in harts words).progress g x.progress;
      seen = put (core_in harts words).seen g (slice_index x.seen);
      word = slice_index words;
    }
core_set harts words g x low = λ i. record {
  written = read_set (λ s. s.written) harts g x low i;
  progress = read_set (λ s. s.progress) harts g x low i;
  seen = read_set (λ s. slice_index s.seen) harts g x low i;
  word = slice_index words;
}

module _ (c : Course) (harts : List HartState) (are : AreKept c harts) (g : ℕ) (x : HartState) (low : g < 8) (kept : IsKept c g x) where
  in_list : g < length harts
  in_list = let e : length harts ≡ 8 = are.eight in omega arith

  -- what is kept after hart g is set, where its progress word does not fall and it has seen no more than there is
  pub kept_set : (hart_in harts g).progress ≤ x.progress → ((u : ℕ) → slice_index x.seen u ≤ (hart_in harts u).progress) → AreKept c (slice_set harts g x)
  kept_set up below = record {
    eight = length-set harts g x ∙ are.eight;
    each = λ h l. dite (ℕ_discrete h g)
        (λ e. subst (λ (z : ℕ). IsKept c z (hart_in (slice_set harts g x) z)) (sym e) (subst (IsKept c g) (sym (get_or-set_same harts g x idle in_list)) kept))
        (λ ne. subst (IsKept c h) (sym (get_or-set_other harts g h x idle ne)) (are.each h l));
    seen = λ h u. let r : (hart_in harts u).progress ≤ (hart_in (slice_set harts g x) u).progress = rises u in
        dite (ℕ_discrete h g)
        (λ e. let l : slice_index x.seen u ≤ (hart_in harts u).progress = below u in
        subst (λ (z : ℕ). slice_index (hart_in (slice_set harts g x) z).seen u ≤ (hart_in (slice_set harts g x) u).progress) (sym e)
        (subst (λ (s : HartState). slice_index s.seen u ≤ (hart_in (slice_set harts g x) u).progress) (sym (get_or-set_same harts g x idle in_list)) (omega arith)))
        (λ ne. let l : slice_index (hart_in harts h).seen u ≤ (hart_in harts u).progress = are.seen h u in
        subst (λ (s : HartState). slice_index s.seen u ≤ (hart_in (slice_set harts g x) u).progress) (sym (get_or-set_other harts g h x idle ne)) (omega arith));
  }
    where
      rises : (u : ℕ) → (hart_in harts u).progress ≤ (hart_in (slice_set harts g x) u).progress
      rises u = dite (ℕ_discrete u g)
          (λ e. subst (λ (z : ℕ). (hart_in harts z).progress ≤ (hart_in (slice_set harts g x) z).progress) (sym e)
          (subst (λ (s : HartState). (hart_in harts g).progress ≤ s.progress) (sym (get_or-set_same harts g x idle in_list)) up))
          (λ ne. subst (λ (s : HartState). (hart_in harts u).progress ≤ s.progress) (sym (get_or-set_other harts g u x idle ne)) (omega arith))
