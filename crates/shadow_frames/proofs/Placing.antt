-- The pages of the start get the first frames.
use Rattle.std.proofs.Common.{◌≡◌, ℕ, zero, suc, ◌+◌, ◌<◌, ◌≤◌, List, [], ◌∷◌, ◌++◌, length, take, replicate, get_or, slice_index, refl, sym, ap, ◌∙◌, subst, arith, le-ltb}
use Rattle.std.proofs.Math.Path.{fun_ext}
use Rattle.std.proofs.lemmas.List.{take_more}
use Rattle.pl_event.specs.declared.log.PageRun.{PageRun}
use Rattle.pl_event.specs.declared.log.PageKind.TheVariants.{Data}
use Rattle.pl_event.specs.OpeningPages.{RiseFrom, pages_in}
use Rattle.order_core.specs.Shapes.{after_shapes}
use Rattle.shadow_frames.specs.Words.{AreFirstFrames}
use Rattle.shadow_frames.specs.Frames.{map_page, pages_from}
use Rattle.shadow_frames.specs.Opening.{after_page}
use Rattle.shadow_frames.proofs.First.{next_shapes, next_frames}
use Rattle.shadow_frames.proofs.Many.{after_append, pages_more}
use Rattle.shadow_frames.proofs.OpeningLemmas.{zero_unused}

-- ---- one page more

module _ (w ws new : ℕ → ℕ) (filling first i k : ℕ) (lt : k < 512) (firsts : AreFirstFrames ws k) (is : new ≡ after_page ws (first + i) k filling) where
  as_page : new ≡ after_shapes ws (map_page filling ws (first + i))
  unfolding after_page
  as_page = is ∙ ap (after_shapes ws) (sym (next_shapes ws filling (first + i) k lt firsts))

  pub more_placed : ws ≡ after_shapes w (pages_from (map_page filling) w first i) → new ≡ after_shapes w (pages_from (map_page filling) w first (i + 1))
  more_placed at =
      let e : suc i ≡ i + 1 = omega arith in
      as_page
      ∙ ((λ d. after_shapes (at d) (map_page filling (at d) (first + i)))
      ∙ (sym (after_append w (pages_from (map_page filling) w first i) (map_page filling (after_shapes w (pages_from (map_page filling) w first i)) (first + i)))
      ∙ (ap (after_shapes w) (sym (pages_more (map_page filling) i w first))
      ∙ ap (λ (n : ℕ). after_shapes w (pages_from (map_page filling) w first n)) e)))

  pub more_first : first + i < 4096 → AreFirstFrames new (k + 1)
  more_first small = subst (λ (z : ℕ → ℕ). AreFirstFrames z (k + 1)) (sym as_page) (next_frames ws filling (first + i) k lt firsts small)

-- ---- runs by their positions

abbrev pub no_run : PageRun
no_run = record { first = 0; count = 0; kind = Data }

pages_in_append : (xs : List PageRun) (run : PageRun) → pages_in (xs ++ run ∷ []) ≡ pages_in xs + run.count
pages_in_append [] run = omega arith
pages_in_append (x ∷ xs) run = let e : pages_in (xs ++ run ∷ []) ≡ pages_in xs + run.count = pages_in_append xs run in omega arith

pub pages_in_more : (runs : List PageRun) (i : ℕ) → i < length runs → pages_in (take (i + 1) runs) ≡ pages_in (take i runs) + (get_or runs i no_run).count
pages_in_more runs i lt = ap pages_in (take_more runs i no_run lt) ∙ pages_in_append (take i runs) (get_or runs i no_run)

pages_in_take : (runs : List PageRun) (i : ℕ) → pages_in (take i runs) ≤ pages_in runs
pages_in_take [] zero = omega arith
pages_in_take [] (suc i) = omega arith
pages_in_take (run ∷ runs) zero = omega arith
pages_in_take (run ∷ runs) (suc i) = let l : pages_in (take i runs) ≤ pages_in runs = pages_in_take runs i in omega arith

pub room_for : (runs : List PageRun) (i : ℕ) → i < length runs → pages_in runs ≤ 512 → pages_in (take i runs) + (get_or runs i no_run).count ≤ 512
room_for runs i lt room =
    let e : pages_in (take (i + 1) runs) ≡ pages_in (take i runs) + (get_or runs i no_run).count = pages_in_more runs i lt in
    let l : pages_in (take (i + 1) runs) ≤ pages_in runs = pages_in_take runs (i + 1) in
    omega arith

pub run_inside : (from : ℕ) (runs : List PageRun) (i : ℕ) → RiseFrom from runs → i < length runs → (get_or runs i no_run).first + (get_or runs i no_run).count ≤ 4096
run_inside from [] i rising lt = absurd (omega arith)
run_inside from (run ∷ runs) zero rising lt = rising.0.3
run_inside from (run ∷ runs) (suc i) rising lt = run_inside (run.first + run.count) runs i rising.2 (omega arith)

-- ---- words that are all 0

zero_at : (n u : ℕ) → slice_index (replicate n 0) u ≡ 0
zero_at zero u = refl
zero_at (suc n) zero = refl
zero_at (suc n) (suc u) = zero_at n u

pub zero_words : (xs : List ℕ) (n : ℕ) → xs ≡ replicate n 0 → slice_index xs ≡ (λ (u : ℕ). 0)
zero_words xs n is = ap (λ (z : List ℕ). slice_index z) is ∙ fun_ext (λ u. zero_at n u)

pub zero_first : (w : ℕ → ℕ) → w ≡ (λ (u : ℕ). 0) → AreFirstFrames w 0
zero_first w is = subst (λ (z : ℕ → ℕ). AreFirstFrames z 0) (sym is) (λ f lt. zero_unused f ∙ sym (le-ltb f 0 (omega arith)))

pub take_first : (xs ys : List ℕ) (n : ℕ) → n ≡ length xs → take n (xs ++ ys) ≡ xs
take_first [] ys n e = ap (λ (z : ℕ). take z ys) e
take_first (x ∷ xs) ys zero e = absurd (omega arith)
take_first (x ∷ xs) ys (suc n) e = ap (λ (z : List ℕ). x ∷ z) (take_first xs ys n (omega arith))
