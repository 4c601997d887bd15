-- The opening words as a list.
use Rattle.std.proofs.Common.{◌≡◌, ◌≢◌, ℕ, zero, suc, ◌+◌, ◌<◌, ◌≤◌, Bool, true, false, List, [], ◌∷◌, length, slice_index, Some, refl, sym, ap, ◌∙◌, arith, fold, if◌then◌else◌}
use Rattle.std.proofs.Math.Path.{fun_ext}
use mathlib.Core.Logic.{dite}
use native.Mathlib.Decide.{dec_le}
use Rattle.pl_base.proofs.Pages.{count_failing}
use Rattle.pl_base.specs.Pages.{count_below}
use Rattle.pl_event.specs.declared.log.PageRun.{PageRun}
use Rattle.pl_event.specs.OpeningPages.{RiseFrom, pages_in}
use Rattle.lifeguard.specs.Rules.{Rules, KeepsLaws}
use Rattle.lifeguard.specs.State.{Bytes, nothing, paged}
use Rattle.order_core.specs.Core.{put}
use Rattle.order_core.specs.Shapes.{Shape, AreSoundShapes, after_shape, after_shapes}
use Rattle.shadow_frames.specs.Words.{WordsRepresent, all_nibbles, has_page, is_mapped, is_used, mapped_pages}
use Rattle.shadow_frames.specs.Frames.{map_page, pages_from}
use Rattle.shadow_frames.specs.Opening.{map_run, opening_words}
use Rattle.shadow_frames.proofs.Mapping.{put_else}
use Rattle.shadow_frames.proofs.Many.{all_mapped, all_counted, all_map_sound}
use Rattle.shadow_frames.proofs.MappedPages.{no_page, page_replaced}
use Rattle.shadow_frames.proofs.NibbleLemmas.{all_same}
use Rattle.shadow_frames.proofs.OpeningLemmas.{zero_unused}
use Rattle.shadow_frames.proofs.Ranges.{off_span}
use Rattle.log_plan.specs.Plans.{words_from, opening_list}
use Rattle.log_plan.proofs.Wide.{IsWide, wide_after, filling_wide, maps_wide}

-- ---- what mapping pages keeps

abbrev zeros : ℕ → ℕ
zeros u = 0

no_true : (b : Bool) → b ≡ true → b ≡ false → ⊥
no_true b t f = cc

zeros_represent : WordsRepresent zeros nothing
zeros_represent = record {
  same = λ a lt. refl;
  low = λ p lt. omega arith;
  apart = λ p q lp lq some e. absurd (some refl);
  used = λ f lt is. absurd (no_true (is_used zeros f) is (zero_unused f));
  marked = λ p f lt is. absurd (no_frame f is);
}
  where
    no_frame : (f : ℕ) → 0 ≡ f + 1 → ⊥
    no_frame f e = omega arith

zeros_unmapped : mapped_pages zeros ≤ 0
unfolding mapped_pages
zeros_unmapped = let e : count_below (is_mapped zeros) 4096 ≡ 0 = count_failing (is_mapped zeros) 4096 (λ q. refl) in at_most (count_below (is_mapped zeros) 4096) e
  where
    at_most : (x : ℕ) → x ≡ 0 → x ≤ 0
    at_most x e = omega arith

-- a word above the table
kept_high : (w : ℕ → ℕ) (ss : List Shape) (u : ℕ) → 135185 ≤ u → AreSoundShapes 135185 ss → after_shapes w ss u ≡ w u
kept_high w [] u high good = refl
kept_high w (s ∷ ss) u high good = kept_high (after_shape w s) ss u high good.1 ∙ by s.write
  where
    other : u ≢ s.word
    other = let l : s.word < 135185 = good.0.high in λ e. omega arith

    by : (b : Bool) → (if b then put w s.word (s.change (w s.word)) else w) u ≡ w u
    by true = put_else w s.word u (s.change (w s.word)) other
    by false = refl

module _ (rules : Rules) (laws : KeepsLaws rules) where
  below : (run : PageRun) → rules.page_state run.kind < 16
  below run = let l : rules.page_state run.kind < 8 = laws.page_below run.kind in omega arith

  -- the words where so many pages, all before page `end`, were mapped
  record IsOpened (w : ℕ → ℕ) (bytes : Bytes) (end before : ℕ) : Type 0 where
    represents : WordsRepresent w bytes
    free : (q : ℕ) → end ≤ q → q < 4096 → has_page bytes q ≡ false
    few : mapped_pages w ≤ before
    wide : IsWide w
    high : (u : ℕ) → 135185 ≤ u → w u ≡ 0

  one_run : (w : ℕ → ℕ) (bytes : Bytes) (end before : ℕ) (run : PageRun) → IsOpened w bytes end before → end ≤ run.first → run.first + run.count ≤ 4096 → before + run.count ≤ 512
      → IsOpened (after_shapes w (pages_from (map_page (all_nibbles (rules.page_state run.kind))) w run.first run.count)) (paged (Some (rules.page_state run.kind)) run.first run.count bytes) (run.first + run.count) (before + run.count)
  one_run w bytes end before run is from room top =
      let m : mapped_pages w ≤ before = is.few in
      let total : mapped_pages w + run.count ≤ before + run.count = omega arith in
      let none : (q : ℕ) → run.first ≤ q → q < run.first + run.count → w (17 + q) ≡ 0 = λ q low high. no_page w bytes is.represents q (omega arith) (is.free q (omega arith) (omega arith)) in
      record {
        represents = all_mapped run.first bytes (rules.page_state run.kind) (all_nibbles (rules.page_state run.kind)) (all_same (rules.page_state run.kind) (below run)) (before + run.count) top w run.count is.represents room none total;
        free = λ q low lt. page_replaced (Some (rules.page_state run.kind)) run.first run.count bytes q
            ∙ (ap (λ (b : Bool). if b then true else has_page bytes q) (off_span run.first run.count q (λ x y. omega arith)) ∙ is.free q (omega arith) lt);
        few = all_counted run.first bytes (rules.page_state run.kind) (all_nibbles (rules.page_state run.kind)) (all_same (rules.page_state run.kind) (below run)) (before + run.count) top w run.count is.represents room none total;
        wide = wide_after w (pages_from (map_page (all_nibbles (rules.page_state run.kind))) w run.first run.count) is.wide
            (maps_wide (all_nibbles (rules.page_state run.kind)) (rules.page_state run.kind) (all_same (rules.page_state run.kind) (below run)) (filling_wide (rules.page_state run.kind) (below run)) w bytes run.first run.count is.wide is.represents room none (up_to (mapped_pages w) before run.count m top));
        high = λ u lt. kept_high w (pages_from (map_page (all_nibbles (rules.page_state run.kind))) w run.first run.count) u lt
            (all_map_sound run.first bytes (rules.page_state run.kind) (all_nibbles (rules.page_state run.kind)) (all_same (rules.page_state run.kind) (below run)) (before + run.count) top w run.count is.represents room none total) ∙ is.high u lt;
      }
    where
      up_to : (x before n : ℕ) → x ≤ before → before + n ≤ 512 → x + n ≤ 512
      up_to x before n a b = omega arith

  record IsDone (w : ℕ → ℕ) : Type 0 where
    wide : IsWide w
    high : (u : ℕ) → 135185 ≤ u → w u ≡ 0

  all_runs : (w : ℕ → ℕ) (bytes : Bytes) (end before : ℕ) (runs : List PageRun) → IsOpened w bytes end before → RiseFrom end runs → before + pages_in runs ≤ 512 → IsDone (fold (map_run rules.page_state) w runs)
  all_runs w bytes end before [] is rising room = record { wide = is.wide; high = is.high }
  all_runs w bytes end before (run ∷ runs) is rising room =
      all_runs (map_run rules.page_state w run) (paged (Some (rules.page_state run.kind)) run.first run.count bytes) (run.first + run.count) (before + run.count) runs
      (one_run w bytes end before run is rising.1 rising.0.3 (omega arith)) rising.2 (omega arith)

  opened : (pages : List PageRun) → RiseFrom 0 pages → pages_in pages ≤ 512 → IsDone (opening_words rules.page_state pages)
  unfolding opening_words
  opened pages rising room = all_runs zeros nothing 0 0 pages (record { represents = zeros_represent; free = λ q low lt. refl; few = zeros_unmapped; wide = λ u. omega arith; high = λ u lt. refl }) rising (omega arith)

  pub opening_wide : (pages : List PageRun) → RiseFrom 0 pages → pages_in pages ≤ 512 → IsWide (opening_words rules.page_state pages)
  opening_wide pages rising room = (opened pages rising room).wide

-- ---- the list

from_length : (w : ℕ → ℕ) (first n : ℕ) → length (words_from w first n) ≡ n
unfolding words_from
from_length w first zero = refl
from_length w first (suc n) = let e : length (words_from w (suc first) n) ≡ n = from_length w (suc first) n in omega arith

from_at : (w : ℕ → ℕ) (first n k : ℕ) → k < n → slice_index (words_from w first n) k ≡ w (first + k)
unfolding words_from
from_at w first zero k lt = absurd (omega arith)
from_at w first (suc n) zero lt = let e : first ≡ first + 0 = omega arith in ap w e
from_at w first (suc n) (suc k) lt = from_at w (suc first) n k (omega arith) ∙ (let e : suc first + k ≡ first + suc k = omega arith in ap w e)

from_end : (w : ℕ → ℕ) (first n k : ℕ) → n ≤ k → slice_index (words_from w first n) k ≡ 0
unfolding words_from
from_end w first zero k le = refl
from_end w first (suc n) zero le = absurd (omega arith)
from_end w first (suc n) (suc k) le = from_end w (suc first) n k (omega arith)

pub opening_length : (rules : Rules) (pages : List PageRun) → length (opening_list rules pages) ≡ 135185
unfolding opening_list
opening_length rules pages = from_length (opening_words rules.page_state pages) 0 135185

module _ (rules : Rules) (laws : KeepsLaws rules) (pages : List PageRun) (rising : RiseFrom 0 pages) (room : pages_in pages ≤ 512) where
  at : (u : ℕ) → slice_index (opening_list rules pages) u ≡ opening_words rules.page_state pages u
  unfolding opening_list
  at u = dite (dec_le 135185 u)
      (λ le. from_end (opening_words rules.page_state pages) 0 135185 u le ∙ sym ((opened rules laws pages rising room).high u le))
      (λ no. from_at (opening_words rules.page_state pages) 0 135185 u (omega arith) ∙ (let e : 0 + u ≡ u = omega arith in ap (opening_words rules.page_state pages) e))

  pub opening_is : slice_index (opening_list rules pages) ≡ opening_words rules.page_state pages
  opening_is = fun_ext at
