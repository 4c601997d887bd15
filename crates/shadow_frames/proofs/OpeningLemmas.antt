-- The opening words represent the first state.
use Rattle.std.proofs.Common.{◌≡◌, ◌≢◌, ℕ, ◌+◌, ◌%◌, ◌^◌, ◌<◌, ◌≤◌, Bool, true, false, eqb, List, [], ◌∷◌, Some, refl, ap, ◌∙◌, arith, fold, if◌then◌else◌}
use Rattle.std.proofs.Math.Path.{fun_ext}
use Rattle.std.proofs.Math.Nat.{zero-div}
use Rattle.pl_base.specs.Pages.{count_below}
use Rattle.pl_base.proofs.Pages.{count_failing}
use Rattle.pl_event.specs.declared.log.PageKind.{PageKind}
use Rattle.pl_event.specs.declared.log.PageKind.TheVariants.{Data, Heap, Stack}
use Rattle.pl_event.specs.declared.log.PageRun.{PageRun}
use Rattle.pl_event.specs.OpeningPages.{RiseFrom, pages_in}
use Rattle.lifeguard.specs.Rules.{Rules, KeepsLaws}
use Rattle.lifeguard.specs.State.{Bytes, paged, nothing, first_state}
use Rattle.order_core.specs.Core.{put}
use Rattle.order_core.specs.Shapes.{Shape, AreSoundShapes, after_shape, after_shapes}
use Rattle.shadow_frames.specs.Words.{WordsRepresent, all_nibbles, has_page, is_used, is_mapped, mapped_pages}
use Rattle.shadow_frames.specs.Frames.{map_page, pages_from}
use Rattle.shadow_frames.specs.Opening.{map_run, opening_words, state_in}
use Rattle.shadow_frames.proofs.Mapping.{put_else}
use Rattle.shadow_frames.proofs.Many.{all_mapped, all_counted, all_map_sound}
use Rattle.shadow_frames.proofs.MappedPages.{no_page, page_replaced}
use Rattle.shadow_frames.proofs.NibbleLemmas.{all_same}
use Rattle.shadow_frames.proofs.Ranges.{off_span}

abbrev zeros : ℕ → ℕ
zeros x = 0

pub zero_unused : (f : ℕ) → is_used zeros f ≡ false
zero_unused f = ap (λ (z : ℕ). eqb (z % 2) 1) (zero-div (2 ^ (f % 64)))

no_true : (b : Bool) → b ≡ true → b ≡ false → ⊥
no_true b t f = cc

zeros_represent : WordsRepresent zeros nothing
zeros_represent = record {
  same = λ a lt. refl;
  low = λ p lt. omega arith;
  apart = λ p q lp lq some e. absurd (some refl);
  used = λ f lt is. absurd (no_true (is_used zeros f) is (zero_unused f));
  marked = λ p f lt is. absurd (no_frame f is);
}
  where
    no_frame : (f : ℕ) → 0 ≡ f + 1 → ⊥
    no_frame f e = omega arith

zeros_unmapped : mapped_pages zeros ≤ 0
unfolding mapped_pages
zeros_unmapped = let e : count_below (is_mapped zeros) 4096 ≡ 0 = count_failing (is_mapped zeros) 4096 (λ q. refl) in at_most (count_below (is_mapped zeros) 4096) e
  where
    at_most : (x : ℕ) → x ≡ 0 → x ≤ 0
    at_most x e = omega arith

-- a word that no operation is on
pub kept_word : (w : ℕ → ℕ) (ss : List Shape) (u : ℕ) → u < 9 → AreSoundShapes 135185 ss → after_shapes w ss u ≡ w u
kept_word w [] u lt good = refl
kept_word w (s ∷ ss) u lt good = kept_word (after_shape w s) ss u lt good.1 ∙ by s.write
  where
    other : u ≢ s.word
    other = let l : 9 ≤ s.word = good.0.low in λ e. omega arith

    by : (b : Bool) → (if b then put w s.word (s.change (w s.word)) else w) u ≡ w u
    by true = put_else w s.word u (s.change (w s.word)) other
    by false = refl

module _ (rules : Rules) (laws : KeepsLaws rules) where
  below : (run : PageRun) → rules.page_state run.kind < 16
  below run = let l : rules.page_state run.kind < 8 = laws.page_below run.kind in omega arith

  record IsOpened (w : ℕ → ℕ) (bytes : Bytes) (end before : ℕ) : Type 0 where
    represents : WordsRepresent w bytes
    free : (q : ℕ) → end ≤ q → q < 4096 → has_page bytes q ≡ false
    few : mapped_pages w ≤ before
    low : (u : ℕ) → u < 9 → w u ≡ 0

  one_run : (w : ℕ → ℕ) (bytes : Bytes) (end before : ℕ) (run : PageRun) → IsOpened w bytes end before → end ≤ run.first → run.first + run.count ≤ 4096 → before + run.count ≤ 512
      → IsOpened (after_shapes w (pages_from (map_page (all_nibbles (rules.page_state run.kind))) w run.first run.count)) (paged (Some (rules.page_state run.kind)) run.first run.count bytes) (run.first + run.count) (before + run.count)
  one_run w bytes end before run is from room top =
      let m : mapped_pages w ≤ before = is.few in
      let total : mapped_pages w + run.count ≤ before + run.count = omega arith in
      let none : (q : ℕ) → run.first ≤ q → q < run.first + run.count → w (17 + q) ≡ 0 = λ q low high. no_page w bytes is.represents q (omega arith) (is.free q (omega arith) (omega arith)) in
      record {
        represents = all_mapped run.first bytes (rules.page_state run.kind) (all_nibbles (rules.page_state run.kind)) (all_same (rules.page_state run.kind) (below run)) (before + run.count) top w run.count is.represents room none total;
        free = λ q low lt. page_replaced (Some (rules.page_state run.kind)) run.first run.count bytes q
            ∙ (ap (λ (b : Bool). if b then true else has_page bytes q) (off_span run.first run.count q (λ x y. omega arith)) ∙ is.free q (omega arith) lt);
        few = all_counted run.first bytes (rules.page_state run.kind) (all_nibbles (rules.page_state run.kind)) (all_same (rules.page_state run.kind) (below run)) (before + run.count) top w run.count is.represents room none total;
        low = λ u lt. kept_word w (pages_from (map_page (all_nibbles (rules.page_state run.kind))) w run.first run.count) u lt
            (all_map_sound run.first bytes (rules.page_state run.kind) (all_nibbles (rules.page_state run.kind)) (all_same (rules.page_state run.kind) (below run)) (before + run.count) top w run.count is.represents room none total) ∙ is.low u lt;
      }

  pub record IsDone (w : ℕ → ℕ) (bytes : Bytes) : Type 0 where
    pub represents : WordsRepresent w bytes
    pub low : (u : ℕ) → u < 9 → w u ≡ 0

  all_runs : (w : ℕ → ℕ) (bytes : Bytes) (end before : ℕ) (runs : List PageRun) → IsOpened w bytes end before → RiseFrom end runs → before + pages_in runs ≤ 512
      → IsDone (fold (map_run rules.page_state) w runs) (fold (λ (bytes : Bytes) (run : PageRun). paged (Some (rules.page_state run.kind)) run.first run.count bytes) bytes runs)
  all_runs w bytes end before [] is rising room = record { represents = is.represents; low = is.low }
  all_runs w bytes end before (run ∷ runs) is rising room =
      all_runs (map_run rules.page_state w run) (paged (Some (rules.page_state run.kind)) run.first run.count bytes) (run.first + run.count) (before + run.count) runs
      (one_run w bytes end before run is rising.1 rising.0.3 (omega arith)) rising.2 (omega arith)

  pub opened : (pages : List PageRun) → RiseFrom 0 pages → pages_in pages ≤ 512 → IsDone (opening_words rules.page_state pages) (first_state rules pages).bytes
  unfolding opening_words
  opened pages rising room = all_runs zeros nothing 0 0 pages (record { represents = zeros_represent; free = λ q low lt. refl; few = zeros_unmapped; low = λ u lt. refl }) rising (omega arith)

-- the nibbles of the kinds of page as a list of three
pub states_are : (rules : Rules) → state_in (rules.page_state Data ∷ rules.page_state Heap ∷ rules.page_state Stack ∷ []) ≡ rules.page_state
states_are rules = fun_ext (λ kind. by kind)
  where
    by : (kind : PageKind) → state_in (rules.page_state Data ∷ rules.page_state Heap ∷ rules.page_state Stack ∷ []) kind ≡ rules.page_state kind
    by Data = refl
    by Heap = refl
    by Stack = refl
