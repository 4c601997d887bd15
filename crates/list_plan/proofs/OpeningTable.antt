-- The opening words are the words of a table.
use Rattle.std.proofs.Common.{◌≡◌, ℕ, zero, suc, ◌+◌, ◌*◌, ◌/◌, ◌%◌, ◌^◌, ◌<◌, ◌≤◌, Bool, true, false, List, [], ◌∷◌, length, slice_index, fold, if◌then◌else◌, refl, sym, ap, ◌∙◌, subst, arith}
use Rattle.pl_event.specs.declared.log.PageRun.{PageRun}
use Rattle.pl_event.specs.OpeningPages.{RiseFrom, pages_in}
use Rattle.lifeguard.specs.Rules.{Rules, KeepsLaws}
use Rattle.order_core.specs.Core.{put}
use Rattle.order_core.specs.Shapes.{after_shapes}
use Rattle.shadow_frames.specs.Words.{all_nibbles, is_used, nibble_of}
use Rattle.shadow_frames.specs.Frames.{fills, frame_shapes, free_from, lowest_free, map_page, pages_from}
use Rattle.shadow_frames.specs.Opening.{map_run, opening_words}
use Rattle.shadow_frames.proofs.Mapping.{put_else, put_here}
use Rattle.shadow_frames.proofs.Many.{kept}
use Rattle.shadow_frames.proofs.NibbleLemmas.{all_same}
use Rattle.shadow_frames.proofs.OpeningLemmas.{opened}
use mathlib.Core.Logic.{dite}
use native.Mathlib.Decide.{ℕ_discrete}
use Rattle.list_plan.specs.inner.Tables.{HasNibbles, IsTable}

abbrev tail : (ℕ → ℕ) → ℕ → ℕ
tail w k = w (suc k)

-- two lists of one length with the same elements
pub same_list : (xs ys : List ℕ) → length xs ≡ length ys → slice_index xs ≡ slice_index ys → xs ≡ ys
same_list [] [] e same = refl
same_list [] (y ∷ ys) e same = absurd (omega arith)
same_list (x ∷ xs) [] e same = absurd (omega arith)
same_list (x ∷ xs) (y ∷ ys) e same =
    let first : x ≡ y = ap (λ (w : ℕ → ℕ). w 0) same in
    let rest : xs ≡ ys = same_list xs ys (omega arith) (ap tail same) in
    (λ d. first d ∷ rest d)

-- each shadow word has nibbles below 8
abbrev pub AreSmall : (ℕ → ℕ) → Type 0
AreSmall w = (u : ℕ) → 4113 ≤ u → HasNibbles (w u)

pub filling_small : (s : ℕ) → s < 8 → HasNibbles (all_nibbles s)
filling_small s lt i low = let e : nibble_of (all_nibbles s) i ≡ s = all_same s (omega arith) i low in omega arith

put_small : (w : ℕ → ℕ) (x v : ℕ) → AreSmall w → HasNibbles v → AreSmall (put w x v)
put_small w x v small new u low = dite (ℕ_discrete u x)
    (λ e. subst HasNibbles (sym (ap (put w x v) e ∙ put_here w x v)) new)
    (λ ne. subst HasNibbles (sym (put_else w x u v ne)) (small u low))

put_low : (w : ℕ → ℕ) (x v : ℕ) → x < 4113 → AreSmall w → AreSmall (put w x v)
put_low w x v lt small u low = subst HasNibbles (sym (put_else w x u v (λ e. omega arith))) (small u low)

fills_small : (w : ℕ → ℕ) (first value n : ℕ) → AreSmall w → HasNibbles value → AreSmall (after_shapes w (fills first value n))
fills_small w first value zero small new = small
fills_small w first value (suc n) small new = fills_small (put w first value) (suc first) value n (put_small w first value small new) new

most : (w : ℕ → ℕ) (f n : ℕ) → free_from w f n ≤ f + n
most w f zero = omega arith
most w f (suc n) = by (is_used w f) (most w (suc f) n)
  where
    by : (b : Bool) → free_from w (suc f) n ≤ suc f + n → (if b then free_from w (suc f) n else f) ≤ f + suc n
    by true l = omega arith
    by false l = omega arith

lowest : (w : ℕ → ℕ) → lowest_free w ≤ 512
unfolding lowest_free
lowest w = most w 0 512

frame_small : (w : ℕ → ℕ) (f p filling : ℕ) → f ≤ 512 → p < 4096 → AreSmall w → HasNibbles filling → AreSmall (after_shapes w (frame_shapes f p filling))
frame_small w f p filling few low small new =
    fills_small (put (put w (9 + f / 64) (w (9 + f / 64) + 2 ^ (f % 64))) (17 + p) (f + 1)) (4113 + 256 * f) filling 256
    (put_low (put w (9 + f / 64) (w (9 + f / 64) + 2 ^ (f % 64))) (17 + p) (f + 1) (omega arith) (put_low w (9 + f / 64) (w (9 + f / 64) + 2 ^ (f % 64)) (omega arith) small)) new

page_small : (filling : ℕ) → HasNibbles filling → (w : ℕ → ℕ) (p : ℕ) → p < 4096 → AreSmall w → AreSmall (after_shapes w (map_page filling w p))
unfolding map_page
page_small filling new w p low small = frame_small w (lowest_free w) p filling (lowest w) low small new

pages_small : (filling : ℕ) → HasNibbles filling → (n : ℕ) (w : ℕ → ℕ) (p : ℕ) → p + n ≤ 4096 → AreSmall w → AreSmall (after_shapes w (pages_from (map_page filling) w p n))
pages_small filling new n w p room small = (kept (map_page filling) (λ v q m. (q + m ≤ 4096) × AreSmall v)
    (λ v q m x. let l : q + suc m ≤ 4096 = x.0 in (omega arith, page_small filling new v q (omega arith) x.1)) n w p (room, small)).1

module _ (rules : Rules) (laws : KeepsLaws rules) where
  runs_small : (from : ℕ) (runs : List PageRun) (w : ℕ → ℕ) → RiseFrom from runs → AreSmall w → AreSmall (fold (map_run rules.page_state) w runs)
  runs_small from [] w rising small = small
  runs_small from (run ∷ runs) w rising small =
      runs_small (run.first + run.count) runs (map_run rules.page_state w run) rising.2
      (pages_small (all_nibbles (rules.page_state run.kind)) (filling_small (rules.page_state run.kind) (laws.page_below run.kind)) run.count w run.first rising.0.3 small)

  zero_small : AreSmall (λ (u : ℕ). 0)
  zero_small u low i lt = zero_nibble i
    where
      zero_nibble : (i : ℕ) → nibble_of 0 i < 8
      zero_nibble zero = omega arith
      zero_nibble (suc i) = zero_nibble i

  opening_small : (pages : List PageRun) → RiseFrom 0 pages → AreSmall (opening_words rules.page_state pages)
  unfolding opening_words
  opening_small pages rising = runs_small 0 pages (λ (u : ℕ). 0) rising zero_small

  pub opening_table : (pages : List PageRun) → RiseFrom 0 pages → pages_in pages ≤ 512 → (xs : List ℕ) → length xs ≡ 135185 → slice_index xs ≡ opening_words rules.page_state pages → IsTable xs
  opening_table pages rising room xs size words = record {
    size = size;
    frames = λ p lt. subst (λ (w : ℕ → ℕ). w (17 + p) ≤ 512) (sym words) ((opened rules laws pages rising room).represents.low p lt);
    nibbles = subst AreSmall (sym words) (opening_small pages rising);
  }
