-- Words and values below 2^64.
use Rattle.std.proofs.Common.{◌≡◌, ◌≢◌, ℕ, zero, suc, ◌+◌, ◌*◌, ◌-◌, ◌/◌, ◌%◌, ◌^◌, ◌<◌, ◌≤◌, Bool, true, false, eqb, List, [], ◌∷◌, ◌++◌, slice_get, Some, refl, ap, ◌∙◌, subst, arith, if◌then◌else◌}
use Rattle.std.proofs.Math.Nat.{pow-suc}
use Rattle.lifeguard.specs.Rules.{Rules}
use Rattle.lifeguard.specs.State.{Bytes, replaced}
use Rattle.order_core.specs.declared.course.Op as course
use Rattle.order_core.specs.Core.{put}
use Rattle.order_core.specs.Shapes.{Shape, fill, filled_op, after_shape, after_shapes}
use Rattle.shadow_frames.specs.Words.{WordsRepresent, IsFilledWith, is_used, mapped_pages, repeated, all_nibbles}
use Rattle.shadow_frames.specs.Frames.{fills, frame_shapes, freed_shapes, lowest_free, map_page, unmap_page, pages_from, reads, writes, reads_lanes, writes_lanes}
use Rattle.shadow_frames.proofs.BitLemmas.{set_fits}
use Rattle.shadow_frames.proofs.Free.{free_frame}
use Rattle.shadow_frames.proofs.Mapping.{other_page}
use Rattle.shadow_frames.proofs.Many.{all_mapped, all_counted}
use Rattle.shadow_layout.specs.Operations.{remade, in_block, changed_word, change_block, read_block, block_directory, block_word, lanes_of, load_shapes, store_shapes, only, not_taint, not_addr}
use Rattle.log_plan.proofs.Touching.{none_is, op_same}

abbrev pub IsWide : (ℕ → ℕ) → Type 0
IsWide w = (u : ℕ) → w u < 2 ^ 64

-- what the operations write is below 2^64
abbrev pub WriteWide : (ℕ → ℕ) → List Shape → Type 0
WriteWide w [] = Unit {0}
WriteWide w (s ∷ ss) = (s.write ≡ true → s.change (w s.word) < 2 ^ 64) × WriteWide (after_shape w s) ss

no_write : (P : Type 0) → false ≡ true → P
no_write P e = absurd (cc)

put_wide : (w : ℕ → ℕ) (x v : ℕ) → IsWide w → v < 2 ^ 64 → IsWide (put w x v)
put_wide w x v wide lt u = by (eqb u x)
  where
    by : (b : Bool) → (if b then v else w u) < 2 ^ 64
    by true = lt
    by false = wide u

shape_wide : (w : ℕ → ℕ) (s : Shape) → IsWide w → (s.write ≡ true → s.change (w s.word) < 2 ^ 64) → IsWide (after_shape w s)
shape_wide w s wide small = by s.write small
  where
    by : (b : Bool) → (b ≡ true → s.change (w s.word) < 2 ^ 64) → IsWide (if b then put w s.word (s.change (w s.word)) else w)
    by true f = put_wide w s.word (s.change (w s.word)) wide (f refl)
    by false f = wide

pub wide_after : (w : ℕ → ℕ) (ss : List Shape) → IsWide w → WriteWide w ss → IsWide (after_shapes w ss)
wide_after w [] wide good = wide
wide_after w (s ∷ ss) wide good = wide_after (after_shape w s) ss (shape_wide w s wide good.0) good.1

value_wide : (w : ℕ → ℕ) (s : Shape) → IsWide w → (s.write ≡ true → s.change (w s.word) < 2 ^ 64) → (filled_op (w s.word) s).value < 2 ^ 64
value_wide w s wide small = by s.write small
  where
    by : (b : Bool) → (b ≡ true → s.change (w s.word) < 2 ^ 64) → (if b then s.change (w s.word) else w s.word) < 2 ^ 64
    by true f = f refl
    by false f = wide s.word

pub wide_values : (w : ℕ → ℕ) (ss : List Shape) (y : ℕ) (o : course.Op) → IsWide w → WriteWide w ss → slice_get (fill w ss) y ≡ Some o → o.value < 2 ^ 64
wide_values w [] y o wide good e = none_is _ o e
wide_values w (s ∷ ss) zero o wide good e = subst (λ (z : course.Op). z.value < 2 ^ 64) (op_same (filled_op (w s.word) s) o e) (value_wide w s wide good.0)
wide_values w (s ∷ ss) (suc y) o wide good e = wide_values (after_shape w s) ss y o (shape_wide w s wide good.0) good.1 e

wide_append : (w : ℕ → ℕ) (xs ys : List Shape) → WriteWide w xs → WriteWide (after_shapes w xs) ys → WriteWide w (xs ++ ys)
wide_append w [] ys a b = b
wide_append w (x ∷ xs) ys a b = (a.0, wide_append (after_shape w x) xs ys a.1 b)

append_none : (xs : List Shape) → xs ++ [] ≡ xs
append_none [] = refl
append_none (x ∷ xs) = ap (λ (z : List Shape). x ∷ z) (append_none xs)

-- ---- several pages or blocks

module _ (page : (ℕ → ℕ) → ℕ → List Shape) (P : (ℕ → ℕ) → ℕ → ℕ → Type 0) (step : (w : ℕ → ℕ) (p n : ℕ) → P w p (suc n) → P (after_shapes w (page w p)) (suc p) n)
    (good : (w : ℕ → ℕ) (p n : ℕ) → P w p (suc n) → WriteWide w (page w p)) where
  wide_pages : (n : ℕ) (w : ℕ → ℕ) (p : ℕ) → P w p n → WriteWide w (pages_from page w p n)
  wide_pages zero w p x = tt
  wide_pages (suc n) w p x = wide_append w (page w p) (pages_from page (after_shapes w (page w p)) (suc p) n) (good w p n x) (wide_pages n (after_shapes w (page w p)) (suc p) (step w p n x))

-- where each page or block only has to find words below 2^64
module _ (page : (ℕ → ℕ) → ℕ → List Shape) (good : (w : ℕ → ℕ) (p : ℕ) → IsWide w → WriteWide w (page w p)) where
  pub wide_blocks : (n : ℕ) (w : ℕ → ℕ) (p : ℕ) → IsWide w → WriteWide w (pages_from page w p n)
  wide_blocks = wide_pages page (λ w p n. IsWide w) (λ w p n wide. wide_after w (page w p) wide (good w p wide)) (λ w p n wide. good w p wide)

-- ---- frames

fills_wide : (w : ℕ → ℕ) (first value n : ℕ) → value < 2 ^ 64 → WriteWide w (fills first value n)
fills_wide w first value zero lt = tt
fills_wide w first value (suc n) lt = ((λ e. lt), fills_wide (put w first value) (suc first) value n lt)

entry_wide : (f : ℕ) → f < 512 → f + 1 < 2 ^ 64
entry_wide f small = omega arith

frame_wide : (w : ℕ → ℕ) (f p filling : ℕ) → IsWide w → is_used w f ≡ false → f < 512 → filling < 2 ^ 64 → WriteWide w (frame_shapes f p filling)
frame_wide w f p filling wide free small lt = (
  no_write _,
  (
    no_write _,
    (
      no_write _,
      (
        no_write _,
        (
          no_write _,
          (
            no_write _,
            (
              no_write _,
              (
                no_write _,
                (
                  (λ e. set_fits (w (9 + f / 64)) (f % 64) 64 (wide (9 + f / 64)) (omega arith) free),
                  ((λ e. entry_wide f small), fills_wide (put (put w (9 + f / 64) (w (9 + f / 64) + 2 ^ (f % 64))) (17 + p) (f + 1)) (4113 + 256 * f) filling 256 lt),
                ),
              ),
            ),
          ),
        ),
      ),
    ),
  ),
)

repeated_below : (s n : ℕ) → s < 16 → repeated s n < 16 ^ n
repeated_below s zero lt = omega arith
repeated_below s (suc n) lt =
    let l : repeated s n < 16 ^ n = repeated_below s n lt in
    let e : 16 ^ suc n ≡ 16 ^ n * 16 = pow-suc 16 n in
    omega arith

pub filling_wide : (s : ℕ) → s < 16 → all_nibbles s < 2 ^ 64
unfolding all_nibbles
filling_wide s lt = repeated_below s 16 lt

next_below : (x m : ℕ) → x < m → x + 1 ≤ m
next_below x m l = omega arith

at_most : (x : ℕ) → x ≤ x
at_most x = omega arith

module _ (filling s : ℕ) (full : IsFilledWith filling s) (lt : filling < 2 ^ 64) where
  -- so many pages from p on can be mapped
  record CanMap (w : ℕ → ℕ) (p n : ℕ) : Type 0 where
    wide : IsWide w
    bytes : Bytes
    represents : WordsRepresent w bytes
    room : p + n ≤ 4096
    none : (q : ℕ) → p ≤ q → q < p + n → w (17 + q) ≡ 0
    few : mapped_pages w + n ≤ 512

  module _ (w : ℕ → ℕ) (p n : ℕ) (c : CanMap w p (suc n)) where
    some_left : mapped_pages w < 512
    some_left = let l : mapped_pages w + suc n ≤ 512 = c.few in omega arith

    small : p < 4096
    small = let l : p + suc n ≤ 4096 = c.room in omega arith

    here : (q : ℕ) → p ≤ q → q < p + 1 → w (17 + q) ≡ 0
    here q low high = c.none q low (omega arith)

    free : (lowest_free w < 512) × (is_used w (lowest_free w) ≡ false)
    free = free_frame w c.bytes c.represents some_left

    one : WriteWide w (map_page filling w p)
    unfolding map_page
    one = frame_wide w (lowest_free w) p filling c.wide free.1 free.0 lt

    others : (q : ℕ) → q < 4096 → q ≢ p → after_shapes w (map_page filling w p) (17 + q) ≡ w (17 + q)
    unfolding map_page
    others = other_page w p (lowest_free w) filling small free.0

    single : after_shapes w (pages_from (map_page filling) w p 1) ≡ after_shapes w (map_page filling w p)
    single = ap (after_shapes w) (append_none (map_page filling w p))

    counted : mapped_pages (after_shapes w (map_page filling w p)) ≤ mapped_pages w + 1
    counted = subst (λ (z : ℕ → ℕ). mapped_pages z ≤ mapped_pages w + 1) single
        (all_counted p c.bytes s filling full (mapped_pages w + 1) (next_below (mapped_pages w) 512 some_left) w 1 c.represents (next_below p 4096 small) here (at_most (mapped_pages w + 1)))

    mapped : WordsRepresent (after_shapes w (map_page filling w p)) (replaced (Some s) (p * 4096) (1 * 4096) c.bytes)
    mapped = subst (λ (z : ℕ → ℕ). WordsRepresent z (replaced (Some s) (p * 4096) (1 * 4096) c.bytes)) single
        (all_mapped p c.bytes s filling full 512 (at_most 512) w 1 c.represents (next_below p 4096 small) here (next_below (mapped_pages w) 512 some_left))

    next : CanMap (after_shapes w (map_page filling w p)) (suc p) n
    next = record {
      wide = wide_after w (map_page filling w p) c.wide one;
      bytes = replaced (Some s) (p * 4096) (1 * 4096) c.bytes;
      represents = mapped;
      room = (let l : p + suc n ≤ 4096 = c.room in omega arith);
      none = λ q low high. others q (let l : p + suc n ≤ 4096 = c.room in omega arith) (λ e. omega arith) ∙ c.none q (omega arith) (omega arith);
      few = (let l : mapped_pages w + suc n ≤ 512 = c.few in let m : mapped_pages (after_shapes w (map_page filling w p)) ≤ mapped_pages w + 1 = counted in omega arith);
    }

  pub maps_wide : (w : ℕ → ℕ) (bytes : Bytes) (p n : ℕ) → IsWide w → WordsRepresent w bytes → p + n ≤ 4096 → ((q : ℕ) → p ≤ q → q < p + n → w (17 + q) ≡ 0) → mapped_pages w + n ≤ 512
      → WriteWide w (pages_from (map_page filling) w p n)
  maps_wide w bytes p n wide st room none few = wide_pages (map_page filling) CanMap next one n w p (record { wide = wide; bytes = bytes; represents = st; room = room; none = none; few = few })

less_wide : (x y : ℕ) → x < 2 ^ 64 → x - y < 2 ^ 64
less_wide x y l = omega arith

freed_wide : (w : ℕ → ℕ) (f p : ℕ) → IsWide w → WriteWide w (freed_shapes f p)
freed_wide w f p wide = (no_write _, (no_write _, ((λ e. less_wide (w (9 + f / 64)) (2 ^ (f % 64)) (wide (9 + f / 64))), ((λ e. omega arith), tt))))

pub unmap_wide : (w : ℕ → ℕ) (p : ℕ) → IsWide w → WriteWide w (unmap_page w p)
unfolding unmap_page
unmap_wide w p wide = freed_wide w (w (17 + p) - 1) p wide

-- ---- blocks

remade_below : (g : ℕ → ℕ → ℕ) (i n x : ℕ) → remade g i n x < 16 ^ n
remade_below g i zero x = omega arith
remade_below g i (suc n) x =
    let l : remade g (suc i) n (x / 16) < 16 ^ n = remade_below g (suc i) n (x / 16) in
    let e : 16 ^ suc n ≡ 16 ^ n * 16 = pow-suc 16 n in
    let m : g i (x % 16) % 16 < 16 = omega arith in
    omega arith

word_wide : (f : ℕ → ℕ → ℕ) (addr len block x : ℕ) → changed_word f addr len block x < 2 ^ 64
unfolding changed_word
word_wide f addr len block x = remade_below (in_block f addr len block) 0 16 x

pub change_wide : (f : ℕ → ℕ → ℕ) (addr len : ℕ) (w : ℕ → ℕ) (b : ℕ) → WriteWide w (change_block f addr len w b)
unfolding change_block
change_wide f addr len w b = by (eqb (w (block_directory b)) 0)
  where
    by : (c : Bool) → WriteWide w (reads (block_directory b) ∷ (if c then [] else (reads (block_word w b) ∷ writes (block_word w b) (changed_word f addr len b) ∷ [])))
    by true = (no_write _, tt)
    by false = (no_write _, (no_write _, ((λ e. word_wide f addr len b (w (block_word w b))), tt)))

pub read_wide : (w : ℕ → ℕ) (b : ℕ) → WriteWide w (read_block w b)
unfolding read_block
read_wide w b = by (eqb (w (block_directory b)) 0)
  where
    by : (c : Bool) → WriteWide w (reads (block_directory b) ∷ (if c then [] else (reads (block_word w b) ∷ [])))
    by true = (no_write _, tt)
    by false = (no_write _, (no_write _, tt))

module _ (rules : Rules) (size : ℕ) (w : ℕ → ℕ) (addr : ℕ) where
  pub load_wide : WriteWide w (load_shapes rules size w addr)
  unfolding load_shapes
  load_wide = by (eqb (w (block_directory (addr / 16))) 0) (not_taint rules.name) (not_addr rules.name)
    where
      by : (c t v : Bool) → WriteWide w (reads_lanes false 15 (block_directory (addr / 16)) ∷ (if c then [] else (only t (reads_lanes true (lanes_of size addr) (block_word w (addr / 16)) ∷ [])
          ++ only v (reads_lanes false (lanes_of size addr) (block_word w (addr / 16)) ∷ []))))
      by true t v = (no_write _, tt)
      by false true true = (no_write _, (no_write _, (no_write _, tt)))
      by false true false = (no_write _, (no_write _, tt))
      by false false true = (no_write _, (no_write _, tt))
      by false false false = (no_write _, tt)

  pub store_wide : (len mask : ℕ) → WriteWide w (store_shapes rules size w addr len mask)
  unfolding store_shapes
  store_wide len mask = by (eqb (w (block_directory (addr / 16))) 0) (not_taint rules.name) (not_addr rules.name) _
    where
      by : (c t v : Bool) (f : ℕ → ℕ → ℕ) → WriteWide w (reads_lanes false 15 (block_directory (addr / 16)) ∷ (if c then [] else (only t (reads_lanes true (lanes_of size addr) (block_word w (addr / 16)) ∷ [])
          ++ only v (reads_lanes false (lanes_of size addr) (block_word w (addr / 16)) ∷ writes_lanes (lanes_of size addr) (block_word w (addr / 16)) (changed_word f addr len (addr / 16)) ∷ []))))
      by true t v f = (no_write _, tt)
      by false true true f = (no_write _, (no_write _, (no_write _, ((λ e. word_wide f addr len (addr / 16) (w (block_word w (addr / 16)))), tt))))
      by false true false f = (no_write _, (no_write _, tt))
      by false false true f = (no_write _, (no_write _, ((λ e. word_wide f addr len (addr / 16) (w (block_word w (addr / 16)))), tt)))
      by false false false f = (no_write _, tt)
