-- The lowest free frame, and the operations by which a page gets it.
use Rattle.std.proofs.lemmas.List.{get_or-set_same, get_or-set_other}
use mathlib.Core.Logic.{dite}
use native.Mathlib.Decide.{ℕ_discrete}
use Rattle.std.proofs.Common.{◌≡◌, ℕ, zero, suc, ◌+◌, ◌-◌, ◌*◌, ◌/◌, ◌%◌, ◌^◌, ◌<◌, Bool, true, false, ltb, length, slice_index, slice_set, List, [], ◌∷◌, ◌++◌, slice_get, Some, None, Option, refl, sym, ap, ◌∙◌, subst, arith, if◌then◌else◌}
use Rattle.order_core.specs.Shapes.{Shape, AreSoundShapes, after_shapes}
use Rattle.shadow_frames.specs.Words.{is_used}
use Rattle.shadow_frames.specs.Frames.{frame_or_none, frame_shapes, free_from, freed_shapes, lowest_free, map_page, pages_from, reads, unmap_page, writes}
use Rattle.shadow_frames.proofs.Many.{after_append}
use Rattle.list_plan.specs.declared.filler.Filler.{Filler}
use Rattle.list_plan.specs.inner.Fills.{Fills, words_of}
use Rattle.list_plan.specs.inner.Pieces.{placed, word_read}
use Rattle.list_plan.specs.inner.Rooms.{HasFrames}
use Rattle.list_plan.proofs.FillLemmas.{then_fills}

found_free : (w : ℕ → ℕ) (f n : ℕ) → free_from w f n < f + n → is_used w (free_from w f n) ≡ false
found_free w f zero lt = absurd (omega arith)
found_free w f (suc n) lt = by (is_used w f) refl lt (found_free w (suc f) n)
  where
    by : (b : Bool) → is_used w f ≡ b → (if b then free_from w (suc f) n else f) < f + suc n → (free_from w (suc f) n < suc f + n → is_used w (free_from w (suc f) n) ≡ false) → is_used w (if b then free_from w (suc f) n else f) ≡ false
    by true e l rest = rest (omega arith)
    by false e l rest = e

-- the lowest free frame is not in use
pub is_free : (w : ℕ → ℕ) → lowest_free w < 512 → is_used w (lowest_free w) ≡ false
unfolding lowest_free
is_free w lt = found_free w 0 512 (let l : free_from w 0 512 < 512 = lt in omega arith)

-- the frame map is read, and then the page gets its frame
pub maps_page : (a b c : Filler) (filling p : ℕ) → Fills a b (pages_from word_read (words_of a) 9 8) → Fills b c (placed (lowest_free (words_of a)) p filling) → Fills a c (map_page filling (words_of a) p)
unfolding map_page word_read
maps_page a b c filling p x y = then_fills a b c (pages_from word_read (words_of a) 9 8) (placed (lowest_free (words_of a)) p filling) x y

-- reading the frame map changes no word
pub map_read : (a b : Filler) → Fills a b (pages_from word_read (words_of a) 9 8) → words_of b ≡ words_of a
unfolding word_read
map_read a b x = x.words

-- ---- sound operations need a frame

abbrev some_shape : Shape → Option Shape
some_shape s = Some s

word_low : (n : ℕ) (ss : List Shape) (k : ℕ) (s : Shape) → AreSoundShapes n ss → slice_get ss k ≡ Some s → s.word < n
word_low n [] k s a e = absurd (let f : None ≡ some_shape s = e in cc)
word_low n (t ∷ ss) zero s a e =
    let f : some_shape t ≡ some_shape s = e in
    let same : t ≡ s = cc in
    subst (λ (z : Shape). z.word < n) same a.0.high
word_low n (t ∷ ss) (suc k) s a e = word_low n ss k s a.1 e

frame_low : (f p filling : ℕ) → AreSoundShapes 135185 (frame_shapes f p filling) → f < 512
frame_low f p filling a =
    let l : 4113 + 256 * f < 135185 = word_low 135185 (frame_shapes f p filling) 10 (writes (4113 + 256 * f) (λ _. filling)) a refl in
    omega arith

free_low : (filling : ℕ) (w : ℕ → ℕ) (p : ℕ) → AreSoundShapes 135185 (map_page filling w p) → lowest_free w < 512
unfolding map_page
free_low filling w p a = frame_low (lowest_free w) p filling a

first_sound : (n : ℕ) (xs ys : List Shape) → AreSoundShapes n (xs ++ ys) → AreSoundShapes n xs
first_sound n [] ys a = tt
first_sound n (x ∷ xs) ys a = (a.0, first_sound n xs ys a.1)

rest_sound : (n : ℕ) (xs ys : List Shape) → AreSoundShapes n (xs ++ ys) → AreSoundShapes n ys
rest_sound n [] ys a = a
rest_sound n (x ∷ xs) ys a = rest_sound n xs ys a.1

page_sound : (page : (ℕ → ℕ) → ℕ → List Shape) (size n : ℕ) (w : ℕ → ℕ) (p i : ℕ) → i < n → AreSoundShapes size (pages_from page w p n) → AreSoundShapes size (page (after_shapes w (pages_from page w p i)) (p + i))
page_sound page size zero w p i lt a = absurd (omega arith)
page_sound page size (suc n) w p zero lt a =
    let e : p ≡ p + 0 = omega arith in
    subst (λ (z : ℕ). AreSoundShapes size (page w z)) e (first_sound size (page w p) (pages_from page (after_shapes w (page w p)) (suc p) n) a)
page_sound page size (suc n) w p (suc i) lt a =
    let e : suc p + i ≡ p + suc i = omega arith in
    let w' : ℕ → ℕ = after_shapes w (page w p) in
    subst (λ (z : (ℕ → ℕ) × ℕ). AreSoundShapes size (page z.0 z.1))
    (λ d. (sym (after_append w (page w p) (pages_from page (after_shapes w (page w p)) (suc p) i)) d, e d))
    (page_sound page size n (after_shapes w (page w p)) (suc p) i (omega arith)
    (rest_sound size (page w p) (pages_from page (after_shapes w (page w p)) (suc p) n) a))

-- where the operations that map pages are sound, a frame is free before each
pub has_frames : (filling : ℕ) (w : ℕ → ℕ) (p n : ℕ) → AreSoundShapes 135185 (pages_from (map_page filling) w p n) → HasFrames filling w p n
has_frames filling w p n a i lt = free_low filling (after_shapes w (pages_from (map_page filling) w p i)) (p + i) (page_sound (map_page filling) 135185 n w p i lt a)

abbrev some_frame : ℕ → Option ℕ
some_frame n = Some n

-- the frame that is found is the lowest free one
pub frame_is : (w : ℕ → ℕ) (f : ℕ) (o : Option ℕ) → o ≡ Some f → o ≡ frame_or_none (lowest_free w) → f ≡ lowest_free w
frame_is w f o is found = by (ltb (lowest_free w) 512) (sym is ∙ found)
  where
    by : (b : Bool) → Some f ≡ (if b then Some (lowest_free w) else None) → f ≡ lowest_free w
    by true e = let t : some_frame f ≡ some_frame (lowest_free w) = e in cc
    by false e = absurd (let t : some_frame f ≡ None = e in cc)

-- reads change no word
pub reads_keep : (n : ℕ) (w : ℕ → ℕ) (p : ℕ) → after_shapes w (pages_from word_read w p n) ≡ w
unfolding word_read
reads_keep zero w p = refl
reads_keep (suc n) w p = reads_keep n w (suc p)

-- the words of the frame map that are read
pub read_next : (a : Filler) (w : ℕ → ℕ) (map : List ℕ) (i value : ℕ) → w ≡ words_of a → i < length map → value ≡ w (9 + i)
    → ((k : ℕ) → k < i → words_of a (9 + k) ≡ slice_index map k) → (k : ℕ) → k < i + 1 → words_of a (9 + k) ≡ slice_index (slice_set map i value) k
read_next a w map i value same low is each k lt = dite (ℕ_discrete k i)
    (λ e. ap (λ (z : ℕ). words_of a (9 + z)) e ∙ (ap (λ (v : ℕ → ℕ). v (9 + i)) (sym same) ∙ (sym is ∙ (sym (get_or-set_same map i value 0 low) ∙ ap (slice_index (slice_set map i value)) (sym e)))))
    (λ ne. each k (omega arith) ∙ sym (get_or-set_other map i k value 0 ne))

-- a frame is freed
pub unmaps_page : (a b c d e : Filler) (f p : ℕ) → f ≡ words_of a (17 + p) - 1 → Fills a b (reads (17 + p) ∷ []) → Fills b c (reads (9 + f / 64) ∷ []) → Fills c d (writes (9 + f / 64) (λ v. v - 2 ^ (f % 64)) ∷ []) → Fills d e (writes (17 + p) (λ _. 0) ∷ [])
    → Fills a e (unmap_page (words_of a) p)
unfolding unmap_page
unmaps_page a b c d e f p is x y z t = subst (λ (n : ℕ). Fills a e (freed_shapes n p)) is
    (then_fills a b e (reads (17 + p) ∷ []) (reads (9 + f / 64) ∷ writes (9 + f / 64) (λ v. v - 2 ^ (f % 64)) ∷ writes (17 + p) (λ _. 0) ∷ []) x
    (then_fills b c e (reads (9 + f / 64) ∷ []) (writes (9 + f / 64) (λ v. v - 2 ^ (f % 64)) ∷ writes (17 + p) (λ _. 0) ∷ []) y
    (then_fills c d e (writes (9 + f / 64) (λ v. v - 2 ^ (f % 64)) ∷ []) (writes (17 + p) (λ _. 0) ∷ []) z t)))
