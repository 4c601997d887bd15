-- Several pages, one after the other.
use Rattle.std.proofs.Common.{◌≡◌, ◌≢◌, ℕ, zero, suc, ◌+◌, ◌*◌, ◌-◌, ◌<◌, ◌≤◌, true, false, ltb, List, [], ◌∷◌, ◌++◌, length, Option, Some, None, refl, sym, ap, ◌∙◌, subst, arith, lt-ltb}
use mathlib.Core.Logic.{dite}
use native.Mathlib.Decide.{ℕ_discrete}
use Rattle.order_core.specs.declared.course.Op.{Op}
use Rattle.order_core.specs.Shapes.{Shape, AreSoundShapes, fill, filled_op, after_shape, after_shapes}
use Rattle.lifeguard.specs.State.{Bytes, replaced}
use Rattle.pl_base.specs.Pages.{marked}
use Rattle.pl_base.proofs.Pages.{count_like, marked-here}
use Rattle.shadow_frames.specs.Frames.{lowest_free, map_page, unmap_page, pages_from, frame_shapes}
use Rattle.shadow_frames.specs.Words.{is_used, is_mapped, mapped_pages, WordsRepresent, IsFilledWith}
use Rattle.shadow_frames.proofs.Free.{free_frame, one_less, marked_else}
use Rattle.shadow_frames.proofs.Mapping as mapping
use Rattle.shadow_frames.proofs.Unmapping as unmapping
use Rattle.shadow_frames.proofs.Ranges.{none_replaced, more_replaced}

-- ---- lists of shapes, one after the other

pub after_append : (w : ℕ → ℕ) (xs ys : List Shape) → after_shapes w (xs ++ ys) ≡ after_shapes (after_shapes w xs) ys
after_append w [] ys = refl
after_append w (x ∷ xs) ys = after_append (after_shape w x) xs ys

pub fill_append : (w : ℕ → ℕ) (xs ys : List Shape) → fill w (xs ++ ys) ≡ fill w xs ++ fill (after_shapes w xs) ys
fill_append w [] ys = refl
fill_append w (x ∷ xs) ys = ap (λ (os : List Op). filled_op (w x.word) x ∷ os) (fill_append (after_shape w x) xs ys)

append_none : (xs : List Shape) → xs ++ [] ≡ xs
append_none [] = refl
append_none (x ∷ xs) = ap (λ (z : List Shape). x ∷ z) (append_none xs)

append_over : (xs ys zs : List Shape) → xs ++ (ys ++ zs) ≡ (xs ++ ys) ++ zs
append_over [] ys zs = refl
append_over (x ∷ xs) ys zs = ap (λ (z : List Shape). x ∷ z) (append_over xs ys zs)

module _ (page : (ℕ → ℕ) → ℕ → List Shape) where
  -- what each page keeps, all of them keep
  pub kept : (P : (ℕ → ℕ) → ℕ → ℕ → Type 0) → ((w : ℕ → ℕ) (p n : ℕ) → P w p (suc n) → P (after_shapes w (page w p)) (suc p) n) → (n : ℕ) (w : ℕ → ℕ) (p : ℕ) → P w p n → P (after_shapes w (pages_from page w p n)) (p + n) 0
  kept P step zero w p x = let e : p ≡ p + 0 = omega arith in subst (λ (z : ℕ). P w z 0) e x
  kept P step (suc n) w p x =
      let e : suc p + n ≡ p + suc n = omega arith in
      subst (λ (z : (ℕ → ℕ) × ℕ). P z.0 z.1 0) (λ d. (sym (after_append w (page w p) (pages_from page (after_shapes w (page w p)) (suc p) n)) d, e d))
      (kept P step n (after_shapes w (page w p)) (suc p) (step w p n x))

  -- one page more comes after the others
  pub pages_more : (n : ℕ) (w : ℕ → ℕ) (p : ℕ) → pages_from page w p (suc n) ≡ pages_from page w p n ++ page (after_shapes w (pages_from page w p n)) (p + n)
  pages_more zero w p = append_none (page w p) ∙ (let e : p ≡ p + 0 = omega arith in ap (page w) e)
  pages_more (suc n) w p =
      let e : suc p + n ≡ p + suc n = omega arith in
      let w' : ℕ → ℕ = after_shapes w (page w p) in
      let rest : List Shape = pages_from page (after_shapes w (page w p)) (suc p) n in
      ap (λ (z : List Shape). page w p ++ z) (pages_more n (after_shapes w (page w p)) (suc p))
      ∙ (append_over (page w p) rest (page (after_shapes w' rest) (suc p + n))
      ∙ (λ d. (page w p ++ rest) ++ page (sym (after_append w (page w p) rest) d) (e d)))

sound_append : (words : ℕ) (xs ys : List Shape) → AreSoundShapes words xs → AreSoundShapes words ys → AreSoundShapes words (xs ++ ys)
sound_append words [] ys a b = b
sound_append words (x ∷ xs) ys a b = (a.0, sound_append words xs ys a.1 b)

pub append_length : (xs ys : List Shape) → length (xs ++ ys) ≡ length xs + length ys
append_length [] ys = omega arith
append_length (x ∷ xs) ys = let e : length (xs ++ ys) ≡ length xs + length ys = append_length xs ys in omega arith

module _ (page : (ℕ → ℕ) → ℕ → List Shape) (P : (ℕ → ℕ) → ℕ → ℕ → Type 0) (step : (w : ℕ → ℕ) (p n : ℕ) → P w p (suc n) → P (after_shapes w (page w p)) (suc p) n) where
  -- where the operations of each page are sound, all are
  pub all_sound : ((w : ℕ → ℕ) (p n : ℕ) → P w p (suc n) → AreSoundShapes 135185 (page w p)) → (n : ℕ) (w : ℕ → ℕ) (p : ℕ) → P w p n → AreSoundShapes 135185 (pages_from page w p n)
  all_sound good zero w p x = tt
  all_sound good (suc n) w p x = sound_append 135185 (page w p) (pages_from page (after_shapes w (page w p)) (suc p) n) (good w p n x) (all_sound good n (after_shapes w (page w p)) (suc p) (step w p n x))

pub pages_length : (page : (ℕ → ℕ) → ℕ → List Shape) (most : ℕ) → ((w : ℕ → ℕ) (p : ℕ) → length (page w p) ≤ most) → (n : ℕ) (w : ℕ → ℕ) (p : ℕ) → length (pages_from page w p n) ≤ n * most
pages_length page most few zero w p = omega arith
pages_length page most few (suc n) w p =
    let rest : List Shape = pages_from page (after_shapes w (page w p)) (suc p) n in
    let a : length (page w p ++ pages_from page (after_shapes w (page w p)) (suc p) n) ≡ length (page w p) + length (pages_from page (after_shapes w (page w p)) (suc p) n) = append_length (page w p) (pages_from page (after_shapes w (page w p)) (suc p) n) in
    let b : length (pages_from page (after_shapes w (page w p)) (suc p) n) ≤ n * most = pages_length page most few n (after_shapes w (page w p)) (suc p) in
    let c : length (page w p) ≤ most = few w p in
    sum (length (page w p ++ pages_from page (after_shapes w (page w p)) (suc p) n)) (length (page w p)) (length (pages_from page (after_shapes w (page w p)) (suc p) n)) n most a b c
  where
    sum : (t x y n most : ℕ) → t ≡ x + y → y ≤ n * most → x ≤ most → t ≤ suc n * most
    sum t x y n most a b c = let e : suc n * most ≡ n * most + most = grind arith in omega arith

map_length : (filling : ℕ) (w : ℕ → ℕ) (p : ℕ) → length (map_page filling w p) ≤ 266
unfolding map_page
map_length filling w p = equal_below (length (frame_shapes (lowest_free w) p filling)) 266 (mapping.frame_length (lowest_free w) p filling)
  where
    equal_below : (a b : ℕ) → a ≡ b → a ≤ b
    equal_below a b e = omega arith

unmap_length : (w : ℕ → ℕ) (p : ℕ) → length (unmap_page w p) ≤ 4
unfolding unmap_page
unmap_length w p = omega arith

pub maps_length : (filling n : ℕ) (w : ℕ → ℕ) (p : ℕ) → length (pages_from (map_page filling) w p n) ≤ n * 266
maps_length filling n w p = pages_length (map_page filling) 266 (map_length filling) n w p

pub unmaps_length : (n : ℕ) (w : ℕ → ℕ) (p : ℕ) → length (pages_from unmap_page w p n) ≤ n * 4
unmaps_length n w p = pages_length unmap_page 4 unmap_length n w p

-- ---- how many pages are mapped

one_more : (w v : ℕ → ℕ) (p : ℕ) → p < 4096 → w (17 + p) ≡ 0 → v (17 + p) ≢ 0 → ((q : ℕ) → q < 4096 → q ≢ p → v (17 + q) ≡ w (17 + q)) → mapped_pages v ≡ 1 + mapped_pages w
unfolding mapped_pages
one_more w v p small none some others =
    let t : is_mapped v p ≡ true = (let l : 0 < v (17 + p) = omega arith in lt-ltb 0 (v (17 + p)) l) in
    one_less (is_mapped v) p 4096 small t
    ∙ ap (λ (z : ℕ). 1 + z) (count_like (marked (is_mapped v) p 1 false) (is_mapped w) 4096 (λ q lt. dite (ℕ_discrete q p)
    (λ e. subst (λ (z : ℕ). marked (is_mapped v) p 1 false z ≡ is_mapped w z) (sym e) (marked-here (is_mapped v) p 1 false p (omega arith) (omega arith) ∙ sym (ap (ltb 0) none)))
    (λ ne. marked_else (is_mapped v) p q false ne ∙ ap (ltb 0) (others q lt ne))))

-- ---- mapping

-- one page: words keep standing, and no other page is touched
record IsPage (v w : ℕ → ℕ) (p : ℕ) (value : Option ℕ) (bytes : Bytes) : Type 0 where
  represents : WordsRepresent v (replaced value (p * 4096) 4096 bytes)
  others : (q : ℕ) → q < 4096 → q ≢ p → v (17 + q) ≡ w (17 + q)

not_zero : (x f : ℕ) → x ≡ f + 1 → x ≢ 0
not_zero x f e z = omega arith

module _ (w : ℕ → ℕ) (p : ℕ) (small : p < 4096) (bytes : Bytes) (st : WordsRepresent w bytes) where
  module _ (s filling : ℕ) (full : IsFilledWith filling s) (none : w (17 + p) ≡ 0) (few : mapped_pages w < 512) where
    abbrev f : ℕ
    f = lowest_free w

    free : (f < 512) × (is_used w f ≡ false)
    free = free_frame w bytes st few

    page_mapped : IsPage (after_shapes w (map_page filling w p)) w p (Some s) bytes
    unfolding map_page
    page_mapped = record {
      represents = mapping.represents_next w p f filling small free.0 s bytes st none free.1 full;
      others = mapping.other_page w p f filling small free.0;
    }

    page_sound : AreSoundShapes 135185 (map_page filling w p)
    unfolding map_page
    page_sound = mapping.frame_sound p f filling small free.0

    mapped_now : after_shapes w (map_page filling w p) (17 + p) ≢ 0
    unfolding map_page
    mapped_now e = not_zero (after_shapes w (frame_shapes f p filling) (17 + p)) f (mapping.own_page w p f filling small free.0) e

  page_unmapped : w (17 + p) ≢ 0 → IsPage (after_shapes w (unmap_page w p)) w p None bytes
  unfolding unmap_page
  page_unmapped some =
      let e : w (17 + p) ≡ w (17 + p) - 1 + 1 = omega arith in
      record {
        represents = unmapping.represents_next w p (w (17 + p) - 1) small bytes st e;
        others = unmapping.other_page w p (w (17 + p) - 1) small bytes st e;
      }

  freed_sound : w (17 + p) ≢ 0 → AreSoundShapes 135185 (unmap_page w p)
  unfolding unmap_page
  freed_sound some = let e : w (17 + p) ≡ w (17 + p) - 1 + 1 = omega arith in unmapping.sound w p (w (17 + p) - 1) small bytes st e

represents_same : (w : ℕ → ℕ) (b d : Bytes) → ((a : ℕ) → d a ≡ b a) → WordsRepresent w b → WordsRepresent w d
represents_same w b d same st = record { same = λ a lt. same a ∙ st.same a lt; low = st.low; apart = st.apart; used = st.used; marked = st.marked }

module _ (first : ℕ) (bytes : Bytes) where
  -- k pages are done, and n are left
  record IsThere (value : Option ℕ) (w : ℕ → ℕ) (p n : ℕ) : Type 0 where
    k : ℕ
    at : p ≡ first + k
    represents : WordsRepresent w (replaced value (first * 4096) (k * 4096) bytes)
    room : p + n ≤ 4096

  start : (value : Option ℕ) (w : ℕ → ℕ) (n : ℕ) → WordsRepresent w bytes → first + n ≤ 4096 → IsThere value w first n
  start value w n st room = record { k = 0; at = omega arith; represents = represents_same w bytes (replaced value (first * 4096) (0 * 4096) bytes) (none_replaced value (first * 4096) bytes) st; room = room }

  further : (value : Option ℕ) (w v : ℕ → ℕ) (p n : ℕ) → (t : IsThere value w p (suc n)) → IsPage v w p value (replaced value (first * 4096) (t.k * 4096) bytes) → IsThere value v (suc p) n
  further value w v p n t page =
      let e : p ≡ first + t.k = t.at in
      let r : p + suc n ≤ 4096 = t.room in
      record {
        k = t.k + 1;
        at = omega arith;
        represents = represents_same v (replaced value (p * 4096) 4096 (replaced value (first * 4096) (t.k * 4096) bytes)) (replaced value (first * 4096) ((t.k + 1) * 4096) bytes)
            (λ a. more_replaced value first t.k bytes a ∙ ap (λ (z : ℕ). replaced value (z * 4096) 4096 (replaced value (first * 4096) (t.k * 4096) bytes) a) (sym e)) page.represents;
        room = omega arith;
      }

  finish : (value : Option ℕ) (w : ℕ → ℕ) (n : ℕ) → IsThere value w (first + n) 0 → WordsRepresent w (replaced value (first * 4096) (n * 4096) bytes)
  finish value w n t = let e : t.k ≡ n = (let a : first + n ≡ first + t.k = t.at in omega arith) in subst (λ (z : ℕ). WordsRepresent w (replaced value (first * 4096) (z * 4096) bytes)) e t.represents

  module _ (s filling : ℕ) (full : IsFilledWith filling s) (most : ℕ) (top : most ≤ 512) where
    record CanMap (w : ℕ → ℕ) (p n : ℕ) : Type 0 where
      there : IsThere (Some s) w p n
      none : (q : ℕ) → p ≤ q → q < p + n → w (17 + q) ≡ 0
      few : mapped_pages w + n ≤ most

    map_step : (w : ℕ → ℕ) (p n : ℕ) → CanMap w p (suc n) → CanMap (after_shapes w (map_page filling w p)) (suc p) n
    map_step w p n c =
        let t : IsThere (Some s) w p (suc n) = c.there in
        let r : p + suc n ≤ 4096 = t.room in
        let small : p < 4096 = omega arith in
        let all : mapped_pages w + suc n ≤ most = c.few in
        let few : mapped_pages w < 512 = omega arith in
        let here : w (17 + p) ≡ 0 = c.none p (omega arith) (omega arith) in
        let st : WordsRepresent w (replaced (Some s) (first * 4096) (t.k * 4096) bytes) = t.represents in
        let page = page_mapped w p small (replaced (Some s) (first * 4096) (t.k * 4096) bytes) st s filling full here few in
        let now = mapped_now w p small (replaced (Some s) (first * 4096) (t.k * 4096) bytes) st s filling full here few in
        let more : mapped_pages (after_shapes w (map_page filling w p)) ≡ 1 + mapped_pages w = one_more w (after_shapes w (map_page filling w p)) p small here now page.others in
        record {
          there = further (Some s) w (after_shapes w (map_page filling w p)) p n t page;
          none = λ q low high. page.others q (omega arith) (λ e. omega arith) ∙ c.none q (omega arith) (omega arith);
          few = omega arith;
        }

    at_end : (w : ℕ → ℕ) (n : ℕ) → WordsRepresent w bytes → first + n ≤ 4096 → ((q : ℕ) → first ≤ q → q < first + n → w (17 + q) ≡ 0) → mapped_pages w + n ≤ most → CanMap (after_shapes w (pages_from (map_page filling) w first n)) (first + n) 0
    at_end w n st room none few = kept (map_page filling) CanMap map_step n w first (record { there = start (Some s) w n st room; none = none; few = few })

    pub all_mapped : (w : ℕ → ℕ) (n : ℕ) → WordsRepresent w bytes → first + n ≤ 4096 → ((q : ℕ) → first ≤ q → q < first + n → w (17 + q) ≡ 0) → mapped_pages w + n ≤ most
        → WordsRepresent (after_shapes w (pages_from (map_page filling) w first n)) (replaced (Some s) (first * 4096) (n * 4096) bytes)
    all_mapped w n st room none few = finish (Some s) (after_shapes w (pages_from (map_page filling) w first n)) n (at_end w n st room none few).there

    pub all_counted : (w : ℕ → ℕ) (n : ℕ) → WordsRepresent w bytes → first + n ≤ 4096 → ((q : ℕ) → first ≤ q → q < first + n → w (17 + q) ≡ 0) → mapped_pages w + n ≤ most → mapped_pages (after_shapes w (pages_from (map_page filling) w first n)) ≤ most
    all_counted w n st room none few = no_more (mapped_pages (after_shapes w (pages_from (map_page filling) w first n))) most (at_end w n st room none few).few
      where
        no_more : (x y : ℕ) → x + 0 ≤ y → x ≤ y
        no_more x y l = omega arith

    pub all_map_sound : (w : ℕ → ℕ) (n : ℕ) → WordsRepresent w bytes → first + n ≤ 4096 → ((q : ℕ) → first ≤ q → q < first + n → w (17 + q) ≡ 0) → mapped_pages w + n ≤ most → AreSoundShapes 135185 (pages_from (map_page filling) w first n)
    all_map_sound w n st room none few = all_sound (map_page filling) CanMap map_step good n w first (record { there = start (Some s) w n st room; none = none; few = few })
      where
        good : (w : ℕ → ℕ) (p n : ℕ) → CanMap w p (suc n) → AreSoundShapes 135185 (map_page filling w p)
        good w p n c =
            let t : IsThere (Some s) w p (suc n) = c.there in
            let r : p + suc n ≤ 4096 = t.room in
            let all : mapped_pages w + suc n ≤ most = c.few in
            page_sound w p (omega arith) (replaced (Some s) (first * 4096) (t.k * 4096) bytes) t.represents s filling full (c.none p (omega arith) (omega arith)) (omega arith)

  record CanUnmap (w : ℕ → ℕ) (p n : ℕ) : Type 0 where
    there : IsThere None w p n
    some : (q : ℕ) → p ≤ q → q < p + n → w (17 + q) ≢ 0

  unmap_step : (w : ℕ → ℕ) (p n : ℕ) → CanUnmap w p (suc n) → CanUnmap (after_shapes w (unmap_page w p)) (suc p) n
  unmap_step w p n c =
      let t : IsThere None w p (suc n) = c.there in
      let r : p + suc n ≤ 4096 = t.room in
      let small : p < 4096 = omega arith in
      let page = page_unmapped w p small (replaced None (first * 4096) (t.k * 4096) bytes) t.represents (c.some p (omega arith) (omega arith)) in
      record {
        there = further None w (after_shapes w (unmap_page w p)) p n t page;
        some = λ q low high e. c.some q (omega arith) (omega arith) (sym (page.others q (omega arith) (λ s. omega arith)) ∙ e);
      }

  pub all_unmapped : (w : ℕ → ℕ) (n : ℕ) → WordsRepresent w bytes → first + n ≤ 4096 → ((q : ℕ) → first ≤ q → q < first + n → w (17 + q) ≢ 0)
      → WordsRepresent (after_shapes w (pages_from unmap_page w first n)) (replaced None (first * 4096) (n * 4096) bytes)
  all_unmapped w n st room some =
      let end = kept unmap_page CanUnmap unmap_step n w first (record { there = start None w n st room; some = some }) in
      finish None (after_shapes w (pages_from unmap_page w first n)) n end.there

  pub all_unmap_sound : (w : ℕ → ℕ) (n : ℕ) → WordsRepresent w bytes → first + n ≤ 4096 → ((q : ℕ) → first ≤ q → q < first + n → w (17 + q) ≢ 0) → AreSoundShapes 135185 (pages_from unmap_page w first n)
  all_unmap_sound w n st room some = all_sound unmap_page CanUnmap unmap_step good n w first (record { there = start None w n st room; some = some })
    where
      good : (w : ℕ → ℕ) (p n : ℕ) → CanUnmap w p (suc n) → AreSoundShapes 135185 (unmap_page w p)
      good w p n c =
          let t : IsThere None w p (suc n) = c.there in
          let r : p + suc n ≤ 4096 = t.room in
          freed_sound w p (omega arith) (replaced None (first * 4096) (t.k * 4096) bytes) t.represents (c.some p (omega arith) (omega arith))
