-- The operations of a page that gets a frame or whose frame is freed, one by one.
use Rattle.std.proofs.Common.{◌≡◌, ℕ, zero, suc, ◌+◌, ◌-◌, ◌%◌, ◌^◌, ◌<◌, Bool, true, false, nat_lt, lt-ltb, List, [], ◌∷◌, ◌++◌, length, Option, Some, None, refl, sym, ap, ◌∙◌, subst, arith, if◌then◌else◌}
use Rattle.order_core.specs.Core.{put}
use Rattle.order_core.specs.Course.{Planned}
use Rattle.order_core.specs.Shapes.{Shape, after_shapes}
use Rattle.guard_table.specs.declared.view.View.{View}
use Rattle.guard_table.specs.Views.{wrote}
use Rattle.shadow_frames.specs.Frames.{fills, frame_or_none, lowest_free, map_page, reads, unmap_page, writes}
use Rattle.shadow_frames.specs.Words.{directory_word, frame_word, map_word}
use Rattle.worker_records.specs.Shapes.{IsDue, Midst, made}
use Rattle.worker_records.specs.Pages.{place_shapes, reads_from}
use Rattle.worker_records.proofs.ShapeLemmas.{DueFrom, due_first, due_rest, first_of, like, made_both, made_none, made_past_read, made_past_write, past_read, past_write}

-- ---- reads of words, one after the other

module _ (plan : Planned) (v : View) (number : ℕ) (w : ℕ → ℕ) where
  past_reads : (k n first op : ℕ) → DueFrom plan v number op (reads_from first (k + n)) w → DueFrom plan v number (op + k) (reads_from (first + k) n) w
  past_reads zero n first op due = subst (λ (z : ℕ). DueFrom plan v number z (reads_from (first + 0) n) w) (let e : op ≡ op + 0 = omega arith in e)
      (subst (λ (z : ℕ). DueFrom plan v number op (reads_from z n) w) (let e : first ≡ first + 0 = omega arith in e)
      (subst (λ (z : ℕ). DueFrom plan v number op (reads_from first z) w) (let e : 0 + n ≡ n = omega arith in e) due))
  past_reads (suc k) n first op due =
      let more : DueFrom plan v number op (reads first ∷ reads_from (suc first) (k + n)) w
      = subst (λ (z : ℕ). DueFrom plan v number op (reads_from first z) w) (let e : suc k + n ≡ suc (k + n) = omega arith in e) due in
      subst (λ (z : ℕ). DueFrom plan v number z (reads_from (first + suc k) n) w) (let e : op + 1 + k ≡ op + suc k = omega arith in e)
      (subst (λ (z : ℕ). DueFrom plan v number (op + 1 + k) (reads_from z n) w) (let e : suc first + k ≡ first + suc k = omega arith in e)
      (past_reads k n (suc first) (op + 1) (past_read plan v number op w first (reads_from (suc first) (k + n)) more)))

  pub read_at : (first n op i : ℕ) → i < n → DueFrom plan v number op (reads_from first n) w → DueFrom plan v number (op + i) (reads (first + i) ∷ []) w
  read_at first n op i lt due =
      first_of plan v number (op + i) w (reads (first + i)) (reads_from (suc (first + i)) (n - suc i))
      (past_reads i (suc (n - suc i)) first op (subst (λ (z : ℕ). DueFrom plan v number op (reads_from first z) w) (let e : n ≡ i + suc (n - suc i) = omega arith in e) due))

pub reads_made : (n first : ℕ) (v : View) → made (reads_from first n) v ≡ v
reads_made zero first v = made_none v
reads_made (suc n) first v = sym (made_past_read first (reads_from (suc first) n) v) ∙ reads_made n (suc first) v

-- ---- writes of words, one after the other

split_fills : (value k n first : ℕ) → fills first value (k + n) ≡ fills first value k ++ fills (first + k) value n
split_fills value zero n first = ap (fills first value) (let e : 0 + n ≡ n = omega arith in e) ∙ ap (λ (z : ℕ). fills z value n) (let e : first ≡ first + 0 = omega arith in e)
split_fills value (suc k) n first = ap (fills first value) (let e : suc k + n ≡ suc (k + n) = omega arith in e)
    ∙ (ap (λ (z : List Shape). writes first (λ _. value) ∷ z) (split_fills value k n (suc first)) ∙ ap (λ (z : ℕ). fills first value (suc k) ++ fills z value n) (let e : suc first + k ≡ first + suc k = omega arith in e))

fills_length : (value k first : ℕ) → length (fills first value k) ≡ k
fills_length value zero first = refl
fills_length value (suc k) first = ap suc (fills_length value k (suc first))

pub fill_at : (plan : Planned) (v : View) (number op : ℕ) (m : Midst) (first value n i : ℕ) → i < n → IsDue plan v number op (fills first value n) m
    → (k : Midst) × IsDue plan (made (fills first value i) v) number (op + i) (writes (first + i) (λ _. value) ∷ []) k
fill_at plan v number op m first value n i lt due =
    let e : n ≡ i + suc (n - suc i) = omega arith in
    let all : IsDue plan v number op (fills first value i ++ (writes (first + i) (λ _. value) ∷ fills (suc (first + i)) value (n - suc i))) m
    = subst (λ (z : List Shape). IsDue plan v number op z m) (ap (fills first value) e ∙ split_fills value i (suc (n - suc i)) first) due in
    let rest : IsDue plan (made (fills first value i) v) number (op + i) (writes (first + i) (λ _. value) ∷ fills (suc (first + i)) value (n - suc i)) (record m { words = after_shapes m.words (fills first value i) })
    = subst (λ (z : ℕ). IsDue plan (made (fills first value i) v) number (op + z) (writes (first + i) (λ _. value) ∷ fills (suc (first + i)) value (n - suc i)) (record m { words = after_shapes m.words (fills first value i) })) (fills_length value i first)
    (due_rest plan v number op m (fills first value i) (writes (first + i) (λ _. value) ∷ fills (suc (first + i)) value (n - suc i)) all) in (
      record m { words = after_shapes m.words (fills first value i); rest = fills (suc (first + i)) value (n - suc i) ++ m.rest },
      due_first plan (made (fills first value i) v) number (op + i) (record m { words = after_shapes m.words (fills first value i) }) (writes (first + i) (λ _. value) ∷ []) (fills (suc (first + i)) value (n - suc i)) rest,
    )

pub fill_more : (first value i : ℕ) (v t u : View) → t ≡ made (fills first value i) v → u ≡ wrote t → u ≡ made (fills first value (i + 1)) v
fill_more first value i v t u was is = is ∙ (ap wrote was ∙ (sym (made_none (wrote (made (fills first value i) v))) ∙ (made_past_write (first + i) (λ _. value) [] (made (fills first value i) v)
    ∙ (made_both (fills first value i) (writes (first + i) (λ _. value) ∷ []) v ∙ ap (λ (z : List Shape). made z v) (sym (split_fills value i 1 first))))))

-- ---- a page gets a frame

module _ (plan : Planned) (v : View) (number op : ℕ) (f p filling : ℕ) (m : Midst) (due : IsDue plan v number op (place_shapes f p filling) m) where
  abbrev mark : ℕ → ℕ
  mark x = x + 2 ^ (f % 64)

  abbrev second : List Shape
  second = writes (directory_word p) (λ _. f + 1) ∷ fills (frame_word f) filling 256

  pub mark_due : DueFrom plan v number op (writes (map_word f) (λ x. x + 2 ^ (f % 64)) ∷ []) m.words
  mark_due = first_of plan v number op m.words (writes (map_word f) mark) second (m, due, refl)

  after_mark : DueFrom plan (wrote v) number (op + 1) second (put m.words (map_word f) (mark (m.words (map_word f))))
  after_mark = past_write plan v number op m.words (map_word f) mark second (m, due, refl)

  pub enter_due : (k : Midst) × IsDue plan (wrote v) number (op + 1) (writes (directory_word p) (λ _. f + 1) ∷ []) k
  enter_due =
      let d : DueFrom plan (wrote v) number (op + 1) (writes (directory_word p) (λ _. f + 1) ∷ []) (put m.words (map_word f) (mark (m.words (map_word f))))
      = first_of plan (wrote v) number (op + 1) (put m.words (map_word f) (mark (m.words (map_word f)))) (writes (directory_word p) (λ _. f + 1)) (fills (frame_word f) filling 256) after_mark in
      (d.0, d.1)

  pub fill_due : (k : Midst) × IsDue plan (wrote (wrote v)) number (op + 2) (fills (frame_word f) filling 256) k
  fill_due =
      let w : ℕ → ℕ = put m.words (map_word f) (mark (m.words (map_word f))) in
      let d : DueFrom plan (wrote (wrote v)) number (op + 1 + 1) (fills (frame_word f) filling 256) (put w (directory_word p) (f + 1))
      = past_write plan (wrote v) number (op + 1) w (directory_word p) (λ _. f + 1) (fills (frame_word f) filling 256) after_mark in
      (d.0, subst (λ (z : ℕ). IsDue plan (wrote (wrote v)) number z (fills (frame_word f) filling 256) d.0) (let e : op + 1 + 1 ≡ op + 2 = omega arith in e) d.1)

pub placed : (f p filling : ℕ) (v u : View) → u ≡ made (fills (frame_word f) filling 256) (wrote (wrote v)) → u ≡ made (place_shapes f p filling) v
placed f p filling v u is = is ∙ (made_past_write (directory_word p) (λ _. f + 1) (fills (frame_word f) filling 256) (wrote v)
    ∙ made_past_write (map_word f) (λ x. x + 2 ^ (f % 64)) (writes (directory_word p) (λ _. f + 1) ∷ fills (frame_word f) filling 256) v)

map_is : (w : ℕ → ℕ) (p filling : ℕ) → map_page filling w p ≡ reads_from 9 8 ++ place_shapes (lowest_free w) p filling
unfolding map_page
map_is w p filling = refl

module _ (plan : Planned) (v : View) (number op : ℕ) (p filling : ℕ) (m : Midst) (due : IsDue plan v number op (map_page filling m.words p) m) where
  both : IsDue plan v number op (reads_from 9 8 ++ place_shapes (lowest_free m.words) p filling) m
  both = subst (λ (z : List Shape). IsDue plan v number op z m) (map_is m.words p filling) due

  pub map_due : IsDue plan v number op (reads_from 9 8) (record m { rest = place_shapes (lowest_free m.words) p filling ++ m.rest })
  map_due = due_first plan v number op m (reads_from 9 8) (place_shapes (lowest_free m.words) p filling) both

  pub place_due : (f : ℕ) → f ≡ lowest_free m.words → IsDue plan v number (op + 8) (place_shapes f p filling) (record m { words = m.words })
  place_due f e = subst (λ (z : ℕ). IsDue plan v number (op + 8) (place_shapes z p filling) (record m { words = m.words })) (sym e)
      (subst (λ (z : View). IsDue plan z number (op + 8) (place_shapes (lowest_free m.words) p filling) (record m { words = m.words })) (reads_made 8 9 v)
      (due_rest plan v number op m (reads_from 9 8) (place_shapes (lowest_free m.words) p filling) both))

pub page_made : (w : ℕ → ℕ) (f p filling : ℕ) (v t u : View) → f ≡ lowest_free w → t ≡ v → u ≡ made (place_shapes f p filling) t → u ≡ made (map_page filling w p) v
page_made w f p filling v t u e same is = is ∙ (ap (λ (z : ℕ). made (place_shapes z p filling) t) e ∙ (ap (made (place_shapes (lowest_free w) p filling)) (same ∙ sym (reads_made 8 9 v))
    ∙ (made_both (reads_from 9 8) (place_shapes (lowest_free w) p filling) v ∙ ap (λ (z : List Shape). made z v) (sym (map_is w p filling)))))

-- ---- the frame that is found

some_same : (a b : ℕ) → Some a ≡ Some b → a ≡ b
some_same a b e = cc

none_some : (P : Type 0) (a : ℕ) → None ≡ Some a → P
none_some P a e = absurd (cc)

-- a frame that is found is the lowest free one
pub frame_is : (f frame : ℕ) (found : Option ℕ) → found ≡ frame_or_none f → found ≡ Some frame → frame ≡ f
frame_is f frame found is some = by (nat_lt f 512) (sym is ∙ some)
  where
    by : (b : Bool) → (if b then Some f else None) ≡ Some frame → frame ≡ f
    by true e = some_same frame f (sym e)
    by false e = none_some (frame ≡ f) frame e

-- and one is found, where there is one
pub no_frame : (P : Type 0) (f : ℕ) (found : Option ℕ) → f < 512 → found ≡ frame_or_none f → found ≡ None → P
no_frame P f found lt is none = by (nat_lt f 512) (lt-ltb f 512 lt) (sym is ∙ none)
  where
    by : (b : Bool) → b ≡ true → (if b then Some f else None) ≡ None → P
    by true t e = none_some P f (sym e)
    by false t e = absurd (cc)

-- ---- the frame of a page is freed

freed_is : (w : ℕ → ℕ) (p f : ℕ) → f ≡ w (directory_word p) - 1 → unmap_page w p ≡ reads (directory_word p) ∷ reads (map_word f) ∷ writes (map_word f) (λ x. x - 2 ^ (f % 64)) ∷ writes (directory_word p) (λ _. 0) ∷ []
unfolding unmap_page
freed_is w p f e = ap (λ (z : ℕ). reads (directory_word p) ∷ reads (map_word z) ∷ writes (map_word z) (λ x. x - 2 ^ (z % 64)) ∷ writes (directory_word p) (λ _. 0) ∷ []) (sym e)

module _ (plan : Planned) (v : View) (number op : ℕ) (p : ℕ) (m : Midst) (due : IsDue plan v number op (unmap_page m.words p) m) where
  abbrev g : ℕ
  g = m.words (directory_word p) - 1

  abbrev writes_two : List Shape
  writes_two = writes (map_word g) (λ x. x - 2 ^ (g % 64)) ∷ writes (directory_word p) (λ _. 0) ∷ []

  four : DueFrom plan v number op (reads (directory_word p) ∷ reads (map_word g) ∷ writes_two) m.words
  four = like plan v number op m.words (unmap_page m.words p) (reads (directory_word p) ∷ reads (map_word g) ∷ writes_two) (freed_is m.words p g refl) (m, due, refl)

  pub look_due : DueFrom plan v number op (reads (directory_word p) ∷ []) m.words
  look_due = first_of plan v number op m.words (reads (directory_word p)) (reads (map_word g) ∷ writes_two) four

  pub look_found : (x : ℕ) → ((n : Midst) → IsDue plan v number op (reads (directory_word p) ∷ []) n → x ≡ n.words (directory_word p)) → x ≡ m.words (directory_word p)
  look_found x is = is look_due.0 look_due.1 ∙ ap (λ (z : ℕ → ℕ). z (directory_word p)) look_due.2

  three : DueFrom plan v number (op + 1) (reads (map_word g) ∷ writes_two) m.words
  three = past_read plan v number op m.words (directory_word p) (reads (map_word g) ∷ writes_two) four

  module _ (f : ℕ) (is_f : f ≡ g) where
    three_f : DueFrom plan v number (op + 1) (reads (map_word f) ∷ writes (map_word f) (λ x. x - 2 ^ (f % 64)) ∷ writes (directory_word p) (λ _. 0) ∷ []) m.words
    three_f = subst (λ (z : ℕ). DueFrom plan v number (op + 1) (reads (map_word z) ∷ writes (map_word z) (λ x. x - 2 ^ (z % 64)) ∷ writes (directory_word p) (λ _. 0) ∷ []) m.words) (sym is_f) three

    pub bits_due : DueFrom plan v number (op + 1) (reads (map_word f) ∷ []) m.words
    bits_due = first_of plan v number (op + 1) m.words (reads (map_word f)) (writes (map_word f) (λ x. x - 2 ^ (f % 64)) ∷ writes (directory_word p) (λ _. 0) ∷ []) three_f

    pub bits_found : (x : ℕ) → ((n : Midst) → IsDue plan v number (op + 1) (reads (map_word f) ∷ []) n → x ≡ n.words (map_word f)) → x ≡ m.words (map_word f)
    bits_found x is = is bits_due.0 bits_due.1 ∙ ap (λ (z : ℕ → ℕ). z (map_word f)) bits_due.2

    two : DueFrom plan v number (op + 2) (writes (map_word f) (λ x. x - 2 ^ (f % 64)) ∷ writes (directory_word p) (λ _. 0) ∷ []) m.words
    two = subst (λ (z : ℕ). DueFrom plan v number z (writes (map_word f) (λ x. x - 2 ^ (f % 64)) ∷ writes (directory_word p) (λ _. 0) ∷ []) m.words) (let e : op + 1 + 1 ≡ op + 2 = omega arith in e)
        (past_read plan v number (op + 1) m.words (map_word f) (writes (map_word f) (λ x. x - 2 ^ (f % 64)) ∷ writes (directory_word p) (λ _. 0) ∷ []) three_f)

    pub free_due : DueFrom plan v number (op + 2) (writes (map_word f) (λ x. x - 2 ^ (f % 64)) ∷ []) m.words
    free_due = first_of plan v number (op + 2) m.words (writes (map_word f) (λ x. x - 2 ^ (f % 64))) (writes (directory_word p) (λ _. 0) ∷ []) two

    pub clear_due : (k : Midst) × IsDue plan (wrote v) number (op + 3) (writes (directory_word p) (λ _. 0) ∷ []) k
    clear_due =
        let d = past_write plan v number (op + 2) m.words (map_word f) (λ x. x - 2 ^ (f % 64)) (writes (directory_word p) (λ _. 0) ∷ []) two in
        (d.0, subst (λ (z : ℕ). IsDue plan (wrote v) number z (writes (directory_word p) (λ _. 0) ∷ []) d.0) (let e : op + 2 + 1 ≡ op + 3 = omega arith in e) d.1)

pub freed_made : (w : ℕ → ℕ) (p : ℕ) (v u : View) → u ≡ wrote (wrote v) → u ≡ made (unmap_page w p) v
freed_made w p v u is =
    let f : ℕ = w (directory_word p) - 1 in
    is ∙ (sym (made_none (wrote (wrote v))) ∙ (made_past_write (directory_word p) (λ _. 0) [] (wrote v) ∙ (made_past_write (map_word f) (λ x. x - 2 ^ (f % 64)) (writes (directory_word p) (λ _. 0) ∷ []) v
    ∙ (made_past_read (map_word f) (writes (map_word f) (λ x. x - 2 ^ (f % 64)) ∷ writes (directory_word p) (λ _. 0) ∷ []) v
    ∙ (made_past_read (directory_word p) (reads (map_word f) ∷ writes (map_word f) (λ x. x - 2 ^ (f % 64)) ∷ writes (directory_word p) (λ _. 0) ∷ []) v
    ∙ ap (λ (z : List Shape). made z v) (sym (freed_is w p f refl)))))))
