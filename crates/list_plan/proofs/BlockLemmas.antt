-- Words whose nibbles are changed.
use Rattle.std.proofs.Common.{◌≡◌, ◌≢◌, ℕ, zero, suc, ◌*◌, ◌/◌, ◌%◌, ◌^◌, ◌<◌, ◌≤◌, Bool, true, false, eqb, List, [], ◌∷◌, ◌++◌, sym, ap, ◌∙◌, subst, arith, eq-eqb, if◌then◌else◌}
use Rattle.std.proofs.lemmas.Bool.{ne_eqb}
use Rattle.std.proofs.Math.Nat.{div-eq_of_lt, pow-le-pow_right, pow-suc}
use Rattle.order_core.specs.Shapes.{Shape}
use Rattle.shadow_frames.specs.Words.{nibble_of, shadow_word}
use Rattle.shadow_frames.specs.Frames.{reads, reads_lanes, writes, writes_lanes}
use Rattle.shadow_layout.specs.Operations.{block_directory, block_word, change_block, changed_word, in_block, lanes_of, load_shapes, not_addr, not_taint, on_block, only, read_block, remade, store_shapes}
use Rattle.shadow_layout.proofs.NibbleLemmas.{changed_nibble}
use Rattle.lifeguard.specs.Rules.{Rules}
use Rattle.lifeguard.specs.Plain.{mask_bit}
use Rattle.list_plan.specs.declared.filler.Filler.{Filler}
use Rattle.list_plan.specs.inner.Fills.{Fills, words_of}
use Rattle.list_plan.specs.inner.Tables.{HasNibbles}
use Rattle.list_plan.proofs.FillLemmas.{none_fills, then_fills}

same_nibbles : (n x y : ℕ) → x < 16 ^ n → y < 16 ^ n → ((i : ℕ) → i < n → nibble_of x i ≡ nibble_of y i) → x ≡ y
same_nibbles zero x y a b same = omega arith
same_nibbles (suc n) x y a b same =
    let e : 16 ^ suc n ≡ 16 ^ n * 16 = pow-suc 16 n in
    let low : x % 16 ≡ y % 16 = same 0 (omega arith) in
    let high : x / 16 ≡ y / 16 = same_nibbles n (x / 16) (y / 16) (omega arith) (omega arith) (λ i lt. same (suc i) (omega arith)) in
    omega arith

remade_below : (g : ℕ → ℕ → ℕ) (i n x : ℕ) → remade g i n x < 16 ^ n
remade_below g i zero x = omega arith
remade_below g i (suc n) x =
    let l : remade g (suc i) n (x / 16) < 16 ^ n = remade_below g (suc i) n (x / 16) in
    let e : 16 ^ suc n ≡ 16 ^ n * 16 = pow-suc 16 n in
    let m : g i (x % 16) % 16 < 16 = omega arith in
    omega arith

pub word_below : (f : ℕ → ℕ → ℕ) (addr len block x : ℕ) → changed_word f addr len block x < 2 ^ 64
unfolding changed_word
word_below f addr len block x = remade_below (in_block f addr len block) 0 16 x

-- a word with these nibbles is the changed word
pub changed_is : (f : ℕ → ℕ → ℕ) (addr len block x y : ℕ) → y < 2 ^ 64 → HasNibbles y → ((k : ℕ) → k < 16 → nibble_of y k ≡ in_block f addr len block k (nibble_of x k)) → y ≡ changed_word f addr len block x
changed_is f addr len block x y wide small each = same_nibbles 16 y (changed_word f addr len block x) wide (word_below f addr len block x) (λ k lt.
    let l : nibble_of y k < 8 = small k lt in
    let m : nibble_of y k % 16 ≡ nibble_of y k = omega arith in
    sym m ∙ (ap (λ (z : ℕ). z % 16) (each k lt) ∙ sym (changed_nibble f addr len block x k lt)))

-- ---- a block's operations

zero_test : (n : ℕ) → n ≡ 0 → eqb n 0 ≡ true
zero_test n e = eq-eqb n 0 e

some_test : (n : ℕ) → n ≢ 0 → eqb n 0 ≡ false
some_test n e = ne_eqb n 0 e

-- no page is mapped there
pub off_page : (w : ℕ → ℕ) (block : ℕ) (ss : List Shape) → w (block_directory block) ≡ 0 → on_block w block ss ≡ reads (block_directory block) ∷ []
off_page w block ss none = ap (λ (b : Bool). reads (block_directory block) ∷ (if b then [] else ss)) (zero_test (w (block_directory block)) none)

-- a page is
pub on_page : (w : ℕ → ℕ) (block : ℕ) (ss : List Shape) → w (block_directory block) ≢ 0 → on_block w block ss ≡ reads (block_directory block) ∷ ss
on_page w block ss some = ap (λ (b : Bool). reads (block_directory block) ∷ (if b then [] else ss)) (some_test (w (block_directory block)) some)

-- the directory's word is read, and then what is on the block
pub then_on : (a b c : Filler) (block : ℕ) (ss : List Shape) → words_of a (block_directory block) ≢ 0 → Fills a b (reads (block_directory block) ∷ []) → Fills b c ss → Fills a c (on_block (words_of a) block ss)
then_on a b c block ss some x y = subst (Fills a c) (sym (on_page (words_of a) block ss some)) (then_fills a b c (reads (block_directory block) ∷ []) ss x y)

pub then_off : (a b : Filler) (block : ℕ) (ss : List Shape) → words_of a (block_directory block) ≡ 0 → Fills a b (reads (block_directory block) ∷ []) → Fills a b (on_block (words_of a) block ss)
then_off a b block ss none x = subst (Fills a b) (sym (off_page (words_of a) block ss none)) x

module _ (a b : Filler) (block : ℕ) (directory : ℕ) (is : directory ≡ words_of a (block_directory block)) (x : Fills a b (reads (block_directory block) ∷ [])) where
  nonzero : directory ≢ 0 → words_of a (block_directory block) ≢ 0
  nonzero some e = some (is ∙ e)

  zeroed : directory ≡ 0 → words_of a (block_directory block) ≡ 0
  zeroed none = sym is ∙ none

  -- the shadow word of the block
  word_is : (word : ℕ) → word ≡ shadow_word directory (16 * block) → word ≡ block_word (words_of a) block
  word_is word e = e ∙ ap (λ (d : ℕ). shadow_word d (16 * block)) is

  pub reads_none : directory ≡ 0 → Fills a b (read_block (words_of a) block)
  unfolding read_block
  reads_none none = then_off a b block (reads (block_word (words_of a) block) ∷ []) (zeroed none) x

  pub reads_some : directory ≢ 0 → (word : ℕ) → word ≡ shadow_word directory (16 * block) → (c : Filler) → Fills b c (reads word ∷ []) → Fills a c (read_block (words_of a) block)
  unfolding read_block
  reads_some some word e c y = then_on a b c block (reads (block_word (words_of a) block) ∷ []) (nonzero some) x (subst (λ (n : ℕ). Fills b c (reads n ∷ [])) (word_is word e) y)

  module _ (f : ℕ → ℕ → ℕ) (addr len : ℕ) where
    pub changes_none : directory ≡ 0 → Fills a b (change_block f addr len (words_of a) block)
    unfolding change_block
    changes_none none = then_off a b block (reads (block_word (words_of a) block) ∷ writes (block_word (words_of a) block) (changed_word f addr len block) ∷ []) (zeroed none) x

    pub changes_some : directory ≢ 0 → (word : ℕ) → word ≡ shadow_word directory (16 * block) → (c d : Filler) → Fills b c (reads word ∷ []) → Fills c d (writes word (changed_word f addr len block) ∷ []) → Fills a d (change_block f addr len (words_of a) block)
    unfolding change_block
    changes_some some word e c d y z =
        then_on a b d block (reads (block_word (words_of a) block) ∷ writes (block_word (words_of a) block) (changed_word f addr len block) ∷ []) (nonzero some) x
        (subst (λ (n : ℕ). Fills b d (reads n ∷ writes n (changed_word f addr len block) ∷ [])) (word_is word e)
        (then_fills b c d (reads word ∷ []) (writes word (changed_word f addr len block) ∷ []) y z))

module _ (rules : Rules) (size addr : ℕ) (a b : Filler) (directory : ℕ) (is : directory ≡ words_of a (block_directory (addr / 16))) (x : Fills a b (reads (block_directory (addr / 16)) ∷ [])) where
  pub loads_none : directory ≡ 0 → Fills a b (load_shapes rules size (words_of a) addr)
  unfolding load_shapes
  loads_none none = then_off a b (addr / 16) _ (sym is ∙ none) x

  pub stores_none : (len mask : ℕ) → directory ≡ 0 → Fills a b (store_shapes rules size (words_of a) addr len mask)
  unfolding store_shapes
  stores_none len mask none = then_off a b (addr / 16) _ (sym is ∙ none) x

  module _ (some : directory ≢ 0) (word : ℕ) (e : word ≡ shadow_word directory (16 * (addr / 16))) (lanes : ℕ) (l : lanes ≡ lanes_of size addr) (t v : Bool) (s : t ≡ not_taint rules.name) (u : v ≡ not_addr rules.name) (c : Filler)
      (y : Fills b c (only t (reads_lanes true lanes word ∷ []))) where
    here : word ≡ block_word (words_of a) (addr / 16)
    here = e ∙ ap (λ (d : ℕ). shadow_word d (16 * (addr / 16))) is

    checked : Fills b c (only (not_taint rules.name) (reads_lanes true (lanes_of size addr) (block_word (words_of a) (addr / 16)) ∷ []))
    checked = subst (λ (z : Bool × ℕ × ℕ). Fills b c (only z.0 (reads_lanes true z.1 z.2 ∷ []))) (λ i. (s i, l i, here i)) y

    pub loads_some : (d : Filler) → Fills c d (only v (reads_lanes false lanes word ∷ [])) → Fills a d (load_shapes rules size (words_of a) addr)
    unfolding load_shapes
    loads_some d z = then_on a b d (addr / 16)
        (only (not_taint rules.name) (reads_lanes true (lanes_of size addr) (block_word (words_of a) (addr / 16)) ∷ [])
        ++ only (not_addr rules.name) (reads_lanes false (lanes_of size addr) (block_word (words_of a) (addr / 16)) ∷ []))
        (λ n. some (is ∙ n)) x
        (then_fills b c d (only (not_taint rules.name) (reads_lanes true (lanes_of size addr) (block_word (words_of a) (addr / 16)) ∷ []))
        (only (not_addr rules.name) (reads_lanes false (lanes_of size addr) (block_word (words_of a) (addr / 16)) ∷ []))
        checked (subst (λ (z : Bool × ℕ × ℕ). Fills c d (only z.0 (reads_lanes false z.1 z.2 ∷ []))) (λ i. (u i, l i, here i)) z))

    module _ (len mask : ℕ) where
      with_value : (d : Filler) → Fills c d (only (not_addr rules.name) (reads_lanes false (lanes_of size addr) (block_word (words_of a) (addr / 16)) ∷ writes_lanes (lanes_of size addr) (block_word (words_of a) (addr / 16)) (changed_word (λ (i old : ℕ). rules.store_nibble old (mask_bit mask i)) addr len (addr / 16)) ∷ []))
          → Fills a d (store_shapes rules size (words_of a) addr len mask)
      unfolding store_shapes
      with_value d z = then_on a b d (addr / 16)
          (only (not_taint rules.name) (reads_lanes true (lanes_of size addr) (block_word (words_of a) (addr / 16)) ∷ [])
          ++ only (not_addr rules.name) (reads_lanes false (lanes_of size addr) (block_word (words_of a) (addr / 16)) ∷ writes_lanes (lanes_of size addr) (block_word (words_of a) (addr / 16)) (changed_word (λ (i old : ℕ). rules.store_nibble old (mask_bit mask i)) addr len (addr / 16)) ∷ []))
          (λ n. some (is ∙ n)) x
          (then_fills b c d (only (not_taint rules.name) (reads_lanes true (lanes_of size addr) (block_word (words_of a) (addr / 16)) ∷ [])) _ checked z)

      pub stores_unfollowed : v ≡ false → Fills a c (store_shapes rules size (words_of a) addr len mask)
      stores_unfollowed off = with_value c (subst (λ (w : Bool). Fills c c (only w (reads_lanes false (lanes_of size addr) (block_word (words_of a) (addr / 16)) ∷ writes_lanes (lanes_of size addr) (block_word (words_of a) (addr / 16)) (changed_word (λ (i old : ℕ). rules.store_nibble old (mask_bit mask i)) addr len (addr / 16)) ∷ []))) (sym off ∙ u) (none_fills c))

      pub stores_followed : v ≡ true → (d g : Filler) → Fills c d (reads_lanes false lanes word ∷ []) → Fills d g (writes_lanes lanes word (changed_word (λ (i old : ℕ). rules.store_nibble old (mask_bit mask i)) addr len (addr / 16)) ∷ []) → Fills a g (store_shapes rules size (words_of a) addr len mask)
      stores_followed on d g z q = with_value g (subst (λ (w : Bool × ℕ × ℕ). Fills c g (only w.0 (reads_lanes false w.1 w.2 ∷ writes_lanes w.1 w.2 (changed_word (λ (i old : ℕ). rules.store_nibble old (mask_bit mask i)) addr len (addr / 16)) ∷ []))) (λ i. ((sym on ∙ u) i, l i, here i))
          (then_fills c d g (reads_lanes false lanes word ∷ []) (writes_lanes lanes word (changed_word (λ (i old : ℕ). rules.store_nibble old (mask_bit mask i)) addr len (addr / 16)) ∷ []) z q))

-- a mask of eight bits has no higher one
pub high_bit : (mask i : ℕ) → mask < 256 → 8 ≤ i → mask_bit mask i ≡ false
high_bit mask i small le =
    let p : 2 ^ 8 ≤ 2 ^ i = pow-le-pow_right {n = 2} (omega arith) le in
    let z : mask / 2 ^ i ≡ 0 = div-eq_of_lt (omega arith) in
    ap (λ (n : ℕ). eqb (n % 2) 1) z
