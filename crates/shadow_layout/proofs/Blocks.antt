-- A range is changed block by block.
use Rattle.std.proofs.Common.{◌≡◌, ◌≢◌, ℕ, zero, suc, ◌+◌, ◌*◌, ◌-◌, ◌/◌, ◌%◌, ◌^◌, ◌<◌, ◌≤◌, Bool, true, false, eqb, [], ◌∷◌, length, Some, None, refl, sym, ap, ◌∙◌, subst, arith, eq-eqb, ne_eqb, if◌then◌else◌}
use Rattle.std.specs.Prelude.{option_map}
use mathlib.Core.Logic.{dite}
use native.Mathlib.Decide.{ℕ_discrete, dec_le}
use Rattle.lifeguard.specs.State.{Bytes, is_in, changed}
use Rattle.order_core.specs.Core.{put}
use Rattle.order_core.specs.Shapes.{after_shapes}
use Rattle.order_core.specs.Shapes.{AreSoundShapes}
use Rattle.shadow_frames.specs.Words.{WordsRepresent, bit, is_used, nibble_of, shadow_word, byte_in, byte_of}
use Rattle.shadow_frames.specs.Frames.{pages_from}
use Rattle.shadow_frames.proofs.Mapping.{put_here, put_else}
use Rattle.shadow_frames.proofs.Many.{kept, all_sound, pages_length}
use Rattle.shadow_frames.proofs.Sound.{read_sound, write_sound}
use Rattle.shadow_frames.proofs.Ranges.{in_span, off_span}
use Rattle.lifeguard.specs.Ranges.{AreNibbles}
use Rattle.shadow_frames.specs.Frames.{reads_lanes, writes_lanes}
use Rattle.shadow_layout.specs.Operations.{in_block, changed_word, block_directory, block_word, change_block, read_block}
use Rattle.shadow_layout.proofs.NibbleLemmas.{changed_nibble}

-- words that differ from 4113 on alone
pub represents_low : (w v : ℕ → ℕ) (bytes d : Bytes) → WordsRepresent w bytes → ((u : ℕ) → u < 4113 → v u ≡ w u) → ((a : ℕ) → a < 2 ^ 24 → d a ≡ byte_of v a) → WordsRepresent v d
represents_low w v bytes d st same are = record {
  same = are;
  low = λ p lt. (let e : v (17 + p) ≡ w (17 + p) = same (17 + p) (omega arith) in let l : w (17 + p) ≤ 512 = st.low p lt in omega arith);
  apart = λ p q lp lq some e. st.apart p q lp lq (λ z. some (same (17 + p) (omega arith) ∙ z)) (sym (same (17 + p) (omega arith)) ∙ (e ∙ same (17 + q) (omega arith)));
  used = λ f lt is. (let t = st.used f lt (sym (used_same f lt) ∙ is) in let l : t.0 < 4096 = t.1 in (t.0, t.1, same (17 + t.0) (omega arith) ∙ t.2));
  marked = λ p f lt is. (let e : w (17 + p) ≡ f + 1 = sym (same (17 + p) (omega arith)) ∙ is in let l : w (17 + p) ≤ 512 = st.low p lt in used_same f (omega arith) ∙ st.marked p f lt e);
}
  where
    used_same : (f : ℕ) → f < 512 → is_used v f ≡ is_used w f
    used_same f lt = ap (λ (x : ℕ). bit x (f % 64)) (same (9 + f / 64) (let d : f / 64 < 8 = omega arith in omega arith))

-- one shadow word is written
module _ (w : ℕ → ℕ) (bytes : Bytes) (st : WordsRepresent w bytes) (b x : ℕ) (low : b < 2 ^ 20) (some : w (block_directory b) ≢ 0) where
  abbrev next : ℕ → ℕ
  next = put w (block_word w b) x

  page_low : b / 256 < 4096
  page_low = omega arith

  table_same : (u : ℕ) → u < 4113 → next u ≡ w u
  table_same u lt = put_else w (block_word w b) u x (λ e. omega arith)

  own_byte : (a : ℕ) → a / 16 ≡ b → byte_of next a ≡ Some (nibble_of x (a % 16))
  own_byte a own =
      let page : a / 4096 ≡ b / 256 = omega arith in
      let word : a % 4096 / 16 ≡ 16 * b % 4096 / 16 = omega arith in
      ap (byte_in next a) (table_same (17 + a / 4096) (let l : b / 256 < 4096 = page_low in omega arith) ∙ ap (λ (p : ℕ). w (17 + p)) page) ∙ by (w (block_directory b)) refl word
    where
      by : (d : ℕ) → w (block_directory b) ≡ d → a % 4096 / 16 ≡ 16 * b % 4096 / 16 → byte_in next a d ≡ Some (nibble_of x (a % 16))
      by zero e word = absurd (some e)
      by (suc d) e word =
          let here : shadow_word (suc d) a ≡ block_word w b = (λ i. 4113 + 256 * (sym e i - 1) + word i) in
          ap (λ (z : ℕ). Some (nibble_of z (a % 16))) (ap next here ∙ put_here w (block_word w b) x)

  other_byte : (a : ℕ) → a < 2 ^ 24 → a / 16 ≢ b → byte_of next a ≡ byte_of w a
  other_byte a lt other = ap (byte_in next a) (table_same (17 + a / 4096) (omega arith)) ∙ by (w (17 + a / 4096)) refl
    where
      by : (d : ℕ) → w (17 + a / 4096) ≡ d → byte_in next a d ≡ byte_in w a d
      by zero e = refl
      by (suc d) e = ap (λ (v : ℕ). Some (nibble_of v (a % 16))) (put_else w (block_word w b) (shadow_word (suc d) a) x elsewhere)
        where
          elsewhere : shadow_word (suc d) a ≢ block_word w b
          elsewhere s =
              let frames : suc d ≡ w (block_directory b) = same_frame d (w (block_directory b)) (a % 4096 / 16) (16 * b % 4096 / 16) some (omega arith) (omega arith) s in
              let page : a / 4096 ≡ b / 256 = st.apart (a / 4096) (b / 256) (omega arith) page_low (λ z. no_suc d (sym e ∙ z)) (e ∙ frames) in
              let word : a % 4096 / 16 ≡ 16 * b % 4096 / 16 = same_word d (w (block_directory b)) (a % 4096 / 16) (16 * b % 4096 / 16) frames s in
              other (omega arith)
            where
              same_frame : (d e k l : ℕ) → e ≢ 0 → k < 256 → l < 256 → 4113 + 256 * (suc d - 1) + k ≡ 4113 + 256 * (e - 1) + l → suc d ≡ e
              same_frame d e k l ne x y s = omega arith

              same_word : (d e k l : ℕ) → suc d ≡ e → 4113 + 256 * (suc d - 1) + k ≡ 4113 + 256 * (e - 1) + l → k ≡ l
              same_word d e k l f s = omega arith

              no_suc : (d : ℕ) → suc d ≡ 0 → ⊥
              no_suc d s = omega arith

no_rest : (v : ℕ) → v < 16 → v % 16 ≡ v
no_rest v lt = omega arith

not_zero : (d : ℕ) → eqb d 0 ≡ false → d ≢ 0
not_zero d e z = let t : eqb d 0 ≡ true = eq-eqb d 0 z in cc

pub changed_in : (f : ℕ → ℕ → ℕ) (addr len : ℕ) (bytes : Bytes) (a n : ℕ) → bytes a ≡ Some n → changed f addr len bytes a ≡ Some (if is_in addr len a then f (a - addr) n else n)
unfolding changed
changed_in f addr len bytes a n e = by (is_in addr len a)
  where
    by : (c : Bool) → (if c then option_map (f (a - addr)) (bytes a) else bytes a) ≡ Some (if c then f (a - addr) n else n)
    by true = ap (option_map (f (a - addr))) e
    by false = e

pub changed_none : (f : ℕ → ℕ → ℕ) (addr len : ℕ) (bytes : Bytes) (a : ℕ) → bytes a ≡ None → changed f addr len bytes a ≡ None
unfolding changed
changed_none f addr len bytes a e = by (is_in addr len a)
  where
    by : (c : Bool) → (if c then option_map (f (a - addr)) (bytes a) else bytes a) ≡ None
    by true = ap (option_map (f (a - addr))) e
    by false = e

pub changed_out : (f : ℕ → ℕ → ℕ) (addr len : ℕ) (bytes : Bytes) (a : ℕ) → is_in addr len a ≡ false → changed f addr len bytes a ≡ bytes a
unfolding changed
changed_out f addr len bytes a e = ap (λ (c : Bool). if c then option_map (f (a - addr)) (bytes a) else bytes a) e

module _ (f : ℕ → ℕ → ℕ) (addr len : ℕ) (bytes : Bytes) (first : ℕ) where
  -- so many blocks are done
  unfoldable pub done_up_to : ℕ → Bytes
  done_up_to k a = if is_in first k (a / 16) then changed f addr len bytes a else bytes a

  is_done : (k a : ℕ) → is_in first k (a / 16) ≡ true → done_up_to k a ≡ changed f addr len bytes a
  unfolding done_up_to
  is_done k a e = ap (λ (c : Bool). if c then changed f addr len bytes a else bytes a) e

  not_done : (k a : ℕ) → is_in first k (a / 16) ≡ false → done_up_to k a ≡ bytes a
  unfolding done_up_to
  not_done k a e = ap (λ (c : Bool). if c then changed f addr len bytes a else bytes a) e

  -- a byte of another block
  still : (k a : ℕ) → a / 16 ≢ first + k → done_up_to (k + 1) a ≡ done_up_to k a
  unfolding done_up_to
  still k a ne = ap (λ (c : Bool). if c then changed f addr len bytes a else bytes a) (same_span k (a / 16) ne)
    where
      same_span : (k u : ℕ) → u ≢ first + k → is_in first (k + 1) u ≡ is_in first k u
      same_span k u ne = dite (dec_le first u)
          (λ l. dite (dec_le (first + k) u)
          (λ g. off_span first (k + 1) u (λ p q. omega arith) ∙ sym (off_span first k u (λ p q. omega arith)))
          (λ g. in_span first (k + 1) u l (omega arith) ∙ sym (in_span first k u l (omega arith))))
          (λ l. off_span first (k + 1) u (λ p q. l p) ∙ sym (off_span first k u (λ p q. l p)))

  module _ (fits : (i old : ℕ) → old < 8 → f i old < 8) (small : AreNibbles bytes) (w : ℕ → ℕ) (k : ℕ) (st : WordsRepresent w (done_up_to k)) (low : first + k < 2 ^ 20) where
    abbrev b : ℕ
    b = first + k

    abbrev s : ℕ
    s = block_word w b

    abbrev x : ℕ
    x = changed_word f addr len b (w s)

    now : (a : ℕ) → a / 16 ≡ b → done_up_to (k + 1) a ≡ changed f addr len bytes a
    now a own = is_done (k + 1) a (in_span first (k + 1) (a / 16) (omega arith) (omega arith))

    was : (a : ℕ) → a / 16 ≡ b → done_up_to k a ≡ bytes a
    was a own = not_done k a (off_span first k (a / 16) (λ p q. omega arith))

    in_memory : (a : ℕ) → a / 16 ≡ b → a < 2 ^ 24
    in_memory a own = omega arith

    unmapped : w (block_directory b) ≡ 0 → WordsRepresent w (done_up_to (k + 1))
    unmapped none = represents_low w w (done_up_to k) (done_up_to (k + 1)) st (λ u l. refl) (λ a lt. dite (ℕ_discrete (a / 16) b)
        (λ e. (let page : a / 4096 ≡ b / 256 = omega arith in
        let gone : byte_of w a ≡ None = ap (byte_in w a) (ap (λ (p : ℕ). w (17 + p)) page ∙ none) in
        now a e ∙ (changed_none f addr len bytes a (sym (was a e) ∙ (st.same a lt ∙ gone)) ∙ sym gone)))
        (λ ne. still k a ne ∙ st.same a lt))

    module _ (some : w (block_directory b) ≢ 0) where
      -- the old nibble_of of a byte of the block
      old_byte : (a : ℕ) → a / 16 ≡ b → bytes a ≡ Some (nibble_of (w s) (a % 16))
      old_byte a own =
          let page : a / 4096 ≡ b / 256 = omega arith in
          let word : a % 4096 / 16 ≡ 16 * b % 4096 / 16 = omega arith in
          sym (was a own) ∙ (st.same a (in_memory a own) ∙ (ap (byte_in w a) (ap (λ (p : ℕ). w (17 + p)) page) ∙ by (w (block_directory b)) refl word))
        where
          by : (d : ℕ) → w (block_directory b) ≡ d → a % 4096 / 16 ≡ 16 * b % 4096 / 16 → byte_in w a d ≡ Some (nibble_of (w s) (a % 16))
          by zero e word = absurd (some e)
          by (suc d) e word =
              let here : shadow_word (suc d) a ≡ s = (λ i. 4113 + 256 * (sym e i - 1) + word i) in
              ap (λ (z : ℕ). Some (nibble_of (w z) (a % 16))) here

      old_small : (j : ℕ) → j < 16 → nibble_of (w s) j < 8
      old_small j lt =
          let own : (16 * b + j) / 16 ≡ b = omega arith in
          let rest : (16 * b + j) % 16 ≡ j = omega arith in
          small (16 * b + j) (nibble_of (w s) j) (old_byte (16 * b + j) own ∙ ap (λ (z : ℕ). Some (nibble_of (w s) z)) rest)

      all_fit : (j : ℕ) → j < 16 → in_block f addr len b j (nibble_of (w s) j) < 16
      all_fit j lt = by (is_in addr len (16 * b + j))
        where
          by : (c : Bool) → (if c then f (16 * b + j - addr) (nibble_of (w s) j) else nibble_of (w s) j) < 16
          by true = let l : f (16 * b + j - addr) (nibble_of (w s) j) < 8 = fits (16 * b + j - addr) (nibble_of (w s) j) (old_small j lt) in omega arith
          by false = let l : nibble_of (w s) j < 8 = old_small j lt in omega arith

      new_byte : (a : ℕ) → a / 16 ≡ b → changed f addr len bytes a ≡ Some (nibble_of x (a % 16))
      new_byte a own =
          let i : ℕ = a % 16 in
          let place : 16 * b + a % 16 ≡ a = omega arith in
          changed_in f addr len bytes a (nibble_of (w s) (a % 16)) (old_byte a own)
          ∙ ap Some (ap (λ (z : ℕ). if is_in addr len z then f (z - addr) (nibble_of (w s) (a % 16)) else nibble_of (w s) (a % 16)) (sym place)
          ∙ sym (changed_nibble f addr len b (w s) (a % 16) (omega arith) ∙ no_rest (in_block f addr len b (a % 16) (nibble_of (w s) (a % 16))) (all_fit (a % 16) (omega arith))))

      pub written : WordsRepresent (put w s x) (done_up_to (k + 1))
      written = represents_low w (put w s x) (done_up_to k) (done_up_to (k + 1)) st (table_same w (done_up_to k) st b x low some) (λ a lt. dite (ℕ_discrete (a / 16) b)
          (λ e. now a e ∙ (new_byte a e ∙ sym (own_byte w (done_up_to k) st b x low some a e)))
          (λ ne. still k a ne ∙ (st.same a lt ∙ sym (other_byte w (done_up_to k) st b x low some a lt ne))))

    -- the block's operations
    pub one_block : WordsRepresent (after_shapes w (change_block f addr len w b)) (done_up_to (k + 1))
    unfolding change_block
    one_block = by (eqb (w (block_directory b)) 0) refl
      where
        by : (c : Bool) → eqb (w (block_directory b)) 0 ≡ c → WordsRepresent (after_shapes w (reads_lanes false 15 (block_directory b) ∷ (if c then [] else (reads_lanes false 15 s ∷ writes_lanes 15 s (changed_word f addr len b) ∷ [])))) (done_up_to (k + 1))
        by true e = unmapped (dite (ℕ_discrete (w (block_directory b)) 0) (λ z. z) (λ n. absurd (let g : eqb (w (block_directory b)) 0 ≡ false = ne_eqb (w (block_directory b)) 0 n in no_both (eqb (w (block_directory b)) 0) e g)))
          where
            no_both : (c : Bool) → c ≡ true → c ≡ false → ⊥
            no_both c t f = cc
        by false e = written (λ z. no_both (eqb (w (block_directory b)) 0) (eq-eqb (w (block_directory b)) 0 z) e)
          where
            no_both : (c : Bool) → c ≡ true → c ≡ false → ⊥
            no_both c t f = cc

    -- its words
    pub one_sound : AreSoundShapes 135185 (change_block f addr len w b)
    unfolding change_block
    one_sound = by (eqb (w (block_directory b)) 0) refl
      where
        by : (c : Bool) → eqb (w (block_directory b)) 0 ≡ c → AreSoundShapes 135185 (reads_lanes false 15 (block_directory b) ∷ (if c then [] else (reads_lanes false 15 s ∷ writes_lanes 15 s (changed_word f addr len b) ∷ [])))
        by true e = (read_sound (17 + b / 256) (omega arith) (omega arith), tt)
        by false e =
            let some : w (block_directory b) ≢ 0 = not_zero (w (block_directory b)) e in
            let t : w (block_directory b) ≤ 512 = st.low (b / 256) (omega arith) in
            (read_sound (17 + b / 256) (omega arith) (omega arith), (read_sound s (omega arith) (omega arith), (write_sound s (changed_word f addr len b) (omega arith) (omega arith), tt)))

  -- ---- all blocks

  module _ (fits : (i old : ℕ) → old < 8 → f i old < 8) (small : AreNibbles bytes) where
    record IsThere (w : ℕ → ℕ) (p n : ℕ) : Type 0 where
      k : ℕ
      at : p ≡ first + k
      represents : WordsRepresent w (done_up_to k)
      room : p + n ≤ 2 ^ 20

    at_start : (w : ℕ → ℕ) → WordsRepresent w bytes → WordsRepresent w (done_up_to 0)
    at_start w st = represents_low w w bytes (done_up_to 0) st (λ u l. refl) (λ a lt. not_done 0 a (off_span first 0 (a / 16) (λ p q. omega arith)) ∙ st.same a lt)

    step : (w : ℕ → ℕ) (p n : ℕ) → IsThere w p (suc n) → IsThere (after_shapes w (change_block f addr len w p)) (suc p) n
    step w p n t =
        let e : p ≡ first + t.k = t.at in
        let r : p + suc n ≤ 2 ^ 20 = t.room in
        record {
          k = t.k + 1;
          at = omega arith;
          represents = subst (λ (z : ℕ). WordsRepresent (after_shapes w (change_block f addr len w z)) (done_up_to (t.k + 1))) (sym e) (one_block fits small w t.k t.represents (omega arith));
          room = omega arith;
        }

    pub blocks_done : (w : ℕ → ℕ) (n : ℕ) → WordsRepresent w bytes → first + n ≤ 2 ^ 20 → WordsRepresent (after_shapes w (pages_from (change_block f addr len) w first n)) (done_up_to n)
    blocks_done w n st room =
        let end = kept (change_block f addr len) IsThere step n w first (record { k = 0; at = omega arith; represents = at_start w st; room = room }) in
        let e : end.k ≡ n = (let a : first + n ≡ first + end.k = end.at in omega arith) in
        subst (λ (z : ℕ). WordsRepresent (after_shapes w (pages_from (change_block f addr len) w first n)) (done_up_to z)) e end.represents

    pub blocks_sound : (w : ℕ → ℕ) (n : ℕ) → WordsRepresent w bytes → first + n ≤ 2 ^ 20 → AreSoundShapes 135185 (pages_from (change_block f addr len) w first n)
    blocks_sound w n st room = all_sound (change_block f addr len) IsThere step good n w first (record { k = 0; at = omega arith; represents = at_start w st; room = room })
      where
        good : (w : ℕ → ℕ) (p n : ℕ) → IsThere w p (suc n) → AreSoundShapes 135185 (change_block f addr len w p)
        good w p n t =
            let e : p ≡ first + t.k = t.at in
            let r : p + suc n ≤ 2 ^ 20 = t.room in
            subst (λ (z : ℕ). AreSoundShapes 135185 (change_block f addr len w z)) (sym e) (one_sound fits small w t.k t.represents (omega arith))

change_length : (f : ℕ → ℕ → ℕ) (addr len : ℕ) (w : ℕ → ℕ) (b : ℕ) → length (change_block f addr len w b) ≤ 3
unfolding change_block
change_length f addr len w b = by (eqb (w (block_directory b)) 0)
  where
    by : (c : Bool) → length (reads_lanes false 15 (block_directory b) ∷ (if c then [] else (reads_lanes false 15 (block_word w b) ∷ writes_lanes 15 (block_word w b) (changed_word f addr len b) ∷ []))) ≤ 3
    by true = omega arith
    by false = omega arith

pub changes_length : (f : ℕ → ℕ → ℕ) (addr len n : ℕ) (w : ℕ → ℕ) (b : ℕ) → length (pages_from (change_block f addr len) w b n) ≤ n * 3
changes_length f addr len n w b = pages_length (change_block f addr len) 3 (change_length f addr len) n w b

-- the blocks of a range hold all of it
whole_range : (f : ℕ → ℕ → ℕ) (addr len : ℕ) (bytes : Bytes) (n : ℕ) → addr + len ≤ 16 * (addr / 16 + n) → (a : ℕ) → done_up_to f addr len bytes (addr / 16) n a ≡ changed f addr len bytes a
whole_range f addr len bytes n covers a = dite (dec_le (addr / 16) (a / 16))
    (λ l. dite (dec_le (addr / 16 + n) (a / 16))
    (λ g. out (λ p q. omega arith) (off_span (addr / 16) n (a / 16) (λ p q. omega arith)))
    (λ g. is_done f addr len bytes (addr / 16) n a (in_span (addr / 16) n (a / 16) l (omega arith))))
    (λ l. out (λ p q. l (omega arith)) (off_span (addr / 16) n (a / 16) (λ p q. l p)))
  where
    out : (addr ≤ a → a < addr + len → ⊥) → is_in (addr / 16) n (a / 16) ≡ false → done_up_to f addr len bytes (addr / 16) n a ≡ changed f addr len bytes a
    out o e = not_done f addr len bytes (addr / 16) n a e ∙ sym (changed_out f addr len bytes a (off_span addr len a o))

pub represents_same : (w : ℕ → ℕ) (b d : Bytes) → ((a : ℕ) → d a ≡ b a) → WordsRepresent w b → WordsRepresent w d
represents_same w b d same st = record { same = λ a lt. same a ∙ st.same a lt; low = st.low; apart = st.apart; used = st.used; marked = st.marked }

pub range_done : (f : ℕ → ℕ → ℕ) (addr len : ℕ) (bytes : Bytes) → ((i old : ℕ) → old < 8 → f i old < 8) → AreNibbles bytes → (n : ℕ) → addr + len ≤ 16 * (addr / 16 + n) → addr / 16 + n ≤ 2 ^ 20 → (w : ℕ → ℕ) → WordsRepresent w bytes
    → WordsRepresent (after_shapes w (pages_from (change_block f addr len) w (addr / 16) n)) (changed f addr len bytes)
range_done f addr len bytes fits small n covers room w st =
    represents_same (after_shapes w (pages_from (change_block f addr len) w (addr / 16) n)) (done_up_to f addr len bytes (addr / 16) n) (changed f addr len bytes) (λ a. sym (whole_range f addr len bytes n covers a))
    (blocks_done f addr len bytes (addr / 16) fits small w n st room)

-- reads leave the words
read_leaves : (w : ℕ → ℕ) (b : ℕ) → after_shapes w (read_block w b) ≡ w
unfolding read_block
read_leaves w b = by (eqb (w (block_directory b)) 0)
  where
    by : (c : Bool) → after_shapes w (reads_lanes false 15 (block_directory b) ∷ (if c then [] else (reads_lanes false 15 (block_word w b) ∷ []))) ≡ w
    by true = refl
    by false = refl

pub reads_leave : (n : ℕ) (w : ℕ → ℕ) (b : ℕ) → after_shapes w (pages_from read_block w b n) ≡ w
reads_leave n w b = kept read_block (λ v p m. v ≡ w) (λ v p m e. read_leaves v p ∙ e) n w b refl

one_read_sound : (w : ℕ → ℕ) (bytes : Bytes) (b : ℕ) → WordsRepresent w bytes → b < 2 ^ 20 → AreSoundShapes 135185 (read_block w b)
unfolding read_block
one_read_sound w bytes b st low = by (eqb (w (block_directory b)) 0) refl
  where
    by : (c : Bool) → eqb (w (block_directory b)) 0 ≡ c → AreSoundShapes 135185 (reads_lanes false 15 (block_directory b) ∷ (if c then [] else (reads_lanes false 15 (block_word w b) ∷ [])))
    by true e = (read_sound (17 + b / 256) (omega arith) (omega arith), tt)
    by false e =
        let some : w (block_directory b) ≢ 0 = not_zero (w (block_directory b)) e in
        let t : w (block_directory b) ≤ 512 = st.low (b / 256) (omega arith) in
        (read_sound (17 + b / 256) (omega arith) (omega arith), (read_sound (block_word w b) (omega arith) (omega arith), tt))

pub reads_sound : (n : ℕ) (w : ℕ → ℕ) (bytes : Bytes) (b : ℕ) → WordsRepresent w bytes → b + n ≤ 2 ^ 20 → AreSoundShapes 135185 (pages_from read_block w b n)
reads_sound n w bytes b st room = all_sound read_block (λ v p m. (v ≡ w) × (p + m ≤ 2 ^ 20)) (λ v p m x. (read_leaves v p ∙ x.0, next p m x.1))
    (λ v p m x. subst (λ (z : ℕ → ℕ). AreSoundShapes 135185 (read_block z p)) (sym x.0) (one_read_sound w bytes p st (below p m x.1))) n w b (refl, room)
  where
    next : (p m : ℕ) → p + suc m ≤ 2 ^ 20 → suc p + m ≤ 2 ^ 20
    next p m l = omega arith

    below : (p m : ℕ) → p + suc m ≤ 2 ^ 20 → p < 2 ^ 20
    below p m l = omega arith

read_length : (w : ℕ → ℕ) (b : ℕ) → length (read_block w b) ≤ 3
unfolding read_block
read_length w b = by (eqb (w (block_directory b)) 0)
  where
    by : (c : Bool) → length (reads_lanes false 15 (block_directory b) ∷ (if c then [] else (reads_lanes false 15 (block_word w b) ∷ []))) ≤ 3
    by true = omega arith
    by false = omega arith

pub reads_length : (n : ℕ) (w : ℕ → ℕ) (b : ℕ) → length (pages_from read_block w b n) ≤ n * 3
reads_length n w b = pages_length read_block 3 read_length n w b
