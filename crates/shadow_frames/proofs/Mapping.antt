-- A page is mapped.
use Rattle.std.proofs.Common.{◌≡◌, ◌≢◌, ℕ, zero, suc, ◌+◌, ◌*◌, ◌/◌, ◌%◌, ◌^◌, ◌<◌, ◌≤◌, Bool, true, false, length, Some, refl, sym, ap, ◌∙◌, subst, arith, eq-eqb, ne_eqb, if◌then◌else◌}
use mathlib.Core.Logic.{dite}
use native.Mathlib.Decide.{ℕ_discrete}
use Rattle.lifeguard.specs.State.{Bytes, replaced}
use Rattle.shadow_frames.specs.Frames.{fills, frame_shapes}
use Rattle.shadow_frames.specs.Words.{bit, is_used, nibble_of, shadow_word, byte_in, byte_of, WordsRepresent, IsFilledWith}
use Rattle.shadow_frames.proofs.Sound.{read_sound, write_sound}
use Rattle.order_core.specs.Core.{put}
use Rattle.order_core.specs.Shapes.{after_shapes, AreSoundShapes}
use Rattle.shadow_frames.proofs.BitLemmas.{set_bit}
use Rattle.shadow_frames.proofs.Ranges.{in_span, off_span}

pub put_here : (f : ℕ → ℕ) (h x : ℕ) → put f h x h ≡ x
put_here f h x = subst (λ (b : Bool). (if b then x else f h) ≡ x) (sym (eq-eqb h h refl)) refl

pub put_else : (f : ℕ → ℕ) (h u x : ℕ) → u ≢ h → put f h x u ≡ f u
put_else f h u x n = subst (λ (b : Bool). (if b then x else f u) ≡ f u) (sym (ne_eqb u h n)) refl

unfilled : (w : ℕ → ℕ) (first fill n x : ℕ) → (first ≤ x → x < first + n → ⊥) → after_shapes w (fills first fill n) x ≡ w x
unfilled w first fill zero x out = refl
unfilled w first fill (suc n) x out =
    unfilled (put w first fill) (suc first) fill n x (λ a b. out (omega arith) (omega arith)) ∙ put_else w first x fill (λ e. out (omega arith) (omega arith))

filled : (w : ℕ → ℕ) (first fill n x : ℕ) → first ≤ x → x < first + n → after_shapes w (fills first fill n) x ≡ fill
filled w first fill zero x low high = absurd (omega arith)
filled w first fill (suc n) x low high = dite (ℕ_discrete x first)
    (λ e. unfilled (put w first fill) (suc first) fill n x (λ a b. omega arith) ∙ subst (λ (z : ℕ). put w first fill z ≡ fill) (sym e) (put_here w first fill))
    (λ ne. filled (put w first fill) (suc first) fill n x (omega arith) (omega arith))

fills_sound : (first fill n : ℕ) → 9 ≤ first → first + n ≤ 135185 → AreSoundShapes 135185 (fills first fill n)
fills_sound first fill zero low high = tt
fills_sound first fill (suc n) low high = (write_sound first (λ _. fill) low (omega arith), fills_sound (suc first) fill n (omega arith) (omega arith))

fills_length : (first fill n : ℕ) → length (fills first fill n) ≡ n
fills_length first fill zero = refl
fills_length first fill (suc n) = let e : length (fills (suc first) fill n) ≡ n = fills_length (suc first) fill n in omega arith

pub frame_length : (f p fill : ℕ) → length (frame_shapes f p fill) ≡ 266
frame_length f p fill = let e : length (fills (4113 + 256 * f) fill 256) ≡ 256 = fills_length (4113 + 256 * f) fill 256 in from_fills (length (fills (4113 + 256 * f) fill 256)) e
  where
    from_fills : (n : ℕ) → n ≡ 256 → suc (suc (suc (suc (suc (suc (suc (suc (suc (suc n))))))))) ≡ 266
    from_fills n e = omega arith

pub frame_sound : (p f fill : ℕ) → p < 4096 → f < 512 → AreSoundShapes 135185 (frame_shapes f p fill)
frame_sound p f fill small inside =
    let d : f / 64 < 8 = omega arith in (
      read_sound 9 (omega arith) (omega arith),
      (
        read_sound 10 (omega arith) (omega arith),
        (
          read_sound 11 (omega arith) (omega arith),
          (
            read_sound 12 (omega arith) (omega arith),
            (
              read_sound 13 (omega arith) (omega arith),
              (
                read_sound 14 (omega arith) (omega arith),
                (
                  read_sound 15 (omega arith) (omega arith),
                  (
                    read_sound 16 (omega arith) (omega arith),
                    (write_sound (9 + f / 64) _ (omega arith) (omega arith), (write_sound (17 + p) _ (omega arith) (omega arith), fills_sound (4113 + 256 * f) fill 256 (omega arith) (omega arith))),
                  ),
                ),
              ),
            ),
          ),
        ),
      ),
    )

module _ (w : ℕ → ℕ) (p f fill : ℕ) (small : p < 4096) (inside : f < 512) where
  abbrev pub mapped : ℕ → ℕ
  mapped = put w (9 + f / 64) (w (9 + f / 64) + 2 ^ (f % 64))

  abbrev pub listed : ℕ → ℕ
  listed = put mapped (17 + p) (f + 1)

  abbrev pub next : ℕ → ℕ
  next = after_shapes w (frame_shapes f p fill)

  pub in_frame : (k : ℕ) → k < 256 → next (4113 + 256 * f + k) ≡ fill
  in_frame k lt = filled listed (4113 + 256 * f) fill 256 (4113 + 256 * f + k) (omega arith) (omega arith)

  pub below_frame : (x : ℕ) → (4113 + 256 * f ≤ x → x < 4113 + 256 * f + 256 → ⊥) → next x ≡ listed x
  below_frame x out = unfilled listed (4113 + 256 * f) fill 256 x out

  pub own_page : next (17 + p) ≡ f + 1
  own_page = below_frame (17 + p) (λ a b. omega arith) ∙ put_here mapped (17 + p) (f + 1)

  pub other_page : (q : ℕ) → q < 4096 → q ≢ p → next (17 + q) ≡ w (17 + q)
  other_page q lt ne =
      below_frame (17 + q) (λ a b. omega arith)
      ∙ (put_else mapped (17 + p) (17 + q) (f + 1) (λ e. ne (omega arith))
      ∙ put_else w (9 + f / 64) (17 + q) (w (9 + f / 64) + 2 ^ (f % 64)) (λ e. let d : f / 64 < 8 = omega arith in omega arith))

  other_frame : (x : ℕ) → 4113 ≤ x → (4113 + 256 * f ≤ x → x < 4113 + 256 * f + 256 → ⊥) → next x ≡ w x
  other_frame x low out =
      below_frame x out
      ∙ (put_else mapped (17 + p) x (f + 1) (λ e. omega arith)
      ∙ put_else w (9 + f / 64) x (w (9 + f / 64) + 2 ^ (f % 64)) (λ e. let d : f / 64 < 8 = omega arith in omega arith))

  map_word : (g : ℕ) → g < 512 → next (9 + g / 64) ≡ mapped (9 + g / 64)
  map_word g lt =
      below_frame (9 + g / 64) (λ a b. let d : g / 64 < 8 = omega arith in omega arith)
      ∙ put_else mapped (17 + p) (9 + g / 64) (f + 1) (λ e. let d : g / 64 < 8 = omega arith in omega arith)

  pub used_now : is_used w f ≡ false → is_used next f ≡ true
  used_now free =
      ap (λ (v : ℕ). bit v (f % 64)) (map_word f inside ∙ put_here w (9 + f / 64) (w (9 + f / 64) + 2 ^ (f % 64)))
      ∙ (set_bit (w (9 + f / 64)) (f % 64) (f % 64) free ∙ ap (λ (b : Bool). if b then true else bit (w (9 + f / 64)) (f % 64)) (eq-eqb (f % 64) (f % 64) refl))

  pub used_else : is_used w f ≡ false → (g : ℕ) → g < 512 → g ≢ f → is_used next g ≡ is_used w g
  used_else free g lt ne = dite (ℕ_discrete (9 + g / 64) (9 + f / 64))
      (λ e. let other : g % 64 ≢ f % 64 = λ m. ne (omega arith) in
      ap (λ (v : ℕ). bit v (g % 64)) (map_word g lt ∙ (ap mapped e ∙ put_here w (9 + f / 64) (w (9 + f / 64) + 2 ^ (f % 64))))
      ∙ (set_bit (w (9 + f / 64)) (f % 64) (g % 64) free
      ∙ (ap (λ (b : Bool). if b then true else bit (w (9 + f / 64)) (g % 64)) (ne_eqb (g % 64) (f % 64) other) ∙ ap (λ (x : ℕ). bit (w x) (g % 64)) (sym e))))
      (λ e. ap (λ (v : ℕ). bit v (g % 64)) (map_word g lt ∙ put_else w (9 + f / 64) (9 + g / 64) (w (9 + f / 64) + 2 ^ (f % 64)) e))

  -- the frame of another page is another one
  frames_apart : (bytes : Bytes) → WordsRepresent w bytes → is_used w f ≡ false → (q d : ℕ) → q < 4096 → w (17 + q) ≡ suc d → d ≢ f
  frames_apart bytes st free q d lt e same =
      let m : is_used w f ≡ true = st.marked q f lt (omega arith) in cc

  module _ (s : ℕ) (bytes : Bytes) (st : WordsRepresent w bytes) (none : w (17 + p) ≡ 0) (free : is_used w f ≡ false) (full : IsFilledWith fill s) where
    own_byte : (a : ℕ) → a < 2 ^ 24 → a / 4096 ≡ p → byte_of next a ≡ Some s
    own_byte a lt own =
        let d : next (17 + a / 4096) ≡ suc f = ap (λ (x : ℕ). next (17 + x)) own ∙ (own_page ∙ omega arith) in
        ap (byte_in next a) d
        ∙ ap Some (ap (λ (v : ℕ). nibble_of v (a % 16)) (ap next (omega arith) ∙ in_frame (a % 4096 / 16) (omega arith)) ∙ full (a % 16) (omega arith))

    other_byte : (a : ℕ) → a < 2 ^ 24 → a / 4096 ≢ p → byte_of next a ≡ byte_of w a
    other_byte a lt other =
        let q : ℕ = a / 4096 in
        let low : q < 4096 = omega arith in
        ap (byte_in next a) (other_page q low other) ∙ by (w (17 + q)) refl
      where
        by : (d : ℕ) → w (17 + a / 4096) ≡ d → byte_in next a d ≡ byte_in w a d
        by zero e = refl
        by (suc d) e =
            let apart : d ≢ f = frames_apart bytes st free (a / 4096) d (omega arith) e in
            let k : a % 4096 / 16 < 256 = omega arith in
            ap (λ (v : ℕ). Some (nibble_of v (a % 16))) (other_frame (shadow_word (suc d) a) (omega arith) (λ x y. apart (omega arith)))

    pub represents_next : WordsRepresent next (replaced (Some s) (p * 4096) 4096 bytes)
    unfolding replaced
    represents_next = record {
      same = λ a lt. dite (ℕ_discrete (a / 4096) p)
          (λ e. ap (λ (b : Bool). if b then Some s else bytes a) (in_span (p * 4096) 4096 a (omega arith) (omega arith)) ∙ sym (own_byte a lt e))
          (λ ne. ap (λ (b : Bool). if b then Some s else bytes a) (off_span (p * 4096) 4096 a (λ x y. ne (omega arith))) ∙ (st.same a lt ∙ sym (other_byte a lt ne)));
      low = λ q lt. dite (ℕ_discrete q p)
          (λ e. subst (λ (z : ℕ). next (17 + z) ≤ 512) (sym e) (let n : next (17 + p) ≡ f + 1 = own_page in omega arith))
          (λ ne. let n : next (17 + q) ≡ w (17 + q) = other_page q lt ne in let l : w (17 + q) ≤ 512 = st.low q lt in omega arith);
      apart = pages_apart;
      used = λ g lt is. dite (ℕ_discrete g f)
          (λ e. (p, small, own_page ∙ omega arith))
          (λ ne. let was = st.used g lt (sym (used_else free g lt ne) ∙ is) in
          let other : was.0 ≢ p = λ e. (let z : w (17 + was.0) ≡ 0 = subst (λ (x : ℕ). w (17 + x) ≡ 0) (sym e) none in let y : w (17 + was.0) ≡ g + 1 = was.2 in omega arith) in
          (was.0, was.1, other_page was.0 was.1 other ∙ was.2));
      marked = λ q g lt is. dite (ℕ_discrete q p)
          (λ e. let same : g ≡ f = (let n : next (17 + p) ≡ f + 1 = own_page in let m : next (17 + p) ≡ g + 1 = subst (λ (x : ℕ). next (17 + x) ≡ g + 1) e is in omega arith) in
          subst (λ (x : ℕ). is_used next x ≡ true) (sym same) (used_now free))
          (λ ne. let was : w (17 + q) ≡ g + 1 = sym (other_page q lt ne) ∙ is in
          let low : g < 512 = (let l : w (17 + q) ≤ 512 = st.low q lt in omega arith) in
          used_else free g low (λ e. (let m : is_used w f ≡ true = st.marked q f lt (omega arith) in cc)) ∙ st.marked q g lt was);
    }
      where
        pages_apart : (q r : ℕ) → q < 4096 → r < 4096 → next (17 + q) ≢ 0 → next (17 + q) ≡ next (17 + r) → q ≡ r
        pages_apart q r lq lr some same = dite (ℕ_discrete q p)
            (λ e. dite (ℕ_discrete r p) (λ g. e ∙ sym g)
            (λ n. let a : next (17 + p) ≡ f + 1 = own_page in let b : next (17 + r) ≡ w (17 + r) = other_page r lr n in
            let c : next (17 + p) ≡ next (17 + r) = subst (λ (x : ℕ). next (17 + x) ≡ next (17 + r)) e same in
            absurd (let m : is_used w f ≡ true = st.marked r f lr (omega arith) in cc)))
            (λ n. dite (ℕ_discrete r p)
            (λ g. let a : next (17 + p) ≡ f + 1 = own_page in let b : next (17 + q) ≡ w (17 + q) = other_page q lq n in
            let c : next (17 + q) ≡ next (17 + p) = subst (λ (x : ℕ). next (17 + q) ≡ next (17 + x)) g same in
            absurd (let m : is_used w f ≡ true = st.marked q f lq (omega arith) in cc))
            (λ m. let a : next (17 + q) ≡ w (17 + q) = other_page q lq n in let b : next (17 + r) ≡ w (17 + r) = other_page r lr m in
            st.apart q r lq lr (λ z. some (omega arith)) (omega arith)))
