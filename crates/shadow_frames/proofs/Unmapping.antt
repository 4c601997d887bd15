-- A page is unmapped.
use Rattle.std.proofs.Common.{◌≡◌, ◌≢◌, ℕ, zero, suc, ◌+◌, ◌*◌, ◌-◌, ◌/◌, ◌%◌, ◌^◌, ◌<◌, ◌≤◌, Bool, true, false, Some, None, refl, sym, ap, ◌∙◌, subst, arith, eq-eqb, ne_eqb, if◌then◌else◌}
use mathlib.Core.Logic.{dite}
use native.Mathlib.Decide.{ℕ_discrete}
use Rattle.order_core.specs.Core.{put}
use Rattle.order_core.specs.Shapes.{after_shapes, AreSoundShapes}
use Rattle.lifeguard.specs.State.{Bytes, replaced}
use Rattle.shadow_frames.specs.Frames.{freed_shapes}
use Rattle.shadow_frames.specs.Words.{bit, is_used, nibble_of, shadow_word, byte_in, byte_of, WordsRepresent}
use Rattle.shadow_frames.proofs.Sound.{read_sound, write_sound}
use Rattle.shadow_frames.proofs.BitLemmas.{clear_bit}
use Rattle.shadow_frames.proofs.Mapping.{put_here, put_else}
use Rattle.shadow_frames.proofs.Ranges.{in_span, off_span}

module _ (w : ℕ → ℕ) (p f : ℕ) (small : p < 4096) (bytes : Bytes) (st : WordsRepresent w bytes) (serves : w (17 + p) ≡ f + 1) where
  in_table : f < 512
  in_table = let l : w (17 + p) ≤ 512 = st.low p small in omega arith

  used_here : is_used w f ≡ true
  used_here = st.marked p f small serves

  abbrev cleared : ℕ → ℕ
  cleared = put w (9 + f / 64) (w (9 + f / 64) - 2 ^ (f % 64))

  abbrev next : ℕ → ℕ
  next = after_shapes w (freed_shapes f p)

  pub own_page : next (17 + p) ≡ 0
  own_page = put_here cleared (17 + p) 0

  pub other_page : (q : ℕ) → q < 4096 → q ≢ p → next (17 + q) ≡ w (17 + q)
  other_page q lt ne =
      put_else cleared (17 + p) (17 + q) 0 (λ e. ne (omega arith))
      ∙ put_else w (9 + f / 64) (17 + q) (w (9 + f / 64) - 2 ^ (f % 64)) (λ e. let l : f < 512 = in_table in let d : f / 64 < 8 = omega arith in omega arith)

  shadow : (x : ℕ) → 4113 ≤ x → next x ≡ w x
  shadow x low =
      put_else cleared (17 + p) x 0 (λ e. omega arith)
      ∙ put_else w (9 + f / 64) x (w (9 + f / 64) - 2 ^ (f % 64)) (λ e. let l : f < 512 = in_table in let d : f / 64 < 8 = omega arith in omega arith)

  map_word : (g : ℕ) → g < 512 → next (9 + g / 64) ≡ cleared (9 + g / 64)
  map_word g lt = put_else cleared (17 + p) (9 + g / 64) 0 (λ e. let d : g / 64 < 8 = omega arith in omega arith)

  free_now : is_used next f ≡ false
  free_now =
      ap (λ (v : ℕ). bit v (f % 64)) (map_word f in_table ∙ put_here w (9 + f / 64) (w (9 + f / 64) - 2 ^ (f % 64)))
      ∙ (clear_bit (w (9 + f / 64)) (f % 64) (f % 64) used_here ∙ ap (λ (b : Bool). if b then false else bit (w (9 + f / 64)) (f % 64)) (eq-eqb (f % 64) (f % 64) refl))

  used_else : (g : ℕ) → g < 512 → g ≢ f → is_used next g ≡ is_used w g
  used_else g lt ne = dite (ℕ_discrete (9 + g / 64) (9 + f / 64))
      (λ e. let other : g % 64 ≢ f % 64 = λ m. ne (omega arith) in
      ap (λ (v : ℕ). bit v (g % 64)) (map_word g lt ∙ (ap cleared e ∙ put_here w (9 + f / 64) (w (9 + f / 64) - 2 ^ (f % 64))))
      ∙ (clear_bit (w (9 + f / 64)) (f % 64) (g % 64) used_here
      ∙ (ap (λ (b : Bool). if b then false else bit (w (9 + f / 64)) (g % 64)) (ne_eqb (g % 64) (f % 64) other) ∙ ap (λ (x : ℕ). bit (w x) (g % 64)) (sym e))))
      (λ e. ap (λ (v : ℕ). bit v (g % 64)) (map_word g lt ∙ put_else w (9 + f / 64) (9 + g / 64) (w (9 + f / 64) - 2 ^ (f % 64)) e))

  own_byte : (a : ℕ) → a / 4096 ≡ p → byte_of next a ≡ None
  own_byte a own = ap (byte_in next a) (ap (λ (x : ℕ). next (17 + x)) own ∙ own_page)

  other_byte : (a : ℕ) → a < 2 ^ 24 → a / 4096 ≢ p → byte_of next a ≡ byte_of w a
  other_byte a lt other = ap (byte_in next a) (other_page (a / 4096) (omega arith) other) ∙ by (w (17 + a / 4096))
    where
      by : (d : ℕ) → byte_in next a d ≡ byte_in w a d
      by zero = refl
      by (suc d) = ap (λ (v : ℕ). Some (nibble_of v (a % 16))) (shadow (shadow_word (suc d) a) (omega arith))

  -- another page is on another frame
  apart_from : (q g : ℕ) → q < 4096 → q ≢ p → w (17 + q) ≡ g + 1 → g ≢ f
  apart_from q g lt ne is same = ne (st.apart q p lt small (λ z. omega arith) (omega arith))

  pub sound : AreSoundShapes 135185 (freed_shapes f p)
  sound =
      let l : f < 512 = in_table in
      let d : f / 64 < 8 = omega arith in (
        read_sound (17 + p) (omega arith) (omega arith),
        (
          read_sound (9 + f / 64) (omega arith) (omega arith),
          (write_sound (9 + f / 64) _ (omega arith) (omega arith), (write_sound (17 + p) _ (omega arith) (omega arith), tt)),
        ),
      )

  pub represents_next : WordsRepresent next (replaced None (p * 4096) 4096 bytes)
  unfolding replaced
  represents_next = record {
    same = λ a lt. dite (ℕ_discrete (a / 4096) p)
        (λ e. ap (λ (b : Bool). if b then None else bytes a) (in_span (p * 4096) 4096 a (omega arith) (omega arith)) ∙ sym (own_byte a e))
        (λ ne. ap (λ (b : Bool). if b then None else bytes a) (off_span (p * 4096) 4096 a (λ x y. ne (omega arith))) ∙ (st.same a lt ∙ sym (other_byte a lt ne)));
    low = λ q lt. dite (ℕ_discrete q p)
        (λ e. subst (λ (z : ℕ). next (17 + z) ≤ 512) (sym e) (let n : next (17 + p) ≡ 0 = own_page in omega arith))
        (λ ne. let n : next (17 + q) ≡ w (17 + q) = other_page q lt ne in let l : w (17 + q) ≤ 512 = st.low q lt in omega arith);
    apart = pages_apart;
    used = λ g lt is. dite (ℕ_discrete g f)
        (λ e. (let m : is_used next f ≡ true = subst (λ (x : ℕ). is_used next x ≡ true) e is in let n : is_used next f ≡ false = free_now in absurd (no_both (is_used next f) m n)))
        (λ ne. let was = st.used g lt (sym (used_else g lt ne) ∙ is) in
        let other : was.0 ≢ p = λ e. (let z : w (17 + p) ≡ g + 1 = subst (λ (x : ℕ). w (17 + x) ≡ g + 1) e was.2 in ne (omega arith)) in
        (was.0, was.1, other_page was.0 was.1 other ∙ was.2));
    marked = λ q g lt is. dite (ℕ_discrete q p)
        (λ e. (let z : next (17 + p) ≡ g + 1 = subst (λ (x : ℕ). next (17 + x) ≡ g + 1) e is in let n : next (17 + p) ≡ 0 = own_page in absurd (omega arith)))
        (λ ne. let was : w (17 + q) ≡ g + 1 = sym (other_page q lt ne) ∙ is in
        let low : g < 512 = (let l : w (17 + q) ≤ 512 = st.low q lt in omega arith) in
        used_else g low (apart_from q g lt ne was) ∙ st.marked q g lt was);
  }
    where
      no_both : (b : Bool) → b ≡ true → b ≡ false → ⊥
      no_both b t f = cc

      pages_apart : (q r : ℕ) → q < 4096 → r < 4096 → next (17 + q) ≢ 0 → next (17 + q) ≡ next (17 + r) → q ≡ r
      pages_apart q r lq lr some same = dite (ℕ_discrete q p)
          (λ e. absurd (some (ap (λ (x : ℕ). next (17 + x)) e ∙ own_page)))
          (λ n. dite (ℕ_discrete r p)
          (λ g. absurd (some (same ∙ (ap (λ (x : ℕ). next (17 + x)) g ∙ own_page))))
          (λ m. let a : next (17 + q) ≡ w (17 + q) = other_page q lq n in let b : next (17 + r) ≡ w (17 + r) = other_page r lr m in
          st.apart q r lq lr (λ z. some (omega arith)) (omega arith)))
