-- The operations of each kind keep words standing.
use Rattle.std.proofs.Common.{◌≡◌, ℕ, ◌+◌, ◌-◌, ◌*◌, ◌/◌, ◌%◌, ◌^◌, ◌<◌, ◌≤◌, Bool, true, false, eqb, List, [], ◌∷◌, ◌++◌, Option, Some, None, refl, sym, ap, ◌∙◌, subst, arith, if◌then◌else◌}
use Rattle.pl_base.specs.declared.widths.StoreWidth.{StoreWidth}
use Rattle.pl_base.specs.declared.widths.StoreWidth.TheVariants as store
use Rattle.pl_base.specs.Widths.{store_bytes}
use Rattle.pl_event.specs.declared.event.Kind.{Kind}
use Rattle.pl_event.specs.declared.event.Kind.TheVariants.{Ld, St, Op, Mv, Im, Br, Jr, Al, Fr, Bf, Mp, Um, Rd, Wr, Ex, Ft}
use Rattle.pl_event.specs.declared.log.PageKind.TheVariants.{Data}
use Rattle.pl_event.specs.Valid.{HasValidFields, IsAligned, IsByteRange}
use Rattle.lifeguard.specs.declared.guard.Name.{Name}
use Rattle.lifeguard.specs.declared.guard.Name.TheVariants as name
use Rattle.lifeguard.specs.declared.guard.RangeKind.{RangeKind}
use Rattle.lifeguard.specs.declared.guard.RangeKind.TheVariants as range
use Rattle.lifeguard.specs.Rules.{Rules, KeepsLaws}
use Rattle.lifeguard.specs.State.{Bytes, Masks, is_in, changed}
use Rattle.lifeguard.specs.Plain.{bytes_after, mask_bit}
use Rattle.order_core.specs.Shapes.{Shape, after_shapes}
use Rattle.shadow_frames.specs.Words.{WordsRepresent}
use Rattle.shadow_frames.specs.Frames.{pages_from}
use Rattle.shadow_frames.proofs.Many.{all_mapped, all_unmapped}
use Rattle.shadow_frames.proofs.MappedPages.{no_page, pages_is, some_page}
use Rattle.lifeguard.specs.Ranges.{AreNibbles}
use Rattle.pl_event.specs.Mapping.{KeepsPages}
use Rattle.shadow_frames.specs.Words.{has_page, all_nibbles}
use Rattle.shadow_frames.specs.Frames.{reads_lanes, writes_lanes}
use Rattle.shadow_layout.specs.Operations.{changed_word, block_directory, block_word, change_block, blocks_of, lanes_of, only, not_taint, not_addr, load_shapes, store_shapes, shapes}
use Rattle.shadow_layout.proofs.Blocks.{range_done, reads_leave, changed_in, changed_none, represents_same}
use Rattle.shadow_frames.proofs.NibbleLemmas.{all_same}

pub no_both : (c : Bool) → c ≡ true → c ≡ false → ⊥
no_both c t f = cc

-- ---- loads and stores

module _ (rules : Rules) (size : ℕ) (w : ℕ → ℕ) (addr : ℕ) where
  pub load_leaves : after_shapes w (load_shapes rules size w addr) ≡ w
  unfolding load_shapes
  load_leaves = by (eqb (w (block_directory (addr / 16))) 0) (not_taint rules.name) (not_addr rules.name)
    where
      by : (c t v : Bool) → after_shapes w (reads_lanes false 15 (block_directory (addr / 16)) ∷ (if c then [] else (only t (reads_lanes true (lanes_of size addr) (block_word w (addr / 16)) ∷ []) ++ only v (reads_lanes false (lanes_of size addr) (block_word w (addr / 16)) ∷ [])))) ≡ w
      by true t v = refl
      by false true true = refl
      by false true false = refl
      by false false true = refl
      by false false false = refl

  module _ (len mask : ℕ) where
    abbrev f : ℕ → ℕ → ℕ
    f i old = rules.store_nibble old (mask_bit mask i)

    abbrev stores : Bool → Bool → Bool → List Shape
    stores c t v = reads_lanes false 15 (block_directory (addr / 16)) ∷ (if c then [] else (only t (reads_lanes true (lanes_of size addr) (block_word w (addr / 16)) ∷ [])
        ++ only v (reads_lanes false (lanes_of size addr) (block_word w (addr / 16)) ∷ writes_lanes (lanes_of size addr) (block_word w (addr / 16)) (changed_word f addr len (addr / 16)) ∷ [])))

    abbrev changes : Bool → List Shape
    changes c = reads_lanes false 15 (block_directory (addr / 16)) ∷ (if c then [] else (reads_lanes false 15 (block_word w (addr / 16)) ∷ writes_lanes 15 (block_word w (addr / 16)) (changed_word f addr len (addr / 16)) ∷ []))

    one_of : (c t v : Bool) → v ≡ true → after_shapes w (stores c t v) ≡ after_shapes w (changes c)
    one_of true t v e = refl
    one_of false true true e = refl
    one_of false false true e = refl
    one_of false t false e = absurd (no_both false e refl)

    none_of : (c t v : Bool) → v ≡ false → after_shapes w (stores c t v) ≡ w
    none_of true t v e = refl
    none_of false true false e = refl
    none_of false false false e = refl
    none_of false t true e = absurd (no_both true refl e)

    pub store_is : not_addr rules.name ≡ true → after_shapes w (store_shapes rules size w addr len mask) ≡ after_shapes w (change_block f addr len w (addr / 16))
    unfolding store_shapes change_block
    store_is = one_of (eqb (w (block_directory (addr / 16))) 0) (not_taint rules.name) (not_addr rules.name)

    pub store_leaves : not_addr rules.name ≡ false → after_shapes w (store_shapes rules size w addr len mask) ≡ w
    unfolding store_shapes
    store_leaves = none_of (eqb (w (block_directory (addr / 16))) 0) (not_taint rules.name) (not_addr rules.name)

unchanged : (f : ℕ → ℕ → ℕ) (addr len : ℕ) (bytes : Bytes) → ((i n : ℕ) → n < 8 → f i n ≡ n) → AreNibbles bytes → (a : ℕ) → changed f addr len bytes a ≡ bytes a
unchanged f addr len bytes same small a = by (bytes a) refl
  where
    by : (o : Option ℕ) → bytes a ≡ o → changed f addr len bytes a ≡ bytes a
    by None s = changed_none f addr len bytes a s ∙ sym s
    by (Some m) s = changed_in f addr len bytes a m s ∙ (ap Some (which (is_in addr len a)) ∙ sym s)
      where
        which : (c : Bool) → (if c then f (a - addr) m else m) ≡ m
        which true = same (a - addr) m (small a m s)
        which false = refl

pub in_one_block : (width : StoreWidth) (addr : ℕ) → IsAligned addr (store_bytes width) → addr % 16 + store_bytes width ≤ 16
in_one_block store.B addr a = omega arith
in_one_block store.H addr a = let e : addr % 2 ≡ 0 = a.1 in omega arith
in_one_block store.W addr a = let e : addr % 4 ≡ 0 = a.1 in omega arith

pub covered : (addr len : ℕ) → addr + len ≤ 16 * (addr / 16 + (addr % 16 + len + 15) / 16)
covered addr len = omega arith

pub roomy : (addr len : ℕ) → addr + len ≤ 2 ^ 24 → addr / 16 + (addr % 16 + len + 15) / 16 ≤ 2 ^ 20
roomy addr len l = omega arith

module _ (rules : Rules) (laws : KeepsLaws rules) (size hart : ℕ) (masks : Masks) (bytes : Bytes) (small : AreNibbles bytes) (w : ℕ → ℕ) (st : WordsRepresent w bytes) where
  store_represents : (addr len mask : ℕ) → addr < 2 ^ 24 → addr % 16 + len ≤ 16 → WordsRepresent (after_shapes w (store_shapes rules size w addr len mask)) (changed (λ i old. rules.store_nibble old (mask_bit mask i)) addr len bytes)
  store_represents addr len mask low fits = by (rules.name) refl
    where
      f : ℕ → ℕ → ℕ
      f i old = rules.store_nibble old (mask_bit mask i)

      written : not_addr rules.name ≡ true → WordsRepresent (after_shapes w (store_shapes rules size w addr len mask)) (changed (λ i old. rules.store_nibble old (mask_bit mask i)) addr len bytes)
      written e = subst (λ (z : ℕ → ℕ). WordsRepresent z (changed (λ i old. rules.store_nibble old (mask_bit mask i)) addr len bytes)) (one ∙ sym (store_is rules size w addr len mask e))
          (range_done (λ i old. rules.store_nibble old (mask_bit mask i)) addr len bytes (λ i old. laws.store_below old (mask_bit mask i)) small 1 (omega arith) (omega arith) w st)
        where
          one : after_shapes w (pages_from (change_block (λ i old. rules.store_nibble old (mask_bit mask i)) addr len) w (addr / 16) 1) ≡ after_shapes w (change_block (λ i old. rules.store_nibble old (mask_bit mask i)) addr len w (addr / 16))
          one = ap (after_shapes w) (append_none (change_block (λ i old. rules.store_nibble old (mask_bit mask i)) addr len w (addr / 16)))
            where
              append_none : (xs : List Shape) → xs ++ [] ≡ xs
              append_none [] = refl
              append_none (x ∷ xs) = ap (λ (z : List Shape). x ∷ z) (append_none xs)

      by : (n : Name) → rules.name ≡ n → WordsRepresent (after_shapes w (store_shapes rules size w addr len mask)) (changed (λ i old. rules.store_nibble old (mask_bit mask i)) addr len bytes)
      by name.Addr e = subst (λ (z : ℕ → ℕ). WordsRepresent z (changed (λ i old. rules.store_nibble old (mask_bit mask i)) addr len bytes)) (sym (store_leaves rules size w addr len mask (ap not_addr e)))
          (represents_same w bytes (changed (λ i old. rules.store_nibble old (mask_bit mask i)) addr len bytes) (unchanged (λ i old. rules.store_nibble old (mask_bit mask i)) addr len bytes (λ i n. laws.addr_stores e n (mask_bit mask i)) small) st)
      by name.Taint e = written (ap not_addr e)
      by name.Mem e = written (ap not_addr e)

  range_represents : (kind : RangeKind) (addr len : ℕ) → IsByteRange addr len → WordsRepresent (after_shapes w (pages_from (change_block (λ i old. rules.range_state kind old) addr len) w (addr / 16) (blocks_of addr len))) (changed (λ i old. rules.range_state kind old) addr len bytes)
  range_represents kind addr len valid = range_done (λ i old. rules.range_state kind old) addr len bytes (λ i old. laws.range_below kind old) small (blocks_of addr len) (covered addr len) (roomy addr len valid.3) w st

  pub represents_after : (kind : Kind) → HasValidFields kind → KeepsPages (has_page bytes) kind → WordsRepresent (after_shapes w (shapes rules size hart masks w kind)) (bytes_after rules hart kind bytes masks)
  represents_after (Ld width rd rb addr) v k = subst (λ (z : ℕ → ℕ). WordsRepresent z bytes) (sym (load_leaves rules size w addr)) st
  represents_after (St width rv rb addr) v k = store_represents addr (store_bytes width) (masks hart rv) v.2.0 (in_one_block width addr v.2)
  represents_after (Op rd r1 r2) v k = st
  represents_after (Mv rd rs) v k = st
  represents_after (Im rd) v k = st
  represents_after (Br r1 r2) v k = st
  represents_after (Jr rd rs) v k = st
  represents_after (Al addr len) v k = range_represents range.Al addr len v
  represents_after (Fr addr len) v k = range_represents range.Fr addr len v
  represents_after (Bf addr) v k = st
  represents_after (Mp page count) v k = all_mapped page bytes (rules.page_state Data) (all_nibbles (rules.page_state Data)) (all_same (rules.page_state Data) (let l : rules.page_state Data < 8 = laws.page_below Data in omega arith)) 512 (omega arith)
      w count st v.3 (λ q low high. no_page w bytes st q (let l : page + count ≤ 4096 = v.3 in omega arith) (k.0 q low high))
      (subst (λ (z : ℕ). z + count ≤ 512) (sym (pages_is w bytes st)) k.1)
  represents_after (Um page count) v k = all_unmapped page bytes w count st v.3 (λ q low high. some_page w bytes st q (let l : page + count ≤ 4096 = v.3 in omega arith) (k q low high))
  represents_after (Rd addr len) v k = range_represents range.Rd addr len v
  represents_after (Wr addr len) v k = subst (λ (z : ℕ → ℕ). WordsRepresent z bytes) (sym (reads_leave (blocks_of addr len) w (addr / 16))) st
  represents_after Ex v k = st
  represents_after (Ft cause addr) v k = st
