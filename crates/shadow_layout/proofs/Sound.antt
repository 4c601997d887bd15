-- The operations of each kind are on words of the table, and not too many.
use Rattle.std.proofs.Common.{◌≡◌, ◌≢◌, ℕ, ◌+◌, ◌-◌, ◌*◌, ◌/◌, ◌%◌, ◌^◌, ◌<◌, ◌≤◌, Bool, true, false, eqb, List, [], ◌∷◌, ◌++◌, length, refl, sym, subst, arith, eq-eqb, if◌then◌else◌}
use Rattle.std.proofs.lemmas.Nat.{mul-le}
use Rattle.pl_base.specs.declared.widths.StoreWidth.{StoreWidth}
use Rattle.pl_base.specs.declared.widths.StoreWidth.TheVariants as store
use Rattle.pl_base.specs.Widths.{store_bytes}
use Rattle.pl_event.specs.declared.event.Kind.{Kind}
use Rattle.pl_event.specs.declared.event.Kind.TheVariants.{Ld, St, Op, Mv, Im, Br, Jr, Al, Fr, Bf, Mp, Um, Rd, Wr, Ex, Ft}
use Rattle.pl_event.specs.declared.log.PageKind.TheVariants.{Data}
use Rattle.pl_event.specs.Valid.{HasValidFields, IsAligned, IsByteRange}
use Rattle.lifeguard.specs.declared.guard.RangeKind.{RangeKind}
use Rattle.lifeguard.specs.declared.guard.RangeKind.TheVariants as range
use Rattle.lifeguard.specs.Rules.{Rules, KeepsLaws}
use Rattle.lifeguard.specs.State.{Bytes, Masks}
use Rattle.lifeguard.specs.Plain.{mask_bit}
use Rattle.order_core.specs.Shapes.{Shape}
use Rattle.order_core.specs.Shapes.{IsSoundShape, AreSoundShapes}
use Rattle.shadow_frames.specs.Words.{WordsRepresent, has_page}
use Rattle.shadow_frames.specs.Frames.{pages_from}
use Rattle.shadow_frames.proofs.Many.{all_map_sound, all_unmap_sound, maps_length, unmaps_length}
use Rattle.lifeguard.specs.Ranges.{AreNibbles}
use Rattle.pl_event.specs.Mapping.{KeepsPages}
use Rattle.shadow_frames.specs.Words.{all_nibbles}
use Rattle.shadow_frames.specs.Frames.{reads_lanes, writes_lanes}
use Rattle.shadow_layout.specs.Operations.{changed_word, block_directory, block_word, change_block, blocks_of, lanes_of, only, not_taint, not_addr, load_shapes, store_shapes, shapes}
use Rattle.shadow_layout.proofs.Blocks.{blocks_sound, changes_length, reads_sound, reads_length}
use Rattle.shadow_layout.proofs.LaneLemmas.{look_sound, put_sound}
use Rattle.shadow_frames.proofs.NibbleLemmas.{all_same}
use Rattle.shadow_layout.proofs.Represented.{roomy}
use Rattle.shadow_frames.proofs.MappedPages.{no_page, pages_is, some_page}
use Rattle.shadow_frames.proofs.Sound.{read_sound}

not_zero : (d : ℕ) → eqb d 0 ≡ false → d ≢ 0
not_zero d e z = let t : eqb d 0 ≡ true = eq-eqb d 0 z in cc

in_one_lane : (width : StoreWidth) (addr : ℕ) → IsAligned addr (store_bytes width) → addr % 4 + store_bytes width ≤ 4
in_one_lane store.B addr a = omega arith
in_one_lane store.H addr a = let e : addr % 2 ≡ 0 = a.1 in omega arith
in_one_lane store.W addr a = let e : addr % 4 ≡ 0 = a.1 in omega arith

few_blocks : (addr len n : ℕ) → len ≤ 65536 → n ≤ blocks_of addr len * 3 → n < 4294967295
few_blocks addr len n l e = omega arith

module _ (rules : Rules) (laws : KeepsLaws rules) (size hart : ℕ) (masks : Masks) (bytes : Bytes) (small : AreNibbles bytes) (w : ℕ → ℕ) (st : WordsRepresent w bytes) where
  module _ (addr : ℕ) (low : addr < 2 ^ 24) where
    directory_sound : IsSoundShape 135185 (reads_lanes false 15 (block_directory (addr / 16)))
    directory_sound = read_sound (17 + addr / 16 / 256) (omega arith) (omega arith)

    word_low : (d : ℕ) → 9 ≤ 4113 + 256 * (d - 1) + 16 * (addr / 16) % 4096 / 16
    word_low d = omega arith

    word_high : eqb (w (block_directory (addr / 16))) 0 ≡ false → block_word w (addr / 16) < 135185
    word_high e =
        let some : w (block_directory (addr / 16)) ≢ 0 = not_zero (w (block_directory (addr / 16))) e in
        let t : w (17 + addr / 16 / 256) ≤ 512 = st.low (addr / 16 / 256) (omega arith) in
        omega arith

    look : (check : Bool) → eqb (w (block_directory (addr / 16))) 0 ≡ false → IsSoundShape 135185 (reads_lanes check (lanes_of size addr) (block_word w (addr / 16)))
    look check e = look_sound size addr check (block_word w (addr / 16)) (word_low (w (block_directory (addr / 16)))) (word_high e)

    load_sound : AreSoundShapes 135185 (load_shapes rules size w addr)
    unfolding load_shapes
    load_sound = by (eqb (w (block_directory (addr / 16))) 0) (not_taint rules.name) (not_addr rules.name) refl
      where
        by : (c t v : Bool) → eqb (w (block_directory (addr / 16))) 0 ≡ c → AreSoundShapes 135185 (reads_lanes false 15 (block_directory (addr / 16)) ∷ (if c then [] else (only t (reads_lanes true (lanes_of size addr) (block_word w (addr / 16)) ∷ []) ++ only v (reads_lanes false (lanes_of size addr) (block_word w (addr / 16)) ∷ []))))
        by true t v e = (directory_sound, tt)
        by false true true e = (directory_sound, (look true e, (look false e, tt)))
        by false true false e = (directory_sound, (look true e, tt))
        by false false true e = (directory_sound, (look false e, tt))
        by false false false e = (directory_sound, tt)

    load_length : length (load_shapes rules size w addr) < 4294967295
    unfolding load_shapes
    load_length = by (eqb (w (block_directory (addr / 16))) 0) (not_taint rules.name) (not_addr rules.name)
      where
        by : (c t v : Bool) → length (reads_lanes false 15 (block_directory (addr / 16)) ∷ (if c then [] else (only t (reads_lanes true (lanes_of size addr) (block_word w (addr / 16)) ∷ []) ++ only v (reads_lanes false (lanes_of size addr) (block_word w (addr / 16)) ∷ [])))) < 4294967295
        by true t v = omega arith
        by false true true = omega arith
        by false true false = omega arith
        by false false true = omega arith
        by false false false = omega arith

    module _ (len mask : ℕ) (fits : addr % 4 + len ≤ 4) where
      put : eqb (w (block_directory (addr / 16))) 0 ≡ false → IsSoundShape 135185 (writes_lanes (lanes_of size addr) (block_word w (addr / 16)) (changed_word (λ i old. rules.store_nibble old (mask_bit mask i)) addr len (addr / 16)))
      put e = put_sound size addr (λ i old. rules.store_nibble old (mask_bit mask i)) len (block_word w (addr / 16)) fits (word_low (w (block_directory (addr / 16)))) (word_high e)

      abbrev stores : Bool → Bool → Bool → List Shape
      stores c t v = reads_lanes false 15 (block_directory (addr / 16)) ∷ (if c then [] else (only t (reads_lanes true (lanes_of size addr) (block_word w (addr / 16)) ∷ [])
          ++ only v (reads_lanes false (lanes_of size addr) (block_word w (addr / 16)) ∷ writes_lanes (lanes_of size addr) (block_word w (addr / 16)) (changed_word (λ i old. rules.store_nibble old (mask_bit mask i)) addr len (addr / 16)) ∷ [])))

      store_sound : AreSoundShapes 135185 (store_shapes rules size w addr len mask)
      unfolding store_shapes
      store_sound = by (eqb (w (block_directory (addr / 16))) 0) (not_taint rules.name) (not_addr rules.name) refl
        where
          by : (c t v : Bool) → eqb (w (block_directory (addr / 16))) 0 ≡ c → AreSoundShapes 135185 (stores c t v)
          by true t v e = (directory_sound, tt)
          by false true true e = (directory_sound, (look true e, (look false e, (put e, tt))))
          by false true false e = (directory_sound, (look true e, tt))
          by false false true e = (directory_sound, (look false e, (put e, tt)))
          by false false false e = (directory_sound, tt)

      store_length : length (store_shapes rules size w addr len mask) < 4294967295
      unfolding store_shapes
      store_length = by (eqb (w (block_directory (addr / 16))) 0) (not_taint rules.name) (not_addr rules.name)
        where
          by : (c t v : Bool) → length (stores c t v) < 4294967295
          by true t v = omega arith
          by false true true = omega arith
          by false true false = omega arith
          by false false true = omega arith
          by false false false = omega arith

  range_sound : (kind : RangeKind) (addr len : ℕ) → IsByteRange addr len → AreSoundShapes 135185 (pages_from (change_block (λ i old. rules.range_state kind old) addr len) w (addr / 16) (blocks_of addr len))
  range_sound kind addr len v = blocks_sound (λ i old. rules.range_state kind old) addr len bytes (addr / 16) (λ i old. laws.range_below kind old) small w (blocks_of addr len) st (roomy addr len v.3)

  range_length : (kind : RangeKind) (addr len : ℕ) → IsByteRange addr len → length (pages_from (change_block (λ i old. rules.range_state kind old) addr len) w (addr / 16) (blocks_of addr len)) < 4294967295
  range_length kind addr len v = few_blocks addr len (length (pages_from (change_block (λ i old. rules.range_state kind old) addr len) w (addr / 16) (blocks_of addr len))) v.2 (changes_length (λ i old. rules.range_state kind old) addr len (blocks_of addr len) w (addr / 16))

  few_pages : (count most n : ℕ) → count ≤ 512 → most ≤ 266 → n ≤ count * most → n < 4294967295
  few_pages count most n a b c = let e : count * most ≤ 512 * 266 = mul-le count most 512 266 a b in omega arith

  pub sound : (kind : Kind) → HasValidFields kind → KeepsPages (has_page bytes) kind → AreSoundShapes 135185 (shapes rules size hart masks w kind)
  sound (Ld width rd rb addr) v k = load_sound addr v.2.0
  sound (St width rv rb addr) v k = store_sound addr v.2.0 (store_bytes width) (masks hart rv) (in_one_lane width addr v.2)
  sound (Op rd r1 r2) v k = tt
  sound (Mv rd rs) v k = tt
  sound (Im rd) v k = tt
  sound (Br r1 r2) v k = tt
  sound (Jr rd rs) v k = tt
  sound (Al addr len) v k = range_sound range.Al addr len v
  sound (Fr addr len) v k = range_sound range.Fr addr len v
  sound (Bf addr) v k = tt
  sound (Mp page count) v k = all_map_sound page bytes (rules.page_state Data) (all_nibbles (rules.page_state Data)) (all_same (rules.page_state Data) (let l : rules.page_state Data < 8 = laws.page_below Data in omega arith)) 512 (omega arith)
      w count st v.3 (λ q low high. no_page w bytes st q (let l : page + count ≤ 4096 = v.3 in omega arith) (k.0 q low high))
      (subst (λ (z : ℕ). z + count ≤ 512) (sym (pages_is w bytes st)) k.1)
  sound (Um page count) v k = all_unmap_sound page bytes w count st v.3 (λ q low high. some_page w bytes st q (let l : page + count ≤ 4096 = v.3 in omega arith) (k q low high))
  sound (Rd addr len) v k = range_sound range.Rd addr len v
  sound (Wr addr len) v k = reads_sound (blocks_of addr len) w bytes (addr / 16) st (roomy addr len v.3)
  sound Ex v k = tt
  sound (Ft cause addr) v k = tt

  pub few_operations : (kind : Kind) → HasValidFields kind → length (shapes rules size hart masks w kind) < 4294967295
  few_operations (Ld width rd rb addr) v = load_length addr v.2.0
  few_operations (St width rv rb addr) v = store_length addr v.2.0 (store_bytes width) (masks hart rv) (in_one_lane width addr v.2)
  few_operations (Op rd r1 r2) v = omega arith
  few_operations (Mv rd rs) v = omega arith
  few_operations (Im rd) v = omega arith
  few_operations (Br r1 r2) v = omega arith
  few_operations (Jr rd rs) v = omega arith
  few_operations (Al addr len) v = range_length range.Al addr len v
  few_operations (Fr addr len) v = range_length range.Fr addr len v
  few_operations (Bf addr) v = omega arith
  few_operations (Mp page count) v = few_pages count 266 (length (shapes rules size hart masks w (Mp page count))) v.2 (omega arith) (maps_length (all_nibbles (rules.page_state Data)) count w page)
  few_operations (Um page count) v = few_pages count 4 (length (shapes rules size hart masks w (Um page count))) v.2 (omega arith) (unmaps_length count w page)
  few_operations (Rd addr len) v = range_length range.Rd addr len v
  few_operations (Wr addr len) v = few_blocks addr len (length (shapes rules size hart masks w (Wr addr len))) v.2 (reads_length (blocks_of addr len) w (addr / 16))
  few_operations Ex v = omega arith
  few_operations (Ft cause addr) v = omega arith
