-- The operations of each kind of event, before their values are known.
use Rattle.std.specs.Prelude.{ℕ, zero, suc, ◌+◌, ◌*◌, ◌-◌, ◌/◌, ◌%◌, ◌^◌, Bool, true, false, ◌==◌, List, [], ◌∷◌, ◌++◌, if◌then◌else◌}
use Rattle.pl_base.specs.Widths.{store_bytes}
use Rattle.pl_base.specs.declared.layout.TheConstants.{BLOCK_BYTES, SMALL_BLOCK_BYTES}
use Rattle.pl_event.specs.declared.event.Kind.{Kind}
use Rattle.pl_event.specs.declared.event.Kind.TheVariants.{Ld, St, Op, Mv, Im, Br, Jr, Al, Fr, Bf, Mp, Um, Rd, Wr, Ex, Ft}
use Rattle.pl_event.specs.declared.log.PageKind.TheVariants.{Data}
use Rattle.lifeguard.specs.declared.guard.Name.{Name}
use Rattle.lifeguard.specs.declared.guard.Name.TheVariants as name
use Rattle.lifeguard.specs.declared.guard.RangeKind.{RangeKind}
use Rattle.lifeguard.specs.declared.guard.RangeKind.TheVariants as range
use Rattle.lifeguard.specs.Rules.{Rules}
use Rattle.lifeguard.specs.State.{Masks, is_in}
use Rattle.lifeguard.specs.Plain.{is_taint, mask_bit}
use Rattle.order_core.specs.Shapes.{Shape}
use Rattle.shadow_frames.specs.declared.words.TheConstants.{FRAME_WORDS}
use Rattle.shadow_frames.specs.Words.{all_nibbles, directory_word, shadow_word}
use Rattle.shadow_frames.specs.Frames.{map_page, pages_from, reads, writes, reads_lanes, unmap_page, writes_lanes}

abbrev pub is_addr : Name → Bool
is_addr name.Addr = true
is_addr name.Taint = false
is_addr name.Mem = false

-- nibbles, the first of which is number i, each remade from its number and its old value
abbrev pub remade : (ℕ → ℕ → ℕ) → ℕ → ℕ → ℕ → ℕ
remade g i zero x = 0
remade g i (suc n) x = g i (x % 16) % 16 + 16 * remade g (suc i) n (x / 16)

-- what becomes of nibble i of a block where f says what becomes of each byte of a range
abbrev pub in_block : (ℕ → ℕ → ℕ) → ℕ → ℕ → ℕ → ℕ → ℕ → ℕ
in_block f addr len block i old =
    let at = BLOCK_BYTES * block + i in
    if is_in addr len at then f (at - addr) old else old

-- a shadow word after the bytes of a range in its block are changed
unfoldable pub changed_word : (ℕ → ℕ → ℕ) → ℕ → ℕ → ℕ → ℕ → ℕ
changed_word f addr len block x = remade (in_block f addr len block) 0 16 x

-- ---- shapes

-- the directory's word of the page of a block
abbrev pub block_directory : ℕ → ℕ
block_directory block = directory_word (block / FRAME_WORDS)

-- the shadow word of a block, where its page is mapped
abbrev pub block_word : (ℕ → ℕ) → ℕ → ℕ
block_word w block = shadow_word (w (block_directory block)) (BLOCK_BYTES * block)

-- a read of the directory word, and on a mapped page what is made of the shadow word
abbrev pub on_block : (ℕ → ℕ) → ℕ → List Shape → List Shape
on_block w block ss = reads (block_directory block) ∷ (if w (block_directory block) == 0 then [] else ss)

-- a block's nibbles are changed
unfoldable pub change_block : (ℕ → ℕ → ℕ) → ℕ → ℕ → (ℕ → ℕ) → ℕ → List Shape
change_block f addr len w block =
    let word = block_word w block in
    on_block w block (reads word ∷ writes word (changed_word f addr len block) ∷ [])

-- a block's nibbles are read
unfoldable pub read_block : (ℕ → ℕ) → ℕ → List Shape
read_block w block = on_block w block (reads (block_word w block) ∷ [])

-- how many blocks a range has
abbrev pub blocks_of : ℕ → ℕ → ℕ
blocks_of addr len = (addr % BLOCK_BYTES + len + 15) / BLOCK_BYTES

-- the lanes of a load or a store
abbrev pub lanes_of : ℕ → ℕ → ℕ
lanes_of size addr = if size == SMALL_BLOCK_BYTES then 2 ^ (addr % BLOCK_BYTES / SMALL_BLOCK_BYTES) else 15

abbrev pub only : Bool → List Shape → List Shape
only b ss = if b then ss else []

abbrev pub not_taint : Name → Bool
not_taint n = if is_taint n then false else true

abbrev pub not_addr : Name → Bool
not_addr n = if is_addr n then false else true

module _ (rules : Rules) (size : ℕ) where
  -- the read for the check, which TaintCheck does not make, and that of the value, which AddrCheck does not make
  unfoldable pub load_shapes : (ℕ → ℕ) → ℕ → List Shape
  load_shapes w addr =
      let block = addr / BLOCK_BYTES in
      let lanes = lanes_of size addr in
      let word = block_word w block in
      on_block w block (only (not_taint rules.name) (reads_lanes true lanes word ∷ [])
      ++ only (not_addr rules.name) (reads_lanes false lanes word ∷ []))

  -- the read for the check, then a read and the write of the bytes' nibbles; under AddrCheck a store leaves them
  unfoldable pub store_shapes : (ℕ → ℕ) → ℕ → ℕ → ℕ → List Shape
  store_shapes w addr len mask =
      let block = addr / BLOCK_BYTES in
      let lanes = lanes_of size addr in
      let word = block_word w block in
      let stored = changed_word (λ i old. rules.store_nibble old (mask_bit mask i)) addr len block in
      on_block w block (only (not_taint rules.name) (reads_lanes true lanes word ∷ [])
      ++ only (not_addr rules.name) (reads_lanes false lanes word ∷ writes_lanes lanes word stored ∷ []))

  -- each block of the range
  abbrev pub range_shapes : RangeKind → (ℕ → ℕ) → ℕ → ℕ → List Shape
  range_shapes kind w addr len =
      let change = change_block (λ i old. rules.range_state kind old) addr len in
      pages_from change w (addr / BLOCK_BYTES) (blocks_of addr len)

  -- the operations of a kind of event of a hart, where its masks and the words are these
  abbrev pub shapes : ℕ → Masks → (ℕ → ℕ) → Kind → List Shape
  shapes hart masks w (Ld width rd rb addr) = load_shapes w addr
  shapes hart masks w (St width rv rb addr) = store_shapes w addr (store_bytes width) (masks hart rv)
  shapes hart masks w (Op rd r1 r2) = []
  shapes hart masks w (Mv rd rs) = []
  shapes hart masks w (Im rd) = []
  shapes hart masks w (Br r1 r2) = []
  shapes hart masks w (Jr rd rs) = []
  shapes hart masks w (Al addr len) = range_shapes range.Al w addr len
  shapes hart masks w (Fr addr len) = range_shapes range.Fr w addr len
  shapes hart masks w (Bf addr) = []
  shapes hart masks w (Mp page count) = pages_from (map_page (all_nibbles (rules.page_state Data))) w page count
  shapes hart masks w (Um page count) = pages_from unmap_page w page count
  shapes hart masks w (Rd addr len) = range_shapes range.Rd w addr len
  shapes hart masks w (Wr addr len) = pages_from read_block w (addr / BLOCK_BYTES) (blocks_of addr len)
  shapes hart masks w Ex = []
  shapes hart masks w (Ft cause addr) = []
