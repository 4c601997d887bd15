-- Reads that a hart may make now, and loads whose reads it makes later.
use Rattle.std.specs.Prelude.{◌≡◌, ◌≢◌, ℕ, ◌+◌, ◌/◌, ◌%◌, ◌<◌, ◌≤◌, true, false, Option, Some, None}
use Rattle.pl_base.specs.declared.layout.TheConstants.{BLOCK_BYTES, MEMORY_BYTES, REGISTERS, SMALL_BLOCK_BYTES}
use Rattle.pl_base.specs.declared.widths.LoadWidth.{LoadWidth}
use Rattle.pl_base.specs.declared.widths.StoreWidth.{StoreWidth}
use Rattle.pl_base.specs.Widths.{load_bytes, store_bytes}
use Rattle.pl_event.specs.declared.event.Kind.{Kind}
use Rattle.pl_event.specs.declared.event.Kind.TheVariants.{Ld}
use Rattle.pl_event.specs.Records.{record_of}
use Rattle.lifeguard.specs.declared.guard.Name.{Name}
use Rattle.lifeguard.specs.declared.guard.Name.TheVariants as name
use Rattle.lifeguard.specs.Rules.{Rules}
use Rattle.lifeguard.specs.Plain.{load_bits, loaded_mask, mask_bit}
use Rattle.order_core.specs.declared.course.Op.{Op}
use Rattle.order_core.specs.Core.{IsOpen}
use Rattle.order_core.specs.Course.{At, IsListed, course_of, operation_of}
use Rattle.order_core.specs.Shapes.{filled_op}
use Rattle.inherit_track.specs.declared.state.Held.{Held}
use Rattle.inherit_track.specs.declared.state.RegState.{RegState}
use Rattle.inherit_track.specs.declared.state.RegState.TheVariants as reg
use Rattle.guard_table.specs.declared.view.View.{View}
use Rattle.guard_table.specs.Views.{known_core}
use Rattle.shadow_frames.specs.Frames.{reads, reads_lanes, writes_lanes}
use Rattle.shadow_frames.specs.Words.{nibble_of}
use Rattle.shadow_layout.specs.Operations.{block_directory, block_word, changed_word, lanes_of}
use Rattle.worker_laws.specs.Runs.{Run, before, masks_before, kind_in, Lasts}

-- the directory's word of the page of an address
abbrev pub directory_of : ℕ → ℕ
directory_of addr = block_directory (addr / BLOCK_BYTES)

-- the shadow word of an address whose page is mapped
abbrev pub word_of : (ℕ → ℕ) → ℕ → ℕ
word_of w addr = block_word w (addr / BLOCK_BYTES)

-- the reads of a load or a store where the words are w: of the directory, for the check, and of the value
abbrev pub directory_read : (ℕ → ℕ) → ℕ → Op
directory_read w addr = filled_op (w (directory_of addr)) (reads (directory_of addr))

abbrev pub check_read : ℕ → (ℕ → ℕ) → ℕ → Op
check_read block w addr = filled_op (w (word_of w addr)) (reads_lanes true (lanes_of block addr) (word_of w addr))

abbrev pub value_read : ℕ → (ℕ → ℕ) → ℕ → Op
value_read block w addr = filled_op (w (word_of w addr)) (reads_lanes false (lanes_of block addr) (word_of w addr))

-- the write of a store, after which the word is changed by f
abbrev pub value_write : ℕ → (ℕ → ℕ) → ℕ → (ℕ → ℕ) → Op
value_write block w addr f = filled_op (w (word_of w addr)) (writes_lanes (lanes_of block addr) (word_of w addr) f)

-- a shadow word after a store of a register with this mask
abbrev pub stored_word : Rules → ℕ → StoreWidth → ℕ → ℕ → ℕ
stored_word rules mask width addr word =
    changed_word (λ i old. rules.store_nibble old (mask_bit mask i)) addr (store_bytes width) (addr / BLOCK_BYTES) word

-- which operation of a load or a store on a mapped page the read of the value is
abbrev pub value_at : Name → ℕ
value_at name.Addr = 1
value_at name.Taint = 1
value_at name.Mem = 2

-- the width and the address of a load
abbrev pub load_in : Option Kind → Option (LoadWidth × ℕ)
load_in None = None
load_in (Some (Ld width rd rb addr)) = Some (width, addr)
load_in (Some _) = None

-- the mask of a load that finds this word
abbrev pub mask_in : Rules → LoadWidth → ℕ → ℕ → ℕ
mask_in rules width word addr =
    let i = addr % BLOCK_BYTES in
    load_bits width (rules.load_bit (nibble_of word i)) (rules.load_bit (nibble_of word (i + 1)))
    (rules.load_bit (nibble_of word (i + 2))) (rules.load_bit (nibble_of word (i + 3)))

module _ (p : Run) (h : ℕ) (v : View) where
  -- the plan has this read i of record m of hart h, and by its own view the hart may make it now
  pub record MayReadNow (m i : ℕ) (o : Op) : Type 0 where
    pub listed : IsListed p.plan h m i o
    pub able : (q : ℕ) → At (course_of p.plan) q (operation_of h m i o)
        → IsOpen (course_of p.plan) (known_core v) h q (operation_of h m i o)

  -- after n records the load is held: both its reads may be made, and that of the value finds this mask
  pub record IsHeld (n : ℕ) (from : Held) (mask : ℕ) : Type 0 where
    pub source : load_in (kind_in (record_of p.plan.log.lines h from.number)) ≡ Some (from.width, from.addr)
    pub near : from.addr < MEMORY_BYTES
    pub narrow : from.addr % SMALL_BLOCK_BYTES + load_bytes from.width ≤ SMALL_BLOCK_BYTES
    pub past : from.number ≤ n
    pub some_page : (before p h from.number).words (directory_of from.addr) ≢ 0
    pub directory : MayReadNow from.number 0 (directory_read (before p h from.number).words from.addr)
    pub value : MayReadNow from.number (value_at p.rules.name)
        (value_read p.plan.log.block (before p h from.number).words from.addr)
    pub mask_is : mask ≡ loaded_mask p.rules from.width (before p h from.number).state.bytes from.addr
    pub lasts : Lasts p h n (λ q. q.words (directory_of from.addr)
        ≡ (before p h from.number).words (directory_of from.addr))

  -- the states of the registers after n records represent the masks before record m: a known one is the mask, and a
  -- held one is a load that finds it
  pub record AreRight (n m : ℕ) (states : ℕ → RegState) : Type 0 where
    pub known : (r mask : ℕ) → r < REGISTERS → states r ≡ reg.Known mask → mask ≡ masks_before p h m r
    pub held : (r : ℕ) (from : Held) → r < REGISTERS → states r ≡ reg.Held from
        → IsHeld n from (masks_before p h m r)
