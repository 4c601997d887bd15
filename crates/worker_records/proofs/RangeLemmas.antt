-- The blocks of a range, one after the other.
use Rattle.std.proofs.Common.{◌≡◌, ℕ, ◌+◌, ◌-◌, ◌*◌, ◌/◌, ◌%◌, ◌^◌, ◌<◌, ◌≤◌, Bool, List, [], ◌++◌, length, Option, find, refl, sym, ap, ◌∙◌, subst, arith}
use Rattle.std.specs.Prelude.{unwrap_or}
use Rattle.std.proofs.lemmas.List.{append-nil}
use Rattle.std.proofs.Math.Logic.{∥∥₁_elim, ∥∥₁_map}
use denote.Struct.Props.{props}
use Rattle.pl_event.specs.declared.event.Kind.{Kind}
use Rattle.pl_event.specs.Records.{line_number}
use Rattle.pl_event.specs.Valid.{IsByteRange}
use Rattle.lifeguard.specs.declared.guard.RangeKind.{RangeKind}
use Rattle.lifeguard.specs.State.{Bytes, nibble_at, span}
use Rattle.order_core.specs.Course.{Planned}
use Rattle.order_core.specs.Shapes.{Shape}
use Rattle.guard_table.specs.declared.view.View.{View}
use Rattle.shadow_frames.specs.Frames.{pages_from}
use Rattle.shadow_frames.specs.Words.{WordsRepresent}
use Rattle.shadow_frames.proofs.Many.{pages_length}
use Rattle.shadow_layout.specs.Operations.{block_directory, blocks_of, change_block, read_block}
use Rattle.shadow_layout.proofs.Blocks.{blocks_done, changes_length, done_up_to, reads_leave, reads_length}
use Rattle.worker_laws.specs.Runs.{IsRun, Moment, Run, before}
use Rattle.worker_laws.proofs.Steady.{nibble_below}
use Rattle.worker_records.specs.declared.blocks.BlockFound.{BlockFound}
use Rattle.worker_records.specs.declared.ranges.ByteRange.{ByteRange}
use Rattle.worker_records.specs.Alerts.{IsAmid}
use Rattle.worker_records.specs.Shapes.{IsDue, Midst, made}
use Rattle.worker_records.specs.Blocks.{IsMadeBlock, IsSoundBlock, found_in, or_else, part_of, part_shapes}
use Rattle.worker_records.specs.Words.{TellsOf}
use Rattle.worker_records.proofs.BlockLemmas.{Tells, bytes_in, found_nibble, frame_low, more_found, old_bytes, part_block, part_is, part_narrow, part_near, part_tells, sound_block}
use Rattle.worker_records.proofs.LoopLemmas.{count_more, due_at, made_more, midst_at, whole, whole_due, words_at}

-- words that represent bytes which are, in a block, these ones
abbrev RepresentsAt : (ℕ → ℕ) → Bytes → ℕ → Type 0
RepresentsAt w bytes b = (old : Bytes) × WordsRepresent w old × ((a : ℕ) → a / 16 ≡ b → old a ≡ bytes a)

tells_of : (w : ℕ → ℕ) (bytes : Bytes) (b : ℕ) → ((a : ℕ) → nibble_at bytes a < 8) → b < 2 ^ 20 → ∥ RepresentsAt w bytes b ∥₁ → Tells w bytes b
tells_of w bytes b small low at j lt = (
  ∥∥₁_elim at (hlevel props) (λ (t : RepresentsAt w bytes b).
      ap (λ (z : Option ℕ). unwrap_or z 0) (sym (t.2 (16 * b + j) (omega arith))) ∙ found_nibble w t.0 t.1 b low j lt),
  small (16 * b + j),
)

low_of : (w : ℕ → ℕ) (bytes : Bytes) (b : ℕ) → b < 2 ^ 20 → ∥ RepresentsAt w bytes b ∥₁ → w (block_directory b) ≤ 512
low_of w bytes b low at = ∥∥₁_elim at (hlevel props) (λ (t : RepresentsAt w bytes b). frame_low w t.0 t.1 b low)

-- the block at i of a range
pub reached : (addr len i : ℕ) → 1 ≤ len → i < blocks_of addr len → 16 * (addr / 16 + i) < addr + len
reached addr len i some lt = omega arith

block_low : (addr len i : ℕ) → 1 ≤ len → addr + len ≤ 2 ^ 24 → i < blocks_of addr len → addr / 16 + i < 2 ^ 20
block_low addr len i some fits lt = omega arith

module _ (page : (ℕ → ℕ) → ℕ → List Shape) (p : Run) (v : View) (number : ℕ) (event : Kind) (range : ByteRange) (valid : IsByteRange range.addr range.len) where
  abbrev pub now : Moment
  now = before p v.hart number

  abbrev pub first : ℕ
  first = range.addr / 16

  abbrev pub done : ℕ → List Shape
  done i = pages_from page now.words first i

  abbrev pub words : ℕ → (ℕ → ℕ)
  words i = words_at page now.words first i

  module _ (amid : IsAmid p v number 0 event now.words (done (blocks_of range.addr range.len))) (plan : Planned) (is_plan : p.plan ≡ plan) (short : (w : ℕ → ℕ) (b : ℕ) → length (page w b) ≤ 3)
      (still : (i : ℕ) → i < blocks_of range.addr range.len → ∥ RepresentsAt (words i) now.state.bytes (first + i) ∥₁)
      (i : ℕ) (lt : i < blocks_of range.addr range.len) (t : View) (op : ℕ) (is_t : t ≡ made (done i) v) (is_op : op ≡ length (done i)) where
    abbrev pub midst : Midst
    midst = midst_at page plan v number (whole p event now.words) first (blocks_of range.addr range.len) (whole_due plan p v number event now.words (done (blocks_of range.addr range.len)) is_plan amid) i

    pub due : IsDue plan t number op (page (words i) (first + i)) midst
    due = subst (λ (z : View). IsDue plan z number op (page (words i) (first + i)) midst) (sym is_t)
        (subst (λ (z : ℕ). IsDue plan (made (done i) v) number z (page (words i) (first + i)) midst) (sym is_op)
        (due_at page plan v number (whole p event now.words) first (blocks_of range.addr range.len) (whole_due plan p v number event now.words (done (blocks_of range.addr range.len)) is_plan amid) i lt))

    low : first + i < 2 ^ 20
    low = block_low range.addr range.len i valid.1 valid.3 lt

    small : (a : ℕ) → nibble_at now.state.bytes a < 8
    small a = nibble_below now.state.bytes (amid.run.range (line_number p.plan.log.lines v.hart number - 1)).nibbles a

    pub tells : Tells (words i) now.state.bytes (first + i)
    tells = tells_of (words i) now.state.bytes (first + i) small low (still i lt)

    pub sound : IsSoundBlock (words i) (first + i)
    sound = sound_block (words i) now.state.bytes (first + i) (low_of (words i) now.state.bytes (first + i) low (still i lt)) tells

    pub few : op < 4294967292
    few =
        let a : length (done i) ≤ i * 3 = pages_length page 3 short i now.words first in
        let b : i < blocks_of range.addr range.len = lt in
        let l : range.len ≤ 65536 = valid.2 in
        omega arith

    module _ (part : ByteRange) (is_part : part ≡ part_of range (first + i)) where
      until : 16 * (first + i) < range.addr + range.len
      until = reached range.addr range.len i valid.1 lt

      pub own_block : part.addr / 16 ≡ first + i
      own_block = ap (λ (z : ByteRange). z.addr / 16) is_part ∙ part_block range.addr range.len (first + i) (omega arith) until

      pub narrow : part.addr % 16 + part.len ≤ 16
      narrow = subst (λ (z : ByteRange). z.addr % 16 + z.len ≤ 16) (sym is_part) (part_narrow range.addr range.len (first + i) (omega arith) until)

      pub near : part.addr < 2 ^ 24
      near = subst (λ (z : ByteRange). z.addr < 2 ^ 24) (sym is_part) (part_near range.addr range.len (first + i) (omega arith) until valid.3)

      pub part_found : (word : ℕ) → word ≡ found_in (words i) (first + i) → TellsOf word now.state.bytes part.addr part.len
      part_found word is = part_tells (words i) now.state.bytes (first + i) part.addr part.len word own_block narrow tells is

      pub next_found : (test : ℕ → Bool) (found here : Option ℕ) → found ≡ find test (span range.addr (bytes_in range.addr range.len i)) → here ≡ or_else found (find test (span part.addr part.len))
          → here ≡ find test (span range.addr (bytes_in range.addr range.len (i + 1)))
      next_found test found here was is = more_found test range.addr range.len i found here valid.1 until was (is ∙ ap (λ (z : ByteRange). or_else found (find test (span z.addr z.len))) is_part)

    pub view_next : (u : View) → u ≡ made (page (words i) (first + i)) t → u ≡ made (done (i + 1)) v
    view_next u is = made_more page now.words first i v t u is_t is

    pub op_next : (n : ℕ) → n ≡ length (page (words i) (first + i)) → op + n ≡ length (done (i + 1))
    op_next n is = count_more page now.words first i op n is_op is

-- what is left of a block's operations when its bytes are changed
pub change_short : (f : ℕ → ℕ → ℕ) (addr len : ℕ) (w : ℕ → ℕ) (b : ℕ) → length (change_block f addr len w b) ≤ 3
change_short f addr len w b = subst (λ (n : ℕ). n ≤ 3) (one (change_block f addr len w b)) (changes_length f addr len 1 w b)
  where
    one : (ss : List Shape) → length (ss ++ []) ≡ length ss
    one ss = ap length (append-nil ss)

pub read_short : (w : ℕ → ℕ) (b : ℕ) → length (read_block w b) ≤ 3
read_short w b = subst (λ (n : ℕ). n ≤ 3) (ap length (append-nil (read_block w b))) (reads_length 1 w b)

pub change_still : (p : Run) (run : IsRun p) (v : View) (number : ℕ) (kind : RangeKind) (addr len i : ℕ) → addr / 16 + i ≤ 2 ^ 20
    → ∥ RepresentsAt (words_at (change_block (λ j old. p.rules.range_state kind old) addr len) (before p v.hart number).words (addr / 16) i) (before p v.hart number).state.bytes (addr / 16 + i) ∥₁
change_still p run v number kind addr len i room = ∥∥₁_map (run.represents at) (λ (st : WordsRepresent (before p v.hart number).words (before p v.hart number).state.bytes). (
  done_up_to f addr len (before p v.hart number).state.bytes (addr / 16) i,
  blocks_done f addr len (before p v.hart number).state.bytes (addr / 16) (λ j old lt. run.laws.range_below kind old lt) (run.range at).nibbles (before p v.hart number).words i st room,
  λ a own. old_bytes f addr len (before p v.hart number).state.bytes (addr / 16) i a own,
))
  where
    at : ℕ
    at = line_number p.plan.log.lines v.hart number - 1

    f : ℕ → ℕ → ℕ
    f j old = p.rules.range_state kind old

pub read_still : (p : Run) (run : IsRun p) (v : View) (number : ℕ) (addr i : ℕ)
    → ∥ RepresentsAt (words_at read_block (before p v.hart number).words (addr / 16) i) (before p v.hart number).state.bytes (addr / 16 + i) ∥₁
read_still p run v number addr i = ∥∥₁_map (run.represents (line_number p.plan.log.lines v.hart number - 1)) (λ (st : WordsRepresent (before p v.hart number).words (before p v.hart number).state.bytes).
    ((before p v.hart number).state.bytes, subst (λ (z : ℕ → ℕ). WordsRepresent z (before p v.hart number).state.bytes) (sym (reads_leave i (before p v.hart number).words (addr / 16))) st, λ a own. refl))

-- the block at i is made
pub record IsNextBlock (page : (ℕ → ℕ) → ℕ → List Shape) (p : Run) (v : View) (number : ℕ) (range : ByteRange) (i op : ℕ) (u : View) (part : ByteRange) (found : BlockFound) : Type 0 where
  pub view : u ≡ made (pages_from page (before p v.hart number).words (range.addr / 16) (i + 1)) v
  pub operations : op + found.operations ≡ length (pages_from page (before p v.hart number).words (range.addr / 16) (i + 1))
  pub tells : TellsOf found.word (before p v.hart number).state.bytes part.addr part.len

module _ (p : Run) (v : View) (number : ℕ) (event : Kind) (range : ByteRange) (valid : IsByteRange range.addr range.len) (plan : Planned) (is_plan : p.plan ≡ plan) where
  module _ (kind : RangeKind) where
    abbrev change : (ℕ → ℕ) → ℕ → List Shape
    change = change_block (λ j old. p.rules.range_state kind old) range.addr range.len

    module _ (amid : IsAmid p v number 0 event (before p v.hart number).words (pages_from change (before p v.hart number).words (range.addr / 16) (blocks_of range.addr range.len)))
        (i : ℕ) (lt : i < blocks_of range.addr range.len) (t : View) (op : ℕ) (is_t : t ≡ made (pages_from change (before p v.hart number).words (range.addr / 16) i) v) (is_op : op ≡ length (pages_from change (before p v.hart number).words (range.addr / 16) i)) where
      change_at : (j : ℕ) → j < blocks_of range.addr range.len → ∥ RepresentsAt (words_at change (before p v.hart number).words (range.addr / 16) j) (before p v.hart number).state.bytes (range.addr / 16 + j) ∥₁
      change_at j l = change_still p amid.run v number kind range.addr range.len j (let b : range.addr / 16 + j < 2 ^ 20 = block_low range.addr range.len j valid.1 valid.3 l in omega arith)

      pub change_few : op < 4294967292
      change_few = few change p v number event range valid amid plan is_plan (change_short (λ j old. p.rules.range_state kind old) range.addr range.len) change_at i lt t op is_t is_op

      module _ (part : ByteRange) (is_part : part ≡ part_of range (range.addr / 16 + i)) where
        abbrev at_i : ℕ → ℕ
        at_i = words_at change (before p v.hart number).words (range.addr / 16) i

        own : part.addr / 16 ≡ range.addr / 16 + i
        own = own_block change p v number event range valid amid plan is_plan (change_short (λ j old. p.rules.range_state kind old) range.addr range.len) change_at i lt t op is_t is_op part is_part

        until_here : 16 * (range.addr / 16 + i) < range.addr + range.len
        until_here = reached range.addr range.len i valid.1 lt

        shapes_are : part_shapes p.rules kind at_i part ≡ change at_i (range.addr / 16 + i)
        shapes_are = ap (part_shapes p.rules kind at_i) is_part ∙ part_is p.rules kind range at_i (range.addr / 16 + i) (omega arith) until_here

        abbrev midst_i : Midst
        midst_i = midst change p v number event range valid amid plan is_plan (change_short (λ j old. p.rules.range_state kind old) range.addr range.len) change_at i lt t op is_t is_op

        due_i : IsDue plan t number op (part_shapes p.rules kind at_i part) midst_i
        due_i = subst (λ (z : List Shape). IsDue plan t number op z midst_i) (sym shapes_are)
            (due change p v number event range valid amid plan is_plan (change_short (λ j old. p.rules.range_state kind old) range.addr range.len) change_at i lt t op is_t is_op)

        pub change_now : (m : Midst) × IsDue plan t number op (part_shapes p.rules kind m.words part) m × IsSoundBlock m.words (part.addr / 16)
        change_now = (midst_i, due_i, subst (IsSoundBlock at_i) (sym own) (sound change p v number event range valid amid plan is_plan (change_short (λ j old. p.rules.range_state kind old) range.addr range.len) change_at i lt t op is_t is_op))

        -- what its operations left
        abbrev Changes : View → BlockFound → Type 0
        Changes u found = (m : Midst) → IsDue plan t number op (part_shapes p.rules kind m.words part) m → IsMadeBlock (part_shapes p.rules kind m.words part) (found_in m.words (part.addr / 16)) t u found

        pub change_near : (part.addr < 2 ^ 24) × (part.addr % 16 + part.len ≤ 16)
        change_near = (
          near change p v number event range valid amid plan is_plan (change_short (λ j old. p.rules.range_state kind old) range.addr range.len) change_at i lt t op is_t is_op part is_part,
          narrow change p v number event range valid amid plan is_plan (change_short (λ j old. p.rules.range_state kind old) range.addr range.len) change_at i lt t op is_t is_op part is_part,
        )

        pub change_next : (u : View) (found : BlockFound) → Changes u found → IsNextBlock change p v number range i op u part found
        change_next u found each = let is = each midst_i due_i in record {
          view = view_next change p v number event range valid amid plan is_plan (change_short (λ j old. p.rules.range_state kind old) range.addr range.len) change_at i lt t op is_t is_op u (is.view ∙ ap (λ (z : List Shape). made z t) shapes_are);
          operations = op_next change p v number event range valid amid plan is_plan (change_short (λ j old. p.rules.range_state kind old) range.addr range.len) change_at i lt t op is_t is_op found.operations (is.operations ∙ ap length shapes_are);
          tells = part_found change p v number event range valid amid plan is_plan (change_short (λ j old. p.rules.range_state kind old) range.addr range.len) change_at i lt t op is_t is_op part is_part found.word (is.word_is ∙ ap (found_in at_i) own);
        }

        pub change_small : (u : View) (found : BlockFound) → Changes u found → op + found.operations < 2 ^ 32
        change_small u found each =
            let is = each midst_i due_i in
            let a : op < 4294967292 = change_few in
            let b : found.operations ≤ 3 = subst (λ (z : ℕ). z ≤ 3) (sym is.operations) (change_short (λ j old. p.rules.range_state kind old) part.addr part.len at_i (part.addr / 16)) in
            omega arith

        pub change_found : (test : ℕ → Bool) (found here : Option ℕ) → found ≡ find test (span range.addr (bytes_in range.addr range.len i)) → here ≡ or_else found (find test (span part.addr part.len))
            → here ≡ find test (span range.addr (bytes_in range.addr range.len (i + 1)))
        change_found = next_found change p v number event range valid amid plan is_plan (change_short (λ j old. p.rules.range_state kind old) range.addr range.len) change_at i lt t op is_t is_op part is_part

  module _ (amid : IsAmid p v number 0 event (before p v.hart number).words (pages_from read_block (before p v.hart number).words (range.addr / 16) (blocks_of range.addr range.len)))
      (i : ℕ) (lt : i < blocks_of range.addr range.len) (t : View) (op : ℕ) (is_t : t ≡ made (pages_from read_block (before p v.hart number).words (range.addr / 16) i) v) (is_op : op ≡ length (pages_from read_block (before p v.hart number).words (range.addr / 16) i)) where
    read_at : (j : ℕ) → j < blocks_of range.addr range.len → ∥ RepresentsAt (words_at read_block (before p v.hart number).words (range.addr / 16) j) (before p v.hart number).state.bytes (range.addr / 16 + j) ∥₁
    read_at j l = read_still p amid.run v number range.addr j

    pub read_few : op < 4294967292
    read_few = few read_block p v number event range valid amid plan is_plan read_short read_at i lt t op is_t is_op

    module _ (part : ByteRange) (is_part : part ≡ part_of range (range.addr / 16 + i)) where
      abbrev words_i : ℕ → ℕ
      words_i = words_at read_block (before p v.hart number).words (range.addr / 16) i

      own_read : part.addr / 16 ≡ range.addr / 16 + i
      own_read = own_block read_block p v number event range valid amid plan is_plan read_short read_at i lt t op is_t is_op part is_part

      abbrev midst_read : Midst
      midst_read = midst read_block p v number event range valid amid plan is_plan read_short read_at i lt t op is_t is_op

      due_read : IsDue plan t number op (read_block words_i (part.addr / 16)) midst_read
      due_read = subst (λ (z : ℕ). IsDue plan t number op (read_block words_i z) midst_read) (sym own_read)
          (due read_block p v number event range valid amid plan is_plan read_short read_at i lt t op is_t is_op)

      pub read_now : (m : Midst) × IsDue plan t number op (read_block m.words (part.addr / 16)) m × IsSoundBlock m.words (part.addr / 16)
      read_now = (midst_read, due_read, subst (IsSoundBlock words_i) (sym own_read) (sound read_block p v number event range valid amid plan is_plan read_short read_at i lt t op is_t is_op))

      -- what its operations left
      abbrev Reads : View → BlockFound → Type 0
      Reads u found = (m : Midst) → IsDue plan t number op (read_block m.words (part.addr / 16)) m → IsMadeBlock (read_block m.words (part.addr / 16)) (found_in m.words (part.addr / 16)) t u found

      pub read_near : (part.addr < 2 ^ 24) × (part.addr % 16 + part.len ≤ 16)
      read_near = (near read_block p v number event range valid amid plan is_plan read_short read_at i lt t op is_t is_op part is_part, narrow read_block p v number event range valid amid plan is_plan read_short read_at i lt t op is_t is_op part is_part)

      pub read_next : (u : View) (found : BlockFound) → Reads u found → IsNextBlock read_block p v number range i op u part found
      read_next u found each = let is = each midst_read due_read in record {
        view = view_next read_block p v number event range valid amid plan is_plan read_short read_at i lt t op is_t is_op u (is.view ∙ ap (λ (z : ℕ). made (read_block words_i z) t) own_read);
        operations = op_next read_block p v number event range valid amid plan is_plan read_short read_at i lt t op is_t is_op found.operations (is.operations ∙ ap (λ (z : ℕ). length (read_block words_i z)) own_read);
        tells = part_found read_block p v number event range valid amid plan is_plan read_short read_at i lt t op is_t is_op part is_part found.word (is.word_is ∙ ap (found_in words_i) own_read);
      }

      pub read_small : (u : View) (found : BlockFound) → Reads u found → op + found.operations < 2 ^ 32
      read_small u found each =
          let is = each midst_read due_read in
          let a : op < 4294967292 = read_few in
          let b : found.operations ≤ 3 = subst (λ (z : ℕ). z ≤ 3) (sym is.operations) (read_short words_i (part.addr / 16)) in
          omega arith

      pub read_found : (test : ℕ → Bool) (found here : Option ℕ) → found ≡ find test (span range.addr (bytes_in range.addr range.len i)) → here ≡ or_else found (find test (span part.addr part.len))
          → here ≡ find test (span range.addr (bytes_in range.addr range.len (i + 1)))
      read_found = next_found read_block p v number event range valid amid plan is_plan read_short read_at i lt t op is_t is_op part is_part
