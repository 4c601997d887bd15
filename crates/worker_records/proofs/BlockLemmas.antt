-- A range is changed or read block by block: what each block's word tells, and what is found so far.
use Rattle.std.proofs.Common.{◌≡◌, ◌≢◌, ℕ, zero, suc, ◌+◌, ◌-◌, ◌*◌, ◌/◌, ◌%◌, ◌^◌, ◌<◌, ◌≤◌, ◌==◌, Bool, true, false, List, [], ◌∷◌, ◌++◌, Option, Some, None, find, refl, sym, ap, ◌∙◌, subst, arith, eq-eqb, ne_eqb, if◌then◌else◌}
use Rattle.std.specs.Prelude.{max, min, unwrap_or}
use mathlib.Core.Logic.{dite}
use native.Mathlib.Decide.{dec_le}
use Rattle.lifeguard.specs.declared.guard.RangeKind.{RangeKind}
use Rattle.lifeguard.specs.Rules.{Rules}
use Rattle.lifeguard.specs.State.{Bytes, changed, is_in, nibble_at, span}
use Rattle.order_core.specs.Course.{Planned}
use Rattle.order_core.specs.Shapes.{Shape}
use Rattle.guard_table.specs.declared.view.View.{View}
use Rattle.guard_table.specs.Views.{wrote}
use Rattle.shadow_frames.specs.Frames.{reads, writes}
use Rattle.shadow_frames.specs.Words.{WordsRepresent, byte_in, nibble_of, shadow_word}
use Rattle.shadow_frames.proofs.Ranges.{in_span, off_span}
use Rattle.shadow_layout.specs.Operations.{block_directory, block_word, blocks_of, change_block, changed_word, in_block, on_block, read_block, remade}
use Rattle.shadow_layout.proofs.Blocks.{done_up_to}
use Rattle.worker_records.proofs.AccessLemmas.{word_is}
use Rattle.worker_records.proofs.ShapeLemmas.{DueFrom, first_of, like, made_none as nothing_made, made_past_read, made_past_write, past_read}
use Rattle.worker_records.specs.Shapes.{IsDue, Midst}
use Rattle.worker_records.specs.Blocks.{IsMadeBlock, IsSoundBlock, found_at, found_in, or_else, part_of, part_shapes}
use Rattle.worker_records.specs.Words.{TellsOf}
use Rattle.worker_records.specs.declared.ranges.ByteRange.{ByteRange}

-- ---- the bytes of a range that a block has

module _ (addr len block : ℕ) (from : addr / 16 ≤ block) (until : 16 * block < addr + len) where
  abbrev from_byte : ℕ
  from_byte = max addr (16 * block)

  abbrev part_len : ℕ
  part_len = min (addr + len) (16 * block + 16) - from_byte

  pub part_block : from_byte / 16 ≡ block
  part_block = omega arith

  pub part_narrow : from_byte % 16 + part_len ≤ 16
  part_narrow = omega arith

  pub part_near : addr + len ≤ 2 ^ 24 → from_byte < 2 ^ 24
  part_near fits = omega arith

  same_bytes : (k : ℕ) → k < 16 → is_in from_byte part_len (16 * block + k) ≡ is_in addr len (16 * block + k)
  same_bytes k lt = dite (dec_le addr (16 * block + k))
      (λ low. dite (dec_le (addr + len) (16 * block + k))
      (λ past. off_span from_byte part_len (16 * block + k) (λ p q. omega arith) ∙ sym (off_span addr len (16 * block + k) (λ p q. omega arith)))
      (λ n. let u : addr + len ≤ 16 * block + k → ⊥ = n in in_span from_byte part_len (16 * block + k) (omega arith) (omega arith) ∙ sym (in_span addr len (16 * block + k) low (omega arith))))
      (λ n. let u : addr ≤ 16 * block + k → ⊥ = n in off_span from_byte part_len (16 * block + k) (λ p q. omega arith) ∙ sym (off_span addr len (16 * block + k) (λ p q. u p)))

remade_like : (g h : ℕ → ℕ → ℕ) (n i x : ℕ) → ((j old : ℕ) → i ≤ j → j < i + n → g j old ≡ h j old) → remade g i n x ≡ remade h i n x
remade_like g h zero i x same = refl
remade_like g h (suc n) i x same =
    ap (λ (z : ℕ). z % 16 + 16 * remade g (suc i) n (x / 16)) (same i (x % 16) (omega arith) (omega arith))
    ∙ ap (λ (z : ℕ). h i (x % 16) % 16 + 16 * z) (remade_like g h n (suc i) (x / 16) (λ j old low high. same j old (omega arith) (omega arith)))

chosen : (b d : Bool) (new old : ℕ) → b ≡ d → (if b then new else old) ≡ (if d then new else old)
chosen b d new old e = ap (λ (z : Bool). if z then new else old) e

-- a word is changed by the bytes of its block alone, where what becomes of a nibble does not ask for its place
part_changed : (g : ℕ → ℕ) (addr len block x : ℕ) → addr / 16 ≤ block → 16 * block < addr + len
    → changed_word (λ i old. g old) (max addr (16 * block)) (min (addr + len) (16 * block + 16) - max addr (16 * block)) block x ≡ changed_word (λ i old. g old) addr len block x
unfolding changed_word
part_changed g addr len block x from until = remade_like (in_block (λ i old. g old) (max addr (16 * block)) (min (addr + len) (16 * block + 16) - max addr (16 * block)) block) (in_block (λ i old. g old) addr len block) 16 0 x
    (λ j old low high. chosen (is_in (max addr (16 * block)) (min (addr + len) (16 * block + 16) - max addr (16 * block)) (16 * block + j)) (is_in addr len (16 * block + j)) (g old) old (same_bytes addr len block from until j (omega arith)))

change_like : (f : ℕ → ℕ → ℕ) (addr len a l : ℕ) (w : ℕ → ℕ) (block b : ℕ) → b ≡ block → ((x : ℕ) → changed_word f a l block x ≡ changed_word f addr len block x) → change_block f a l w b ≡ change_block f addr len w block
unfolding change_block
change_like f addr len a l w block b e same =
    ap (λ (z : ℕ). on_block w z (reads (block_word w z) ∷ writes (block_word w z) (changed_word f a l z) ∷ [])) e
    ∙ (λ d. on_block w block (reads (block_word w block) ∷ writes (block_word w block) (λ x. same x d) ∷ []))

-- a block's operations by its bytes of the range, and by the whole range
pub part_is : (rules : Rules) (kind : RangeKind) (range : ByteRange) (w : ℕ → ℕ) (block : ℕ) → range.addr / 16 ≤ block → 16 * block < range.addr + range.len
    → part_shapes rules kind w (part_of range block) ≡ change_block (λ i old. rules.range_state kind old) range.addr range.len w block
part_is rules kind range w block from until = change_like (λ i old. rules.range_state kind old) range.addr range.len (part_of range block).addr (part_of range block).len w block ((part_of range block).addr / 16)
    (part_block range.addr range.len block from until) (λ x. part_changed (rules.range_state kind) range.addr range.len block x from until)

-- ---- the operations of a block

no_both : (P : Type 0) (b : Bool) → b ≡ true → b ≡ false → P
no_both P b t f = absurd (cc)

pub change_none : (f : ℕ → ℕ → ℕ) (addr len : ℕ) (w : ℕ → ℕ) (block : ℕ) → w (block_directory block) ≡ 0 → change_block f addr len w block ≡ reads (block_directory block) ∷ []
unfolding change_block
change_none f addr len w block e = ap (λ (z : Bool). reads (block_directory block) ∷ (if z then [] else (reads (block_word w block) ∷ writes (block_word w block) (changed_word f addr len block) ∷ []))) (eq-eqb (w (block_directory block)) 0 e)

pub change_some : (f : ℕ → ℕ → ℕ) (addr len : ℕ) (w : ℕ → ℕ) (block : ℕ) → w (block_directory block) ≢ 0
    → change_block f addr len w block ≡ reads (block_directory block) ∷ reads (block_word w block) ∷ writes (block_word w block) (changed_word f addr len block) ∷ []
unfolding change_block
change_some f addr len w block ne = ap (λ (z : Bool). reads (block_directory block) ∷ (if z then [] else (reads (block_word w block) ∷ writes (block_word w block) (changed_word f addr len block) ∷ []))) (ne_eqb (w (block_directory block)) 0 ne)

pub read_none : (w : ℕ → ℕ) (block : ℕ) → w (block_directory block) ≡ 0 → read_block w block ≡ reads (block_directory block) ∷ []
unfolding read_block
read_none w block e = ap (λ (z : Bool). reads (block_directory block) ∷ (if z then [] else (reads (block_word w block) ∷ []))) (eq-eqb (w (block_directory block)) 0 e)

pub read_some : (w : ℕ → ℕ) (block : ℕ) → w (block_directory block) ≢ 0 → read_block w block ≡ reads (block_directory block) ∷ reads (block_word w block) ∷ []
unfolding read_block
read_some w block ne = ap (λ (z : Bool). reads (block_directory block) ∷ (if z then [] else (reads (block_word w block) ∷ []))) (ne_eqb (w (block_directory block)) 0 ne)

-- ---- what is found in a block

pub found_zero : (w : ℕ → ℕ) (block : ℕ) → w (block_directory block) ≡ 0 → 0 ≡ found_in w block
found_zero w block e = sym (ap (found_at w block) e)

pub found_word : (w : ℕ → ℕ) (block : ℕ) → w (block_directory block) ≢ 0 → w (block_word w block) ≡ found_in w block
found_word w block ne = by (w (block_directory block)) ne
  where
    by : (d : ℕ) → d ≢ 0 → w (block_word w block) ≡ found_at w block d
    by zero n = absurd (n refl)
    by (suc d) n = refl

zero_nibble : (j : ℕ) → 0 ≡ nibble_of 0 j
zero_nibble zero = refl
zero_nibble (suc j) = zero_nibble j

module _ (w : ℕ → ℕ) (bytes : Bytes) (represents : WordsRepresent w bytes) (b : ℕ) (low : b < 2 ^ 20) where
  pub found_nibble : (j : ℕ) → j < 16 → nibble_at bytes (16 * b + j) ≡ nibble_of (found_in w b) j
  found_nibble j lt =
      let page : (16 * b + j) / 4096 ≡ b / 256 = omega arith in
      ap (λ (z : Option ℕ). unwrap_or z 0) (represents.same (16 * b + j) (omega arith) ∙ ap (λ (z : ℕ). byte_in w (16 * b + j) (w (17 + z))) page)
      ∙ by (w (block_directory b)) refl (omega arith) (omega arith)
    where
      by : (d : ℕ) → w (block_directory b) ≡ d → (16 * b + j) % 16 ≡ j → (16 * b + j) % 4096 / 16 ≡ 16 * b % 4096 / 16 → unwrap_or (byte_in w (16 * b + j) d) 0 ≡ nibble_of (found_at w b d) j
      by zero e own word = zero_nibble j
      by (suc d) e own word =
          let here : shadow_word (suc d) (16 * b + j) ≡ block_word w b = (λ i. 4113 + 256 * (sym e i - 1) + word i) in
          ap (nibble_of (w (shadow_word (suc d) (16 * b + j)))) own ∙ ap (λ (z : ℕ). nibble_of (w z) j) here

  pub frame_low : w (block_directory b) ≤ 512
  frame_low = represents.low (b / 256) (omega arith)

-- the block's word tells of its bytes
abbrev pub Tells : (ℕ → ℕ) → Bytes → ℕ → Type 0
Tells w bytes b = (j : ℕ) → j < 16 → (nibble_at bytes (16 * b + j) ≡ nibble_of (found_in w b) j) × (nibble_at bytes (16 * b + j) < 8)

pub sound_block : (w : ℕ → ℕ) (bytes : Bytes) (b : ℕ) → w (block_directory b) ≤ 512 → Tells w bytes b → IsSoundBlock w b
sound_block w bytes b low tells = record { low = low; nibbles = λ i lt. subst (λ (z : ℕ). z < 8) (tells i lt).0 (tells i lt).1 }

pub part_tells : (w : ℕ → ℕ) (bytes : Bytes) (b addr len word : ℕ) → addr / 16 ≡ b → addr % 16 + len ≤ 16 → Tells w bytes b → word ≡ found_in w b → TellsOf word bytes addr len
part_tells w bytes b addr len word own narrow tells is i lt =
    let t = tells (addr % 16 + i) (omega arith) in
    let here : 16 * b + (addr % 16 + i) ≡ addr + i = omega arith in
    let e : nibble_at bytes (addr + i) ≡ nibble_of word (addr % 16 + i) = ap (nibble_at bytes) (sym here) ∙ (t.0 ∙ ap (λ (z : ℕ). nibble_of z (addr % 16 + i)) (sym is)) in
    (e, subst (λ (z : ℕ). z < 8) (ap (nibble_at bytes) here ∙ e) t.1)

-- a block that is not done has its old bytes
pub old_bytes : (f : ℕ → ℕ → ℕ) (addr len : ℕ) (bytes : Bytes) (first k a : ℕ) → a / 16 ≡ first + k → done_up_to f addr len bytes first k a ≡ bytes a
unfolding done_up_to
old_bytes f addr len bytes first k a own = ap (λ (c : Bool). if c then changed f addr len bytes a else bytes a) (off_span first k (a / 16) (λ p q. omega arith))

-- ---- what is found so far

find_or : (p : ℕ → Bool) (xs ys : List ℕ) → find p (xs ++ ys) ≡ or_else (find p xs) (find p ys)
find_or p [] ys = refl
find_or p (x ∷ xs) ys = by (p x) (find_or p xs ys)
  where
    by : (b : Bool) → find p (xs ++ ys) ≡ or_else (find p xs) (find p ys) → (if b then Some x else find p (xs ++ ys)) ≡ or_else (if b then Some x else find p xs) (find p ys)
    by true next = refl
    by false next = next

span_both : (n m first : ℕ) → span first (n + m) ≡ span first n ++ span (first + n) m
span_both zero m first = ap (λ (z : ℕ). span first z) (let e : 0 + m ≡ m = omega arith in e) ∙ ap (λ (z : ℕ). span z m) (let e : first ≡ first + 0 = omega arith in e)
span_both (suc n) m first = ap (λ (z : ℕ). span first z) (let e : suc n + m ≡ suc (n + m) = omega arith in e)
    ∙ (ap (λ (z : List ℕ). first ∷ z) (span_both n m (suc first)) ∙ ap (λ (z : ℕ). span first (suc n) ++ span z m) (let e : suc first + n ≡ first + suc n = omega arith in e))

-- how many bytes of a range its first blocks have
abbrev pub bytes_in : ℕ → ℕ → ℕ → ℕ
bytes_in addr len i = min len (16 * (addr / 16 + i) - addr)

pub none_found : (p : ℕ → Bool) (addr len : ℕ) → None ≡ find p (span addr (bytes_in addr len 0))
none_found p addr len = ap (λ (z : ℕ). find p (span addr z)) (let e : 0 ≡ bytes_in addr len 0 = omega arith in e)

pub more_found : (p : ℕ → Bool) (addr len i : ℕ) (before here : Option ℕ) → 1 ≤ len → 16 * (addr / 16 + i) < addr + len → before ≡ find p (span addr (bytes_in addr len i))
    → let a = max addr (16 * (addr / 16 + i)) in let l = min (addr + len) (16 * (addr / 16 + i) + 16) - a in here ≡ or_else before (find p (span a l))
    → here ≡ find p (span addr (bytes_in addr len (i + 1)))
more_found p addr len i before here some until was is =
    let a : max addr (16 * (addr / 16 + i)) ≡ addr + bytes_in addr len i = omega arith in
    let n : bytes_in addr len i + (min (addr + len) (16 * (addr / 16 + i) + 16) - max addr (16 * (addr / 16 + i))) ≡ bytes_in addr len (i + 1) = omega arith in
    is ∙ ((λ d. or_else (was d) (find p (span (a d) (min (addr + len) (16 * (addr / 16 + i) + 16) - max addr (16 * (addr / 16 + i))))))
    ∙ (sym (find_or p (span addr (bytes_in addr len i)) (span (addr + bytes_in addr len i) (min (addr + len) (16 * (addr / 16 + i) + 16) - max addr (16 * (addr / 16 + i)))))
    ∙ (ap (find p) (sym (span_both (bytes_in addr len i) (min (addr + len) (16 * (addr / 16 + i) + 16) - max addr (16 * (addr / 16 + i))) addr))
    ∙ ap (λ (z : ℕ). find p (span addr z)) n)))

pub all_found : (p : ℕ → Bool) (addr len i : ℕ) (found : Option ℕ) → blocks_of addr len ≤ i → found ≡ find p (span addr (bytes_in addr len i)) → found ≡ find p (span addr len)
all_found p addr len i found end is = is ∙ ap (λ (z : ℕ). find p (span addr z)) (let e : bytes_in addr len i ≡ len = omega arith in e)

-- ---- the operations of a block, one by one

module _ (plan : Planned) (v : View) (number op : ℕ) (w : ℕ → ℕ) (block : ℕ) (ss : List Shape) (due : DueFrom plan v number op (on_block w block ss) w) where
  pub directory_due : (word : ℕ) → word ≡ block_directory block → DueFrom plan v number op (reads word ∷ []) w
  directory_due word e = subst (λ (z : ℕ). DueFrom plan v number op (reads z ∷ []) w) (sym e)
      (first_of plan v number op w (reads (block_directory block)) (if w (block_directory block) == 0 then [] else ss) due)

  pub directory_is : (word x : ℕ) → word ≡ block_directory block → ((m : Midst) → IsDue plan v number op (reads word ∷ []) m → x ≡ m.words word) → x ≡ w (block_directory block)
  directory_is word x e is = let f = directory_due word e in is f.0 f.1 ∙ (ap (λ (z : ℕ → ℕ). z word) f.2 ∙ ap w e)

  pub mapped_due : w (block_directory block) ≢ 0 → DueFrom plan v number (op + 1) ss w
  mapped_due ne = past_read plan v number op w (block_directory block) ss
      (like plan v number op w (on_block w block ss) (reads (block_directory block) ∷ ss) (ap (λ (z : Bool). reads (block_directory block) ∷ (if z then [] else ss)) (ne_eqb (w (block_directory block)) 0 ne)) due)

pub change_due : (plan : Planned) (v : View) (number op : ℕ) (m : Midst) (f : ℕ → ℕ → ℕ) (addr len block : ℕ) → IsDue plan v number op (change_block f addr len m.words block) m
    → DueFrom plan v number op (on_block m.words block (reads (block_word m.words block) ∷ writes (block_word m.words block) (changed_word f addr len block) ∷ [])) m.words
unfolding change_block
change_due plan v number op m f addr len block due = (m, due, refl)

pub read_due : (plan : Planned) (v : View) (number op : ℕ) (m : Midst) (block : ℕ) → IsDue plan v number op (read_block m.words block) m
    → DueFrom plan v number op (on_block m.words block (reads (block_word m.words block) ∷ [])) m.words
unfolding read_block
read_due plan v number op m block due = (m, due, refl)

-- the shadow word of an address in the block, by the directory's word
pub at_is : (w : ℕ → ℕ) (addr d at : ℕ) → d ≡ w (block_directory (addr / 16)) → at ≡ shadow_word d addr → at ≡ block_word w (addr / 16)
at_is w addr d at is e = e ∙ (ap (λ (z : ℕ). shadow_word z addr) is ∙ sym (word_is w addr))

module _ (v u : View) (w : ℕ → ℕ) (block : ℕ) where
  -- a block whose page is not mapped is done
  pub none_made : (ss : List Shape) → ss ≡ reads (block_directory block) ∷ [] → w (block_directory block) ≡ 0 → u ≡ v → IsMadeBlock ss (found_in w block) v u (record { operations = 1; word = 0 })
  none_made ss e none same = subst (λ (z : List Shape). IsMadeBlock z (found_in w block) v u (record { operations = 1; word = 0 })) (sym e) (record {
    view = same ∙ (sym (nothing_made v) ∙ made_past_read (block_directory block) [] v);
    operations = refl;
    word_is = found_zero w block none;
  })

  -- one that is read is done
  pub read_made : (word : ℕ) → w (block_directory block) ≢ 0 → word ≡ w (block_word w block) → u ≡ v → IsMadeBlock (read_block w block) (found_in w block) v u (record { operations = 2; word = word })
  read_made word ne is same = subst (λ (z : List Shape). IsMadeBlock z (found_in w block) v u (record { operations = 2; word = word })) (sym (read_some w block ne)) (record {
    view = same ∙ (sym (nothing_made v) ∙ (made_past_read (block_word w block) [] v ∙ made_past_read (block_directory block) (reads (block_word w block) ∷ []) v));
    operations = refl;
    word_is = is ∙ found_word w block ne;
  })

  -- and one that is changed
  pub change_made : (f : ℕ → ℕ → ℕ) (addr len word : ℕ) → w (block_directory block) ≢ 0 → word ≡ w (block_word w block) → u ≡ wrote v → IsMadeBlock (change_block f addr len w block) (found_in w block) v u (record { operations = 3; word = word })
  change_made f addr len word ne is same = subst (λ (z : List Shape). IsMadeBlock z (found_in w block) v u (record { operations = 3; word = word })) (sym (change_some f addr len w block ne)) (record {
    view = same ∙ (sym (nothing_made (wrote v)) ∙ (made_past_write (block_word w block) (changed_word f addr len block) [] v
        ∙ (made_past_read (block_word w block) (writes (block_word w block) (changed_word f addr len block) ∷ []) v
        ∙ made_past_read (block_directory block) (reads (block_word w block) ∷ writes (block_word w block) (changed_word f addr len block) ∷ []) v)));
    operations = refl;
    word_is = is ∙ found_word w block ne;
  })
