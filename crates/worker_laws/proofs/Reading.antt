-- What a read tells, and which writes leave it.
use Rattle.std.proofs.Common.{◌≡◌, ◌≢◌, ◌==◌, ℕ, zero, suc, ◌+◌, ◌-◌, ◌*◌, ◌/◌, ◌%◌, ◌^◌, ◌<◌, ◌≤◌, Bool, true, false, eqb, inl, inr, Option, Some, unwrap_or, refl, sym, ap, ◌∙◌, arith, if◌then◌else◌}
use mathlib.Core.Logic.{dite}
use native.Mathlib.Decide.{ℕ_discrete}
use Rattle.pl_base.specs.declared.widths.LoadWidth.{LoadWidth}
use Rattle.pl_base.specs.declared.widths.LoadWidth.TheVariants as load
use Rattle.pl_base.specs.Widths.{load_bytes}
use Rattle.pl_event.specs.Runs.{IsBlockSize}
use Rattle.lifeguard.specs.Plain.{loaded_mask}
use Rattle.lifeguard.specs.Rules.{Rules}
use Rattle.lifeguard.specs.State.{Bytes, nibble_at}
use Rattle.order_core.specs.declared.course.Op.{Op}
use Rattle.order_core.specs.Lanes.{HasValueOf, Meets, covers, lane}
use Rattle.order_core.proofs.SmallPlans.{no_lane}
use Rattle.order_core.proofs.Words.{same_word}
use Rattle.shadow_frames.specs.Words.{WordsRepresent, byte_in, nibble_of}
use Rattle.shadow_frames.proofs.Sound.{all_covered}
use Rattle.shadow_layout.specs.Operations.{lanes_of}
use Rattle.worker_laws.specs.Reads.{directory_of, directory_read, mask_in, value_read, value_write, word_of}

-- ---- nibbles by lanes

in_lane : (x r : ℕ) → r < 4 → nibble_of x r ≡ x % 65536 / 16 ^ r % 16
in_lane x zero lt = omega arith
in_lane x (suc zero) lt = omega arith
in_lane x (suc (suc zero)) lt = omega arith
in_lane x (suc (suc (suc zero))) lt = omega arith
in_lane x (suc (suc (suc (suc r)))) lt = absurd (omega arith)

four_up : (x k : ℕ) → nibble_of x (4 + k) ≡ nibble_of (x / 65536) k
four_up x k =
    let e : 4 + k ≡ suc (suc (suc (suc k))) = omega arith in
    let f : x / 16 / 16 / 16 / 16 ≡ x / 65536 = omega arith in
    ap (nibble_of x) e ∙ ap (λ (z : ℕ). nibble_of z k) f

in_word : (x j r : ℕ) → j < 4 → r < 4 → nibble_of x (4 * j + r) ≡ lane j x / 16 ^ r % 16
in_word x zero r j lt =
    let a : 4 * 0 + r ≡ r = omega arith in
    let b : x % 65536 ≡ lane 0 x = omega arith in
    ap (nibble_of x) a ∙ (in_lane x r lt ∙ ap (λ (z : ℕ). z / 16 ^ r % 16) b)
in_word x (suc zero) r j lt =
    let a : 4 * 1 + r ≡ 4 + r = omega arith in
    ap (nibble_of x) a ∙ (four_up x r ∙ in_lane (x / 65536) r lt)
in_word x (suc (suc zero)) r j lt =
    let a : 4 * 2 + r ≡ 4 + (4 + r) = omega arith in
    let b : x / 65536 / 65536 ≡ x / 4294967296 = omega arith in
    ap (nibble_of x) a ∙ (four_up x (4 + r) ∙ (four_up (x / 65536) r ∙ (in_lane (x / 65536 / 65536) r lt ∙ ap (λ (z : ℕ). z % 65536 / 16 ^ r % 16) b)))
in_word x (suc (suc (suc zero))) r j lt =
    let a : 4 * 3 + r ≡ 4 + (4 + (4 + r)) = omega arith in
    let b : x / 65536 / 65536 / 65536 ≡ x / 281474976710656 = omega arith in
    ap (nibble_of x) a ∙ (four_up x (4 + (4 + r)) ∙ (four_up (x / 65536) (4 + r) ∙ (four_up (x / 65536 / 65536) r ∙ (in_lane (x / 65536 / 65536 / 65536) r lt ∙ ap (λ (z : ℕ). z % 65536 / 16 ^ r % 16) b))))
in_word x (suc (suc (suc (suc j)))) r k lt = absurd (omega arith)

-- words that have a lane in common have its nibbles in common
pub same_nibble : (x y k : ℕ) → k < 16 → lane (k / 4) x ≡ lane (k / 4) y → nibble_of x k ≡ nibble_of y k
same_nibble x y k lt same =
    let e : k ≡ 4 * (k / 4) + k % 4 = omega arith in
    ap (nibble_of x) e ∙ (in_word x (k / 4) (k % 4) (omega arith) (omega arith)
    ∙ (ap (λ (z : ℕ). z / 16 ^ (k % 4) % 16) same ∙ (sym (in_word y (k / 4) (k % 4) (omega arith) (omega arith)) ∙ ap (nibble_of y) (sym e))))

-- ---- the bytes of a load

byte_there : (w : ℕ → ℕ) (a d : ℕ) → d ≢ 0 → byte_in w a d ≡ Some (nibble_of (w (4113 + 256 * (d - 1) + a % 4096 / 16)) (a % 16))
byte_there w a zero some = absurd (some refl)
byte_there w a (suc d) some = refl

-- the one word of an address near another one
near_word : (w : ℕ → ℕ) (addr i : ℕ) → addr % 4 + i < 4 → 4113 + 256 * (w (17 + (addr + i) / 4096) - 1) + (addr + i) % 4096 / 16 ≡ word_of w addr
near_word w addr i fits =
    let page : 17 + (addr + i) / 4096 ≡ 17 + addr / 16 / 256 = omega arith in
    let block : (addr + i) % 4096 / 16 ≡ 16 * (addr / 16) % 4096 / 16 = omega arith in
    ap (λ (z : ℕ). 4113 + 256 * (w z - 1) + (addr + i) % 4096 / 16) page
    ∙ ap (λ (z : ℕ). 4113 + 256 * (w (17 + addr / 16 / 256) - 1) + z) block

module _ (w : ℕ → ℕ) (bytes : Bytes) (st : WordsRepresent w bytes) (addr : ℕ) (near : addr < 16777216) where
  abbrev d : ℕ
  d = w (directory_of addr)

  page_is : (i : ℕ) → addr % 4 + i < 4 → w (17 + (addr + i) / 4096) ≡ d
  page_is i fits = let page : 17 + (addr + i) / 4096 ≡ 17 + addr / 16 / 256 = omega arith in ap w page

  module _ (some : w (directory_of addr) ≢ 0) (x : ℕ) (same : lane (addr % 16 / 4) x ≡ lane (addr % 16 / 4) (w (word_of w addr))) where
    pub read_nibble : (i : ℕ) → addr % 4 + i < 4 → nibble_at bytes (addr + i) ≡ nibble_of x (addr % 16 + i)
    read_nibble i fits =
        let at : (addr + i) % 16 ≡ addr % 16 + i = omega arith in
        let group : addr % 16 / 4 ≡ (addr % 16 + i) / 4 = omega arith in
        ap (λ (z : Option ℕ). unwrap_or z 0) (st.same (addr + i) (omega arith) ∙ byte_there w (addr + i) (w (17 + (addr + i) / 4096)) (λ e. some (sym (page_is i fits) ∙ e)))
        ∙ (ap (λ (z : ℕ). nibble_of (w z) ((addr + i) % 16)) (near_word w addr i fits)
        ∙ (ap (nibble_of (w (word_of w addr))) at
        ∙ sym (same_nibble x (w (word_of w addr)) (addr % 16 + i) (omega arith) (by_group group))))
      where
        by_group : addr % 16 / 4 ≡ (addr % 16 + i) / 4 → lane ((addr % 16 + i) / 4) x ≡ lane ((addr % 16 + i) / 4) (w (word_of w addr))
        by_group g = ap (λ (z : ℕ). lane z x) (sym g) ∙ (same ∙ ap (λ (z : ℕ). lane z (w (word_of w addr))) g)

    first_nibble : nibble_at bytes addr ≡ nibble_of x (addr % 16)
    first_nibble =
        let a : addr + 0 ≡ addr = omega arith in
        let b : addr % 16 + 0 ≡ addr % 16 = omega arith in
        ap (nibble_at bytes) (sym a) ∙ (read_nibble 0 (omega arith) ∙ ap (nibble_of x) b)

    by_width : (rules : Rules) (width : LoadWidth) → addr % 4 + load_bytes width ≤ 4 → mask_in rules width x addr ≡ loaded_mask rules width bytes addr
    by_width rules load.B fits = rw (first_nibble) refl
    by_width rules load.H fits = rw (first_nibble, read_nibble 1 (omega arith)) refl
    by_width rules load.W fits = rw (first_nibble, read_nibble 1 (omega arith), read_nibble 2 (omega arith), read_nibble 3 (omega arith)) refl
    by_width rules load.Bu fits = rw (first_nibble) refl
    by_width rules load.Hu fits = rw (first_nibble, read_nibble 1 (omega arith)) refl

  -- on a page that is not mapped each nibble is 0
  pub no_page_nibble : w (directory_of addr) ≡ 0 → (i : ℕ) → addr % 4 + i < 4 → nibble_at bytes (addr + i) ≡ 0
  no_page_nibble none i fits = ap (λ (z : Option ℕ). unwrap_or z 0) (st.same (addr + i) (omega arith) ∙ ap (byte_in w (addr + i)) (page_is i fits ∙ none))

-- the read names the lane of its address
pub own_lane : (block addr : ℕ) → covers (lanes_of block addr) (addr % 16 / 4) ≡ true
unfolding covers
own_lane block addr = by (eqb block 4) (addr % 16 / 4) (omega arith)
  where
    by : (b : Bool) (x : ℕ) → x < 4 → ((if b then 2 ^ x else 15) / 2 ^ x % 2 == 1) ≡ true
    by true zero l = refl
    by true (suc zero) l = refl
    by true (suc (suc zero)) l = refl
    by true (suc (suc (suc zero))) l = refl
    by false zero l = refl
    by false (suc zero) l = refl
    by false (suc (suc zero)) l = refl
    by false (suc (suc (suc zero))) l = refl
    by b (suc (suc (suc (suc x)))) l = absurd (omega arith)

-- a word with the value of the read gives the mask of the load
pub mask_read : (rules : Rules) (block : ℕ) (w : ℕ → ℕ) (bytes : Bytes) (width : LoadWidth) (addr x : ℕ) → WordsRepresent w bytes → addr < 16777216 → addr % 4 + load_bytes width ≤ 4
    → w (directory_of addr) ≢ 0 → HasValueOf (value_read block w addr) x → mask_in rules width x addr ≡ loaded_mask rules width bytes addr
mask_read rules block w bytes width addr x st near fits some has =
    by_width w bytes st addr near some x (has (addr % 16 / 4) (omega arith) (own_lane block addr)) rules width fits

-- a word of 64 bits that has all lanes of another one is that one
pub whole_word : (o : Op) (x : ℕ) → o.lanes ≡ 15 → x < 2 ^ 64 → o.value < 2 ^ 64 → HasValueOf o x → x ≡ o.value
whole_word o x all lt low has = same_word x o.value lt low (λ j four. has j four (ap (λ (z : ℕ). covers z j) all ∙ all_covered j four))

-- ---- writes of other blocks

one_lane : (x j : ℕ) → x < 4 → (2 ^ x / 2 ^ j % 2 == 1) ≡ true → j ≡ x
one_lane x zero l e = by x l e
  where
    by : (x : ℕ) → x < 4 → (2 ^ x / 2 ^ 0 % 2 == 1) ≡ true → 0 ≡ x
    by zero l e = refl
    by (suc zero) l e = absurd (let f : false ≡ true = e in cc)
    by (suc (suc zero)) l e = absurd (let f : false ≡ true = e in cc)
    by (suc (suc (suc zero))) l e = absurd (let f : false ≡ true = e in cc)
    by (suc (suc (suc (suc x)))) l e = absurd (omega arith)
one_lane zero (suc j) l e = absurd (no_lane 1 1 (suc j) (omega arith) (omega arith) e)
one_lane (suc zero) (suc zero) l e = refl
one_lane (suc zero) (suc (suc j)) l e = absurd (no_lane 2 2 (suc (suc j)) (omega arith) (omega arith) e)
one_lane (suc (suc zero)) (suc zero) l e = absurd (let f : false ≡ true = e in cc)
one_lane (suc (suc zero)) (suc (suc zero)) l e = refl
one_lane (suc (suc zero)) (suc (suc (suc j))) l e = absurd (no_lane 4 3 (suc (suc (suc j))) (omega arith) (omega arith) e)
one_lane (suc (suc (suc zero))) (suc zero) l e = absurd (let f : false ≡ true = e in cc)
one_lane (suc (suc (suc zero))) (suc (suc zero)) l e = absurd (let f : false ≡ true = e in cc)
one_lane (suc (suc (suc zero))) (suc (suc (suc zero))) l e = refl
one_lane (suc (suc (suc zero))) (suc (suc (suc (suc j)))) l e = absurd (no_lane 8 4 (suc (suc (suc (suc j)))) (omega arith) (omega arith) e)
one_lane (suc (suc (suc (suc x)))) (suc j) l e = absurd (omega arith)

-- two addresses of one shadow word are in one block of 16 bytes
one_word : (w : ℕ → ℕ) (bytes : Bytes) → WordsRepresent w bytes → (a b : ℕ) → a < 16777216 → b < 16777216 → w (directory_of a) ≢ 0 → w (directory_of b) ≢ 0 → word_of w a ≡ word_of w b → a / 16 ≡ b / 16
one_word w bytes st a b na nb sa sb e =
    let same : w (directory_of a) ≡ w (directory_of b) = frame (w (directory_of a)) (w (directory_of b)) (16 * (a / 16) % 4096 / 16) (16 * (b / 16) % 4096 / 16) sa sb (omega arith) (omega arith) e in
    let place : 16 * (a / 16) % 4096 / 16 ≡ 16 * (b / 16) % 4096 / 16 = offset (w (directory_of a)) (w (directory_of b)) (16 * (a / 16) % 4096 / 16) (16 * (b / 16) % 4096 / 16) same e in
    let page : a / 16 / 256 ≡ b / 16 / 256 = st.apart (a / 16 / 256) (b / 16 / 256) (omega arith) (omega arith) sa same in
    omega arith
  where
    frame : (x y i j : ℕ) → x ≢ 0 → y ≢ 0 → i < 256 → j < 256 → 4113 + 256 * (x - 1) + i ≡ 4113 + 256 * (y - 1) + j → x ≡ y
    frame x y i j nx ny li lj e = let f : x ≡ 0 → ⊥ = nx in let g : y ≡ 0 → ⊥ = ny in
        dite (ℕ_discrete x 0) (λ z. absurd (f z)) (λ u. dite (ℕ_discrete y 0) (λ z. absurd (g z)) (λ v. let a : x ≡ 0 → ⊥ = u in let b : y ≡ 0 → ⊥ = v in omega arith))

    offset : (x y i j : ℕ) → x ≡ y → 4113 + 256 * (x - 1) + i ≡ 4113 + 256 * (y - 1) + j → i ≡ j
    offset x y i j s e = omega arith

-- a store leaves the value read of another block, where the directory word of that page is as it was
module _ (now old : ℕ → ℕ) (bytes : Bytes) (st : WordsRepresent now bytes) (block addr held : ℕ) (f : ℕ → ℕ) (na : addr < 16777216) (nh : held < 16777216) (some : now (directory_of addr) ≢ 0) (other : old (directory_of held) ≢ 0)
    (same : now (directory_of held) ≡ old (directory_of held)) (meet : Meets (value_write block now addr f) (value_read block old held)) where
  one_block : addr / 16 ≡ held / 16
  one_block = one_word now bytes st addr held na nh some (λ z. other (sym same ∙ z)) (meet.0 ∙ ap (λ (z : ℕ). 4113 + 256 * (z - 1) + 16 * (held / 16) % 4096 / 16) (sym same))

  pub store_meets : IsBlockSize block → held / block ≡ addr / block
  unfolding covers
  store_meets (inl b) = ap (λ (z : ℕ). held / z) b ∙ (sym one_block ∙ ap (λ (z : ℕ). addr / z) (sym b))
  store_meets (inr b) =
      let one : addr / 16 ≡ held / 16 = one_block in
      let x : (2 ^ (addr % 16 / 4) / 2 ^ meet.1 % 2 == 1) ≡ true = ap (λ (z : ℕ). (if z == 4 then 2 ^ (addr % 16 / 4) else 15) / 2 ^ meet.1 % 2 == 1) (sym b) ∙ meet.2 in
      let y : (2 ^ (held % 16 / 4) / 2 ^ meet.1 % 2 == 1) ≡ true = ap (λ (z : ℕ). (if z == 4 then 2 ^ (held % 16 / 4) else 15) / 2 ^ meet.1 % 2 == 1) (sym b) ∙ meet.3 in
      let u : meet.1 ≡ addr % 16 / 4 = one_lane (addr % 16 / 4) meet.1 (omega arith) x in
      let v : meet.1 ≡ held % 16 / 4 = one_lane (held % 16 / 4) meet.1 (omega arith) y in
      let lane_is : addr % 16 / 4 ≡ held % 16 / 4 = sym u ∙ v in
      let f : held / 4 ≡ addr / 4 = omega arith in
      ap (λ (z : ℕ). held / z) b ∙ (f ∙ ap (λ (z : ℕ). addr / z) (sym b))

-- and every directory read
pub store_misses : (now old : ℕ → ℕ) (block addr held : ℕ) (f : ℕ → ℕ) → held < 16777216 → Meets (value_write block now addr f) (directory_read old held) → ⊥
store_misses now old block addr held f nh meet =
    let e : 4113 + 256 * (now (directory_of addr) - 1) + 16 * (addr / 16) % 4096 / 16 ≡ 17 + held / 16 / 256 = meet.0 in omega arith
