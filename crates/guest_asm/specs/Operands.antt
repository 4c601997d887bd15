-- The operands of instructions: registers, immediates, addresses and labels.
use Rattle.std.specs.Prelude.{◌≡◌, ℕ, ◌+◌, ◌-◌, ◌^◌, Bool, false, not, ◌==◌, ◌&&◌, ◌||◌, nat_lt, nat_le, List, [], ◌∷◌, length, map, take, slice_index, codes, Option, Some, None, option_and_then, if◌then◌else◌, ℤ, pos, ◌≤ℤ◌, ◌<ℤ◌, ◌-ℤ◌}
use Rattle.std.specs.List.{list_all, before_first, after_first}
use Rattle.std.specs.Str.{bytes_eq}
use Rattle.guest_asm.specs.declared.number.Number.{Number}
use Rattle.guest_asm.specs.Texts.{word_in}
use Rattle.guest_asm.specs.Numbers.{decimal_of, number_of, number_in}

infixl 10 ◌>>=◌
abbrev pub ◌>>=◌ : {A B : Type 0} → Option A → (A → Option B) → Option B
o >>= f = option_and_then f o

-- x0 to x31, a0 to a7, s0 and s1, s2 to s11, t0 to t2, t3 to t6
unfoldable pub member : ℕ → ℕ → Option ℕ
member letter n =
    if letter == 120 && nat_lt n 32 then Some n
    else (if letter == 97 && nat_lt n 8 then Some (n + 10)
    else (if letter == 115 && nat_lt n 2 then Some (n + 8)
    else (if letter == 115 && nat_lt n 12 then Some (n + 16)
    else (if letter == 116 && nat_lt n 3 then Some (n + 5)
    else (if letter == 116 && nat_lt n 7 then Some (n + 25) else None)))))

unfoldable pub family : List ℕ → Option ℕ
family [] = None
family (letter ∷ digits) = option_and_then (member letter) (decimal_of digits)

-- the register of a name
unfoldable pub register_of : List ℕ → Option ℕ
register_of word =
    if bytes_eq word (codes "zero") then Some 0
    else (if bytes_eq word (codes "ra") then Some 1
    else (if bytes_eq word (codes "sp") then Some 2
    else (if bytes_eq word (codes "gp") then Some 3
    else (if bytes_eq word (codes "tp") then Some 4
    else (if bytes_eq word (codes "fp") then Some 8 else family word)))))

-- the names of the registers with their numbers
abbrev pub named_registers : List (List ℕ × ℕ)
named_registers =
    (codes "zero", 0) ∷ (codes "ra", 1) ∷ (codes "sp", 2) ∷ (codes "gp", 3) ∷ (codes "tp", 4) ∷ (codes "t0", 5) ∷
    (codes "t1", 6) ∷ (codes "t2", 7) ∷ (codes "s0", 8) ∷ (codes "fp", 8) ∷ (codes "s1", 9) ∷ (codes "a0", 10) ∷
    (codes "a1", 11) ∷ (codes "a2", 12) ∷ (codes "a3", 13) ∷ (codes "a4", 14) ∷ (codes "a5", 15) ∷ (codes "a6", 16) ∷
    (codes "a7", 17) ∷ (codes "s2", 18) ∷ (codes "s3", 19) ∷ (codes "s4", 20) ∷ (codes "s5", 21) ∷ (codes "s6", 22) ∷
    (codes "s7", 23) ∷ (codes "s8", 24) ∷ (codes "s9", 25) ∷ (codes "s10", 26) ∷ (codes "s11", 27) ∷ (codes "t3", 28) ∷
    (codes "t4", 29) ∷ (codes "t5", 30) ∷ (codes "t6", 31) ∷ []

abbrev pub numbered_registers : List (List ℕ × ℕ)
numbered_registers =
    (codes "x0", 0) ∷ (codes "x1", 1) ∷ (codes "x2", 2) ∷ (codes "x3", 3) ∷ (codes "x4", 4) ∷
    (codes "x5", 5) ∷ (codes "x6", 6) ∷ (codes "x7", 7) ∷ (codes "x8", 8) ∷ (codes "x9", 9) ∷
    (codes "x10", 10) ∷ (codes "x11", 11) ∷ (codes "x12", 12) ∷ (codes "x13", 13) ∷ (codes "x14", 14) ∷
    (codes "x15", 15) ∷ (codes "x16", 16) ∷ (codes "x17", 17) ∷ (codes "x18", 18) ∷ (codes "x19", 19) ∷
    (codes "x20", 20) ∷ (codes "x21", 21) ∷ (codes "x22", 22) ∷ (codes "x23", 23) ∷ (codes "x24", 24) ∷
    (codes "x25", 25) ∷ (codes "x26", 26) ∷ (codes "x27", 27) ∷ (codes "x28", 28) ∷
    (codes "x29", 29) ∷ (codes "x30", 30) ∷ (codes "x31", 31) ∷ []

-- each of the names is that of its register
abbrev pub AreNames : List (List ℕ × ℕ) → Type 0
AreNames names = map (λ r. register_of r.0) names ≡ map (λ r. Some r.1) names

unfoldable pub register_in : List ℕ → Option ℕ
register_in part = option_and_then register_of (word_in part)

-- -2048 to 2047; a number from 2^31 up is the negative one of the same bits
unfoldable pub immediate_of : Number → Option ℤ
immediate_of n =
    if nat_lt n.bits 2048 then Some (pos n.bits)
    else (if nat_le (2 ^ 32 - 2048) n.bits then Some (pos n.bits -ℤ pos (2 ^ 32)) else None)

unfoldable pub immediate_in : List ℕ → Option ℤ
immediate_in part = option_and_then immediate_of (number_in part)

-- the amount of a shift
abbrev pub IsShift : ℤ → Type 0
IsShift z = (pos 0 ≤ℤ z) × (z <ℤ pos 32)

unfoldable pub shift_in : List ℕ → Option ℤ
shift_in part = option_and_then (λ n. if nat_lt n.bits 32 then Some (pos n.bits) else None) (number_in part)

-- the number of 20 bits of lui and auipc
unfoldable pub upper_in : List ℕ → Option ℕ
upper_in part = option_and_then (λ n. if nat_lt n.bits (2 ^ 20) then Some n.bits else None) (number_in part)

-- the text before a closing bracket at the end
unfoldable pub closed : List ℕ → Option (List ℕ)
closed text = if length text == 0 || not (slice_index text (length text - 1) == 41) then None
    else Some (take (length text - 1) text)

-- the offset before a register in brackets
unfoldable pub offset_of : List ℕ → Option ℤ
offset_of text = if length text == 0 then Some (pos 0) else option_and_then immediate_of (number_of text)

abbrev pub is_open : ℕ → Bool
is_open b = b == 40

-- an offset and a register in brackets; the register alone has offset 0
unfoldable pub address_in : List ℕ → Option (ℤ × ℕ)
address_in part = do
  word ← word_in part
  name ← closed (after_first is_open word)
  base ← register_of name
  offset ← offset_of (before_first is_open word)
  Some (offset, base)

abbrev pub is_label_start : ℕ → Bool
is_label_start b = (nat_le 97 b && nat_le b 122) || (nat_le 65 b && nat_le b 90) || b == 95

abbrev pub is_label_byte : ℕ → Bool
is_label_byte b = is_label_start b || (nat_le 48 b && nat_le b 57)

-- a letter or `_`, and then letters, digits and `_`
abbrev pub is_label : List ℕ → Bool
is_label [] = false
is_label (b ∷ bs) = is_label_start b && list_all is_label_byte bs

unfoldable pub label_of : List ℕ → Option (List ℕ)
label_of word = if is_label word then Some word else None

unfoldable pub label_in : List ℕ → Option (List ℕ)
label_in part = option_and_then label_of (word_in part)
