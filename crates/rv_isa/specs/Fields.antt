-- The fields of a 32-bit instruction word and its forms of immediate.
-- Source: the RISC-V unprivileged specification, RV32I, "Base Instruction Formats" and "Immediate Encoding Variants".
use Rattle.std.specs.Prelude.{ℕ, ◌+◌, ◌*◌, ◌/◌, ◌%◌, ◌^◌, nat_lt, if◌then◌else◌, ℤ, pos, ◌-ℤ◌}

-- so many bits of a word, from the one at `low` upward, as a number
abbrev pub bits : ℕ → ℕ → ℕ → ℕ
bits low count word = word / 2 ^ low % 2 ^ count

abbrev pub rd_of : ℕ → ℕ
rd_of word = bits 7 5 word

abbrev pub rs1_of : ℕ → ℕ
rs1_of word = bits 15 5 word

abbrev pub rs2_of : ℕ → ℕ
rs2_of word = bits 20 5 word

-- two's complement: n, where the bit that is worth `sign` counts negative
abbrev pub signed : ℕ → ℕ → ℤ
signed sign n = if nat_lt n sign then pos n else (pos n -ℤ pos (2 * sign))

-- where the immediate is; R, Free and Whole have none
pub data Form : Type 0 where
  R : Form
  I : Form
  S : Form
  B : Form
  U : Form
  J : Form
  Shift : Form
  Free : Form
  Whole : Form

-- the immediate of a word, which U has as the number of 20 bits
abbrev pub immediate : Form → ℕ → ℤ
immediate I word = signed (2 ^ 11) (bits 20 12 word)
immediate S word = signed (2 ^ 11) (bits 25 7 word * 2 ^ 5 + bits 7 5 word)
immediate B word =
    signed (2 ^ 12) (bits 31 1 word * 2 ^ 12 + bits 7 1 word * 2 ^ 11 + bits 25 6 word * 2 ^ 5 + bits 8 4 word * 2)
immediate U word = pos (bits 12 20 word)
immediate J word =
    signed (2 ^ 20) (bits 31 1 word * 2 ^ 20 + bits 12 8 word * 2 ^ 12 + bits 20 1 word * 2 ^ 11 + bits 21 10 word * 2)
immediate Shift word = pos (bits 20 5 word)
immediate R word = pos 0
immediate Free word = pos 0
immediate Whole word = pos 0
