-- The numbers of a job: decimal with an optional `-`, or hexadecimal after `0x`, from -2^31 to 2^32 - 1.
use Rattle.std.specs.Prelude.{ℕ, ◌+◌, ◌-◌, ◌*◌, ◌^◌, Bool, true, false, not, ◌==◌, ◌&&◌, nat_lt, nat_le, nat_eq, List, length, slice_index, drop, fold, codes, Option, Some, None, option_and_then, if◌then◌else◌}
use Rattle.std.specs.List.{list_all, starts_with}
use Rattle.std.specs.Option.{option_map}
use Rattle.guest_asm.specs.declared.number.Number.{Number}
use Rattle.guest_asm.specs.Texts.{word_in}

-- the value of a digit of either case, and 16 for any other byte
abbrev pub digit_value : ℕ → ℕ
digit_value b =
    if nat_le 48 b && nat_le b 57 then b - 48
    else (if nat_le 97 b && nat_le b 102 then b - 97 + 10 else (if nat_le 65 b && nat_le b 70 then b - 65 + 10 else 16))

abbrev pub is_digit : ℕ → ℕ → Bool
is_digit base b = nat_lt (digit_value b) base

-- the value of digits, the first one highest
abbrev pub digits_value : ℕ → List ℕ → ℕ
digits_value base text = fold (λ n b. n * base + digit_value b) 0 text

-- the number below 2^32 that digits spell, of which there is at least one
unfoldable pub digits_of : ℕ → List ℕ → Option ℕ
digits_of base text =
    if not (length text == 0) && list_all (is_digit base) text && nat_lt (digits_value base text) (2 ^ 32)
    then Some (digits_value base text) else None

-- a decimal number has no leading zeros
unfoldable pub decimal_of : List ℕ → Option ℕ
decimal_of text = if nat_lt 1 (length text) && (slice_index text 0 == 48) then None else digits_of 10 text

-- a number from 0 up
abbrev pub plain : ℕ → Number
plain n = record { negative = false; bits = n }

-- a number below 0, of this size, in 32 bits; -0 is 0
unfoldable pub negated : ℕ → Option Number
negated n =
    if n == 0 then Some (plain 0)
    else (if nat_lt (2 ^ 31) n then None else Some (record { negative = true; bits = 2 ^ 32 - n }))

unfoldable pub number_of : List ℕ → Option Number
number_of text =
    if starts_with nat_eq text (codes "0x") then option_map plain (digits_of 16 (drop 2 text))
    else (if starts_with nat_eq text (codes "-") then option_and_then negated (decimal_of (drop 1 text))
    else option_map plain (decimal_of text))

-- the number that a part of the operands holds
unfoldable pub number_in : List ℕ → Option Number
number_in part = option_and_then number_of (word_in part)

-- one of low to high
abbrev pub is_within : ℕ → ℕ → Number → Bool
is_within low high n = not n.negative && nat_le low n.bits && nat_le n.bits high
