-- Reading a number digit by digit, as a function of the text.
use Rattle.std.specs.Prelude.{ℕ, ◌+◌, ◌-◌, ◌*◌, Bool, false, not, ◌&&◌, ◌==◌, nat_lt, nat_le, List, [], ◌∷◌, Option, Some, None, if◌then◌else◌}

-- the value of a digit, and 16 for any other byte
abbrev pub digit : ℕ → ℕ
digit c = if nat_lt c 48 then 16 else (if nat_lt c 58 then c - 48 else (if nat_lt c 97 then 16 else (if nat_lt c 103 then c - 87 else 16)))

-- the whole of a word, going on with the number so far
abbrev pub read_from : ℕ → ℕ → ℕ → List ℕ → Option ℕ
read_from base high n [] = Some n
read_from base high n (c ∷ cs) = if nat_lt (digit c) base && nat_le (n * base + digit c) high then read_from base high (n * base + digit c) cs else None

abbrev pub number_of : ℕ → ℕ → List ℕ → Option ℕ
number_of base high [] = None
number_of base high (c ∷ []) = read_from base high 0 (c ∷ [])
number_of base high (c ∷ d ∷ cs) = if c == 48 then None else read_from base high 0 (c ∷ d ∷ cs)

abbrev pub front : ℕ → List ℕ → Option (ℕ × List ℕ)
front n rest = Some (n, rest)

-- the prefix of a text, going on with the number so far
abbrev pub read_on : ℕ → ℕ → ℕ → List ℕ → Option (ℕ × List ℕ)
read_on base high n [] = front n []
read_on base high n (c ∷ cs) = if nat_lt (digit c) base then (if nat_le (n * base + digit c) high then read_on base high (n * base + digit c) cs else None) else front n (c ∷ cs)

abbrev pub goes_on : ℕ → List ℕ → Bool
goes_on base [] = false
goes_on base (c ∷ cs) = nat_lt (digit c) base

abbrev pub front_of : ℕ → ℕ → List ℕ → Option (ℕ × List ℕ)
front_of base high [] = None
front_of base high (c ∷ cs) =
    if nat_lt (digit c) base && (nat_le (digit c) high && not (digit c == 0 && goes_on base cs)) then read_on base high (digit c) cs else None
