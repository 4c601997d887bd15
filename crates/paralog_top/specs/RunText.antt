-- The text of a run: how each hart stands, and the bytes that the guest sent outside.
use Rattle.std.specs.Prelude.{ℕ, ◌+◌, ◌/◌, ◌%◌, ◌==◌, ◌||◌, List, [], ◌∷◌, ◌++◌, length, codes, if◌then◌else◌}
use Rattle.std.specs.List.{enumerate_from, flat_map}
use Rattle.std.specs.Fmt.{decimal}
use Rattle.core_sim.specs.declared.hart.HartEnd.{HartEnd}
use Rattle.core_sim.specs.declared.hart.HartEnd.TheVariants as standing
use Rattle.log_text.specs.Spelling.{fault_word, hex}

-- the number of harts, and the steps that were taken
abbrev pub head_line : ℕ → ℕ → List ℕ
head_line harts steps = codes "PRUN 1 harts " ++ decimal harts ++ codes " steps " ++ decimal steps ++ 10 ∷ []

-- a hart with its exit code, with its fault, or still live
abbrev pub end_words : HartEnd → List ℕ
end_words standing.Live = codes "live"
end_words (standing.Exit code) = codes "exit " ++ decimal code
end_words (standing.Fault cause addr) = codes "fault " ++ fault_word cause ++ 32 ∷ hex addr

abbrev pub hart_line : ℕ → HartEnd → List ℕ
hart_line hart end = 104 ∷ decimal hart ++ 32 ∷ end_words end ++ 10 ∷ []

-- all harts, in order
abbrev pub hart_lines : List HartEnd → List ℕ
hart_lines ends = flat_map (λ entry. hart_line entry.0 entry.1) (enumerate_from 0 ends)

abbrev pub two_digits : ℕ → List ℕ
two_digits byte = hex (byte / 16) ++ hex (byte % 16)

-- a line ends behind each 32nd byte and behind the last of all
abbrev pub line_end : ℕ → ℕ → List ℕ
line_end count number = if (number % 32 == 31) || (number + 1 == count) then 10 ∷ [] else []

-- a byte of so many, with its number from 0 on
abbrev pub byte_text : ℕ → ℕ → ℕ → List ℕ
byte_text count number byte = two_digits byte ++ line_end count number

-- bytes in lines of 32
abbrev pub byte_lines : List ℕ → List ℕ
byte_lines bytes = flat_map (λ entry. byte_text (length bytes) entry.0 entry.1) (enumerate_from 0 bytes)

abbrev pub output_lines : List ℕ → List ℕ
output_lines output = codes "output " ++ decimal (length output) ++ 10 ∷ byte_lines output

-- the whole text, with the harts' ends by number
abbrev pub run_text : ℕ → ℕ → List HartEnd → List ℕ → List ℕ
run_text harts steps ends output = head_line harts steps ++ hart_lines ends ++ output_lines output ++ codes "end\n"
