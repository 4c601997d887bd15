-- The listing of a job's text.
use Rattle.std.specs.Prelude.{ℕ, ◌+◌, ◌-◌, ◌^◌, true, false, List, [], ◌∷◌, ◌++◌, length, replicate, codes, Option, Some, None}
use Rattle.std.specs.Fmt.{digits, padded_integral}
use Rattle.rv_isa.specs.declared.instruction.Instr.{Instr}
use Rattle.rv_isa.specs.Table.{instruction_of}
use Rattle.rv_isa.specs.Listing.{text}
use Rattle.core_sim.specs.declared.job.Job.{Job}
use Rattle.pl_base.specs.declared.layout.TheConstants.{TEXT_START}

abbrev pub hex : ℕ → List ℕ
hex n = digits 16 false n

-- a word in hex digits, with zeros before them up to eight
abbrev pub eight_digits : ℕ → List ℕ
eight_digits n =
    padded_integral (record {
      fill = 32;
      align = 0;
      plus = false;
      alternate = false;
      zero = true;
      width = 8;
      precision = 2 ^ 64 - 1;
    }) false [] (hex n)

-- that is as many zeros as its digits are short of eight, and its digits
abbrev pub zeros_and_digits : ℕ → List ℕ
zeros_and_digits n = replicate (8 - length (hex n)) 48 ++ hex n

abbrev pub shown_or_word : Option Instr → List ℕ
shown_or_word (Some i) = text i
shown_or_word None = codes ".word"

abbrev pub word_text : ℕ → List ℕ
word_text word = shown_or_word (instruction_of word)

abbrev pub line_text : ℕ → ℕ → List ℕ
line_text address word = hex address ++ codes " " ++ eight_digits word ++ codes " " ++ word_text word ++ codes "\n"

-- words one after the other from an address on
abbrev pub lines_from : ℕ → List ℕ → List ℕ
lines_from address [] = []
lines_from address (word ∷ words) = line_text address word ++ lines_from (address + 4) words

abbrev pub listing_of : Job → List ℕ
listing_of job = lines_from TEXT_START job.words
