-- The text of the answers.
use Rattle.std.specs.Prelude.{ℕ, List, [], ◌++◌, codes, Option, Some, None}
use Rattle.std.specs.List.{flat_map}
use Rattle.std.specs.Fmt.{decimal}
use Rattle.core_sim.specs.Steps.{word_at}
use Rattle.guest_asm.specs.declared.read.LinedJob.{LinedJob}
use Rattle.guest_asm.specs.Listing.{hex, word_text}
use Rattle.whence_trail.specs.declared.block.Block.{Block}
use Rattle.whence_trail.specs.declared.happening.Origin.{Origin}
use Rattle.whence_trail.specs.declared.near.Near.{Near}
use Rattle.whence_trail.specs.declared.near.Near.TheVariants.{In, After}
use Rattle.whence_trail.specs.declared.trail.Answer.{Answer}
use Rattle.whence_trail.specs.declared.trail.Found.{Found}

-- a hart and the number of an event
abbrev pub hart_event : ℕ → ℕ → List ℕ
hart_event hart number = codes "h" ++ decimal hart ++ codes " " ++ decimal number ++ codes " "

-- the line of a word and its instruction
abbrev pub site : Option ℕ → Option ℕ → List ℕ
site (Some line) (Some word) = decimal line ++ codes " " ++ word_text word
site _ _ = codes "- -"

-- an event with its instruction
abbrev pub origin_line : LinedJob → Origin → List ℕ
origin_line lined o = hart_event o.hart o.number ++ hex o.pc ++ codes " line "
    ++ site (word_at lined.lines.items o.pc) (word_at lined.job.words o.pc) ++ codes "\n"

abbrev pub freed_line : LinedJob → Option Origin → List ℕ
freed_line lined None = []
freed_line lined (Some origin) = codes "fr " ++ origin_line lined origin

-- where a block came from and went
abbrev pub block_lines : LinedJob → Block → List ℕ
block_lines lined block = codes "al " ++ origin_line lined block.allocated ++ freed_line lined block.freed

abbrev pub near_lines : LinedJob → Option Near → List ℕ
near_lines lined None = []
near_lines lined (Some (In block byte)) = codes "in " ++ hex block.addr ++ codes " byte " ++ decimal byte
    ++ codes " of " ++ decimal block.len ++ codes "\n" ++ block_lines lined block
near_lines lined (Some (After block by)) = codes "after " ++ hex block.addr ++ codes " by " ++ decimal by
    ++ codes " of " ++ decimal block.len ++ codes "\n" ++ block_lines lined block

abbrev pub found_lines : LinedJob → Found → List ℕ
found_lines lined found = origin_line lined found.origin ++ near_lines lined found.near

abbrev pub found_or_none : LinedJob → ℕ → ℕ → Option Found → List ℕ
found_or_none lined hart number None = hart_event hart number ++ codes "none\n"
found_or_none lined hart number (Some found) = found_lines lined found

abbrev pub answer_lines : LinedJob → Answer → List ℕ
answer_lines lined answer = found_or_none lined answer.pair.hart answer.pair.number answer.found

abbrev pub all_lines : LinedJob → List Answer → List ℕ
all_lines lined answers = flat_map (answer_lines lined) answers

-- the whole text, with the answers in the order of their pairs
abbrev pub whence_text : LinedJob → List Answer → List ℕ
whence_text lined answers =
    codes "PWHE 1 harts " ++ decimal lined.job.harts ++ codes "\n" ++ all_lines lined answers ++ codes "end\n"
