-- Outlines of lines, packed in words.
use Rattle.std.specs.Prelude.{ℕ, ◌+◌, ◌*◌, ◌/◌, ◌%◌, ◌<◌, ◌==◌, if◌then◌else◌}
use Rattle.pl_base.specs.declared.layout.TheConstants.{MAX_HARTS, MEMORY_BYTES}
use Rattle.log_check.specs.declared.trace.Part.{Part}
use Rattle.log_check.specs.declared.trace.Part.TheVariants as part
use Rattle.log_check.specs.declared.trace.Outline.{Outline}

-- the number of a part
abbrev pub code_of : Part → ℕ
code_of part.Other = 0
code_of (part.Load addr) = 1 + 4 * addr
code_of (part.Store addr) = 2 + 4 * addr
code_of (part.Alert harts) = 3 + 4 * harts

-- the word of an outline
abbrev pub word_of : Outline → ℕ
word_of outline = outline.hart + 8 * code_of outline.part

-- the part that has a number
abbrev pub part_in : ℕ → Part
part_in code =
    if code % 4 == 0 then part.Other
    else (if code % 4 == 1 then part.Load (code / 4)
    else (if code % 4 == 2 then part.Store (code / 4) else part.Alert (code / 4 % 256)))

-- the outline that has a word
abbrev pub outline_in : ℕ → Outline
outline_in word = record { hart = word % 8; part = part_in (word / 8) }

-- an address of memory, or a set of eight harts
abbrev pub IsNarrowPart : Part → Type 0
IsNarrowPart part.Other = Unit {0}
IsNarrowPart (part.Load addr) = addr < MEMORY_BYTES
IsNarrowPart (part.Store addr) = addr < MEMORY_BYTES
IsNarrowPart (part.Alert harts) = harts < 256

-- what has a word of 32 bits
abbrev pub IsNarrow : Outline → Type 0
IsNarrow outline = (outline.hart < MAX_HARTS) × IsNarrowPart outline.part
