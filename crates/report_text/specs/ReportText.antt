-- The text of a report: lines by place, masks and runs of bytes after them.
use Rattle.std.specs.Prelude.{ℕ, false, ◌==◌, List, [], ◌∷◌, ◌++◌, length, codes, if◌then◌else◌}
use Rattle.std.specs.List.{enumerate_from, flat_map}
use Rattle.std.specs.Fmt.{decimal, digits}
use Rattle.lifeguard.specs.declared.guard.Name.{Name}
use Rattle.lifeguard.specs.declared.report.Report.{Report}
use Rattle.lifeguard.specs.declared.report.ReportKind.{ReportKind}
use Rattle.lifeguard.specs.declared.report.ReportKind.TheVariants as kind
use Rattle.lifeguard.specs.Words.{guard_word}
use Rattle.report_text.specs.declared.runs.ByteRun.{ByteRun}

-- lower case, without leading zeros
abbrev pub hex : ℕ → List ℕ
hex n = digits 16 false n

-- the lifeguard, the number of harts, and the number of reports
abbrev pub head_lines : Name → ℕ → ℕ → List ℕ
head_lines name harts count =
    codes "PREP 1 " ++ guard_word name ++ codes " harts " ++ decimal harts ++ codes "\nreports " ++ decimal count
    ++ 10 ∷ []

-- what was found: an address in hex, or a register
abbrev pub finding : ReportKind → ℕ → List ℕ
finding kind.Access addr = codes "access " ++ hex addr
finding kind.BadFree addr = codes "badfree " ++ hex addr
finding kind.Undef addr = codes "undef " ++ hex addr
finding kind.Fault addr = codes "fault " ++ hex addr
finding kind.Addr register = codes "addr x" ++ decimal register
finding kind.Branch register = codes "branch x" ++ decimal register
finding kind.Jump register = codes "jump x" ++ decimal register
finding kind.Arg register = codes "arg x" ++ decimal register

-- the hart, the event's number in it, and what was found
abbrev pub report_line : Report → List ℕ
report_line report =
    104 ∷ decimal report.hart ++ 32 ∷ decimal report.event ++ 32 ∷ finding report.kind report.addr ++ 10 ∷ []

-- a register of a hart with its mask
abbrev pub register_line : ℕ → ℕ → ℕ → List ℕ
register_line hart register mask =
    codes "reg h" ++ decimal hart ++ codes " x" ++ decimal register ++ 32 ∷ hex mask ++ 10 ∷ []

-- a register whose mask is 0 has no line
abbrev pub marked_line : ℕ → ℕ → ℕ → List ℕ
marked_line hart register mask = if mask == 0 then [] else register_line hart register mask

-- the registers of a hart, in order
abbrev pub hart_lines : ℕ → List ℕ → List ℕ
hart_lines hart masks = flat_map (λ entry. marked_line hart entry.0 entry.1) (enumerate_from 0 masks)

-- all harts, in order
abbrev pub mask_lines : List (List ℕ) → List ℕ
mask_lines masks = flat_map (λ entry. hart_lines entry.0 entry.1) (enumerate_from 0 masks)

-- the first and the last byte of a run, and their nibble
abbrev pub run_line : ByteRun → List ℕ
run_line run = codes "mem " ++ hex run.first ++ 32 ∷ hex run.last ++ 32 ∷ hex run.nibble ++ 10 ∷ []

-- the whole text
abbrev pub report_text : Name → ℕ → List Report → List (List ℕ) → List ByteRun → List ℕ
report_text name harts reports masks runs =
    head_lines name harts (length reports) ++ flat_map report_line reports ++ mask_lines masks ++ flat_map run_line runs
    ++ codes "end\n"
