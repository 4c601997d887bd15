-- The lines of the standard probes.
use Rattle.std.specs.Prelude.{ℕ, ◌==◌, List, [], ◌∷◌, ◌++◌, Option, Some, None, codes, slice_index_or, if◌then◌else◌}
use Rattle.std.specs.List.{flat_map}
use Rattle.std.specs.Fmt.{decimal}
use Rattle.pl_event.specs.declared.event.Kind.{Kind}
use Rattle.pl_event.specs.declared.event.Kind.TheVariants.{Ld, St, Op, Mv, Im, Br, Jr, Al, Fr, Bf, Mp, Um, Rd, Wr, Ex, Ft}
use Rattle.lifeguard.specs.State.{span}
use Rattle.replay_probes.specs.declared.probe.Shown.{Shown}

-- the kinds in the order of the line
abbrev pub kind_words : List (List ℕ)
kind_words =
    codes "ld" ∷ codes "st" ∷ codes "op" ∷ codes "mv" ∷ codes "im" ∷ codes "br" ∷ codes "jr" ∷ codes "al"
    ∷ codes "fr" ∷ codes "bf" ∷ codes "mp" ∷ codes "um" ∷ codes "rd" ∷ codes "wr" ∷ codes "ex" ∷ codes "ft" ∷ []

abbrev pub kind_number : Kind → ℕ
kind_number (Ld width rd rb addr) = 0
kind_number (St width rv rb addr) = 1
kind_number (Op rd r1 r2) = 2
kind_number (Mv rd rs) = 3
kind_number (Im rd) = 4
kind_number (Br r1 r2) = 5
kind_number (Jr rd rs) = 6
kind_number (Al addr len) = 7
kind_number (Fr addr len) = 8
kind_number (Bf addr) = 9
kind_number (Mp page count) = 10
kind_number (Um page count) = 11
kind_number (Rd addr len) = 12
kind_number (Wr addr len) = 13
kind_number Ex = 14
kind_number (Ft cause addr) = 15

-- a word with its count, where there is any
abbrev pub counted : List ℕ → ℕ → List ℕ
counted word count = if count == 0 then [] else 32 ∷ word ++ 32 ∷ decimal count

-- each kind with its count
unfoldable pub kinds_text : (ℕ → ℕ) → List ℕ
kinds_text counts = codes "probe kinds"
    ++ flat_map (λ kind. counted (slice_index_or kind_words kind []) (counts kind)) (span 0 16)

-- each hart with its count, by number; a hart's number is one byte
unfoldable pub harts_text : (ℕ → ℕ) → List ℕ
harts_text counts = codes "probe harts" ++ flat_map (λ hart. counted (104 ∷ decimal hart) (counts hart)) (span 0 256)

-- how many bytes were loaded, and how many stored
abbrev pub bytes_text : ℕ → ℕ → List ℕ
bytes_text loaded stored = codes "probe bytes ld " ++ decimal loaded ++ codes " st " ++ decimal stored

-- the place of an alert, its hart, and its number in the hart
abbrev pub alert_text : Option Shown → List ℕ
alert_text None = codes "probe alert none"
alert_text (Some shown) = codes "probe alert " ++ decimal shown.place ++ codes " h" ++ decimal shown.event.hart
    ++ 32 ∷ decimal shown.number
