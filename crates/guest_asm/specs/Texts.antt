-- The parts of a text: its lines, and the words and operands of a line.
use Rattle.std.specs.Prelude.{ℕ, Bool, ◌==◌, ◌||◌, ◌&&◌, nat_le, List, [], ◌∷◌, Option, Some, None, if◌then◌else◌}
use Rattle.std.specs.List.{list_all, before_first, after_first, slice_split, onto_first}

-- a blank or a tab
abbrev pub is_blank : ℕ → Bool
is_blank b = b == 32 || b == 9

-- what may be in a line: a tab, and what can be printed
abbrev pub is_legal : ℕ → Bool
is_legal b = b == 9 || (nat_le 32 b && nat_le b 126)

abbrev pub is_comma : ℕ → Bool
is_comma b = b == 44

abbrev pub is_colon : ℕ → Bool
is_colon b = b == 58

abbrev pub is_hash : ℕ → Bool
is_hash b = b == 35

-- the text after the blanks at its beginning
abbrev pub skip_blanks : List ℕ → List ℕ
skip_blanks [] = []
skip_blanks (b ∷ bs) = if is_blank b then skip_blanks bs else b ∷ bs

-- the one word of a text with blanks around it
unfoldable pub word_in : List ℕ → Option (List ℕ)
word_in text =
    let behind = skip_blanks text in
    if list_all is_blank (after_first is_blank behind) then Some (before_first is_blank behind) else None

-- the parts between commas; blanks alone have none
unfoldable pub parts_of : List ℕ → List (List ℕ)
parts_of text = if list_all is_blank text then [] else slice_split is_comma text

-- the lines, each of which a line feed ends; the last one may lack it
abbrev pub lines_of : List ℕ → List (List ℕ)
lines_of [] = []
lines_of (b ∷ bs) = if b == 10 then [] ∷ lines_of bs else onto_first b (lines_of bs)
