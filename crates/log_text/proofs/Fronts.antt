-- What begins the prefix of a text begins the text, where the prefix holds the next line whole.
use Rattle.std.proofs.Common.{◌≡◌, ℕ, ◌-◌, List, [], ◌∷◌, ◌++◌, length, drop, sym, ap, ◌∙◌, arith}
use Rattle.std.proofs.Math.Seq.{drop-append_seam}
use Rattle.std.proofs.lemmas.List.{append_assoc, append-nil, length-append}
use Rattle.log_grammar.specs.Begins.{Begins, BeginsWithNoRow, BeginsWithNoPage, BeginsWithHeader, BeginsWithNoHeader}
use Rattle.log_text.specs.Reading.{HoldsLine, whole_lines, last_bytes}
use Rattle.log_grammar.specs.Spelling.{Entry, page, row, header_text, line_text, entry_text}
use Rattle.log_text.proofs.WholeLines.{IsOneLine, one_entry, one_header, same_line, line_within}

-- a line and its line feed before a rest
feed : (line rest : List ℕ) → line_text line ++ rest ≡ line ++ 10 ∷ rest
feed line rest = append_assoc line (10 ∷ []) rest

longer : (text later line after : List ℕ) → text ≡ line_text line ++ after → text ++ later ≡ line_text line ++ (after ++ later)
longer text later line after e = ap (λ (t : List ℕ). t ++ later) e ∙ append_assoc (line_text line) after later

-- another line that begins the longer text is the one that begins its prefix
same_front : (text later line other after rest : List ℕ) → IsOneLine line → IsOneLine other → text ≡ line_text line ++ after → text ++ later ≡ line_text other ++ rest → (text ≡ line_text other ++ after) × (rest ≡ after ++ later)
same_front text later line other after rest first second e f =
    let h = same_line line other (after ++ later) rest first second (sym (feed line (after ++ later)) ∙ sym (longer text later line after e) ∙ f ∙ feed other rest) in
    (e ∙ ap (λ (l : List ℕ). line_text l ++ after) h.0, sym h.1)

pub begins_longer : (text later after : List ℕ) (e : Entry) → Begins text e after → Begins (text ++ later) e (after ++ later)
begins_longer text later after e begins = record {
  in_form = begins.in_form;
  spelled = longer text later (entry_text e) after begins.spelled;
  only = λ other rest form f.
      let same = same_front text later (entry_text e) (entry_text other) after rest (one_entry e) (one_entry other) begins.spelled f in
      ((begins.only other after form same.0).0, same.1);
}

pub header_longer : (text later after : List ℕ) (harts block : ℕ) → BeginsWithHeader text harts block after → BeginsWithHeader (text ++ later) harts block (after ++ later)
header_longer text later after harts block header = record {
  some = header.some;
  few = header.few;
  size = header.size;
  spelled = longer text later (header_text harts block) after header.spelled;
  only = λ other size rest some few block_size f.
      let same = same_front text later (header_text harts block) (header_text other size) after rest (one_header harts block) (one_header other size) header.spelled f in
      let only = header.only other size after some few block_size same.0 in
      (only.0, only.1, same.1);
}

-- a line that begins the longer text is in the prefix
line_front : (text later line rest : List ℕ) → IsOneLine line → HoldsLine text later → text ++ later ≡ line_text line ++ rest → (after : List ℕ) × (text ≡ line_text line ++ after)
line_front text later line rest one (whole_lines some ends) e =
    let h = line_within text later line rest one some ends (e ∙ feed line rest) in
    (h.0, h.1 ∙ sym (feed line h.0))
line_front text later line rest one (last_bytes none) e = (rest, sym (append-nil text) ∙ ap (λ (l : List ℕ). text ++ l) (sym none) ∙ e)

pub no_row_longer : (text later : List ℕ) → HoldsLine text later → BeginsWithNoRow text → BeginsWithNoRow (text ++ later)
no_row_longer text later holds none = λ what points rest form e.
    let h = line_front text later (entry_text (row what points)) rest (one_entry (row what points)) holds e in
    none what points h.0 form h.1

pub no_page_longer : (text later : List ℕ) → HoldsLine text later → BeginsWithNoPage text → BeginsWithNoPage (text ++ later)
no_page_longer text later holds none = λ run rest form e.
    let h = line_front text later (entry_text (page run)) rest (one_entry (page run)) holds e in
    none run h.0 form h.1

pub no_header_longer : (text later : List ℕ) → HoldsLine text later → BeginsWithNoHeader text → BeginsWithNoHeader (text ++ later)
no_header_longer text later holds none = λ harts block rest some few size e.
    let h = line_front text later (header_text harts block) rest (one_header harts block) holds e in
    none harts block h.0 some few size h.1

-- what follows a line
pub behind : (text line after : List ℕ) → text ≡ line ++ after → drop (length text - length after) text ≡ after
behind text line after e =
    let n : length text - length after ≡ length line = omega (arith, ap length e, length-append line after) in
    ap (λ (k : ℕ). drop k text) n ∙ ap (drop (length line)) e ∙ drop-append_seam line after
