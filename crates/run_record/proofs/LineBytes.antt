-- How many bytes the lines of a log take: at most 107 for an event, and 16 for a notice.
use Rattle.std.proofs.Common.{◌≡◌, ℕ, zero, suc, ◌+◌, ◌*◌, ◌/◌, ◌%◌, ◌<◌, ◌≤◌, Bool, true, false, cond, eqb, List, [], ◌∷◌, ◌++◌, length, map, append_assoc, Option, Some, None, refl, sym, ap, ◌∙◌, subst, arith}
use Rattle.std.specs.Prelude.{codes}
use Rattle.std.specs.Fmt.{decimal, digits, digits_onto, digit_glyph}
use Rattle.std.specs.List.{join_with_byte, AllByRecursion}
use Rattle.std.proofs.lemmas.Fmt.{length-decimal-le}
use Rattle.std.proofs.lemmas.List.{length-append}
use Rattle.pl_base.specs.declared.widths.LoadWidth.{LoadWidth}
use Rattle.pl_base.specs.declared.widths.LoadWidth.TheVariants as load
use Rattle.pl_base.specs.declared.widths.StoreWidth.{StoreWidth}
use Rattle.pl_base.specs.declared.widths.StoreWidth.TheVariants as store
use Rattle.pl_base.specs.declared.widths.FaultCause.{FaultCause}
use Rattle.pl_base.specs.declared.widths.FaultCause.TheVariants as fault
use Rattle.pl_event.specs.declared.event.Kind.{Kind}
use Rattle.pl_event.specs.declared.event.Kind.TheVariants as kind
use Rattle.pl_event.specs.declared.log.Line.{Line}
use Rattle.pl_event.specs.declared.log.Point.{Point}
use Rattle.pl_event.specs.declared.log.Record.{Record}
use Rattle.pl_event.specs.declared.log.Record.TheVariants as entry
use Rattle.log_grammar.specs.Form.{ArePointsInForm, HasFormFields, IsInForm, IsRecordInForm, MayHave, most_read}
use Rattle.log_grammar.specs.Spelling.{Entry, row_of, load_word, store_word, fault_word, kind_words, point_word, record_words, entry_text, line_text, entries_text, points_from}
use Rattle.log_text.specs.WellFormed.{IsLawful, rules_in_order}
use Rattle.log_text.specs.Writing.{arcs_text}
use Rattle.log_text.proofs.WriteLemmas.{row_joined}

-- ---- numbers

either : (b : Bool) (xs ys : List ℕ) (most : ℕ) → length xs ≤ most → length ys ≤ most → length (cond b xs ys) ≤ most
either true xs ys most short other = short
either false xs ys most short other = other

abbrev sixteens : ℕ → ℕ
sixteens zero = 1
sixteens (suc j) = 16 * sixteens j

hex_onto : (k j n : ℕ) (acc : List ℕ) → n < sixteens (suc j) → length (digits_onto k 16 false n acc) ≤ suc j + length acc
hex_onto zero j n acc low = omega arith
hex_onto (suc k) zero n acc low =
    let more = digit_glyph false (n % 16) ∷ acc in
    let none : n / 16 ≡ 0 = omega (arith, low) in
    subst (λ (q : ℕ). length (cond (eqb q 0) more (digits_onto k 16 false q more)) ≤ 1 + length acc) (sym none) (omega arith)
hex_onto (suc k) (suc j) n acc low =
    let more = digit_glyph false (n % 16) ∷ acc in
    let less : n / 16 < sixteens (suc j) = omega (arith, low) in
    either (eqb (n / 16) 0) more (digits_onto k 16 false (n / 16) more) (suc (suc j) + length acc) (omega arith) (omega (arith, hex_onto k j (n / 16) more less))

-- an address of memory has at most six digits, and one of 32 bits eight
hex_short : (n : ℕ) → n < 16777216 → length (digits 16 false n) ≤ 6
unfolding digits
hex_short n low = omega (arith, hex_onto 64 5 n [] low)

word_short : (n : ℕ) → n < 4294967296 → length (digits 16 false n) ≤ 8
unfolding digits
word_short n low = omega (arith, hex_onto 64 7 n [] low)

one_digit : (n : ℕ) → n ≤ 9 → length (decimal n) ≤ 1
one_digit n low = length-decimal-le 1 n (omega arith) (omega (arith, low)) (omega (arith, low))

two_digits : (n : ℕ) → n < 34 → length (decimal n) ≤ 2
two_digits n low = length-decimal-le 2 n (omega arith) (omega (arith, low)) (omega (arith, low))

five_digits : (n : ℕ) → n ≤ 65536 → length (decimal n) ≤ 5
five_digits n low = length-decimal-le 5 n (omega arith) (omega (arith, low)) (omega (arith, low))

seven_digits : (n : ℕ) → n ≤ 2000000 → length (decimal n) ≤ 7
seven_digits n low = length-decimal-le 7 n (omega arith) (omega (arith, low)) (omega (arith, low))

-- ---- words one blank apart

load_short : (width : LoadWidth) → length (load_word width) ≤ 2
load_short load.B = omega arith
load_short load.H = omega arith
load_short load.W = omega arith
load_short load.Bu = omega arith
load_short load.Hu = omega arith

store_short : (width : StoreWidth) → length (store_word width) ≤ 2
store_short store.B = omega arith
store_short store.H = omega arith
store_short store.W = omega arith

fault_short : (cause : FaultCause) → length (fault_word cause) ≤ 8
fault_short fault.Pc = omega arith
fault_short fault.Illegal = omega arith
fault_short fault.Align = omega arith
fault_short fault.Unmapped = omega arith
fault_short fault.ReadOnly = omega arith

-- all words, each with the blank after it
abbrev total : List (List ℕ) → ℕ
total [] = 0
total (word ∷ words) = length word + 1 + total words

joined_short : (words : List (List ℕ)) → length (join_with_byte 32 words) ≤ total words
joined_short [] = omega arith
joined_short (word ∷ []) = omega arith
joined_short (word ∷ next ∷ words) = omega (arith, length-append word (32 ∷ join_with_byte 32 (next ∷ words)), joined_short (next ∷ words))

kind_short : (k : Kind) → HasFormFields k → total (kind_words k) ≤ 21
kind_short (kind.Ld width rd rb addr) f = omega (arith, load_short width, two_digits rd f.0, two_digits rb f.1, hex_short addr f.2)
kind_short (kind.St width rv rb addr) f = omega (arith, store_short width, two_digits rv f.0, two_digits rb f.1, hex_short addr f.2)
kind_short (kind.Op rd r1 r2) f = omega (arith, two_digits rd f.0, two_digits r1 f.1, two_digits r2 f.2)
kind_short (kind.Mv rd rs) f = omega (arith, two_digits rd f.0, two_digits rs f.1)
kind_short (kind.Im rd) f = omega (arith, two_digits rd f)
kind_short (kind.Br r1 r2) f = omega (arith, two_digits r1 f.0, two_digits r2 f.1)
kind_short (kind.Jr rd rs) f = omega (arith, two_digits rd f.0, two_digits rs f.1)
kind_short (kind.Al addr len) f = omega (arith, hex_short addr f.0, five_digits len f.2)
kind_short (kind.Fr addr len) f = omega (arith, hex_short addr f.0, five_digits len f.2)
kind_short (kind.Bf addr) f = omega (arith, word_short addr f)
kind_short (kind.Mp first count) f = omega (arith, five_digits first (omega (arith, f.0)), five_digits count (omega (arith, f.2)))
kind_short (kind.Um first count) f = omega (arith, five_digits first (omega (arith, f.0)), five_digits count (omega (arith, f.2)))
kind_short (kind.Rd addr len) f = omega (arith, hex_short addr f.0, five_digits len f.2)
kind_short (kind.Wr addr len) f = omega (arith, hex_short addr f.0, five_digits len f.2)
kind_short kind.Ex f = omega arith
kind_short (kind.Ft cause addr) f = omega (arith, fault_short cause, word_short addr f)

-- ---- arcs

arcs_short : (first : Bool) (points : List Point) → ArePointsInForm most_read points → length (arcs_text first points) ≤ 2 + 10 * length points
arcs_short first [] form = omega arith
arcs_short first (point ∷ points) form =
    front first (arcs_text first (point ∷ points)) refl (one_digit point.hart form.0.0) (seven_digits point.number form.0.2) (length-append (decimal point.hart) (58 ∷ decimal point.number)) (length-append (point_word point) (arcs_text false points))
    (rest points form.1)
  where
    rest : (points : List Point) → ArePointsInForm most_read points → length (arcs_text false points) ≤ 10 * length points
    rest [] form = omega arith
    rest (point ∷ points) form =
        omega (arith, length-append (codes ",") (point_word point ++ arcs_text false points), length-append (point_word point) (arcs_text false points), length-append (decimal point.hart) (58 ∷ decimal point.number), one_digit point.hart form.0.0, seven_digits point.number form.0.2, rest points form.1)

    front : (first : Bool) (text : List ℕ) → text ≡ arcs_text first (point ∷ points) → length (decimal point.hart) ≤ 1 → length (decimal point.number) ≤ 7
        → length (point_word point) ≡ length (decimal point.hart) + length (58 ∷ decimal point.number) → length (point_word point ++ arcs_text false points) ≡ length (point_word point) + length (arcs_text false points)
        → length (arcs_text false points) ≤ 10 * length points → length text ≤ 2 + 10 * length (point ∷ points)
    front true text is hart number word both later = omega (arith, ap length is, length-append (codes " < ") (point_word point ++ arcs_text false points))
    front false text is hart number word both later = omega (arith, ap length is, length-append (codes ",") (point_word point ++ arcs_text false points))

points_few : (base : ℕ) (numbers : List (Option ℕ)) → length (points_from base numbers) ≤ length numbers
points_few base [] = omega arith
points_few base (None ∷ numbers) = omega (arith, points_few (suc base) numbers)
points_few base (Some n ∷ numbers) = omega (arith, points_few (suc base) numbers)

-- ---- lines

-- how many bytes the line of a record takes, at most
abbrev pub cost : Record → ℕ
cost (entry.Event event) = 107
cost (entry.Notice hart point) = 16

abbrev pub costs : List Record → ℕ
costs [] = 0
costs (what ∷ records) = cost what + costs records

record_short : (what : Record) (points : List Point) → IsRecordInForm most_read what → ArePointsInForm most_read points → MayHave what points → length points ≤ 8
    → total (record_words what) + length (arcs_text true points) + 1 ≤ cost what
record_short (entry.Event event) points form arcs may few = omega (arith, one_digit event.hart form.0, kind_short event.kind form.1, arcs_short true points arcs, few)
record_short (entry.Notice hart point) points form arcs may few =
    let none : length (arcs_text true points) ≡ 0 = ap (λ (ps : List Point). length (arcs_text true ps)) may in
    omega (arith, one_digit hart form.0, one_digit point.hart form.1.0, seven_digits point.number form.1.2, length-append (decimal point.hart) (58 ∷ decimal point.number), none)

line_short : (line : Line) → length line.arcs ≡ 8 → IsInForm most_read (row_of line) → length (line_text (entry_text (row_of line))) ≤ cost line.what
line_short line eight form =
    let points = points_from 0 line.arcs in
    let words = joined_short (record_words line.what) in
    let parted = ap length (row_joined line.what points) ∙ length-append (join_with_byte 32 (record_words line.what)) (arcs_text true points) in
    let few : length points ≤ 8 = omega (arith, points_few 0 line.arcs, eight) in
    omega (arith, length-append (entry_text (row_of line)) (10 ∷ []), parted, words, record_short line.what points form.0 form.1 form.2 few)

pub lines_short : (harts : ℕ) (front : List Entry) (lines : List Line) → AllByRecursion (λ line. length line.arcs ≡ 8) lines → IsLawful rules_in_order most_read harts (front ++ map row_of lines)
    → length (entries_text (map row_of lines)) ≤ costs (map (λ (line : Line). line.what) lines)
lines_short harts front [] eight lawful = omega arith
lines_short harts front (line ∷ lines) eight lawful =
    let here = line_short line eight.0 (lawful front (map row_of lines) (row_of line) refl).in_form in
    let rest = lines_short harts (front ++ row_of line ∷ []) lines eight.1 (subst (IsLawful rules_in_order most_read harts) (sym (append_assoc front (row_of line ∷ []) (map row_of lines))) lawful) in
    omega (arith, length-append (line_text (entry_text (row_of line))) (entries_text (map row_of lines)), here, rest)
