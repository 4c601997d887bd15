-- The text of a well-formed log is short.
use Rattle.std.proofs.Common.{◌≡◌, ℕ, zero, suc, ◌+◌, ◌*◌, ◌/◌, ◌%◌, ◌^◌, ◌<◌, ◌≤◌, ◌||◌, Bool, true, false, cond, eqb, ltb, List, [], ◌∷◌, ◌++◌, length, map, Option, Some, None, refl, sym, ap, subst, ◌∙◌, append_assoc, arith}
use Rattle.std.specs.Prelude.{codes}
use Rattle.std.specs.Fmt.{decimal, digits, digits_onto, digit_glyph}
use Rattle.std.specs.List.{list_any, join_with_byte, AllByRecursion}
use Rattle.std.proofs.lemmas.Bool.{ltb-false, or_parts}
use Rattle.std.proofs.lemmas.Fmt.{length-decimal-le}
use Rattle.std.proofs.lemmas.List.{length-append}
use Rattle.std.proofs.lemmas.List.Concat.{flat_map-append}
use Rattle.std.proofs.lemmas.List.Elements.{recursion_from_All}
use Rattle.std.proofs.lemmas.List.Sums.{fold_push}
use Rattle.pl_base.specs.declared.widths.LoadWidth.{LoadWidth}
use Rattle.pl_base.specs.declared.widths.LoadWidth.TheVariants as load
use Rattle.pl_base.specs.declared.widths.StoreWidth.{StoreWidth}
use Rattle.pl_base.specs.declared.widths.StoreWidth.TheVariants as store
use Rattle.pl_base.specs.declared.widths.FaultCause.{FaultCause}
use Rattle.pl_base.specs.declared.widths.FaultCause.TheVariants as fault
use Rattle.pl_event.specs.declared.event.Kind.{Kind}
use Rattle.pl_event.specs.declared.event.Kind.TheVariants as kind
use Rattle.pl_event.specs.declared.log.Line.{Line}
use Rattle.pl_event.specs.declared.log.Log.{Log}
use Rattle.pl_event.specs.declared.log.PageKind.{PageKind}
use Rattle.pl_event.specs.declared.log.PageKind.TheVariants as page_kind
use Rattle.pl_event.specs.declared.log.PageRun.{PageRun}
use Rattle.pl_event.specs.declared.log.Point.{Point}
use Rattle.pl_event.specs.declared.log.Record.{Record}
use Rattle.pl_event.specs.declared.log.Record.TheVariants as entry
use Rattle.log_text.specs.declared.cause.LogCause.TheVariants.{Page}
use Rattle.log_grammar.specs.Form.{ArePointsInForm, most_read}
use Rattle.log_grammar.specs.Spelling.{Entry, page, row_of, load_word, store_word, fault_word, page_word, kind_words, point_word, record_words, entry_text, line_text, version_of, header_text, entries_text, entries_of, log_spelling, points_from}
use Rattle.log_text.specs.WellFormed.{IsWellFormed, IsLawful, breaks, breaks_page, end_after, page_end, is_row, pages_mapped, rules_in_order}
use Rattle.log_text.specs.Writing.{arcs_text}
use Rattle.log_text.proofs.RowLaws.{parts_of}
use Rattle.log_text.proofs.RuleLemmas.{find-None, fails_at}
use Rattle.log_text.proofs.WriteLemmas.{row_joined}

-- Words

either_short : (b : Bool) (xs ys : List ℕ) (most : ℕ) → length xs ≤ most → length ys ≤ most → length (cond b xs ys) ≤ most
either_short true xs ys most short other = short
either_short false xs ys most short other = other

onto_short : (k base n : ℕ) (acc : List ℕ) → length (digits_onto k base false n acc) ≤ k + length acc
onto_short zero base n acc = omega arith
onto_short (suc k) base n acc =
    let more = digit_glyph false (n % base) ∷ acc in
    either_short (eqb (n / base) 0) more (digits_onto k base false (n / base) more) (suc k + length acc) (omega arith) (omega (arith, onto_short k base (n / base) more))

digits_short : (base n : ℕ) → length (digits base false n) ≤ 64
unfolding digits
digits_short base n = omega (arith, onto_short 64 base n [])

load_short : (width : LoadWidth) → length (load_word width) ≤ 2
load_short load.B = omega arith
load_short load.H = omega arith
load_short load.W = omega arith
load_short load.Bu = omega arith
load_short load.Hu = omega arith

store_short : (width : StoreWidth) → length (store_word width) ≤ 2
store_short store.B = omega arith
store_short store.H = omega arith
store_short store.W = omega arith

fault_short : (cause : FaultCause) → length (fault_word cause) ≤ 8
fault_short fault.Pc = omega arith
fault_short fault.Illegal = omega arith
fault_short fault.Align = omega arith
fault_short fault.Unmapped = omega arith
fault_short fault.ReadOnly = omega arith

page_short : (kind : PageKind) → length (page_word kind) ≤ 5
page_short page_kind.Data = omega arith
page_short page_kind.Heap = omega arith
page_short page_kind.Stack = omega arith

-- Words one blank apart

abbrev total : List (List ℕ) → ℕ
total [] = 0
total (word ∷ words) = length word + 1 + total words

joined_short : (words : List (List ℕ)) → length (join_with_byte 32 words) ≤ total words
joined_short [] = omega arith
joined_short (word ∷ []) = omega arith
joined_short (word ∷ next ∷ words) = omega (arith, length-append word (32 ∷ join_with_byte 32 (next ∷ words)), joined_short (next ∷ words))

kind_short : (k : Kind) → total (kind_words k) ≤ 300
kind_short (kind.Ld width rd rb addr) = omega (arith, load_short width, digits_short 10 rd, digits_short 10 rb, digits_short 16 addr)
kind_short (kind.St width rv rb addr) = omega (arith, store_short width, digits_short 10 rv, digits_short 10 rb, digits_short 16 addr)
kind_short (kind.Op rd r1 r2) = omega (arith, digits_short 10 rd, digits_short 10 r1, digits_short 10 r2)
kind_short (kind.Mv rd rs) = omega (arith, digits_short 10 rd, digits_short 10 rs)
kind_short (kind.Im rd) = omega (arith, digits_short 10 rd)
kind_short (kind.Br r1 r2) = omega (arith, digits_short 10 r1, digits_short 10 r2)
kind_short (kind.Jr rd rs) = omega (arith, digits_short 10 rd, digits_short 10 rs)
kind_short (kind.Al addr len) = omega (arith, digits_short 16 addr, digits_short 10 len)
kind_short (kind.Fr addr len) = omega (arith, digits_short 16 addr, digits_short 10 len)
kind_short (kind.Bf addr) = omega (arith, digits_short 16 addr)
kind_short (kind.Mp first count) = omega (arith, digits_short 10 first, digits_short 10 count)
kind_short (kind.Um first count) = omega (arith, digits_short 10 first, digits_short 10 count)
kind_short (kind.Rd addr len) = omega (arith, digits_short 16 addr, digits_short 10 len)
kind_short (kind.Wr addr len) = omega (arith, digits_short 16 addr, digits_short 10 len)
kind_short kind.Ex = omega arith
kind_short (kind.Ft cause addr) = omega (arith, fault_short cause, digits_short 16 addr)

record_short : (what : Record) → total (record_words what) ≤ 400
record_short (entry.Event event) = omega (arith, digits_short 10 event.hart, kind_short event.kind)
record_short (entry.Notice hart point) = omega (arith, digits_short 10 hart, digits_short 10 point.hart, digits_short 10 point.number, length-append (decimal point.hart) (58 ∷ decimal point.number))

-- Arcs

arcs_short : (first : Bool) (points : List Point) → ArePointsInForm most_read points → length (arcs_text first points) ≤ 24 * length points
arcs_short first [] form = omega arith
arcs_short first (point ∷ points) form =
    let hart = length-decimal-le 10 point.hart (omega arith) (omega (arith, form.0.0)) (omega (arith, form.0.0)) in
    let number = length-decimal-le 10 point.number (omega arith) (omega (arith, form.0.2)) (omega (arith, form.0.2)) in
    let word = length-append (decimal point.hart) (58 ∷ decimal point.number) in
    let rest = length-append (point_word point) (arcs_text false points) in
    let later = arcs_short false points form.1 in
    front first (arcs_text first (point ∷ points)) refl hart number word rest later
  where
    front : (first : Bool) (text : List ℕ) → text ≡ arcs_text first (point ∷ points) → length (decimal point.hart) ≤ 10 → length (decimal point.number) ≤ 10
        → length (point_word point) ≡ length (decimal point.hart) + length (58 ∷ decimal point.number) → length (point_word point ++ arcs_text false points) ≡ length (point_word point) + length (arcs_text false points)
        → length (arcs_text false points) ≤ 24 * length points → length text ≤ 24 * length (point ∷ points)
    front true text is hart number word rest later = omega (arith, ap length is, length-append (codes " < ") (point_word point ++ arcs_text false points))
    front false text is hart number word rest later = omega (arith, ap length is, length-append (codes ",") (point_word point ++ arcs_text false points))

points_few : (base : ℕ) (numbers : List (Option ℕ)) → length (points_from base numbers) ≤ length numbers
points_few base [] = omega arith
points_few base (None ∷ numbers) = omega (arith, points_few (suc base) numbers)
points_few base (Some n ∷ numbers) = omega (arith, points_few (suc base) numbers)

-- Lines

row_short : (line : Line) → length line.arcs ≡ 8 → ArePointsInForm most_read (points_from 0 line.arcs) → length (line_text (entry_text (row_of line))) ≤ 600
row_short line eight form =
    let words = joined_short (record_words line.what) in
    let parted = ap length (row_joined line.what (points_from 0 line.arcs)) ∙ length-append (join_with_byte 32 (record_words line.what)) (arcs_text true (points_from 0 line.arcs)) in
    omega (arith, length-append (entry_text (row_of line)) (10 ∷ []), parted, words, record_short line.what, arcs_short true (points_from 0 line.arcs) form, points_few 0 line.arcs)

run_short : (run : PageRun) → length (line_text (entry_text (page run))) ≤ 600
run_short run =
    omega (arith, length-append (entry_text (page run)) (10 ∷ []), joined_short (codes "page" ∷ decimal run.first ∷ decimal run.count ∷ page_word run.kind ∷ []), digits_short 10 run.first, digits_short 10 run.count, page_short run.kind)

abbrev IsLawfulRead : ℕ → List Entry → Type 0
IsLawfulRead harts entries = IsLawful rules_in_order most_read harts entries

rows_short : (harts : ℕ) (front : List Entry) (lines : List Line) → AllByRecursion (λ line. length line.arcs ≡ 8) lines → IsLawfulRead harts (front ++ map row_of lines)
    → length (entries_text (map row_of lines)) ≤ 600 * length lines
rows_short harts front [] eight lawful = omega arith
rows_short harts front (line ∷ lines) eight lawful =
    let here = row_short line eight.0 (lawful front (map row_of lines) (row_of line) refl).in_form.1 in
    let rest = rows_short harts (front ++ row_of line ∷ []) lines eight.1 (subst (IsLawfulRead harts) (sym (append_assoc front (row_of line ∷ []) (map row_of lines))) lawful) in
    omega (arith, length-append (line_text (entry_text (row_of line))) (entries_text (map row_of lines)), here, rest)

pub runs_short : (runs : List PageRun) → length (entries_text (map page runs)) ≤ 600 * length runs
runs_short [] = omega arith
runs_short (run ∷ runs) = omega (arith, length-append (line_text (entry_text (page run))) (entries_text (map page runs)), run_short run, runs_short runs)

-- Each run of pages starts later than the one before

few_runs : (harts : ℕ) (front : List Entry) (runs : List PageRun) (rest : List Entry) → page_end front ≤ 4096 → IsLawfulRead harts (front ++ (map page runs ++ rest)) → page_end front + length runs ≤ 4096
few_runs harts front [] rest low lawful = omega arith
few_runs harts front (run ∷ runs) rest low lawful =
    let continues = lawful front (map page runs ++ rest) (page run) refl in
    let kept : breaks_page front run ≡ false = fails_at (breaks harts front (page run)) rules_in_order 0 Page (find-None (breaks harts front (page run)) rules_in_order continues.breaks_none) (omega arith) in
    let three = or_parts (list_any is_row front || ltb run.first (page_end front) || ltb 4096 (run.first + run.count)) (ltb 512 (pages_mapped front + run.count)) kept in
    let two = or_parts (list_any is_row front || ltb run.first (page_end front)) (ltb 4096 (run.first + run.count)) three.0 in
    let one = or_parts (list_any is_row front) (ltb run.first (page_end front)) two.0 in
    let later = ltb-false run.first (page_end front) one.1 in
    let inside = ltb-false 4096 (run.first + run.count) two.1 in
    let end : page_end (front ++ page run ∷ []) ≡ run.first + run.count = fold_push end_after 0 front (page run) in
    let more = few_runs harts (front ++ page run ∷ []) runs rest (omega (arith, end, inside)) (subst (IsLawfulRead harts) (sym (append_assoc front (page run ∷ []) (map page runs ++ rest))) lawful) in
    omega (arith, later, continues.in_form.1, end, more)

pub header_short : (harts block : ℕ) → length (line_text (header_text harts block)) ≤ 1000
header_short harts block =
    let front = codes "PLOG " in
    let version = front ++ decimal (version_of block) in
    let middle = version ++ codes " harts " in
    let many = middle ++ decimal harts in
    let behind = many ++ codes " block " in
    omega (
      arith,
      length-append (header_text harts block) (10 ∷ []),
      length-append behind (decimal block),
      length-append many (codes " block "),
      length-append middle (decimal harts),
      length-append version (codes " harts "),
      length-append front (decimal (version_of block)),
      digits_short 10 (version_of block),
      digits_short 10 harts,
      digits_short 10 block,
    )

pub text_short : (log : Log) → IsWellFormed log → length (log_spelling log) < 2 ^ 31
text_short log formed =
    let eight = recursion_from_All (λ line. length line.arcs ≡ 8) log.lines formed.eight in
    let rows = rows_short log.harts (map page log.pages) log.lines eight formed.lawful in
    let runs = runs_short log.pages in
    let few = few_runs log.harts [] log.pages (map row_of log.lines) (omega arith) formed.lawful in
    let parts = parts_of log formed in
    let entries = ap length (flat_map-append (λ e. line_text (entry_text e)) (map page log.pages) (map row_of log.lines)) ∙ length-append (entries_text (map page log.pages)) (entries_text (map row_of log.lines)) in
    omega (arith, length-append (line_text (header_text log.harts log.block)) (entries_text (entries_of log)), header_short log.harts log.block, entries, rows, runs, few, parts.short)
