-- Lines have no line feed inside, so a line that begins a text is in each prefix of it that holds a line whole.
use Rattle.std.proofs.Common.{◌≡◌, ℕ, zero, suc, ◌+◌, ◌/◌, ◌%◌, ◌<◌, Bool, true, false, cond, eqb, not, ◌&&◌, List, [], ◌∷◌, ◌++◌, codes, length, map, refl, sym, ap, ◌∙◌, arith, inl, inr}
use Rattle.std.specs.Fmt.{decimal, digits, digits_onto, digit_glyph}
use Rattle.std.specs.List.{join_with_byte, AllByRecursion}
use Rattle.std.proofs.lemmas.Bool.{eqb-true, eqb-false, ne_eqb, cases_lt, lt-ltb, le-ltb}
use Rattle.pl_base.specs.LineBuffer.{ends_line}
use Rattle.pl_base.specs.declared.widths.LoadWidth.{LoadWidth}
use Rattle.pl_base.specs.declared.widths.LoadWidth.TheVariants as load
use Rattle.pl_base.specs.declared.widths.StoreWidth.{StoreWidth}
use Rattle.pl_base.specs.declared.widths.StoreWidth.TheVariants as store
use Rattle.pl_base.specs.declared.widths.FaultCause.{FaultCause}
use Rattle.pl_base.specs.declared.widths.FaultCause.TheVariants as fault
use Rattle.pl_event.specs.declared.event.Kind.{Kind}
use Rattle.pl_event.specs.declared.event.Kind.TheVariants.{Ld, St, Op, Mv, Im, Br, Jr, Al, Fr, Bf, Mp, Um, Rd, Wr, Ex, Ft}
use Rattle.pl_event.specs.declared.log.PageKind.{PageKind}
use Rattle.pl_event.specs.declared.log.PageKind.TheVariants as page_kind
use Rattle.pl_event.specs.declared.log.Point.{Point}
use Rattle.pl_event.specs.declared.log.Record.TheVariants as entry
use Rattle.pl_event.specs.declared.log.Record.{Record}
use Rattle.log_grammar.specs.Spelling.{Entry, page, row, hex, load_word, store_word, fault_word, page_word, kind_words, point_word, record_words, arc_words, entry_words, entry_text, version_of, header_text}

-- no byte is a line feed
abbrev pub is_one_line : List ℕ → Bool
is_one_line [] = true
is_one_line (byte ∷ rest) = not (eqb byte 10) && is_one_line rest

abbrev pub IsOneLine : List ℕ → Type 0
IsOneLine text = is_one_line text ≡ true

head_and : (byte : ℕ) (rest : List ℕ) → IsOneLine (byte ∷ rest) → (eqb byte 10 ≡ false) × IsOneLine rest
head_and byte rest h = parts (eqb byte 10) (is_one_line rest) h
  where
    parts : (a b : Bool) → not a && b ≡ true → (a ≡ false) × (b ≡ true)
    parts true b h = absurd cc
    parts false b h = (refl, h)

and_head : (byte : ℕ) (rest : List ℕ) → (byte ≡ 10 → ⊥) → IsOneLine rest → IsOneLine (byte ∷ rest)
and_head byte rest unlike line = rw (ne_eqb byte 10 unlike) line

one_append : (a b : List ℕ) → IsOneLine a → IsOneLine b → IsOneLine (a ++ b)
one_append [] b first second = second
one_append (byte ∷ a) b first second =
    let h = head_and byte a first in
    and_head byte (a ++ b) (eqb-false byte 10 h.0) (one_append a b h.1 second)

-- numbers

no_feed_digit : (d : ℕ) → digit_glyph false d ≡ 10 → ⊥
no_feed_digit d e =
    elim (cases_lt d 10) [
      | inl few ↦ omega (arith, sym (ap (λ (b : Bool). cond b (48 + d) (87 + d)) (lt-ltb d 10 few)) ∙ e)
      | inr many ↦ omega (arith, sym (ap (λ (b : Bool). cond b (48 + d) (87 + d)) (le-ltb d 10 many)) ∙ e)
    ]

one_digits : (k base n : ℕ) (rest : List ℕ) → IsOneLine rest → IsOneLine (digits_onto k base false n rest)
one_digits zero base n rest line = line
one_digits (suc k) base n rest line =
    let next : IsOneLine (digit_glyph false (n % base) ∷ rest) = and_head (digit_glyph false (n % base)) rest (no_feed_digit (n % base)) line in
    either (eqb (n / base) 0) (digit_glyph false (n % base) ∷ rest) (digits_onto k base false (n / base) (digit_glyph false (n % base) ∷ rest)) next (one_digits k base (n / base) (digit_glyph false (n % base) ∷ rest) next)
  where
    either : (b : Bool) (x y : List ℕ) → IsOneLine x → IsOneLine y → IsOneLine (cond b x y)
    either true x y first second = first
    either false x y first second = second

one_number : (base n : ℕ) → IsOneLine (digits base false n)
unfolding digits
one_number base n = one_digits 64 base n [] refl

one_decimal : (n : ℕ) → IsOneLine (decimal n)
one_decimal n = one_number 10 n

one_hex : (n : ℕ) → IsOneLine (hex n)
one_hex n = one_number 16 n

-- words

one_load : (width : LoadWidth) → IsOneLine (load_word width)
one_load load.B = refl
one_load load.H = refl
one_load load.W = refl
one_load load.Bu = refl
one_load load.Hu = refl

one_store : (width : StoreWidth) → IsOneLine (store_word width)
one_store store.B = refl
one_store store.H = refl
one_store store.W = refl

one_fault : (cause : FaultCause) → IsOneLine (fault_word cause)
one_fault fault.Pc = refl
one_fault fault.Illegal = refl
one_fault fault.Align = refl
one_fault fault.Unmapped = refl
one_fault fault.ReadOnly = refl

one_page : (kind : PageKind) → IsOneLine (page_word kind)
one_page page_kind.Data = refl
one_page page_kind.Heap = refl
one_page page_kind.Stack = refl

abbrev AreOneLine : List (List ℕ) → Type 0
AreOneLine words = AllByRecursion IsOneLine words

one_kind : (kind : Kind) → AreOneLine (kind_words kind)
one_kind (Ld width rd rb addr) = (refl, (one_load width, (one_decimal rd, (one_decimal rb, (one_hex addr, tt)))))
one_kind (St width rv rb addr) = (refl, (one_store width, (one_decimal rv, (one_decimal rb, (one_hex addr, tt)))))
one_kind (Op rd r1 r2) = (refl, (one_decimal rd, (one_decimal r1, (one_decimal r2, tt))))
one_kind (Mv rd rs) = (refl, (one_decimal rd, (one_decimal rs, tt)))
one_kind (Im rd) = (refl, (one_decimal rd, tt))
one_kind (Br r1 r2) = (refl, (one_decimal r1, (one_decimal r2, tt)))
one_kind (Jr rd rs) = (refl, (one_decimal rd, (one_decimal rs, tt)))
one_kind (Al addr len) = (refl, (one_hex addr, (one_decimal len, tt)))
one_kind (Fr addr len) = (refl, (one_hex addr, (one_decimal len, tt)))
one_kind (Bf addr) = (refl, (one_hex addr, tt))
one_kind (Mp first count) = (refl, (one_decimal first, (one_decimal count, tt)))
one_kind (Um first count) = (refl, (one_decimal first, (one_decimal count, tt)))
one_kind (Rd addr len) = (refl, (one_hex addr, (one_decimal len, tt)))
one_kind (Wr addr len) = (refl, (one_hex addr, (one_decimal len, tt)))
one_kind Ex = (refl, tt)
one_kind (Ft cause addr) = (refl, (one_fault cause, (one_hex addr, tt)))

one_point : (point : Point) → IsOneLine (point_word point)
one_point point = one_append (decimal point.hart) (58 ∷ decimal point.number) (one_decimal point.hart) (and_head 58 (decimal point.number) (omega arith) (one_decimal point.number))

are_points : (points : List Point) → AreOneLine (map point_word points)
are_points [] = tt
are_points (point ∷ points) = (one_point point, are_points points)

-- words one byte apart
one_join : (byte : ℕ) (word : List ℕ) (words : List (List ℕ)) → (byte ≡ 10 → ⊥) → IsOneLine word → AreOneLine words → IsOneLine (join_with_byte byte (word ∷ words))
one_join byte word [] unlike first others = first
one_join byte word (next ∷ words) unlike first others =
    one_append word (byte ∷ join_with_byte byte (next ∷ words)) first (and_head byte (join_with_byte byte (next ∷ words)) unlike (one_join byte next words unlike others.0 others.1))

are_arcs : (points : List Point) → AreOneLine (arc_words points)
are_arcs [] = tt
are_arcs (point ∷ points) = (refl, (one_join 44 (point_word point) (map point_word points) (omega arith) (one_point point) (are_points points), tt))

are_append : (a b : List (List ℕ)) → AreOneLine a → AreOneLine b → AreOneLine (a ++ b)
are_append [] b first second = second
are_append (word ∷ a) b first second = (first.0, are_append a b first.1 second)

are_record : (what : Record) → AreOneLine (record_words what)
are_record (entry.Event event) = (and_head 104 (decimal event.hart) (omega arith) (one_decimal event.hart), one_kind event.kind)
are_record (entry.Notice hart point) = (and_head 104 (decimal hart) (omega arith) (one_decimal hart), (refl, (one_point point, tt)))

are_entry : (e : Entry) → AreOneLine (entry_words e)
are_entry (page run) = (refl, (one_decimal run.first, (one_decimal run.count, (one_page run.kind, tt))))
are_entry (row what points) = are_append (record_words what) (arc_words points) (are_record what) (are_arcs points)

pub one_entry : (e : Entry) → IsOneLine (entry_text e)
one_entry (page run) = let h = are_entry (page run) in one_join 32 (codes "page") (decimal run.first ∷ decimal run.count ∷ page_word run.kind ∷ []) (omega arith) h.0 h.1
one_entry (row (entry.Event event) points) = let h = are_entry (row (entry.Event event) points) in one_join 32 (104 ∷ decimal event.hart) (kind_words event.kind ++ arc_words points) (omega arith) h.0 h.1
one_entry (row (entry.Notice hart point) points) = let h = are_entry (row (entry.Notice hart point) points) in one_join 32 (104 ∷ decimal hart) (codes "!" ∷ point_word point ∷ arc_words points) (omega arith) h.0 h.1

pub one_header : (harts block : ℕ) → IsOneLine (header_text harts block)
one_header harts block =
    one_append (codes "PLOG " ++ decimal (version_of block) ++ codes " harts " ++ decimal harts ++ codes " block ") (decimal block)
    (one_append (codes "PLOG " ++ decimal (version_of block) ++ codes " harts " ++ decimal harts) (codes " block ")
    (one_append (codes "PLOG " ++ decimal (version_of block) ++ codes " harts ") (decimal harts)
    (one_append (codes "PLOG " ++ decimal (version_of block)) (codes " harts ")
    (one_append (codes "PLOG ") (decimal (version_of block)) refl (one_decimal (version_of block))) refl)
    (one_decimal harts)) refl)
    (one_decimal block)

-- a line that begins a text

-- two lines that begin a text are one
pub same_line : (a b x y : List ℕ) → IsOneLine a → IsOneLine b → a ++ 10 ∷ x ≡ b ++ 10 ∷ y → (a ≡ b) × (x ≡ y)
same_line [] [] x y first second e = (refl, let rest : x ≡ y = cc in rest)
same_line [] (byte ∷ b) x y first second e = let same : 10 ≡ byte = cc in absurd (eqb-false byte 10 (head_and byte b second).0 (sym same))
same_line (byte ∷ a) [] x y first second e = let same : byte ≡ 10 = cc in absurd (eqb-false byte 10 (head_and byte a first).0 same)
same_line (byte ∷ a) (other ∷ b) x y first second e =
    let same : byte ≡ other = cc in
    let rest : a ++ 10 ∷ x ≡ b ++ 10 ∷ y = cc in
    let h = same_line a b x y (head_and byte a first).1 (head_and other b second).1 rest in
    (ap (λ (c : ℕ). c ∷ a) same ∙ ap (λ (t : List ℕ). other ∷ t) h.0, h.1)

-- a line that begins a text begins each prefix of it that ends a line
pub line_within : (text later line rest : List ℕ) → IsOneLine line → 0 < length text → ends_line text ≡ true → text ++ later ≡ line ++ 10 ∷ rest → (after : List ℕ) × (text ≡ line ++ 10 ∷ after)
line_within [] later line rest one some ends e = absurd (omega (arith, some))
line_within (byte ∷ text) later [] rest one some ends e = let same : byte ≡ 10 = cc in (text, ap (λ (c : ℕ). c ∷ text) same)
line_within (byte ∷ []) later (first ∷ line) rest one some ends e =
    let same : byte ≡ first = cc in
    absurd (eqb-false first 10 (head_and first line one).0 (sym same ∙ eqb-true byte 10 ends))
line_within (byte ∷ next ∷ text) later (first ∷ line) rest one some ends e =
    let same : byte ≡ first = cc in
    let behind : (next ∷ text) ++ later ≡ line ++ 10 ∷ rest = cc in
    let h = line_within (next ∷ text) later line rest (head_and first line one).1 (omega arith) ends behind in
    (h.0, ap (λ (c : ℕ). c ∷ next ∷ text) same ∙ ap (λ (t : List ℕ). first ∷ t) h.1)
