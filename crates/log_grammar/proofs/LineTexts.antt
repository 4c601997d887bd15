-- Lines and headers as their words.
use Rattle.std.proofs.Common.{Bool, ◌≡◌, ℕ, ◌≤◌, List, [], ◌∷◌, ◌++◌, codes, get_or, Some, None, refl, sym, ap, subst, ◌∙◌, append_assoc, inl, inr, arith}
use Rattle.std.specs.Borrow.{Bor}
use Rattle.std.specs.List.{join_with_byte}
use Rattle.std.specs.Fmt.{decimal, digits}
use Rattle.pl_event.specs.declared.log.Record.{Record}
use Rattle.pl_event.specs.declared.log.Record.TheVariants as entry
use Rattle.pl_event.specs.declared.log.Point.{Point}
use Rattle.log_grammar.specs.declared.points.ArcList.{ArcList}
use Rattle.log_grammar.specs.Begins.{BeginsWithRow, BeginsWithNoRow, BeginsWithHeader, BeginsWithNoHeader, EndsWithArcs, EndsWithNone}
use Rattle.log_grammar.specs.Form.{IsInForm, IsRecordInForm, MayHave, most_read}
use Rattle.log_grammar.specs.Reads.{behind_blanks, Closes, Reads, ReadsHarts}
use Rattle.log_grammar.specs.Spelling.{Entry, page, row, arc_words, kind_words, page_word, point_word, record_words, entry_words, entry_text, line_text, header_text}
use Rattle.pl_event.specs.Runs.{IsBlockSize}
use Rattle.log_grammar.proofs.Chain.{behind_append, same_behind}

join_behind : (word : List ℕ) (words : List (List ℕ)) (rest : List ℕ) → 32 ∷ (join_with_byte 32 (word ∷ words) ++ rest) ≡ behind_blanks (word ∷ words) rest
join_behind word [] rest = refl
join_behind word (next ∷ words) rest =
    ap (λ (t : List ℕ). 32 ∷ t) (append_assoc word (32 ∷ join_with_byte 32 (next ∷ words)) rest ∙ ap (λ (t : List ℕ). word ++ t) (join_behind next words rest))

text_behind : (e : Entry) (rest : List ℕ) → 32 ∷ (entry_text e ++ rest) ≡ behind_blanks (entry_words e) rest
text_behind (page run) rest = join_behind (codes "page") (decimal run.first ∷ decimal run.count ∷ page_word run.kind ∷ []) rest
text_behind (row (entry.Event event) points) rest = join_behind (104 ∷ decimal event.hart) (kind_words event.kind ++ arc_words points) rest
text_behind (row (entry.Notice hart point) points) rest = join_behind (104 ∷ decimal hart) (codes "!" ∷ point_word point ∷ arc_words points) rest

pub line_behind : (e : Entry) (rest : List ℕ) → 32 ∷ (line_text (entry_text e) ++ rest) ≡ behind_blanks (entry_words e) (10 ∷ rest)
line_behind e rest = ap (λ (t : List ℕ). 32 ∷ t) (append_assoc (entry_text e) (10 ∷ []) rest) ∙ text_behind e (10 ∷ rest)

same_tail : (x : ℕ) (a b : List ℕ) → x ∷ a ≡ x ∷ b → a ≡ b
same_tail x a b e = cc

-- Rows

-- a row is its record and then its arcs
row_behind : (what : Record) (points : List Point) (rest : List ℕ) → 32 ∷ (line_text (entry_text (row what points)) ++ rest) ≡ behind_blanks (record_words what) (behind_blanks (arc_words points) (10 ∷ rest))
row_behind what points rest = line_behind (row what points) rest ∙ behind_append (record_words what) (arc_words points) (10 ∷ rest)

closes_arcs : (points : List Point) (rest : List ℕ) → Closes (behind_blanks (arc_words points) (10 ∷ rest))
closes_arcs [] rest = omega arith
closes_arcs (point ∷ points) rest = omega arith

row_there : (bytes : List ℕ) (what : Record) (points : List Point) (after : List ℕ) → bytes ≡ line_text (entry_text (row what points)) ++ after → 32 ∷ bytes ≡ behind_blanks (record_words what) (behind_blanks (arc_words points) (10 ∷ after))
row_there bytes what points after e = ap (λ (t : List ℕ). 32 ∷ t) e ∙ row_behind what points after

pub no_record : (bytes : List ℕ) → Reads (IsRecordInForm most_read) record_words (32 ∷ bytes) None → BeginsWithNoRow bytes
no_record bytes reads = λ what points after form e.
    reads.every what (behind_blanks (arc_words points) (10 ∷ after)) form.0 (closes_arcs points after) (row_there bytes what points after e)

-- another row that begins the bytes has the same record, and its arcs after it
same_record : (bytes : List ℕ) (what : Record) (r : Bor (List ℕ)) → Reads (IsRecordInForm most_read) record_words (32 ∷ bytes) (Some (what, r))
    → (other : Record) (points : List Point) (after : List ℕ) → IsInForm most_read (row other points) → bytes ≡ line_text (entry_text (row other points)) ++ after
    → (what ≡ other) × (r.now ≡ behind_blanks (arc_words points) (10 ∷ after))
same_record bytes what r reads other points after form e = reads.every other (behind_blanks (arc_words points) (10 ∷ after)) form.0 (closes_arcs points after) (row_there bytes other points after e)

may_have : (what other : Record) (points : List Point) → what ≡ other → MayHave other points → MayHave what points
may_have what other points e may = let P : Record → Type 0 = λ w. MayHave w points in subst P (sym e) may

pub no_end : (bytes : List ℕ) (what : Record) (r : Bor (List ℕ)) → Reads (IsRecordInForm most_read) record_words (32 ∷ bytes) (Some (what, r)) → EndsWithNone what r.now → BeginsWithNoRow bytes
no_end bytes what r reads ends = λ other points after form e.
    let same = same_record bytes what r reads other points after form e in
    ends points after form.1 (may_have what other points same.0 form.2) same.1

not_page : (bytes : List ℕ) (what : Record) (r : List ℕ) (rest : List ℕ) → 32 ∷ bytes ≡ behind_blanks (record_words what) r → bytes ≡ 112 ∷ rest → ⊥
not_page bytes (entry.Event event) r rest e f = omega (arith, same_first 104 112 (decimal event.hart ++ behind_blanks (kind_words event.kind) r) rest (sym (same_tail 32 bytes (104 ∷ (decimal event.hart ++ behind_blanks (kind_words event.kind) r)) e) ∙ f))
  where
    same_first : (x y : ℕ) (a b : List ℕ) → x ∷ a ≡ y ∷ b → x ≡ y
    same_first x y a b e = cc
not_page bytes (entry.Notice hart point) r rest e f = omega (arith, same_first 104 112 (decimal hart ++ behind_blanks (codes "!" ∷ point_word point ∷ []) r) rest (sym (same_tail 32 bytes (104 ∷ (decimal hart ++ behind_blanks (codes "!" ∷ point_word point ∷ []) r)) e) ∙ f))
  where
    same_first : (x y : ℕ) (a b : List ℕ) → x ∷ a ≡ y ∷ b → x ≡ y
    same_first x y a b e = cc

pub row_found : (bytes : List ℕ) (what : Record) (r : Bor (List ℕ)) (has_arcs : Bool) (list : ArcList) (rest : List ℕ) → Reads (IsRecordInForm most_read) record_words (32 ∷ bytes) (Some (what, r)) → EndsWithArcs what r.now has_arcs list rest
    → BeginsWithRow bytes what has_arcs list rest
row_found bytes what r has_arcs list rest reads ends = record {
  points = ends.points;
  shows = ends.shows;
  begins = record {
    in_form = (reads.found.0, ends.in_form, ends.may_have);
    spelled = same_tail 32 bytes (line_text (entry_text (row what ends.points)) ++ rest) (reads.found.1 ∙ ap (behind_blanks (record_words what)) ends.spelled ∙ sym (row_behind what ends.points rest));
    only = others;
  };
}
  where
    others : (other : Entry) (after : List ℕ) → IsInForm most_read other → bytes ≡ line_text (entry_text other) ++ after → (other ≡ row what ends.points) × (after ≡ rest)
    others (page run) after form e = absurd (not_page bytes what r.now (codes "age" ++ behind_blanks (decimal run.first ∷ decimal run.count ∷ page_word run.kind ∷ []) (10 ∷ after)) reads.found.1 (same_tail 32 bytes (112 ∷ (codes "age" ++ behind_blanks (decimal run.first ∷ decimal run.count ∷ page_word run.kind ∷ []) (10 ∷ after))) (ap (λ (t : List ℕ). 32 ∷ t) e ∙ line_behind (page run) after)))
    others (row other points) after form e =
        let same = same_record bytes what r reads other points after form e in
        let only = ends.only points after form.1 (may_have what other points same.0 form.2) same.1 in
        (ap (λ (w : Record). row w points) (sym same.0) ∙ ap (row what) only.0, only.1)

-- Headers

one_digit : decimal 1 ≡ 49 ∷ []
unfolding digits
one_digit = refl

other_digit : decimal 2 ≡ 50 ∷ []
unfolding digits
other_digit = refl

two_digits : decimal 16 ≡ 49 ∷ 54 ∷ []
unfolding digits
two_digits = refl

four_digit : decimal 4 ≡ 52 ∷ []
unfolding digits
four_digit = refl

regrouped : (a b c d rest : List ℕ) → (((a ++ b) ++ c) ++ d) ++ rest ≡ a ++ (b ++ (c ++ (d ++ rest)))
regrouped a b c d rest = simp append_assoc

abbrev first_front : List ℕ
first_front = codes "PLOG 1 harts "

abbrev second_front : List ℕ
second_front = codes "PLOG 2 harts "

header_one : (harts : ℕ) (rest : List ℕ) → line_text (header_text harts 16) ++ rest ≡ first_front ++ (decimal harts ++ (codes " block 16\n" ++ rest))
header_one harts rest =
    ap (λ (d : List ℕ). ((((((codes "PLOG " ++ d) ++ codes " harts ") ++ decimal harts) ++ codes " block ") ++ decimal 16) ++ 10 ∷ []) ++ rest) one_digit
    ∙ ap (λ (d : List ℕ). ((((((codes "PLOG " ++ 49 ∷ []) ++ codes " harts ") ++ decimal harts) ++ codes " block ") ++ d) ++ 10 ∷ []) ++ rest) two_digits
    ∙ ap (λ (t : List ℕ). first_front ++ t) (regrouped (decimal harts) (codes " block ") (49 ∷ 54 ∷ []) (10 ∷ []) rest)

header_two : (harts : ℕ) (rest : List ℕ) → line_text (header_text harts 4) ++ rest ≡ second_front ++ (decimal harts ++ (codes " block 4\n" ++ rest))
header_two harts rest =
    ap (λ (d : List ℕ). ((((((codes "PLOG " ++ d) ++ codes " harts ") ++ decimal harts) ++ codes " block ") ++ decimal 4) ++ 10 ∷ []) ++ rest) other_digit
    ∙ ap (λ (d : List ℕ). ((((((codes "PLOG " ++ 50 ∷ []) ++ codes " harts ") ++ decimal harts) ++ codes " block ") ++ d) ++ 10 ∷ []) ++ rest) four_digit
    ∙ ap (λ (t : List ℕ). second_front ++ t) (regrouped (decimal harts) (codes " block ") (52 ∷ []) (10 ∷ []) rest)

-- the two versions differ
apart : (a b : List ℕ) → first_front ++ a ≡ second_front ++ b → ⊥
apart a b e = omega (arith, ap (λ (t : List ℕ). get_or t 5 0) e)

-- what a header of one version or the other is
with_size : (bytes : List ℕ) (P : ℕ → ℕ → List ℕ → Type 0) → ((harts : ℕ) (rest : List ℕ) → 1 ≤ harts → harts ≤ 8 → bytes ≡ first_front ++ (decimal harts ++ (codes " block 16\n" ++ rest)) → P harts 16 rest)
    → ((harts : ℕ) (rest : List ℕ) → 1 ≤ harts → harts ≤ 8 → bytes ≡ second_front ++ (decimal harts ++ (codes " block 4\n" ++ rest)) → P harts 4 rest)
    → (harts block : ℕ) (rest : List ℕ) → 1 ≤ harts → harts ≤ 8 → IsBlockSize block → bytes ≡ line_text (header_text harts block) ++ rest → P harts block rest
with_size bytes P first second harts block rest some few (inl is) e = subst (λ (b : ℕ). P harts b rest) (sym is) (first harts rest some few (e ∙ ap (λ (b : ℕ). line_text (header_text harts b) ++ rest) is ∙ header_one harts rest))
with_size bytes P first second harts block rest some few (inr is) e = subst (λ (b : ℕ). P harts b rest) (sym is) (second harts rest some few (e ∙ ap (λ (b : ℕ). line_text (header_text harts b) ++ rest) is ∙ header_two harts rest))

abbrev Never : ℕ → ℕ → List ℕ → Type 0
Never harts block rest = ⊥

pub no_front : (bytes : List ℕ) → ((rest : List ℕ) → bytes ≡ first_front ++ rest → ⊥) → ((rest : List ℕ) → bytes ≡ second_front ++ rest → ⊥) → BeginsWithNoHeader bytes
no_front bytes first second = with_size bytes Never (λ harts rest some few e. first (decimal harts ++ (codes " block 16\n" ++ rest)) e) (λ harts rest some few e. second (decimal harts ++ (codes " block 4\n" ++ rest)) e)

pub not_first : (bytes behind : List ℕ) → bytes ≡ first_front ++ behind → ((harts : ℕ) (rest : List ℕ) → 1 ≤ harts → harts ≤ 8 → behind ≡ decimal harts ++ (codes " block 16\n" ++ rest) → ⊥) → BeginsWithNoHeader bytes
not_first bytes behind front none = with_size bytes Never
    (λ harts rest some few e. none harts rest some few (same_behind first_front behind (decimal harts ++ (codes " block 16\n" ++ rest)) (sym front ∙ e)))
    (λ harts rest some few e. apart behind (decimal harts ++ (codes " block 4\n" ++ rest)) (sym front ∙ e))

pub not_second : (bytes behind : List ℕ) → bytes ≡ second_front ++ behind → ((harts : ℕ) (rest : List ℕ) → 1 ≤ harts → harts ≤ 8 → behind ≡ decimal harts ++ (codes " block 4\n" ++ rest) → ⊥) → BeginsWithNoHeader bytes
not_second bytes behind front none = with_size bytes Never
    (λ harts rest some few e. apart (decimal harts ++ (codes " block 16\n" ++ rest)) behind (sym e ∙ front))
    (λ harts rest some few e. none harts rest some few (same_behind second_front behind (decimal harts ++ (codes " block 4\n" ++ rest)) (sym front ∙ e)))

-- what is read after the prefix, and the word after that
pub no_harts : (behind word : List ℕ) → ((rest : List ℕ) → Closes (word ++ rest)) → ReadsHarts behind None → (harts : ℕ) (rest : List ℕ) → 1 ≤ harts → harts ≤ 8 → behind ≡ decimal harts ++ (word ++ rest) → ⊥
no_harts behind word closes reads harts rest some few e = reads.every harts (word ++ rest) some few (closes rest) e

pub no_word : (behind word : List ℕ) (n : ℕ) (r : Bor (List ℕ)) → ((rest : List ℕ) → Closes (word ++ rest)) → ReadsHarts behind (Some (n, r)) → ((rest : List ℕ) → r.now ≡ word ++ rest → ⊥)
    → (harts : ℕ) (rest : List ℕ) → 1 ≤ harts → harts ≤ 8 → behind ≡ decimal harts ++ (word ++ rest) → ⊥
no_word behind word n r closes reads none harts rest some few e = none rest (reads.every harts (word ++ rest) some few (closes rest) e).1

pub closes_one : (rest : List ℕ) → Closes (codes " block 16\n" ++ rest)
closes_one rest = omega arith

pub closes_two : (rest : List ℕ) → Closes (codes " block 4\n" ++ rest)
closes_two rest = omega arith

-- the harts and the rest of any header of the bytes
others_same : (behind word : List ℕ) (n : ℕ) (r : Bor (List ℕ)) (rest : List ℕ) → ((after : List ℕ) → Closes (word ++ after)) → ReadsHarts behind (Some (n, r)) → r.now ≡ word ++ rest
    → (harts : ℕ) (after : List ℕ) → 1 ≤ harts → harts ≤ 8 → behind ≡ decimal harts ++ (word ++ after) → (harts ≡ n) × (after ≡ rest)
others_same behind word n r rest closes reads fed harts after some few e =
    let same = reads.every harts (word ++ after) some few (closes after) e in
    (sym same.0, same_behind word after rest (sym same.1 ∙ fed))

pub first_header : (bytes behind : List ℕ) (n : ℕ) (r : Bor (List ℕ)) (rest : List ℕ) → bytes ≡ first_front ++ behind → ReadsHarts behind (Some (n, r)) → r.now ≡ codes " block 16\n" ++ rest → BeginsWithHeader bytes n 16 rest
first_header bytes behind n r rest front reads word = record {
  some = reads.found.0;
  few = reads.found.1;
  size = inl refl;
  spelled = front ∙ ap (λ (t : List ℕ). first_front ++ t) (reads.found.2 ∙ ap (λ (t : List ℕ). decimal n ++ t) word) ∙ sym (header_one n rest);
  only =
      with_size bytes (λ harts block after. (harts ≡ n) × (block ≡ 16) × (after ≡ rest))
      (λ harts after some few e.
      let same = others_same behind (codes " block 16\n") n r rest closes_one reads word harts after some few (same_behind first_front behind (decimal harts ++ (codes " block 16\n" ++ after)) (sym front ∙ e)) in
      (same.0, refl, same.1))
      (λ harts after some few e. absurd (apart behind (decimal harts ++ (codes " block 4\n" ++ after)) (sym front ∙ e)));
}

pub second_header : (bytes behind : List ℕ) (n : ℕ) (r : Bor (List ℕ)) (rest : List ℕ) → bytes ≡ second_front ++ behind → ReadsHarts behind (Some (n, r)) → r.now ≡ codes " block 4\n" ++ rest → BeginsWithHeader bytes n 4 rest
second_header bytes behind n r rest front reads word = record {
  some = reads.found.0;
  few = reads.found.1;
  size = inr refl;
  spelled = front ∙ ap (λ (t : List ℕ). second_front ++ t) (reads.found.2 ∙ ap (λ (t : List ℕ). decimal n ++ t) word) ∙ sym (header_two n rest);
  only =
      with_size bytes (λ harts block after. (harts ≡ n) × (block ≡ 4) × (after ≡ rest))
      (λ harts after some few e. absurd (apart (decimal harts ++ (codes " block 16\n" ++ after)) behind (sym e ∙ front)))
      (λ harts after some few e.
      let same = others_same behind (codes " block 4\n") n r rest closes_two reads word harts after some few (same_behind second_front behind (decimal harts ++ (codes " block 4\n" ++ after)) (sym front ∙ e)) in
      (same.0, refl, same.1));
}
