-- Reading line after line.
use Rattle.std.proofs.Common.{◌≡◌, ℕ, ◌+◌, ◌<◌, ◌≤◌, ◌⊎◌, true, false, List, [], ◌∷◌, ◌++◌, length, map, Some, None, refl, sym, ap, ◌∙◌, subst, arith, inl, inr}
use Rattle.std.specs.List.{All}
use Rattle.std.proofs.lemmas.List.{append-nil, append_assoc, length-append, map-append}
use Rattle.std.proofs.lemmas.Bool.{false≢true}
use Rattle.std.proofs.lemmas.List.Concat.{flat_map-append}
use Rattle.pl_event.specs.declared.log.Line.{Line}
use Rattle.pl_event.specs.declared.log.Log.{Log}
use Rattle.pl_event.specs.declared.log.PageRun.{PageRun}
use Rattle.log_text.specs.declared.cause.LogCause.{LogCause}
use Rattle.log_text.specs.declared.cause.LogCause.TheVariants as cause
use Rattle.log_text.specs.declared.cause.LogFault.{LogFault}
use Rattle.log_grammar.specs.Begins.{Begins, BeginsWithHeader, BeginsWithNoRow, BeginsWithNoPage}
use Rattle.log_grammar.specs.Form.{IsInForm, most_read}
use Rattle.log_text.specs.Reading.{IsAlike, IsRead, IsNoLog, IsOnly, with_line, with_pages}
use Rattle.log_grammar.specs.Spelling.{Entry, page, row, row_of, header_text, line_text, entry_text, entries_text, entries_of}
use Rattle.log_text.specs.WellFormed.{broken, Continues, IsLawful, IsWellFormed, IsLogText, IsLineFault, Stops, no_line, bad_line, bad_end, has_pending, rules_in_order}
use Rattle.log_text.proofs.Same.{IsWhole, log-same}

-- where a list with one more element is parted
pub parted_push : {X : Type 0} (xs : List X) (x : X) (before : List X) (y : X) (after : List X) → xs ++ x ∷ [] ≡ before ++ y ∷ after
    → ((xs ≡ before) × (x ≡ y)) ⊎ ((rest : List X) × (xs ≡ before ++ y ∷ rest))
parted_push [] x [] y after e = inl (refl, cc)
parted_push [] x (b ∷ []) y after e = absurd cc
parted_push [] x (b ∷ c ∷ before) y after e = absurd cc
parted_push (w ∷ xs) x [] y after e = let first : w ≡ y = cc in inr (xs, cc)
parted_push {X = X} (w ∷ xs) x (b ∷ before) y after e =
    let first : w ≡ b = cc in
    let rest : xs ++ x ∷ [] ≡ before ++ y ∷ after = cc in
    elim (parted_push xs x before y after rest) [
      | inl h ↦ let same = h.0 in inl (cc, h.1)
      | inr h ↦ let same = h.1 in inr (h.0, cc)
    ]

abbrev pub IsLawfulRead : ℕ → List Entry → Type 0
IsLawfulRead harts entries = IsLawful rules_in_order most_read harts entries

abbrev pub ContinuesRead : ℕ → List Entry → Entry → Type 0
ContinuesRead harts before e = Continues rules_in_order most_read harts before e

lawful-nil : (harts : ℕ) → IsLawfulRead harts []
lawful-nil harts [] after e h = absurd cc
lawful-nil harts (b ∷ before) after e h = absurd cc

lawful-push : (harts : ℕ) (entries : List Entry) (e : Entry) → IsLawfulRead harts entries → ContinuesRead harts entries e → IsLawfulRead harts (entries ++ e ∷ [])
lawful-push harts entries e lawful last before after x parted =
    elim (parted_push entries e before x after parted) [
      | inl h ↦ subst (λ (y : Entry). ContinuesRead harts before y) h.1 (subst (λ (es : List Entry). ContinuesRead harts es e) h.0 last)
      | inr h ↦ lawful before h.0 x h.1
    ]

pub text_some : (e : Entry) (after : List ℕ) → 0 < length (line_text (entry_text e) ++ after)
text_some e after = omega (arith, length-append (line_text (entry_text e)) after, length-append (entry_text e) (10 ∷ []))

texts-push : (entries : List Entry) (e : Entry) (after : List ℕ) → entries_text entries ++ (line_text (entry_text e) ++ after) ≡ entries_text (entries ++ e ∷ []) ++ after
texts-push entries e after =
    sym (ap (λ (t : List ℕ). t ++ after) (flat_map-append (λ x. line_text (entry_text x)) entries (e ∷ []) ∙ ap (λ (t : List ℕ). entries_text entries ++ t) (append-nil (line_text (entry_text e))))
    ∙ append_assoc (entries_text entries) (line_text (entry_text e)) after)

spelled-push : (head bytes rest after : List ℕ) (before entries : List Entry) (e : Entry) → bytes ≡ head ++ entries_text before ++ rest → rest ≡ line_text (entry_text e) ++ after
    → entries ≡ before ++ e ∷ [] → bytes ≡ head ++ entries_text entries ++ after
spelled-push head bytes rest after before entries e spelled begins is =
    spelled
    ∙ ap (λ (t : List ℕ). head ++ entries_text before ++ t) begins
    ∙ append_assoc head (entries_text before) (line_text (entry_text e) ++ after)
    ∙ ap (λ (t : List ℕ). head ++ t) (texts-push before e after ∙ ap (λ (es : List Entry). entries_text es ++ after) (sym is))
    ∙ sym (append_assoc head (entries_text entries) after)

-- after the header
abbrev pub bare : ℕ → ℕ → Log
bare harts block = record { harts = harts; block = block; pages = []; lines = [] }

pub read-none : (bytes rest : List ℕ) (harts block : ℕ) → BeginsWithHeader bytes harts block rest → IsRead bytes rest (bare harts block)
read-none bytes rest harts block header = record {
  some = header.some;
  few = header.few;
  size = header.size;
  eight = λ k d h. absurd (omega arith);
  spelled = header.spelled ∙ ap (λ (t : List ℕ). t ++ rest) (sym (append-nil (line_text (header_text harts block))));
  lawful = lawful-nil harts;
  only = λ other text.
      let same = header.only other.harts other.block (entries_text (entries_of other)) text.formed.some text.formed.few text.formed.block text.spelled in
      record { same = same.0; size = same.1; tail = entries_of other; parted = refl; left = sym same.2 };
}

-- the rest of another log of the bytes, after one more line
pub alike-push : (harts block : ℕ) (before : List Entry) (rest after : List ℕ) (e : Entry) (other : Log) → IsWellFormed other → Begins rest e after → IsAlike harts block before rest other → IsAlike harts block (before ++ e ∷ []) after other
alike-push harts block before rest after e other formed begins alike = alike-tail alike.tail alike.parted alike.left
  where
    alike-tail : (tail : List Entry) → entries_of other ≡ before ++ tail → rest ≡ entries_text tail → IsAlike harts block (before ++ e ∷ []) after other
    alike-tail [] parted left = absurd (omega (arith, text_some e after, ap length left, ap length begins.spelled))
    alike-tail (t ∷ tail) parted left =
        let next = formed.lawful before tail t parted in
        let same = begins.only t (entries_text tail) next.in_form left in
        record {
          same = alike.same;
          size = alike.size;
          tail = tail;
          parted = parted ∙ ap (λ (x : Entry). before ++ x ∷ tail) same.0 ∙ sym (append_assoc before (e ∷ []) tail);
          left = sym same.1;
        }

-- one more line
pub read-push : (bytes rest after : List ℕ) (log new : Log) (e : Entry) → IsRead bytes rest log → Begins rest e after → broken log.harts (entries_of log) e ≡ None
    → new.harts ≡ log.harts → new.block ≡ log.block → All IsWhole new.lines → entries_of new ≡ entries_of log ++ e ∷ [] → IsRead bytes after new
read-push bytes rest after log new e read begins none same size whole entries =
    read_all
  where
    read_all : IsRead bytes after new
    read_all = record {
      some = omega (arith, read.some, same);
      few = omega (arith, read.few, same);
      size = subst (λ (b : ℕ). (b ≡ 16) ⊎ (b ≡ 4)) (sym size) read.size;
      eight = whole;
      spelled =
          spelled-push (line_text (header_text log.harts log.block)) bytes rest after (entries_of log) (entries_of new) e read.spelled begins.spelled entries
          ∙ ap (λ (h : ℕ). line_text (header_text h log.block) ++ entries_text (entries_of new) ++ after) (sym same)
          ∙ ap (λ (b : ℕ). line_text (header_text new.harts b) ++ entries_text (entries_of new) ++ after) (sym size);
      lawful =
          subst (λ (h : ℕ). IsLawfulRead h (entries_of new)) (sym same)
          (subst (IsLawfulRead log.harts) (sym entries) (lawful-push log.harts (entries_of log) e read.lawful (record { in_form = begins.in_form; breaks_none = none })));
      only = λ other text.
          subst (λ (h : ℕ). IsAlike h new.block (entries_of new) after other) (sym same)
          (subst (λ (b : ℕ). IsAlike log.harts b (entries_of new) after other) (sym size)
          (subst (λ (es : List Entry). IsAlike log.harts log.block es after other) (sym entries) (alike-push log.harts log.block (entries_of log) rest after e other text.formed begins (read.only other text))));
    }

-- the entries of a log with one line more
pub entries-line : (log : Log) (line : Line) → entries_of (with_line log line) ≡ entries_of log ++ row_of line ∷ []
entries-line log line = ap (λ (es : List Entry). map page log.pages ++ es) (map-append row_of log.lines (line ∷ [])) ∙ sym (append_assoc (map page log.pages) (map row_of log.lines) (row_of line ∷ []))

pub entries-pages : (log : Log) (run : PageRun) → log.lines ≡ [] → entries_of (with_pages log run) ≡ entries_of log ++ page run ∷ []
entries-pages log run none =
    ap (λ (ls : List Line). map page (log.pages ++ run ∷ []) ++ map row_of ls) none ∙ append-nil (map page (log.pages ++ run ∷ [])) ∙ map-append page log.pages (run ∷ [])
    ∙ ap (λ (es : List Entry). es ++ page run ∷ []) (sym (ap (λ (ls : List Line). map page log.pages ++ map row_of ls) none ∙ append-nil (map page log.pages)))

-- a log has fewer lines than its text has bytes
few_entries : (entries : List Entry) → length entries ≤ length (entries_text entries)
few_entries [] = omega arith
few_entries (e ∷ entries) = omega (arith, few_entries entries, length-append (line_text (entry_text e)) (entries_text entries), length-append (entry_text e) (10 ∷ []))

pub few_lines : (bytes rest : List ℕ) (log : Log) → IsRead bytes rest log → length (entries_of log) + length rest < length bytes
few_lines bytes rest log read =
    omega (arith, ap length read.spelled, length-append (line_text (header_text log.harts log.block) ++ entries_text (entries_of log)) rest, length-append (line_text (header_text log.harts log.block)) (entries_text (entries_of log)), length-append (header_text log.harts log.block) (10 ∷ []), few_entries (entries_of log))

-- At the end of the bytes

no_tail : (tail : List Entry) → entries_text tail ≡ [] → tail ≡ []
no_tail [] e = refl
no_tail (t ∷ tail) e = absurd (omega (arith, text_some t (entries_text tail), ap length e))

pub read-only : (bytes rest : List ℕ) (log : Log) → IsRead bytes rest log → rest ≡ [] → has_pending (entries_of log) ≡ false → IsOnly bytes log
read-only bytes rest log read empty closed = record { text = text; one = one }
  where
    text : IsLogText bytes log
    text = record {
      formed = record { some = read.some; few = read.few; block = read.size; eight = read.eight; lawful = read.lawful; closed = closed };
      spelled = read.spelled ∙ ap (λ (t : List ℕ). line_text (header_text log.harts log.block) ++ entries_text (entries_of log) ++ t) empty ∙ append-nil (line_text (header_text log.harts log.block) ++ entries_text (entries_of log));
    }

    one : (other : Log) → IsLogText bytes other → other ≡ log
    one other text =
        let alike = read.only other text in
        let nothing : alike.tail ≡ [] = no_tail alike.tail (sym alike.left ∙ empty) in
        let entries : entries_of other ≡ entries_of log = alike.parted ∙ ap (λ (t : List Entry). entries_of log ++ t) nothing ∙ append-nil (entries_of log) in
        log-same other log text.formed.eight read.eight alike.same alike.size entries

-- Faults

abbrev fault_of : ℕ → LogCause → LogFault
fault_of line cause = record { line = line; cause = cause }

line_fault : (bytes rest : List ℕ) (log : Log) (line : ℕ) (cause : LogCause) → IsRead bytes rest log → line ≡ length (entries_of log) + 2 → Stops log.harts (entries_of log) rest cause → IsLineFault bytes (fault_of line cause)
line_fault bytes rest log line cause read at stops = record {
  harts = log.harts;
  block = log.block;
  before = entries_of log;
  rest = rest;
  some = read.some;
  few = read.few;
  size = read.size;
  spelled = read.spelled;
  lawful = read.lawful;
  line = at;
  stops = stops;
}

-- the next line of another log of the bytes
next_line : (bytes rest : List ℕ) (log other : Log) (P : Type 0) → IsRead bytes rest log → IsLogText bytes other → 0 < length rest
    → ((e : Entry) (after : List ℕ) → rest ≡ line_text (entry_text e) ++ after → ContinuesRead log.harts (entries_of log) e → P) → P
next_line bytes rest log other P read text some next = at alike.tail alike.parted alike.left
  where
    alike : IsAlike log.harts log.block (entries_of log) rest other
    alike = read.only other text

    at : (tail : List Entry) → entries_of other ≡ entries_of log ++ tail → rest ≡ entries_text tail → P
    at [] parted left = absurd (omega (arith, some, ap length left))
    at (t ∷ tail) parted left = next t (entries_text tail) left (subst (λ (h : ℕ). ContinuesRead h (entries_of log) t) alike.same (text.formed.lawful (entries_of log) tail t parted))

-- no well-formed line
pub fault-none : (bytes rest : List ℕ) (log : Log) (line : ℕ) → IsRead bytes rest log → line ≡ length (entries_of log) + 2 → 0 < length rest → BeginsWithNoRow rest → BeginsWithNoPage rest → IsNoLog bytes (fault_of line cause.Form)
fault-none bytes rest log line read at some no_row no_page = record {
  first = inr (line_fault bytes rest log line cause.Form read at (no_line some nothing));
  none = λ other text. next_line bytes rest log other ⊥ read text some (λ e after spelled continues. nothing e after continues.in_form spelled);
}
  where
    nothing : (e : Entry) (after : List ℕ) → IsInForm most_read e → rest ≡ line_text (entry_text e) ++ after → ⊥
    nothing (page run) after form spelled = no_page run after form spelled
    nothing (row what points) after form spelled = no_row what points after form spelled

-- a line that breaks a rule
pub fault-broken : (bytes rest after : List ℕ) (log : Log) (line : ℕ) (e : Entry) (why : LogCause) → IsRead bytes rest log → line ≡ length (entries_of log) + 2 → Begins rest e after → broken log.harts (entries_of log) e ≡ Some why
    → IsNoLog bytes (fault_of line why)
fault-broken bytes rest after log line e why read at begins broke = record {
  first = inr (line_fault bytes rest log line why read at (bad_line e after begins.in_form begins.spelled broke));
  none = λ other text.
      next_line bytes rest log other ⊥ read text (omega (arith, text_some e after, ap length begins.spelled))
      (λ x behind spelled continues.
      let same = begins.only x behind continues.in_form spelled in
      let clash : Some why ≡ None = sym broke ∙ ap (broken log.harts (entries_of log)) (sym same.0) ∙ continues.breaks_none in
      (cc));
}

-- a notice whose event has not come
pub fault-open : (bytes rest : List ℕ) (log : Log) (line : ℕ) → IsRead bytes rest log → line ≡ length (entries_of log) + 2 → rest ≡ [] → has_pending (entries_of log) ≡ true → IsNoLog bytes (fault_of line cause.Open)
fault-open bytes rest log line read at empty pending = record {
  first = inr (line_fault bytes rest log line cause.Open read at (bad_end empty pending));
  none = λ other text.
      let alike = read.only other text in
      let nothing : alike.tail ≡ [] = no_tail alike.tail (sym alike.left ∙ empty) in
      let entries : entries_of other ≡ entries_of log = alike.parted ∙ ap (λ (t : List Entry). entries_of log ++ t) nothing ∙ append-nil (entries_of log) in
      false≢true (sym text.formed.closed ∙ ap has_pending entries ∙ pending);
}
