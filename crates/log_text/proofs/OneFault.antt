-- After some lines, the rest has one first fault at most, and then no log.
use Rattle.std.proofs.Common.{◌≡◌, ℕ, ◌+◌, ◌<◌, false, List, [], ◌∷◌, ◌++◌, length, Some, None, refl, sym, ap, subst, inl, inr, ◌∙◌, append_assoc, arith}
use Rattle.std.proofs.lemmas.Bool.{false≢true}
use Rattle.std.proofs.lemmas.List.{append-nil}
use Rattle.pl_event.specs.declared.log.Log.{Log}
use Rattle.log_text.specs.declared.cause.LogCause.{LogCause}
use Rattle.log_text.specs.declared.cause.LogCause.TheVariants as cause
use Rattle.log_text.specs.declared.cause.LogFault.{LogFault}
use Rattle.log_grammar.specs.Begins.{Begins, BeginsWithHeader, BeginsWithNoRow, BeginsWithNoPage}
use Rattle.log_grammar.specs.Form.{IsInForm, most_read}
use Rattle.log_text.specs.Reading.{IsAlike}
use Rattle.log_grammar.specs.Spelling.{Entry, page, row, header_text, line_text, entry_text, entries_text, entries_of}
use Rattle.log_text.specs.WellFormed.{broken, has_pending, IsLawful, rules_in_order, IsWellFormed, IsLogText, IsFirstFault, Stops, no_line, bad_line, bad_end}
use Rattle.log_text.proofs.ReadLemmas.{ContinuesRead, IsLawfulRead, text_some, alike-push}

-- Faults after some lines

-- a first fault of the bytes is that of a line after these
pub record IsFaultAfter (harts : ℕ) (before : List Entry) (rest : List ℕ) (fault : LogFault) : Type 0 where
  pub tail : List Entry
  pub end : List ℕ
  pub lawful : IsLawful rules_in_order most_read harts (before ++ tail)
  pub left : rest ≡ entries_text tail ++ end
  pub line : fault.line ≡ length (before ++ tail) + 2
  pub stops : Stops harts (before ++ tail) end fault.cause

abbrev same_stop : ℕ → List Entry → List ℕ → LogFault → Type 0
same_stop harts before end fault = (fault.line ≡ length before + 2) × Stops harts before end fault.cause

-- such a fault is that of the next line, or the next line is another and may follow
after_here : (harts : ℕ) (before : List Entry) (rest : List ℕ) (fault : LogFault) (P : Type 0) → IsFaultAfter harts before rest fault → (same_stop harts before rest fault → P)
    → ((x : Entry) (after : List ℕ) → rest ≡ line_text (entry_text x) ++ after → ContinuesRead harts before x → P) → P
after_here harts before rest fault P is here next = at is.tail is.lawful is.left (is.line, is.stops)
  where
    at : (tail : List Entry) → IsLawfulRead harts (before ++ tail) → rest ≡ entries_text tail ++ is.end → same_stop harts (before ++ tail) is.end fault → P
    at [] lawful left stops = here (subst (λ (es : List Entry). same_stop harts es rest fault) (append-nil before) (subst (λ (r : List ℕ). same_stop harts (before ++ []) r fault) (sym left) stops))
    at (x ∷ tail) lawful left stops = next x (entries_text tail ++ is.end) (left ∙ append_assoc (line_text (entry_text x)) (entries_text tail) is.end) (lawful before tail x refl)

-- a cause is that of the fault
abbrev Why : ℕ → List Entry → List ℕ → LogCause → LogCause → Type 0
Why harts before rest why found = Stops harts before rest found → found ≡ why

same_fault : (fault other : LogFault) → other.line ≡ fault.line → other.cause ≡ fault.cause → other ≡ fault
same_fault fault other line cause = λ i. record { line = line i; cause = cause i }

no_text : (rest after : List ℕ) (e : Entry) → rest ≡ [] → rest ≡ line_text (entry_text e) ++ after → ⊥
no_text rest after e empty spelled = omega (arith, text_some e after, ap length (sym spelled ∙ empty))

cause_none : (harts : ℕ) (before : List Entry) (rest : List ℕ) (found : LogCause) → 0 < length rest → ((e : Entry) (after : List ℕ) → IsInForm most_read e → rest ≡ line_text (entry_text e) ++ after → ⊥)
    → Why harts before rest cause.Form found
cause_none harts before rest found some nothing (no_line more none) = refl
cause_none harts before rest found some nothing (bad_line e after form spelled broke) = absurd (nothing e after form spelled)
cause_none harts before rest found some nothing (bad_end empty pending) = absurd (omega (arith, some, ap length empty))

cause_open : (harts : ℕ) (before : List Entry) (rest : List ℕ) (found : LogCause) → rest ≡ [] → Why harts before rest cause.Open found
cause_open harts before rest found empty (no_line more none) = absurd (omega (arith, more, ap length empty))
cause_open harts before rest found empty (bad_line e after form spelled broke) = absurd (no_text rest after e empty spelled)
cause_open harts before rest found empty (bad_end none pending) = refl

no_stop : (harts : ℕ) (before : List Entry) (rest : List ℕ) (found : LogCause) → rest ≡ [] → has_pending before ≡ false → Stops harts before rest found → ⊥
no_stop harts before rest found empty closed (no_line more none) = omega (arith, more, ap length empty)
no_stop harts before rest found empty closed (bad_line e after form spelled broke) = no_text rest after e empty spelled
no_stop harts before rest found empty closed (bad_end none pending) = false≢true (sym closed ∙ pending)

-- a line that may follow is no fault
not_here : (harts : ℕ) (before : List Entry) (rest after : List ℕ) (e : Entry) (found : LogCause) → Begins rest e after → broken harts before e ≡ None → Stops harts before rest found → ⊥
not_here harts before rest after e found begins none (no_line more missed) = missed e after begins.in_form begins.spelled
not_here harts before rest after e found begins none (bad_line x next form spelled broke) =
    let clash : None ≡ Some found = sym none ∙ (ap (broken harts before) (sym (begins.only x next form spelled).0) ∙ broke) in
    cc
not_here harts before rest after e found begins none (bad_end empty pending) = no_text rest after e empty begins.spelled

fault-push : (harts : ℕ) (before : List Entry) (rest after : List ℕ) (e : Entry) (fault : LogFault) → Begins rest e after → broken harts before e ≡ None → IsFaultAfter harts before rest fault → IsFaultAfter harts (before ++ e ∷ []) after fault
fault-push harts before rest after e fault begins none is = at is.tail is.lawful is.left (is.line, is.stops)
  where
    at : (tail : List Entry) → IsLawfulRead harts (before ++ tail) → rest ≡ entries_text tail ++ is.end → same_stop harts (before ++ tail) is.end fault → IsFaultAfter harts (before ++ e ∷ []) after fault
    at [] lawful left stops =
        let here : same_stop harts before rest fault = subst (λ (es : List Entry). same_stop harts es rest fault) (append-nil before) (subst (λ (r : List ℕ). same_stop harts (before ++ []) r fault) (sym left) stops) in
        absurd (not_here harts before rest after e fault.cause begins none here.1)
    at (x ∷ tail) lawful left stops =
        let same = begins.only x (entries_text tail ++ is.end) (lawful before tail x refl).in_form (left ∙ append_assoc (line_text (entry_text x)) (entries_text tail) is.end) in
        let moved : before ++ x ∷ tail ≡ (before ++ e ∷ []) ++ tail = ap (λ (y : Entry). before ++ y ∷ tail) same.0 ∙ sym (append_assoc before (e ∷ []) tail) in
        let there : same_stop harts ((before ++ e ∷ []) ++ tail) is.end fault = subst (λ (es : List Entry). same_stop harts es is.end fault) moved stops in
        record {
          tail = tail;
          end = is.end;
          lawful = subst (IsLawfulRead harts) moved lawful;
          left = sym same.1;
          line = there.0;
          stops = there.1;
        }

fault-first : (bytes rest : List ℕ) (harts block : ℕ) (fault : LogFault) → BeginsWithHeader bytes harts block rest → IsFirstFault bytes fault → IsFaultAfter harts [] rest fault
fault-first bytes rest harts block fault header (inl h) = absurd (h.none harts block rest header.some header.few header.size header.spelled)
fault-first bytes rest harts block fault header (inr f) =
    let same = header.only f.harts f.block (entries_text f.before ++ f.rest) f.some f.few f.size (f.spelled ∙ append_assoc (line_text (header_text f.harts f.block)) (entries_text f.before) f.rest) in
    record {
      tail = f.before;
      end = f.rest;
      lawful = subst (λ (h : ℕ). IsLawfulRead h f.before) same.0 f.lawful;
      left = sym same.2;
      line = f.line;
      stops = subst (λ (h : ℕ). Stops h f.before f.rest fault.cause) same.0 f.stops;
    }

-- What the rest says, after any lines

pub record IsDetermined (rest : List ℕ) : Type 0 where
  pub one : (harts : ℕ) (before : List Entry) (f g : LogFault) → IsFaultAfter harts before rest f → IsFaultAfter harts before rest g → f ≡ g
  pub none : (harts block : ℕ) (before : List Entry) (f : LogFault) (other : Log) → IsFaultAfter harts before rest f → IsWellFormed other → IsAlike harts block before rest other → ⊥

-- another log ends here, or goes on with a line that may follow
alike_here : (harts block : ℕ) (before : List Entry) (rest : List ℕ) (other : Log) (P : Type 0) → IsWellFormed other → IsAlike harts block before rest other → (rest ≡ [] → entries_of other ≡ before → P)
    → ((x : Entry) (after : List ℕ) → rest ≡ line_text (entry_text x) ++ after → ContinuesRead harts before x → P) → P
alike_here harts block before rest other P formed alike end next = at alike.tail alike.parted alike.left
  where
    at : (tail : List Entry) → entries_of other ≡ before ++ tail → rest ≡ entries_text tail → P
    at [] parted left = end left (parted ∙ append-nil before)
    at (x ∷ tail) parted left = next x (entries_text tail) left (subst (λ (h : ℕ). ContinuesRead h before x) alike.same (formed.lawful before tail x parted))

-- No line begins the rest

module _ (rest : List ℕ) (no_page : BeginsWithNoPage rest) (no_row : BeginsWithNoRow rest) where
  nothing : (e : Entry) (after : List ℕ) → IsInForm most_read e → rest ≡ line_text (entry_text e) ++ after → ⊥
  nothing (page run) after form spelled = no_page run after form spelled
  nothing (row what points) after form spelled = no_row what points after form spelled

  same_cause : (harts : ℕ) (before : List Entry) (c d : LogCause) → Stops harts before rest c → Stops harts before rest d → c ≡ d
  same_cause harts before c d x y = by rest refl
    where
      by : (bytes : List ℕ) → rest ≡ bytes → c ≡ d
      by [] is = cause_open harts before rest c is x ∙ sym (cause_open harts before rest d is y)
      by (byte ∷ bytes) is =
          let some : 0 < length rest = omega (arith, ap length is) in
          cause_none harts before rest c some nothing x ∙ sym (cause_none harts before rest d some nothing y)

  pub over : IsDetermined rest
  over = record {
    one = λ harts before f g x y. after_here harts before rest f (f ≡ g) x
        (λ here. after_here harts before rest g (f ≡ g) y
        (λ there. same_fault g f (here.0 ∙ sym there.0) (same_cause harts before f.cause g.cause here.1 there.1))
        (λ e after spelled continues. absurd (nothing e after continues.in_form spelled)))
        (λ e after spelled continues. absurd (nothing e after continues.in_form spelled));
    none = λ harts block before f other x formed alike. alike_here harts block before rest other ⊥ formed alike
        (λ empty entries. after_here harts before rest f ⊥ x
        (λ here. no_stop harts before rest f.cause empty (ap has_pending (sym entries) ∙ formed.closed) here.1)
        (λ e after spelled continues. no_text rest after e empty spelled))
        (λ e after spelled continues. nothing e after continues.in_form spelled);
  }

-- A line begins it

module _ (rest after : List ℕ) (e : Entry) (begins : Begins rest e after) where
  is_broken : (harts : ℕ) (before : List Entry) (c : LogCause) → Stops harts before rest c → broken harts before e ≡ Some c
  is_broken harts before c (no_line more missed) = absurd (missed e after begins.in_form begins.spelled)
  is_broken harts before c (bad_line x next form spelled broke) = ap (broken harts before) (sym (begins.only x next form spelled).0) ∙ broke
  is_broken harts before c (bad_end empty pending) = absurd (no_text rest after e empty begins.spelled)

  not_broken : (harts : ℕ) (before : List Entry) (x : Entry) (next : List ℕ) → rest ≡ line_text (entry_text x) ++ next → ContinuesRead harts before x → broken harts before e ≡ None
  not_broken harts before x next spelled continues = ap (broken harts before) (sym (begins.only x next continues.in_form spelled).0) ∙ continues.breaks_none

  clash : (harts : ℕ) (before : List Entry) (c : LogCause) → Stops harts before rest c → broken harts before e ≡ None → ⊥
  clash harts before c stops none = not_here harts before rest after e c begins none stops

  same_broken : (harts : ℕ) (before : List Entry) (c d : LogCause) → Stops harts before rest c → Stops harts before rest d → c ≡ d
  same_broken harts before c d x y = let both : Some c ≡ Some d = sym (is_broken harts before c x) ∙ is_broken harts before d y in cc

  pub on : IsDetermined after → IsDetermined rest
  on known = record {
    one = λ harts before f g x y. after_here harts before rest f (f ≡ g) x
        (λ here. after_here harts before rest g (f ≡ g) y
        (λ there. same_fault g f (here.0 ∙ sym there.0) (same_broken harts before f.cause g.cause here.1 there.1))
        (λ z next spelled continues. absurd (clash harts before f.cause here.1 (not_broken harts before z next spelled continues))))
        (λ z next spelled continues.
        let none = not_broken harts before z next spelled continues in
        known.one harts (before ++ e ∷ []) f g (fault-push harts before rest after e f begins none x) (fault-push harts before rest after e g begins none y));
    none = λ harts block before f other x formed alike. alike_here harts block before rest other ⊥ formed alike
        (λ empty entries. no_text rest after e empty begins.spelled)
        (λ z next spelled continues.
        let none = not_broken harts before z next spelled continues in
        known.none harts block (before ++ e ∷ []) f other (fault-push harts before rest after e f begins none x) formed (alike-push harts block before rest after e other formed begins alike));
  }

-- The whole text

pub one_of : (bytes rest : List ℕ) (harts block : ℕ) → BeginsWithHeader bytes harts block rest → IsDetermined rest → (f g : LogFault) → IsFirstFault bytes f → IsFirstFault bytes g → f ≡ g
one_of bytes rest harts block header known f g x y = known.one harts [] f g (fault-first bytes rest harts block f header x) (fault-first bytes rest harts block g header y)

pub none_of : (bytes rest : List ℕ) (harts block : ℕ) → BeginsWithHeader bytes harts block rest → IsDetermined rest → (f : LogFault) (log : Log) → IsFirstFault bytes f → IsLogText bytes log → ⊥
none_of bytes rest harts block header known f log x text =
    let same = header.only log.harts log.block (entries_text (entries_of log)) text.formed.some text.formed.few text.formed.block text.spelled in
    known.none harts block [] f log (fault-first bytes rest harts block f header x) text.formed (record { same = same.0; size = same.1; tail = entries_of log; parted = refl; left = sym same.2 })
