-- How many bytes the text of a recorded run takes, at most.
use Rattle.std.proofs.Common.{◌≡◌, ℕ, zero, suc, ◌+◌, ◌*◌, ◌<◌, ◌≤◌, Bool, true, false, List, [], ◌∷◌, ◌++◌, length, map, ap, ◌∙◌, arith, if◌then◌else◌}
use Rattle.std.specs.Prelude.{All, fold}
use Rattle.std.specs.List.{AllByRecursion}
use Rattle.std.proofs.lemmas.List.{length-append, map-append}
use Rattle.std.proofs.lemmas.List.Concat.{flat_map-append}
use Rattle.std.proofs.lemmas.List.Elements.{recursion_from_All}
use mathlib.Core.Logic.{dite}
use native.Mathlib.Decide.{ℕ_discrete}
use Rattle.pl_event.specs.declared.event.Event.{Event}
use Rattle.pl_event.specs.declared.log.Line.{Line}
use Rattle.pl_event.specs.declared.log.Log.{Log}
use Rattle.pl_event.specs.declared.log.Record.{Record}
use Rattle.pl_event.specs.Alerts.{is_alert_kind}
use Rattle.log_grammar.specs.Spelling.{page, row_of, header_text, line_text, entry_text, entries_text, entries_of, log_spelling}
use Rattle.log_text.specs.WellFormed.{IsWellFormed}
use Rattle.log_text.proofs.TextLength.{header_short, runs_short}
use Rattle.conflict_alerts.specs.Placing.{event_line, notice_to, notices_below, lines_of, with_event, count_in, placed}
use Rattle.conflict_alerts.proofs.Telling.{to_own, to_other}
use Rattle.run_record.proofs.LineBytes.{costs, lines_short}

abbrev records : List Line → List Record
records lines = map (λ line. line.what) lines

-- how many bytes these lines take, at most
abbrev bytes : List Line → ℕ
bytes lines = costs (records lines)

costs-append : (xs ys : List Record) → costs (xs ++ ys) ≡ costs xs + costs ys
costs-append [] ys = omega arith
costs-append (x ∷ xs) ys = omega (arith, costs-append xs ys)

bytes-append : (xs ys : List Line) → bytes (xs ++ ys) ≡ bytes xs + bytes ys
bytes-append xs ys = ap costs (map-append (λ (line : Line). line.what) xs ys) ∙ costs-append (records xs) (records ys)

-- all harts but the event's own are told of it
below : (h n u : ℕ) → (bytes (notices_below h n u) ≤ 16 * u) × (h < u → bytes (notices_below h n u) + 16 ≤ 16 * u)
below h n zero = (omega arith, λ low. absurd (omega (arith, low)))
below h n (suc u) =
    let longer : bytes (notices_below h n (suc u)) ≡ bytes (notices_below h n u) + bytes (notice_to u h n) = bytes-append (notices_below h n u) (notice_to u h n) in
    let few : bytes (notices_below h n u) ≤ 16 * u = (below h n u).0 in
    dite (ℕ_discrete u h)
    (λ e. let none : bytes (notice_to u h n) ≡ 0 = ap bytes (to_own u h n e) in ((omega arith), λ low. (omega arith)))
    (λ ne. let one : bytes (notice_to u h n) ≡ 16 = ap bytes (to_other u h n ne) in
    ((omega arith), λ low. let o : u ≡ h → ⊥ = ne in let l : h < suc u = low in let less : bytes (notices_below h n u) + 16 ≤ 16 * u = (below h n u).1 (omega arith) in omega arith))

of_event : (harts n : ℕ) (e : Event) → harts ≤ 8 → e.hart < harts → bytes (lines_of harts n e) ≤ 219
of_event harts n e small low = by (is_alert_kind e.kind)
  where
    by : (b : Bool) → bytes (notices_below e.hart n (if b then harts else 0) ++ event_line e ∷ []) ≤ 219
    by true =
        let a : bytes (notices_below e.hart n harts ++ event_line e ∷ []) ≡ bytes (notices_below e.hart n harts) + 107 = bytes-append (notices_below e.hart n harts) (event_line e ∷ []) in
        let few : bytes (notices_below e.hart n harts) + 16 ≤ 16 * harts = (below e.hart n harts).1 low in
        let h : harts ≤ 8 = small in
        omega arith
    by false = omega arith

of_events : (harts : ℕ) (events : List Event) → harts ≤ 8 → AllByRecursion (λ event. event.hart < harts) events → (g : List Line) → bytes (fold (with_event harts) g events) ≤ bytes g + 219 * length events
of_events harts [] small all g = omega arith
of_events harts (e ∷ es) small all g =
    let n : ℕ = count_in e.hart g + 1 in
    let a : bytes (fold (with_event harts) (with_event harts g e) es) ≤ bytes (with_event harts g e) + 219 * length es = of_events harts es small all.1 (with_event harts g e) in
    let b : bytes (with_event harts g e) ≡ bytes g + bytes (lines_of harts n e) = bytes-append g (lines_of harts n e) in
    let c : bytes (lines_of harts n e) ≤ 219 = of_event harts n e small all.0 in
    omega arith

-- the text of a log whose records are placed ones
pub text_bytes : (log : Log) (harts : ℕ) (events : List Event) → IsWellFormed log → harts ≤ 8 → All (λ event. event.hart < harts) events → records log.lines ≡ records (placed harts events) → length log.pages ≤ 4
    → length (log_spelling log) ≤ 3400 + 219 * length events
text_bytes log harts events formed small inside same pages =
    let eight = recursion_from_All (λ (line : Line). length line.arcs ≡ 8) log.lines formed.eight in
    let rows : length (entries_text (map row_of log.lines)) ≤ bytes log.lines = lines_short log.harts (map page log.pages) log.lines eight formed.lawful in
    let runs : length (entries_text (map page log.pages)) ≤ 600 * length log.pages = runs_short log.pages in
    let head : length (line_text (header_text log.harts log.block)) ≤ 1000 = header_short log.harts log.block in
    let all : bytes (placed harts events) ≤ 0 + 219 * length events = of_events harts events small (recursion_from_All (λ (event : Event). event.hart < harts) events inside) [] in
    let as_placed : bytes log.lines ≡ bytes (placed harts events) = ap costs same in
    let entries = ap length (flat_map-append (λ e. line_text (entry_text e)) (map page log.pages) (map row_of log.lines)) ∙ length-append (entries_text (map page log.pages)) (entries_text (map row_of log.lines)) in
    let whole = length-append (line_text (header_text log.harts log.block)) (entries_text (entries_of log)) in
    let four : length log.pages ≤ 4 = pages in
    omega arith
