-- Events, one line after the other.
use Rattle.std.proofs.Common.{◌≡◌, ℕ, suc, ◌+◌, ◌<◌, ◌≤◌, List, [], ◌∷◌, ◌++◌, length, take, get_or, sym, ap, ◌∙◌, arith}
use Rattle.std.specs.List.{cons_option}
use Rattle.std.proofs.lemmas.List.{take_more, length-take}
use Rattle.std.proofs.lemmas.List.Elements.{filter_map-append}
use Rattle.pl_event.specs.declared.event.Event.{Event}
use Rattle.pl_event.specs.declared.log.Line.{Line}
use Rattle.pl_event.specs.declared.log.Record.{Record}
use Rattle.pl_event.specs.declared.log.Record.TheVariants as entry
use Rattle.pl_event.specs.Numbers.{events_of, event_of}

-- one more line, of which the record is known
pub events-more : (lines : List Line) (i : ℕ) (what : Record) → i < length lines → ((d : Line) → what ≡ (get_or lines i d).what) → events_of (take (i + 1) lines) ≡ events_of (take i lines) ++ cons_option (event_of what) []
events-more lines i what lt is =
    let d : Line = record { what = what; arcs = [] } in
    ap events_of (take_more lines i d lt) ∙ filter_map-append (λ l. event_of l.what) (take i lines) (get_or lines i d ∷ [])
    ∙ ap (λ (w : Record). events_of (take i lines) ++ cons_option (event_of w) []) (sym (is d))

few_of : (what : Record) (events : List Event) → length (cons_option (event_of what) events) ≤ suc (length events)
few_of (entry.Event event) events = omega arith
few_of (entry.Notice hart point) events = omega arith

-- no more events than lines
pub few_events : (lines : List Line) → length (events_of lines) ≤ length lines
few_events [] = omega arith
few_events (line ∷ lines) = omega (arith, few_of line.what (events_of lines), few_events lines)

pub few_before : (lines : List Line) (i : ℕ) → length (events_of (take i lines)) ≤ i
few_before lines i = omega (arith, few_events (take i lines), length-take i lines)
