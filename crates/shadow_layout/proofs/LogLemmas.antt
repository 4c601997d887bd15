-- The words before each line of a log.
use Rattle.std.proofs.Common.{◌≡◌, ℕ, zero, suc, ◌+◌, ◌<◌, ◌≤◌, Bool, List, [], ◌∷◌, ◌++◌, length, take, Option, Some, slice_get, slice_index, refl, sym, ap, ◌∙◌, subst, arith}
use Rattle.std.proofs.lemmas.List.Elements.{filter_map-append}
use mathlib.Core.Option.{some, some-injective, some-ne-none}
use lib.ListN.{get_elem?}
use Rattle.pl_event.specs.declared.event.Event.{Event}
use Rattle.pl_event.specs.declared.log.Line.{Line}
use Rattle.pl_event.specs.declared.log.Log.{Log}
use Rattle.pl_event.specs.declared.log.Record.{Record}
use Rattle.pl_event.specs.declared.log.Record.TheVariants as entry
use Rattle.pl_event.specs.Mapping.{KeepsPages, mapped_after, mapped_at}
use Rattle.pl_event.specs.Numbers.{event_of, events_of}
use Rattle.pl_event.specs.Runs.{IsRunLog, IsSoundLine, IsSoundRecord}
use Rattle.pl_event.proofs.MappedPages.{line_at, line_holds, mapped_next, take_next}
use Rattle.lifeguard.specs.Ranges.{AreNibbles}
use Rattle.lifeguard.specs.Rules.{Rules, KeepsLaws}
use Rattle.lifeguard.specs.State.{State, first_state}
use Rattle.lifeguard.specs.Plain.{rule, place_after, plain_result}
use Rattle.lifeguard.proofs.PlainLemmas.{plain_result-last}
use Rattle.lifeguard.proofs.RangeLemmas.{plain_in_range}
use Rattle.order_core.specs.Shapes.{Shape, AreSoundShapes, after_shapes}
use Rattle.order_core.specs.Filled.{words_after}
use Rattle.shadow_frames.specs.Words.{WordsRepresent}
use Rattle.shadow_frames.specs.Opening.{opening_words}
use Rattle.shadow_frames.proofs.OpeningLemmas.{opened}
use Rattle.shadow_layout.specs.Logs.{state_before, record_shapes, line_shapes, log_shapes}
use Rattle.shadow_layout.proofs.PageTests.{HasPages, first_pages, keeps_pages, pages_after}
use Rattle.shadow_layout.proofs.Represented.{represents_after}
use Rattle.shadow_layout.proofs.Sound.{sound, few_operations}

line_is : (lines : List Line) (i : ℕ) (line : Line) → get_elem? lines i ≡ some line → slice_get lines i ≡ Some line
line_is [] i line at = absurd (some-ne-none line (sym at))
line_is (l ∷ lines) zero line at = ap (λ (x : Line). Some x) (some-injective l line at)
line_is (l ∷ lines) (suc i) line at = line_is lines i line at

append_none : (xs : List Event) → xs ++ [] ≡ xs
append_none [] = refl
append_none (x ∷ xs) = ap (λ (z : List Event). x ∷ z) (append_none xs)

-- the state after a record
abbrev state_next : Rules → List Event → State → Record → State
state_next rules events state (entry.Event event) = rule rules (place_after events event) event.kind state
state_next rules events state (entry.Notice hart point) = state

record_next : (rules : Rules) (log : Log) (events : List Event) (arcs : List (Option ℕ)) (r : Record)
    → plain_result rules log.pages (events ++ events_of (record { arcs = arcs; what = r } ∷ [])) ≡ state_next rules events (plain_result rules log.pages events) r
record_next rules log events arcs (entry.Event event) = plain_result-last rules log.pages events event
record_next rules log events arcs (entry.Notice hart point) = ap (plain_result rules log.pages) (append_none events)

state_is : (rules : Rules) (log : Log) (i : ℕ) (line : Line) → get_elem? log.lines i ≡ some line
    → state_before rules log (suc i) ≡ state_next rules (events_of (take i log.lines)) (state_before rules log i) line.what
state_is rules log i line at =
    ap (λ (lines : List Line). plain_result rules log.pages (events_of lines)) (take_next log.lines i line at)
    ∙ (ap (plain_result rules log.pages) (filter_map-append (λ (l : Line). event_of l.what) (take i log.lines) (line ∷ []))
    ∙ record_next rules log (events_of (take i log.lines)) line.arcs line.what)

-- what an event keeps of pages
abbrev RecordKeeps : (ℕ → Bool) → Record → Type 0
RecordKeeps mapped (entry.Event event) = KeepsPages mapped event.kind
RecordKeeps mapped (entry.Notice hart point) = Unit {0}

module _ (rules : Rules) (laws : KeepsLaws rules) (size : ℕ) (events : List Event) (state : State) (small : AreNibbles state.bytes) (w : ℕ → ℕ) (st : WordsRepresent w state.bytes)
    (mapped : ℕ → Bool) (same : HasPages state.bytes mapped) (harts : ℕ) (arcs : List (Option ℕ)) where
  represents_next : (r : Record) → IsSoundRecord harts arcs r → RecordKeeps mapped r → WordsRepresent (after_shapes w (record_shapes rules size state w r)) (state_next rules events state r).bytes
  unfolding rule
  represents_next (entry.Event event) v k = represents_after rules laws size event.hart state.masks state.bytes small w st event.kind v.1 (keeps_pages rules event.hart state.bytes state.masks mapped same event.kind k)
  represents_next (entry.Notice hart point) v k = st

  pages_next : (r : Record) → HasPages (state_next rules events state r).bytes (mapped_after mapped (record { arcs = arcs; what = r }))
  unfolding rule
  pages_next (entry.Event event) = pages_after rules event.hart state.bytes state.masks mapped same event.kind
  pages_next (entry.Notice hart point) = same

  sound_next : (r : Record) → IsSoundRecord harts arcs r → RecordKeeps mapped r → AreSoundShapes 135185 (record_shapes rules size state w r) × (length (record_shapes rules size state w r) < 4294967295)
  sound_next (entry.Event event) v k = (
    sound rules laws size event.hart state.masks state.bytes small w st event.kind v.1 (keeps_pages rules event.hart state.bytes state.masks mapped same event.kind k),
    few_operations rules laws size event.hart state.masks state.bytes small w st event.kind v.1,
  )
  sound_next (entry.Notice hart point) v k = (tt, omega arith)

module _ (rules : Rules) (laws : KeepsLaws rules) (log : Log) (run : IsRunLog log) (opening : List ℕ) (is : slice_index opening ≡ opening_words rules.page_state log.pages) where
  abbrev words : ℕ → (ℕ → ℕ)
  words i = words_after (log_shapes rules log) opening i

  pub record IsMoment (i : ℕ) : Type 0 where
    pub represents : WordsRepresent (words i) (state_before rules log i).bytes
    pub pages : HasPages (state_before rules log i).bytes (mapped_at log i)

  small_before : (i : ℕ) → AreNibbles (state_before rules log i).bytes
  small_before i = (plain_in_range rules laws log.pages (events_of (take i log.lines))).nibbles

  sound_line : (i : ℕ) (line : Line) → get_elem? log.lines i ≡ some line → IsSoundRecord log.harts line.arcs line.what
  sound_line i line at = (line_holds (IsSoundLine log.harts) log.lines run.sound i line at).1

  keeps : (i : ℕ) (line : Line) → get_elem? log.lines i ≡ some line → RecordKeeps (mapped_at log i) line.what
  keeps i line at = by line.what refl
    where
      by : (r : Record) → line.what ≡ r → RecordKeeps (mapped_at log i) r
      by (entry.Event event) e = run.maps i event (line, at, e)
      by (entry.Notice hart point) e = tt

  shapes_are : (i : ℕ) (line : Line) → get_elem? log.lines i ≡ some line → log_shapes rules log i (words i) ≡ record_shapes rules log.block (state_before rules log i) (words i) line.what
  shapes_are i line at = ap (line_shapes rules log.block (state_before rules log i) (words i)) (line_is log.lines i line at)

  next_moment : (i : ℕ) (line : Line) → get_elem? log.lines i ≡ some line → IsMoment i → IsMoment (suc i)
  next_moment i line at m =
      let e : suc i ≡ i + 1 = omega arith in
      let next = state_is rules log i line at in
      record {
        represents = subst (λ (z : List Shape × State). WordsRepresent (after_shapes (words i) z.0) z.1.bytes)
            (λ d. (sym (shapes_are i line at) d, sym next d))
            (represents_next rules laws log.block (events_of (take i log.lines)) (state_before rules log i) (small_before i) (words i) m.represents (mapped_at log i) m.pages log.harts line.arcs line.what (sound_line i line at) (keeps i line at));
        pages = subst (λ (z : State × (ℕ → Bool)). HasPages z.0.bytes z.1)
            (λ d. (sym next d, sym (ap (mapped_at log) e ∙ mapped_next log i line at) d))
            (pages_next rules laws log.block (events_of (take i log.lines)) (state_before rules log i) (small_before i) (words i) m.represents (mapped_at log i) m.pages log.harts line.arcs line.what);
      }

  pub moment : (i : ℕ) → i ≤ length log.lines → IsMoment i
  moment zero le = record {
    represents = subst (λ (z : ℕ → ℕ). WordsRepresent z (first_state rules log.pages).bytes) (sym is) (opened rules laws log.pages run.opening.rising run.opening.room).represents;
    pages = first_pages rules log.pages;
  }
  moment (suc i) le =
      let line = line_at log.lines i (omega arith) in
      next_moment i line.0 line.1 (moment i (omega arith))

  pub sound_at : (i : ℕ) → i < length log.lines → AreSoundShapes 135185 (log_shapes rules log i (words i)) × (length (log_shapes rules log i (words i)) < 4294967295)
  sound_at i lt =
      let line = line_at log.lines i lt in
      let m = moment i (omega arith) in
      subst (λ (z : List Shape). AreSoundShapes 135185 z × (length z < 4294967295)) (sym (shapes_are i line.0 line.1))
      (sound_next rules laws log.block (events_of (take i log.lines)) (state_before rules log i) (small_before i) (words i) m.represents (mapped_at log i) m.pages log.harts line.0.arcs line.0.what (sound_line i line.0 line.1) (keeps i line.0 line.1))

  pub zeros : (u : ℕ) → u < 9 → slice_index opening u ≡ 0
  zeros u lt = (λ d. is d u) ∙ (opened rules laws log.pages run.opening.rising run.opening.room).low u lt

pub take_all : (lines : List Line) → take (length lines) lines ≡ lines
take_all [] = refl
take_all (l ∷ lines) = ap (λ (z : List Line). l ∷ z) (take_all lines)
