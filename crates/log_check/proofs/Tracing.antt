-- What a trace tells of the events of a log.
use Rattle.std.proofs.Common.{◌≡◌, ℕ, ◌+◌, ◌<◌, false, ◌++◌, [], ◌∷◌, List, length, get_or, Some, slice_get, refl, sym, ap, ◌∙◌, subst, arith}
use Rattle.std.proofs.lemmas.List.{length-append}
use Rattle.std.proofs.lemmas.Option.{get_or_from_slice_get, slice_get_within, slice_get-get_or}
use Rattle.std.proofs.Math.ListN.{get_or-append}
use Rattle.std.proofs.Math.Seq.{get_or-append_seam}
use mathlib.Core.Logic.{dite}
use mathlib.Core.Option.{some-injective}
use native.Mathlib.Decide.{ℕ_discrete}
use Rattle.pl_event.specs.declared.event.Event.{Event}
use Rattle.pl_event.specs.declared.heads.Heads.{Heads}
use Rattle.pl_event.specs.declared.log.Line.{Line}
use Rattle.pl_event.specs.declared.log.Record.{Record}
use Rattle.pl_event.specs.declared.log.Record.TheVariants as entry
use Rattle.pl_event.specs.Alerts.{is_alert_kind}
use Rattle.pl_event.specs.Numbers.{hart_of}
use Rattle.pl_event.specs.Records.{records_before, IsEvent, IsRecord}
use Rattle.pl_event.proofs.Before.{got}
use Rattle.pl_event.proofs.Places.{inside}
use Rattle.log_check.specs.declared.trace.Outline.{Outline}
use Rattle.log_check.specs.declared.trace.Part.{Part}
use Rattle.log_check.specs.declared.trace.Part.TheVariants as parts
use Rattle.log_check.specs.inner.Partners.{IsSought}
use Rattle.log_check.specs.inner.Traced.{IsOutline, IsPart, IsTraced}
use Rattle.log_check.proofs.Positions.{event_of_line}

-- an event whose part is no alert is none
pub not_alert : (g : List Line) (a : Event) (n : ℕ) (part : Part) → IsPart g a n part → ((harts : ℕ) → part ≡ parts.Alert harts → ⊥) → is_alert_kind a.kind ≡ false
not_alert g a n parts.Other p apart = p.1
not_alert g a n (parts.Load addr) p apart = ap is_alert_kind p.3
not_alert g a n (parts.Store addr) p apart = ap is_alert_kind p.3
not_alert g a n (parts.Alert harts) p apart = absurd (apart harts refl)

-- the outline has the record's hart
pub outline_hart : (g : List Line) (n : ℕ) (what : Record) (outline : Outline) → IsOutline g n what outline → outline.hart ≡ hart_of what
outline_hart g n (entry.Event event) outline o = o.0
outline_hart g n (entry.Notice hart point) outline o = o.0

-- an outline with a part of its own is that of an event
pub outlined : (g : List Line) (x h n : ℕ) (line : Line) (outline : Outline) → IsRecord g x h n line → IsOutline g n line.what outline → (outline.part ≡ parts.Other → ⊥)
    → (a : Event) × IsEvent g x n a × (a.hart ≡ outline.hart) × IsPart g a n outline.part
outlined g x h n line outline is o some = by line.what refl o
  where
    by : (what : Record) → line.what ≡ what → IsOutline g n what outline → (a : Event) × IsEvent g x n a × (a.hart ≡ outline.hart) × IsPart g a n outline.part
    by (entry.Event event) what o = (event, event_of_line g x n h line event is what, sym o.0, o.1)
    by (entry.Notice hart point) what o = absurd (some o.1)

-- the line that an outline of the trace is of
pub line_at : (trace : List Outline) (now : Heads) (harts : ℕ) (g : List Line) (b : Event) (m : ℕ) (times : ℕ → ℕ) → IsSought trace now harts g b m times
    → (x : ℕ) (outline : Outline) → slice_get trace x ≡ Some outline
    → (line : Line) × IsRecord g x outline.hart (records_before outline.hart g x + 1) line × IsOutline g (records_before outline.hart g x + 1) line.what outline
line_at trace now harts g b m times sought x outline at =
    let within : x < length trace = slice_get_within trace x outline at in
    let before : length trace < length g = inside g (length trace) sought.later.event.0 sought.later.event.1.at in
    let line : Line = get_or g x sought.later.event.0 in
    let is : IsRecord g x (hart_of line.what) (records_before (hart_of line.what) g x + 1) line = record { at = got g x line (slice_get-get_or g x sought.later.event.0 (omega arith)); hart = refl; number = refl } in
    let o : IsOutline g (records_before (hart_of line.what) g x + 1) line.what outline = sought.traced.each x (hart_of line.what) (records_before (hart_of line.what) g x + 1) line outline is at in
    let own : hart_of line.what ≡ outline.hart = sym (outline_hart g (records_before (hart_of line.what) g x + 1) line.what outline o) in (
      line,
      subst (λ (z : ℕ). IsRecord g x z (records_before z g x + 1) line) own is,
      subst (λ (z : ℕ). IsOutline g (records_before z g x + 1) line.what outline) own o,
    )

-- a trace of no line
pub nothing_traced : (trace : List Outline) (g : List Line) → trace ≡ [] → IsTraced trace g 0
nothing_traced trace g none = subst (λ (z : List Outline). IsTraced z g 0) (sym none) (record {
  count = refl;
  each = λ x h n line outline is at. absurd (let low : x < 0 = slice_get_within [] x outline at in omega arith);
})

-- a trace of one line more
pub traced_more : (trace : List Outline) (g : List Line) (i n : ℕ) (line : Line) (outline : Outline) → IsTraced trace g i → IsRecord g i (hart_of line.what) n line → IsOutline g n line.what outline
    → IsTraced (trace ++ outline ∷ []) g (i + 1)
traced_more trace g i n line outline traced is o = record {
  count = length-append trace (outline ∷ []) ∙ ap (λ (z : ℕ). z + 1) traced.count;
  each = λ x h k l q at got_it. dite (ℕ_discrete x i)
      (λ now.
      let at' : IsRecord g i h k l = subst (λ (z : ℕ). IsRecord g z h k l) now at in
      let same : line ≡ l = some-injective line l (sym is.at ∙ at'.at) in
      let num : n ≡ k = sym is.number ∙ (ap (λ (z : ℕ). records_before z g i + 1) (ap (λ (z : Line). hart_of z.what) same ∙ at'.hart) ∙ at'.number) in
      let end : get_or (trace ++ outline ∷ []) x outline ≡ outline = ap (λ (z : ℕ). get_or (trace ++ outline ∷ []) z outline) (now ∙ sym traced.count) ∙ get_or-append_seam trace outline [] outline in
      let here : outline ≡ q = sym end ∙ get_or_from_slice_get (trace ++ outline ∷ []) x q outline got_it in
      subst (λ (z : ℕ × Line × Outline). IsOutline g z.0 z.1.what z.2) (λ d. (num d, same d, here d)) o)
      (λ ne.
      let within : x < length (trace ++ outline ∷ []) = slice_get_within (trace ++ outline ∷ []) x q got_it in
      let long : length (trace ++ outline ∷ []) ≡ length trace + 1 = length-append trace (outline ∷ []) in
      let count : length trace ≡ i = traced.count in
      let apart : x ≡ i → ⊥ = ne in
      let low : x < length trace = omega arith in
      let old : get_or trace x q ≡ q = sym (get_or-append trace (outline ∷ []) q x low) ∙ get_or_from_slice_get (trace ++ outline ∷ []) x q q got_it in
      traced.each x h k l q at (slice_get-get_or trace x q low ∙ ap (λ (z : Outline). Some z) old));
}
