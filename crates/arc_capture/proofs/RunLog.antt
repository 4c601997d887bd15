-- The recorded log of the events of a run is a log of it.
use Rattle.std.proofs.Common.{◌≡◌, ℕ, zero, suc, ◌+◌, ◌<◌, Bool, List, [], ◌∷◌, ◌++◌, append_assoc, length, replicate, fold, take, get_or, Option, Some, None, refl, sym, ap, ◌∙◌, subst, arith}
use Rattle.std.specs.Prelude.{All}
use Rattle.std.specs.List.{AllByRecursion, cons_option}
use Rattle.std.proofs.lemmas.List.Elements.{All-from_recursion}
use mathlib.Core.Option.{some}
use lib.ListN.{get_elem?}
use Rattle.pl_event.specs.declared.event.Event.{Event}
use Rattle.pl_event.specs.declared.log.Line.{Line}
use Rattle.pl_event.specs.declared.log.Log.{Log}
use Rattle.pl_event.specs.declared.log.PageRun.{PageRun}
use Rattle.pl_event.specs.declared.log.Point.{Point}
use Rattle.pl_event.specs.declared.log.Record.{Record}
use Rattle.pl_event.specs.declared.log.Record.TheVariants as entry
use Rattle.pl_event.specs.Candidates.{Shares}
use Rattle.pl_event.specs.Edges.{IsArc, IsFlow, arc_of, no_arcs}
use Rattle.pl_event.specs.Mapping.{mapped_after, KeepsPages}
use Rattle.pl_event.specs.Needs.{IsMost}
use Rattle.pl_event.specs.Numbers.{hart_of, event_of, events_of}
use Rattle.pl_event.specs.OpeningPages.{is_in_runs}
use Rattle.pl_event.specs.Records.{records_before, IsRecord}
use Rattle.pl_event.specs.Runs.{EventAt, IsOpening, IsRunLog, IsSoundLine, IsSoundRecord}
use Rattle.pl_event.proofs.MappedPages.{line_holds}
use Rattle.pl_event.proofs.Places.{one_place}
use Rattle.arc_reduce.specs.Reduction.{records_in}
use Rattle.arc_reduce.proofs.Matching.{head_of, rest_of, no_cons, at_same, record_same, notice_same, event_same, fewer_arcs}
use Rattle.conflict_alerts.specs.Following.{AllFollow}
use Rattle.conflict_alerts.specs.Placing.{placed, AreNoticed}
use Rattle.conflict_alerts.proofs.Placed.{all_noticed, same_events}
use Rattle.conflict_alerts.proofs.RunLogs.{placed_run}
use Rattle.arc_capture.specs.Recorded.{IsKept}
use Rattle.arc_capture.proofs.Flow.{target_at}
use Rattle.arc_capture.proofs.Kept.{same, flow}

each : (P : Line → Type 0) (g : List Line) → ((i : ℕ) (line : Line) → get_elem? g i ≡ some line → P line) → AllByRecursion P g
each P [] holds = tt
each P (a ∷ g) holds = (holds 0 a refl, each P g (λ i line at. holds (suc i) line at))

no_numbers : (n : ℕ) (xs : List (Option ℕ)) → length xs ≡ n → ((u : ℕ) → get_or xs u None ≡ None) → xs ≡ replicate n None
no_numbers zero [] e none = refl
no_numbers zero (x ∷ xs) e none = absurd (omega arith)
no_numbers (suc n) [] e none = absurd (omega arith)
no_numbers (suc n) (x ∷ xs) e none = λ d. none 0 d ∷ no_numbers n xs (omega arith) (λ u. none (suc u)) d

mapped_same : (g f : List Line) → records_in g ≡ records_in f → (start : ℕ → Bool) (i : ℕ) → fold mapped_after start (take i g) ≡ fold mapped_after start (take i f)
mapped_same [] [] e start i = refl
mapped_same [] (b ∷ f) e start i = absurd (no_cons _ _ e)
mapped_same (a ∷ g) [] e start i = absurd (no_cons _ _ (sym e))
mapped_same (a ∷ g) (b ∷ f) e start zero = refl
mapped_same (a ∷ g) (b ∷ f) e start (suc i) =
    ap (λ (z : ℕ → Bool). fold mapped_after z (take i g)) (λ d. mapped_after start (record { what = head_of e d; arcs = a.arcs })) ∙ mapped_same g f (rest_of e) (mapped_after start b) i

-- the log with the placed lines
abbrev pub bare_log : Log → List Line → Log
bare_log log lines = record { harts = log.harts; block = log.block; pages = log.pages; lines = lines }

module _ (log : Log) (size : ℕ) (base : List Line) (noticed : AreNoticed log.harts base) (run : IsRunLog (bare_log log base)) (kept : IsKept size base log.lines) where
  abbrev g : List Line
  g = log.lines

  alike : records_in g ≡ records_in base
  alike = same size log.harts base g noticed kept

  event_at : (i : ℕ) (a : Event) → EventAt g i a → EventAt base i a
  event_at i a x = let t = at_same g base alike i x.0 x.1 in (t.0, t.1, sym t.2 ∙ x.2)

  -- a notice has no candidate
  bare : (i : ℕ) (l : Line) (hart : ℕ) (point : Point) → get_elem? g i ≡ some l → l.what ≡ entry.Notice hart point → l.arcs ≡ no_arcs
  bare i l hart point at what = no_numbers 8 l.arcs (line_holds (λ (z : Line). length z.arcs ≡ 8) g kept.eight i l at) (λ u. by u (arc_of l u) refl)
    where
      by : (u : ℕ) (o : Option ℕ) → arc_of l u ≡ o → o ≡ None
      by u None e = refl
      by u (Some n) e =
          let h : ℕ = hart_of l.what in
          let m : ℕ = records_before h g i + 1 in
          let here : IsRecord g i h m l = record { at = at; hart = refl; number = refl } in
          let a : IsArc kept.full u n h m = kept.reduced.only u n h m (i, l, here, e) in
          let s : Shares size kept.full u n h m = (subst (IsMost (λ k. Shares size kept.full u k h m)) a.3 (kept.whole.drawn a.0 h m a.1 a.2 u)).0 in
          let t = record_same g kept.full kept.reduced.records i h m l here in
          let p = one_place kept.full h m s.j i s.pair.second.0 t.0 (target_at size kept.full u n h m s) t.1 in
          let clash : entry.Notice hart point ≡ entry.Event s.b = sym what ∙ (t.2 ∙ (ap (λ (z : Line). z.what) (sym p.1) ∙ s.pair.second.2)) in
          absurd cc

  sound_line : (i : ℕ) (l : Line) → get_elem? g i ≡ some l → IsSoundLine log.harts l
  sound_line i l at =
      let t = at_same g base alike i l at in
      let k : IsSoundLine log.harts t.0 = line_holds (IsSoundLine log.harts) base run.sound i t.0 t.1 in
      (line_holds (λ (z : Line). length z.arcs ≡ 8) g kept.eight i l at, by t.0.arcs l.what refl (subst (IsSoundRecord log.harts t.0.arcs) (sym t.2) k.1))
    where
      by : (ks : List (Option ℕ)) (r : Record) → l.what ≡ r → IsSoundRecord log.harts ks l.what → IsSoundRecord log.harts l.arcs l.what
      by ks (entry.Event e) is s = subst (IsSoundRecord log.harts l.arcs) (sym is) (subst (IsSoundRecord log.harts ks) is s)
      by ks (entry.Notice hart point) is s = subst (IsSoundRecord log.harts l.arcs) (sym is) (bare i l hart point at is)

  kept_flow : IsFlow log.harts g
  kept_flow = fewer_arcs log.harts g kept.full kept.reduced.records kept.reduced.only (flow size log.harts base g noticed kept)

  pub kept_run : IsRunLog log
  kept_run = record {
    opening = record { some = run.opening.some; few = run.opening.few; block = run.opening.block; rising = run.opening.rising; room = run.opening.room };
    sound = All-from_recursion (IsSoundLine log.harts) g (each (IsSoundLine log.harts) g sound_line);
    flow = kept_flow;
    alerts = λ h k u n a. (let t = run.alerts h k u n (notice_same g base alike h k u n a) in (t.0, t.1, event_same base g (sym alike) t.0 n t.1 t.2, t.3, t.4));
    live = λ i j a b low x y own. run.live i j a b low (event_at i a x) (event_at j b y) own;
    maps = λ i event x. subst (λ (z : ℕ → Bool). KeepsPages z event.kind) (sym (mapped_same g base alike (is_in_runs log.pages) i)) (run.maps i event (event_at i event x));
  }

-- the events of a run are of harts of it
inside_from : (harts : ℕ) (pages : List PageRun) (before events all : List Event) → AllFollow harts pages all → all ≡ before ++ events → AllByRecursion (λ (event : Event). event.hart < harts) events
inside_from harts pages before [] all follow is = tt
inside_from harts pages before (e ∷ es) all follow is = (
  (follow before e es is).valid.0,
  inside_from harts pages (before ++ e ∷ []) es all follow (is ∙ sym (append_assoc before (e ∷ []) es)),
)

pub inside : (harts : ℕ) (pages : List PageRun) (events : List Event) → AllFollow harts pages events → All (λ (event : Event). event.hart < harts) events
inside harts pages events follow = All-from_recursion (λ (event : Event). event.hart < harts) events (inside_from harts pages [] events events follow refl)

pub run_of : (harts size : ℕ) (pages : List PageRun) (events : List Event) (log : Log) → IsOpening log → log.harts ≡ harts → log.pages ≡ pages
    → AllFollow harts pages events → IsKept size (placed harts events) log.lines → IsRunLog log
run_of harts size pages events log opening is_harts is_pages follow kept =
    let base : List Line = placed log.harts events in
    let all : AllFollow log.harts log.pages events = subst (λ (z : ℕ × List PageRun). AllFollow z.0 z.1 events) (λ d. (sym is_harts d, sym is_pages d)) follow in
    let kept_here : IsKept size base log.lines = subst (λ (k : ℕ). IsKept size (placed k events) log.lines) (sym is_harts) kept in
    let opened : IsOpening (bare_log log base) = record { some = opening.some; few = opening.few; block = opening.block; rising = opening.rising; room = opening.room } in
    kept_run log size base (all_noticed log.harts events (inside log.harts log.pages events all)) (placed_run (bare_log log base) events opened all refl) kept_here

-- the events of lines with the same records
events_alike : (g f : List Line) → records_in g ≡ records_in f → events_of g ≡ events_of f
events_alike [] [] e = refl
events_alike [] (b ∷ f) e = absurd (no_cons _ _ e)
events_alike (a ∷ g) [] e = absurd (no_cons _ _ (sym e))
events_alike (a ∷ g) (b ∷ f) e = λ d. cons_option (event_of (head_of e d)) (events_alike g f (rest_of e) d)

pub events_kept : (harts size : ℕ) (events : List Event) (lines : List Line) → IsKept size (placed harts events) lines → events_of lines ≡ events
events_kept harts size events lines kept = events_alike lines (placed harts events) (kept.reduced.records ∙ kept.whole.records) ∙ same_events harts events
