-- The reduced log of a run's log is the log of that run.
use Rattle.std.proofs.Common.{◌≡◌, ℕ, zero, suc, ◌+◌, ◌≤◌, Bool, List, [], ◌∷◌, length, replicate, fold, take, get_or, Option, Some, None, refl, sym, ap, ◌∙◌, subst, arith}
use Rattle.std.specs.List.{AllByRecursion}
use Rattle.std.proofs.lemmas.List.Elements.{All-from_recursion}
use mathlib.Core.Option.{some, some-injective}
use lib.ListN.{get_elem?}
use Rattle.pl_event.specs.declared.event.Event.{Event}
use Rattle.pl_event.specs.declared.log.Line.{Line}
use Rattle.pl_event.specs.declared.log.Log.{Log}
use Rattle.pl_event.specs.declared.log.Record.{Record}
use Rattle.pl_event.specs.declared.log.Record.TheVariants as entry
use Rattle.pl_event.specs.declared.log.PageRun.{PageRun}
use Rattle.pl_event.specs.Edges.{IsArc, IsFlow, arc_of, no_arcs}
use Rattle.pl_event.specs.Mapping.{mapped_after, KeepsPages}
use Rattle.pl_event.specs.Numbers.{hart_of}
use Rattle.pl_event.specs.OpeningPages.{is_in_runs, RiseFrom, pages_in}
use Rattle.pl_event.specs.Records.{records_before}
use Rattle.pl_event.specs.Runs.{EventAt, IsAlert, IsBlockSize, IsRunLog, IsSoundLine, IsSoundRecord}
use Rattle.pl_event.proofs.Before.{eight}
use Rattle.pl_event.proofs.MappedPages.{line_holds}
use Rattle.pl_event.proofs.Places.{one_place}
use Rattle.arc_reduce.specs.Drawn.{HaveEight}
use Rattle.arc_reduce.specs.Reduction.{records_in, IsReduced}
use Rattle.arc_reduce.proofs.Matching.{head_of, rest_of, no_cons, at_same, record_same, notice_same, event_same, fewer_arcs}
use Rattle.arc_reduce.proofs.Spare.{no_some}

each : (P : Line → Type 0) (g : List Line) → ((i : ℕ) (line : Line) → get_elem? g i ≡ some line → P line) → AllByRecursion P g
each P [] holds = tt
each P (a ∷ g) holds = (holds 0 a refl, each P g (λ i line at. holds (suc i) line at))

no_numbers : (n : ℕ) (xs : List (Option ℕ)) → length xs ≡ n → ((u : ℕ) → get_or xs u None ≡ None) → xs ≡ replicate n None
no_numbers zero [] e none = refl
no_numbers zero (x ∷ xs) e none = absurd (omega arith)
no_numbers (suc n) [] e none = absurd (omega arith)
no_numbers (suc n) (x ∷ xs) e none = λ d. none 0 d ∷ no_numbers n xs (omega arith) (λ u. none (suc u)) d

mapped_same : (g f : List Line) → records_in g ≡ records_in f → (start : ℕ → Bool) (i : ℕ) → fold mapped_after start (take i g) ≡ fold mapped_after start (take i f)
mapped_same [] [] e start i = refl
mapped_same [] (b ∷ f) e start i = absurd (no_cons _ _ e)
mapped_same (a ∷ g) [] e start i = absurd (no_cons _ _ (sym e))
mapped_same (a ∷ g) (b ∷ f) e start zero = refl
mapped_same (a ∷ g) (b ∷ f) e start (suc i) =
    ap (λ (z : ℕ → Bool). fold mapped_after z (take i g)) (λ d. mapped_after start (record { what = head_of e d; arcs = a.arcs })) ∙ mapped_same g f (rest_of e) (mapped_after start b) i

module _ (log reduced : Log) (run : IsRunLog log) (harts : reduced.harts ≡ log.harts) (block : reduced.block ≡ log.block) (pages : reduced.pages ≡ log.pages) (long : HaveEight reduced.lines) (is : IsReduced reduced.lines log.lines) where
  abbrev g : List Line
  g = reduced.lines

  abbrev f : List Line
  f = log.lines

  event_at : (i : ℕ) (a : Event) → EventAt g i a → EventAt f i a
  event_at i a x = let t = at_same g f is.records i x.0 x.1 in (t.0, t.1, sym t.2 ∙ x.2)

  -- a notice has no arcs
  bare : (i : ℕ) (l k : Line) → get_elem? g i ≡ some l → get_elem? f i ≡ some k → l.what ≡ k.what → length l.arcs ≡ 8 → k.arcs ≡ no_arcs → l.arcs ≡ no_arcs
  bare i l k at there what eight_long none = no_numbers 8 l.arcs eight_long (λ u. by u (arc_of l u) refl)
    where
      by : (u : ℕ) (o : Option ℕ) → arc_of l u ≡ o → o ≡ None
      by u None e = refl
      by u (Some n) e =
          let h : ℕ = hart_of l.what in
          let m : ℕ = records_before h g i + 1 in
          let a : IsArc f u n h m = is.only u n h m (i, l, record { at = at; hart = refl; number = refl }, e) in
          let t = record_same g f is.records i h m l (record { at = at; hart = refl; number = refl }) in
          let p = one_place f h m a.0 i a.1 t.0 a.2 t.1 in
          let same : a.1 ≡ k = p.1 ∙ some-injective _ _ (sym t.1.at ∙ there) in
          absurd (no_some n (ap (λ (z : List (Option ℕ)). get_or z u None) none ∙ eight {A = Option ℕ} None u) (sym (ap (λ (z : Line). arc_of z u) same) ∙ a.3))

  sound_line : (i : ℕ) (l : Line) → get_elem? g i ≡ some l → IsSoundLine reduced.harts l
  sound_line i l at =
      let t = at_same g f is.records i l at in
      let k : IsSoundLine log.harts t.0 = line_holds (IsSoundLine log.harts) f run.sound i t.0 t.1 in
      let eight_long : length l.arcs ≡ 8 = line_holds (λ (z : Line). length z.arcs ≡ 8) g long i l at in
      (eight_long, subst (λ (z : ℕ). IsSoundRecord z l.arcs l.what) (sym harts) (by t.0.arcs t.0.what k.1 (sym t.2) (λ e. bare i l t.0 at t.1 t.2 eight_long e)))
    where
      by : (ks : List (Option ℕ)) (r : Record) → IsSoundRecord log.harts ks r → r ≡ l.what → (ks ≡ no_arcs → l.arcs ≡ no_arcs) → IsSoundRecord log.harts l.arcs l.what
      by ks (entry.Event e) s same none = subst (IsSoundRecord log.harts l.arcs) same s
      by ks (entry.Notice hart point) s same none = subst (IsSoundRecord log.harts l.arcs) same (none s)

  alert : (u n : ℕ) → IsAlert f u n → IsAlert g u n
  alert u n a = (a.0, a.1, event_same f g (sym is.records) a.0 n a.1 a.2, a.3, a.4)

  pub lawful : IsRunLog reduced
  lawful = record {
    opening = record {
      some = (let s : 1 ≤ log.harts = run.opening.some in omega (arith, harts));
      few = (let s : log.harts ≤ 8 = run.opening.few in omega (arith, harts));
      block = subst IsBlockSize (sym block) run.opening.block;
      rising = subst (RiseFrom 0) (sym pages) run.opening.rising;
      room = subst (λ (z : List PageRun). pages_in z ≤ 512) (sym pages) run.opening.room;
    };
    sound = All-from_recursion (IsSoundLine reduced.harts) g (each (IsSoundLine reduced.harts) g sound_line);
    flow = subst (λ (z : ℕ). IsFlow z g) (sym harts) (fewer_arcs log.harts g f is.records is.only run.flow);
    alerts = λ h k u n a. alert u n (run.alerts h k u n (notice_same g f is.records h k u n a));
    live = λ i j a b low x y own. run.live i j a b low (event_at i a x) (event_at j b y) own;
    maps = λ i event x. subst (λ (z : ℕ → Bool). KeepsPages z event.kind) (sym (ap (λ (z : List PageRun). fold mapped_after (is_in_runs z) (take i g)) pages ∙ mapped_same g f is.records (is_in_runs log.pages) i)) (run.maps i event (event_at i event x));
  }
