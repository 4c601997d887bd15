-- A log that grows: what was checked of its first lines, and the pair that was named there.
use Rattle.std.proofs.Common.{◌≡◌, ℕ, ◌+◌, ◌<◌, ◌≤◌, Bool, true, false, ◌++◌, List, length, refl, sym, ◌∙◌, subst, inl, inr, arith, lt_of_not-le}
use Rattle.std.specs.Bool.{MatchBool}
use Rattle.std.proofs.lemmas.Option.{slice_get_within}
use mathlib.Core.Logic.{dite}
use native.Mathlib.Decide.{dec_le}
use Rattle.pl_event.specs.declared.event.Event.{Event}
use Rattle.pl_event.specs.declared.log.Line.{Line}
use Rattle.pl_event.specs.declared.log.Log.{Log}
use Rattle.pl_event.specs.declared.log.Point.{Point}
use Rattle.pl_event.specs.declared.log.Record.{Record}
use Rattle.pl_event.specs.declared.log.Record.TheVariants as entry
use Rattle.pl_event.specs.Alerts.{is_alert_kind}
use Rattle.pl_event.specs.Conflicts.{AreOrdered, HasNotice, IsNoticed, IsPair}
use Rattle.pl_event.specs.Edges.{IsFlow, IsNotice}
use Rattle.pl_event.specs.Heads.{Tells}
use Rattle.pl_event.specs.Records.{records_before, IsEvent, IsRecord}
use Rattle.pl_event.specs.Unordered.{IsUnordered, IsOrderedPair}
use Rattle.pl_event.proofs.Growth.{record_back, path_on, path_back}
use Rattle.pl_event.proofs.Places.{inside, before_up, before_own}
use Rattle.log_clocks.specs.Clocks.{HasClocks}
use Rattle.log_clocks.specs.LastAccesses.{HasLast}
use Rattle.log_clocks.proofs.Grown.{before_same, event_on, event_back, notice_on, tells_on, clocks_on, lasts_on}
use Rattle.log_check.specs.declared.alerts.AlertWatch.{AlertWatch}
use Rattle.log_check.specs.declared.order_check.OrderCheck.{OrderCheck}
use Rattle.log_check.specs.Answers.{NamesFirst}
use Rattle.log_check.specs.Checked.{GrowsTo, IsChecked}
use Rattle.log_check.specs.declared.trace.Outline.{Outline}
use Rattle.log_check.specs.declared.trace.Part.{Part}
use Rattle.log_check.specs.declared.trace.Part.TheVariants as parts
use Rattle.log_check.specs.inner.Traced.{IsOutline, IsPart, IsTraced}
use Rattle.log_check.specs.inner.Watched.{IsWatched}
use Rattle.log_check.proofs.Positions.{event_of_line}

module _ (harts : ℕ) (g e : List Line) (flow : IsFlow harts (g ++ e)) where
  -- an event's number is one of the first lines
  numbered : (i n : ℕ) (a : Event) → IsEvent g i n a → n ≤ records_before a.hart g (length g)
  numbered i n a x =
      let low : i < length g = inside g i x.0 x.1.at in
      let own : records_before a.hart g (i + 1) ≡ records_before a.hart g i + 1 = before_own g i a.hart x.0 x.1.at x.1.hart in
      let num : records_before a.hart g i + 1 ≡ n = x.1.number in
      let up : records_before a.hart g (i + 1) ≤ records_before a.hart g (length g) = before_up g (i + 1) (length g) a.hart (omega arith) in
      omega arith

  -- the notice of an event is before it
  told_back : (h i n : ℕ) (a : Event) → IsEvent g i n a → HasNotice (g ++ e) h a.hart n → HasNotice g h a.hart n
  told_back h i n a x t =
      let notice : IsNotice (g ++ e) h t.0 a.hart n = t.1 in
      let few : records_before a.hart (g ++ e) notice.0 < n = (flow.notices notice.0 h t.0 notice.1 notice.2 a.hart n notice.3).2 in
      let low : notice.0 < length g = dite (dec_le (length g) notice.0)
      (λ le. let same : records_before a.hart (g ++ e) (length g) ≡ records_before a.hart g (length g) = before_same g e a.hart (length g) (omega arith) in
      let up : records_before a.hart (g ++ e) (length g) ≤ records_before a.hart (g ++ e) notice.0 = before_up (g ++ e) (length g) notice.0 a.hart le in
      let num : n ≤ records_before a.hart g (length g) = numbered i n a x in
      absurd (omega arith))
      (λ no. lt_of_not-le no) in
      (t.0, (notice.0, notice.1, record_back g e notice.0 h t.0 notice.1 low notice.2, notice.3))

  told_on : (h u n : ℕ) → HasNotice g h u n → HasNotice (g ++ e) h u n
  told_on h u n t = (t.0, notice_on g e h t.0 u n t.1)

  noticed_on : (a : Event) (n : ℕ) (b : Event) (m : ℕ) → IsNoticed g a n b m → IsNoticed (g ++ e) a n b m
  noticed_on a n b m = by (is_alert_kind a.kind)
    where
      by : (s : Bool) → MatchBool s (HasNotice g b.hart a.hart n) (HasNotice g a.hart b.hart m) → MatchBool s (HasNotice (g ++ e) b.hart a.hart n) (HasNotice (g ++ e) a.hart b.hart m)
      by true t = told_on b.hart a.hart n t
      by false t = told_on a.hart b.hart m t

  noticed_back : (i j : ℕ) (a : Event) (n : ℕ) (b : Event) (m : ℕ) → IsEvent g i n a → IsEvent g j m b → IsNoticed (g ++ e) a n b m → IsNoticed g a n b m
  noticed_back i j a n b m x y = by (is_alert_kind a.kind)
    where
      by : (s : Bool) → MatchBool s (HasNotice (g ++ e) b.hart a.hart n) (HasNotice (g ++ e) a.hart b.hart m) → MatchBool s (HasNotice g b.hart a.hart n) (HasNotice g a.hart b.hart m)
      by true t = told_back b.hart i n a x t
      by false t = told_back a.hart j m b y t

  pair_on : (i j : ℕ) (a : Event) (n : ℕ) (b : Event) (m : ℕ) → IsPair g i j a n b m → IsPair (g ++ e) i j a n b m
  pair_on i j a n b m p = record { before = p.before; first = event_on g e i n a p.first; second = event_on g e j m b p.second; apart = p.apart }

  pair_back : (i j : ℕ) (a : Event) (n : ℕ) (b : Event) (m : ℕ) → j < length g → IsPair (g ++ e) i j a n b m → IsPair g i j a n b m
  pair_back i j a n b m low p = record { before = p.before; first = event_back g e i n a (let l : i < j = p.before in omega arith) p.first; second = event_back g e j m b low p.second; apart = p.apart }

  ordered_pair_on : (size i j : ℕ) (a : Event) (n : ℕ) (b : Event) (m : ℕ) → IsPair g i j a n b m → IsOrderedPair size g a n b m → IsOrderedPair size (g ++ e) a n b m
  ordered_pair_on size i j a n b m p o = record {
    accesses = λ share. path_on harts g e flow a.hart n b.hart m (numbered j m b p.second) (o.accesses share);
    alerts = λ meet. noticed_on a n b m (o.alerts meet);
  }

  unordered_on : (size i j : ℕ) (a : Event) (n : ℕ) (b : Event) (m : ℕ) → IsPair g i j a n b m → IsUnordered size g a n b m → IsUnordered size (g ++ e) a n b m
  unordered_on size i j a n b m p (inl t) = inl (t.0, λ path. t.1 (path_back harts g e flow a.hart n b.hart m (numbered j m b p.second) path))
  unordered_on size i j a n b m p (inr t) = inr (t.0, λ told. t.1 (noticed_back i j a n b m p.first p.second told))

  ordered_on : (size upto : ℕ) → upto ≤ length g → AreOrdered size g upto → AreOrdered size (g ++ e) upto
  ordered_on size upto le o = record {
    accesses = λ i j a n b m low pair share. (let p : IsPair g i j a n b m = pair_back i j a n b m (omega arith) pair in path_on harts g e flow a.hart n b.hart m (numbered j m b p.second) (o.accesses i j a n b m low p share));
    alerts = λ i j a n b m low pair meet. noticed_on a n b m (o.alerts i j a n b m low (pair_back i j a n b m (omega arith) pair) meet);
  }

  part_on : (x n : ℕ) (a : Event) (part : Part) → IsEvent g x n a → IsPart g a n part → IsPart (g ++ e) a n part
  part_on x n a parts.Other is p = p
  part_on x n a (parts.Load addr) is p = p
  part_on x n a (parts.Store addr) is p = p
  part_on x n a (parts.Alert set) is p = (p.0, λ u low. ((λ one. told_on u a.hart n ((p.1 u low).0 one)), (λ t. (p.1 u low).1 (told_back u x n a is t))))

  outline_on : (x h n : ℕ) (line : Line) (outline : Outline) → IsRecord g x h n line → IsOutline g n line.what outline → IsOutline (g ++ e) n line.what outline
  outline_on x h n line outline is = by line.what refl
    where
      by : (what : Record) → line.what ≡ what → IsOutline g n what outline → IsOutline (g ++ e) n what outline
      by (entry.Event event) what o = (o.0, part_on x n event outline.part (event_of_line g x n h line event is what) o.1)
      by (entry.Notice hart point) what o = o

  traced_on : (trace : List Outline) → IsTraced trace g (length g) → IsTraced trace (g ++ e) (length g)
  traced_on trace traced = record {
    count = traced.count;
    each = λ x h n line outline is at.
        let within : x < length trace = slice_get_within trace x outline at in
        let low : x < length g = (let c : length trace ≡ length g = traced.count in omega arith) in
        let back : IsRecord g x h n line = record_back g e x h n line low is in
        outline_on x h n line outline back (traced.each x h n line outline back at);
  }

  watched_on : (w : AlertWatch) → IsWatched w g (length g) → IsWatched w (g ++ e) (length g)
  watched_on w watched = record {
    missed = λ h j n a low clear before is alert apart. told_on h a.hart n (watched.missed h j n a low clear before (event_back g e j n a before is) alert apart);
    active = λ j n a low before is access. watched.active j n a low before (event_back g e j n a before is) access;
  }

module _ (old new : Log) (grows : GrowsTo old new) where
  flow_here : IsFlow new.harts (old.lines ++ grows.more)
  flow_here = subst (IsFlow new.harts) grows.lines grows.flow

pub checked_on : (check : OrderCheck) (old new : Log) → GrowsTo old new → IsChecked check old (length old.lines) → IsChecked check new (length old.lines)
checked_on check old new grows is =
    let g = old.lines in
    let e = grows.more in
    let f = flow_here old new grows in
    record {
      size = is.size ∙ sym grows.block;
      traced = subst (λ (z : List Line). IsTraced check.trace z (length g)) (sym grows.lines) (traced_on new.harts g e f check.trace is.traced);
      tells = subst (λ (z : List Line). Tells check.heads z (length g)) (sym grows.lines) (tells_on g e check.heads is.tells);
      clocks = subst (λ (z : List Line). HasClocks check.clocks z (length g)) (sym grows.lines) (clocks_on new.harts g e f check.clocks is.clocks);
      lasts = subst (λ (z : ℕ × List Line). HasLast check.lasts z.0 z.1 (length g)) (λ d. (sym grows.block d, sym grows.lines d)) (lasts_on g e check.lasts old.block is.lasts);
      alerts = subst (λ (z : List Line). IsWatched check.alerts z (length g)) (sym grows.lines) (watched_on new.harts g e f check.alerts is.alerts);
      ordered = subst (λ (z : ℕ × List Line). AreOrdered z.0 z.1 (length g)) (λ d. (sym grows.block d, sym grows.lines d)) (ordered_on new.harts g e f old.block (length g) (omega arith) is.ordered);
    }

pub named_on : (old new : Log) (earlier later : Point) → GrowsTo old new → NamesFirst old earlier later → NamesFirst new earlier later
named_on old new earlier later grows is =
    let g = old.lines in
    let e = grows.more in
    let f = flow_here old new grows in
    let p = is.pair in
    let low : is.j < length g = inside g is.j p.pair.second.0 p.pair.second.1.at in
    record {
      i = is.i;
      j = is.j;
      a = is.a;
      b = is.b;
      pair = record {
        pair = subst (λ (z : List Line). IsPair z is.i is.j is.a earlier.number is.b later.number) (sym grows.lines) (pair_on new.harts g e f is.i is.j is.a earlier.number is.b later.number p.pair);
        unordered = subst (λ (z : ℕ × List Line). IsUnordered z.0 z.1 is.a earlier.number is.b later.number) (λ d. (sym grows.block d, sym grows.lines d)) (unordered_on new.harts g e f old.block is.i is.j is.a earlier.number is.b later.number p.pair p.unordered);
        later = subst (λ (z : ℕ × List Line). AreOrdered z.0 z.1 is.j) (λ d. (sym grows.block d, sym grows.lines d)) (ordered_on new.harts g e f old.block is.j (omega arith) p.later);
        earlier = λ k c q before pair. (let back : IsPair g k is.j c q is.b later.number = pair_back new.harts g e f k is.j c q is.b later.number low (subst (λ (z : List Line). IsPair z k is.j c q is.b later.number) grows.lines pair) in
            subst (λ (z : ℕ × List Line). IsOrderedPair z.0 z.1 c q is.b later.number) (λ d. (sym grows.block d, sym grows.lines d)) (ordered_pair_on new.harts g e f old.block k is.j c q is.b later.number back (p.earlier k c q before back)));
      };
      first = is.first;
      second = is.second;
    }
