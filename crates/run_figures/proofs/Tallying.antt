-- Lines that are counted one after the other.
use Rattle.std.proofs.Common.{◌≡◌, ℕ, ◌+◌, ◌<◌, ◌≤◌, List, [], ◌∷◌, ◌++◌, append_assoc, append-nil, true, false, Option, None, length, take, get_or, sym, ap, ◌∙◌, subst, arith}
use Rattle.std.specs.Prelude.{All, count_by, is_some}
use Rattle.std.specs.List.{AllByRecursion, cons_option}
use Rattle.std.proofs.lemmas.List.Elements.{All-from_recursion, filter_map-append, recursion_from_All}
use Rattle.std.proofs.lemmas.List.Sums.{count_by-le-length, count_by_more_no, count_by_more_yes, sum_by-append}
use Rattle.std.proofs.lemmas.List.{length-append, length-take, take_more}
use Rattle.pl_event.specs.declared.event.Event.{Event}
use Rattle.pl_event.specs.declared.log.Line.{Line}
use Rattle.pl_event.specs.declared.log.Log.{Log}
use Rattle.pl_event.specs.declared.log.PageRun.{PageRun}
use Rattle.pl_event.specs.declared.log.Point.{Point}
use Rattle.pl_event.specs.declared.log.Record.{Record}
use Rattle.pl_event.specs.declared.log.Record.TheVariants as entry
use Rattle.pl_event.specs.Numbers.{event_of, events_of}
use Rattle.pl_event.specs.Runs.{IsRunLog, IsSoundRecord}
use Rattle.lifeguard.specs.Shadow.{Represents}
use Rattle.pl_event.specs.Valid.{HasValidEvent}
use Rattle.run_record.specs.declared.recording.Recording.{Recording}
use Rattle.run_record.specs.Recording.{IsRecording}
use Rattle.run_record.proofs.Writing.{all_eight}
use Rattle.pl_event.proofs.EventLemmas.{few_events}
use Rattle.core_sim.specs.declared.job.Job.{Job}
use Rattle.core_sim.specs.Entries.{Entry}
use Rattle.core_sim.specs.RunEvents.{events_of_run}
use Rattle.core_sim.specs.Start.{start_runs}
use Rattle.addrcheck.specs.AddrRules.{addr_rules}
use Rattle.taintcheck.specs.TaintRules.{taint_rules}
use Rattle.memcheck.specs.MemRules.{mem_rules}
use Rattle.run_figures.specs.declared.tally.Tally.{Tally}
use Rattle.run_figures.specs.Counting.{told_figures}
use Rattle.run_figures.specs.Summary.{arcs_in, figures_of, reports_of}
use Rattle.run_figures.specs.Tallies.{HasPlayed, HasTallied, MayPlay, MayTally}

-- ---- arcs

pub set_arc : (arcs : List (Option ℕ)) (h : ℕ) → h < length arcs → is_some (get_or arcs h None) ≡ true → count_by is_some (take (h + 1) arcs) ≡ count_by is_some (take h arcs) + 1
set_arc arcs h low is = count_by_more_yes is_some arcs h None low is

pub no_arc : (arcs : List (Option ℕ)) (h : ℕ) → h < length arcs → is_some (get_or arcs h None) ≡ false → count_by is_some (take (h + 1) arcs) ≡ count_by is_some (take h arcs)
no_arc arcs h low is = count_by_more_no is_some arcs h None low is

pub few_arcs : (arcs : List (Option ℕ)) (h : ℕ) → count_by is_some (take h arcs) ≤ h
few_arcs arcs h = omega (arith, count_by-le-length is_some (take h arcs), length-take h arcs)

-- ---- lines

events-append : (lines more : List Line) → events_of (lines ++ more) ≡ events_of lines ++ events_of more
events-append lines more = filter_map-append (λ line. event_of line.what) lines more

more_arcs : (lines : List Line) (line : Line) → arcs_in (lines ++ line ∷ []) ≡ arcs_in lines + count_by is_some line.arcs
more_arcs lines line = omega (arith, sum_by-append (λ (l : Line). count_by is_some l.arcs) lines (line ∷ []))

-- the same monitors beside other figures
same_played : (harts : ℕ) (pages : List PageRun) (events : List Event) (old now : Tally) → now.addr ≡ old.addr → now.taint ≡ old.taint → now.mem ≡ old.mem → HasPlayed harts pages events old → HasPlayed harts pages events now
same_played harts pages events old now addr taint mem has = record {
  addr = subst (λ m. Represents addr_rules pages events m.shadow) (sym addr) has.addr;
  taint = subst (λ m. Represents taint_rules pages events m.shadow) (sym taint) has.taint;
  mem = subst (λ m. Represents mem_rules pages events m.shadow) (sym mem) has.mem;
  addr_harts = ap (λ m. m.harts) addr ∙ has.addr_harts;
  taint_harts = ap (λ m. m.harts) taint ∙ has.taint_harts;
  mem_harts = ap (λ m. m.harts) mem ∙ has.mem_harts;
}

module _ (harts : ℕ) (pages : List PageRun) (lines : List Line) (line : Line) (old : Tally) (may : MayTally harts pages lines (line ∷ []) old) where
  -- the event of the line may be played
  pub may_play : (event : Event) (now : Tally) → line.what ≡ entry.Event event → now.addr ≡ old.addr → now.taint ≡ old.taint → now.mem ≡ old.mem → MayPlay harts pages (events_of lines) event now
  may_play event now is addr taint mem = record {
    has = same_played harts pages (events_of lines) old now addr taint mem may.has.played;
    few = omega (arith, may.few, few_events lines);
    valid = subst (HasValidEvent harts) is (may.valid 0 line (omega arith));
  }

  -- the line was counted
  tallied : (new : Tally) → new.records ≡ old.records + 1 → new.arcs ≡ old.arcs + count_by is_some line.arcs → count_by is_some line.arcs ≤ 8 → HasPlayed harts pages (events_of (lines ++ line ∷ [])) new
      → HasTallied harts pages (lines ++ line ∷ []) new
  tallied new records arcs few played = record {
    records = omega (arith, records, may.has.records, length-append lines (line ∷ []));
    arcs = omega (arith, arcs, may.has.arcs, more_arcs lines line);
    most = omega (arith, arcs, may.has.most, few, length-append lines (line ∷ []));
    played = played;
  }

  pub tallied_event : (event : Event) (new : Tally) → line.what ≡ entry.Event event → new.records ≡ old.records + 1 → new.arcs ≡ old.arcs + count_by is_some line.arcs → count_by is_some line.arcs ≤ 8
      → HasPlayed harts pages (events_of lines ++ event ∷ []) new → HasTallied harts pages (lines ++ line ∷ []) new
  tallied_event event new is records arcs few played =
      let all : events_of (lines ++ line ∷ []) ≡ events_of lines ++ event ∷ [] = events-append lines (line ∷ []) ∙ ap (λ (w : Record). events_of lines ++ cons_option (event_of w) []) is in
      tallied new records arcs few (subst (λ (es : List Event). HasPlayed harts pages es new) (sym all) played)

  pub tallied_notice : (hart : ℕ) (point : Point) (new : Tally) → line.what ≡ entry.Notice hart point → new.records ≡ old.records + 1 → new.arcs ≡ old.arcs + count_by is_some line.arcs → count_by is_some line.arcs ≤ 8
      → new.addr ≡ old.addr → new.taint ≡ old.taint → new.mem ≡ old.mem → HasTallied harts pages (lines ++ line ∷ []) new
  tallied_notice hart point new is records arcs few addr taint mem =
      let all : events_of (lines ++ line ∷ []) ≡ events_of lines = events-append lines (line ∷ []) ∙ (ap (λ (w : Record). events_of lines ++ cons_option (event_of w) []) is ∙ append-nil (events_of lines)) in
      tallied new records arcs few (subst (λ (es : List Event). HasPlayed harts pages es new) (sym all) (same_played harts pages (events_of lines) old new addr taint mem may.has.played))

-- of some lines each one may be the next
pub may_tally : (harts : ℕ) (pages : List PageRun) (lines more : List Line) (first now : Tally) (i : ℕ) (line : Line) → i < length more → line ≡ get_or more i line → MayTally harts pages lines more first → HasTallied harts pages (lines ++ take i more) now
    → MayTally harts pages (lines ++ take i more) (line ∷ []) now
may_tally harts pages lines more first now i line low is may has = record {
  has = has;
  few = omega (arith, length-append lines (take i more), length-take i more, may.few, low);
  eight = All-from_recursion (λ (l : Line). length l.arcs ≡ 8) (line ∷ []) (subst (λ (l : Line). length l.arcs ≡ 8) (sym is) (may.eight i line low), tt);
  valid = All-from_recursion (λ (l : Line). HasValidEvent harts l.what) (line ∷ []) (subst (λ (l : Line). HasValidEvent harts l.what) (sym is) (may.valid i line low), tt);
}

pub tallied_more : (harts : ℕ) (pages : List PageRun) (lines more : List Line) (new : Tally) (i : ℕ) (line : Line) → i < length more → line ≡ get_or more i line → HasTallied harts pages ((lines ++ take i more) ++ line ∷ []) new
    → HasTallied harts pages (lines ++ take (i + 1) more) new
tallied_more harts pages lines more new i line low is has =
    subst (λ (all : List Line). HasTallied harts pages all new)
    (append_assoc lines (take i more) (line ∷ []) ∙ ap (λ (ls : List Line). lines ++ ls) (sym (take_more more i line low ∙ ap (λ (l : Line). take i more ++ l ∷ []) (sym is)))) has

-- ---- the lines of a recording

sound_record : (harts : ℕ) (line : Line) (what : Record) → IsSoundRecord harts line.arcs what → HasValidEvent harts what
sound_record harts line (entry.Event event) sound = sound
sound_record harts line (entry.Notice hart point) sound = tt

behind : (P : Line → Type 0) (front lines : List Line) → AllByRecursion P (front ++ lines) → AllByRecursion P lines
behind P [] lines all = all
behind P (x ∷ front) lines all = behind P front lines all.1

-- the lines of a step may be counted
pub may_tally_step : (job : Job) (front more : List Line) (recording : Recording) (log : Log) (tally : Tally) → IsRecording job (front ++ more) recording → log.lines ≡ front ++ more → log.harts ≡ job.harts → IsRunLog log → length (front ++ more) ≤ 2000000
    → HasTallied job.harts (start_runs job) front tally → MayTally job.harts (start_runs job) front more tally
may_tally_step job front more recording log tally r same harts run few has =
    let P : Line → Type 0 = λ line. HasValidEvent job.harts line.what in
    record {
      has = has;
      few = omega (arith, few, length-append front more);
      eight = all_eight job front more recording r;
      valid = All-from_recursion P more (behind P front more (recursion_from_All P (front ++ more)
          (subst (λ (ls : List Line). All P ls) same (λ i d low. subst (λ (h : ℕ). HasValidEvent h (get_or log.lines i d).what) harts (sound_record log.harts (get_or log.lines i d) (get_or log.lines i d).what (run.sound i d low).1)))));
    }

-- ---- what is told

pub told_as : (job : Job) (entries : List Entry) (lines : List Line) (tally : Tally) (steps : ℕ) → steps ≡ length entries → HasTallied job.harts (start_runs job) lines tally → events_of lines ≡ events_of_run entries
    → told_figures steps tally ≡ figures_of job entries lines
told_as job entries lines tally steps long t events d = record {
  steps = long d;
  records = t.records d;
  arcs = t.arcs d;
  addr = (ap (λ s. length s.reports) t.played.addr.state ∙ ap (λ (es : List Event). reports_of addr_rules (start_runs job) es) events) d;
  taint = (ap (λ s. length s.reports) t.played.taint.state ∙ ap (λ (es : List Event). reports_of taint_rules (start_runs job) es) events) d;
  mem = (ap (λ s. length s.reports) t.played.mem.state ∙ ap (λ (es : List Event). reports_of mem_rules (start_runs job) es) events) d;
}
