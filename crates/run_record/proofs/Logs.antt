-- What holds of the recorded log of a run.
use Rattle.std.proofs.Common.{◌≡◌, ℕ, ◌+◌, ◌*◌, ◌<◌, ◌≤◌, List, [], ◌∷◌, length, map, take, get_or, Some, slice_get, inl, refl, sym, ap, ◌∙◌, subst, arith}
use Rattle.std.specs.Prelude.{All}
use Rattle.std.proofs.lemmas.List.{length-append, length-map}
use Rattle.std.proofs.lemmas.List.Elements.{recursion_from_All}
use Rattle.std.proofs.lemmas.Option.{slice_get-get_or}
use Rattle.pl_event.specs.declared.event.Event.{Event}
use Rattle.pl_event.specs.declared.log.Line.{Line}
use Rattle.pl_event.specs.declared.log.Log.{Log}
use Rattle.pl_event.specs.declared.log.PageRun.{PageRun}
use Rattle.pl_event.specs.declared.log.Record.{Record}
use Rattle.pl_event.specs.OpeningPages.{RiseFrom, pages_in}
use Rattle.pl_event.specs.Runs.{IsBlockSize, IsOpening}
use Rattle.log_grammar.specs.Spelling.{log_spelling}
use Rattle.log_text.specs.WellFormed.{IsWellFormed}
use Rattle.core_sim.specs.declared.job.Job.{Job}
use Rattle.core_sim.specs.RunEvents.{MayFollow}
use Rattle.core_sim.specs.Start.{data_runs, heap_run, stack_run, start_runs}
use Rattle.core_sim.specs.Valid.{IsValidJob}
use Rattle.conflict_alerts.specs.Placing.{placed}
use Rattle.arc_capture.specs.Recorded.{AreRecorded, IsRecorded}
use Rattle.arc_capture.proofs.Feeding.{length_from}
use Rattle.run_record.proofs.RunBytes.{text_bytes}

pub same_log : (a b : Log) → a.harts ≡ b.harts → a.block ≡ b.block → a.pages ≡ b.pages → a.lines ≡ b.lines → a ≡ b
same_log a b harts block pages lines d = record { harts = harts d; block = block d; pages = pages d; lines = lines d }

few_data : (bytes : List ℕ) → length (data_runs bytes) ≤ 1
few_data [] = omega arith
few_data (byte ∷ rest) = omega arith

few_pages : (job : Job) → length (start_runs job) ≤ 4
few_pages job = omega (arith, few_data job.data_bytes, length-append (data_runs job.data_bytes) (heap_run ∷ stack_run job.harts ∷ []))

abbrev records : List Line → List Record
records lines = map (λ line. line.what) lines

same_records : (harts size : ℕ) (events : List Event) (lines : List Line) → AreRecorded harts size events lines → records lines ≡ records (placed harts events)
same_records harts size events lines are = are.reduced.records ∙ are.whole.records

module _ (job : Job) (log : Log) (events : List Event) (valid : IsValidJob job) (recorded : IsRecorded job.harts 16 (start_runs job) events log)
    (each : (i : ℕ) (event : Event) → slice_get events i ≡ Some event → MayFollow job (take i events) event) where
  pub inside : All (λ event. event.hart < job.harts) events
  inside i d low = (each i (get_or events i d) (slice_get-get_or events i d low)).valid.0

  pub opening : RiseFrom 0 (start_runs job) → pages_in (start_runs job) ≤ 512 → IsOpening log
  opening rising few = record {
    some = omega (arith, recorded.harts, valid.some_harts);
    few = omega (arith, recorded.harts, valid.few_harts);
    block = subst IsBlockSize (sym recorded.block) (inl refl);
    rising = subst (RiseFrom 0) (sym recorded.pages) rising;
    room = subst (λ (runs : List PageRun). pages_in runs ≤ 512) (sym recorded.pages) few;
  }

  pub few_lines : length events ≤ 250000 → length log.lines ≤ 2000000
  few_lines few =
      let same : records log.lines ≡ records (placed job.harts events) = same_records job.harts 16 events log.lines recorded.lines in
      let long : length log.lines ≡ length (placed job.harts events) = sym (length-map log.lines (λ (line : Line). line.what)) ∙ (ap length same ∙ length-map (placed job.harts events) (λ (line : Line). line.what)) in
      let most : length (placed job.harts events) ≤ 0 + 8 * length events = length_from job.harts events valid.few_harts (recursion_from_All (λ (event : Event). event.hart < job.harts) events inside) [] in
      omega arith

  pub short : IsWellFormed log → length events ≤ 250000 → length (log_spelling log) ≤ 67108864
  short formed few =
      let pages : length log.pages ≤ 4 = omega (arith, ap (λ (runs : List PageRun). length runs) recorded.pages, few_pages job) in
      let bytes : length (log_spelling log) ≤ 3400 + 219 * length events = text_bytes log job.harts events formed valid.few_harts inside (same_records job.harts 16 events log.lines recorded.lines) pages in
      omega arith
