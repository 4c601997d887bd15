use Rattle.std.proofs.Common.{◌≡◌, ℕ, List, length, ap, sym, ◌∙◌, subst}
use Rattle.guest_mem.specs.Bytes.{written, AllMapped}
use Rattle.guest_mem.specs.Memory.{bytes}
use Rattle.core_sim.specs.Start.{text_bytes}
use Rattle.core_sim.proofs.Roomy.{can_text, can_others}
use Rattle.core_sim.proofs.Starts.{StartPages, start_pages_are, filled, text_is_mapped}
use Rattle.core_sim.proofs.start.start_memory.Goals as goal

pub map_run-requires-clause-can : goal.map_run-requires-clause-can
map_run-requires-clause-can c =
    can_text c.args.job.now _ _ _ c.requires c.in_ok-mem.ensures.mapped c.in_ok-runs.ensures.runs (c.index.ensures)

pub map_runs-requires-clause-can : goal.map_runs-requires-clause-can
map_runs-requires-clause-can c =
    can_others c.args.job.now _ _ _ _ _ c.requires c.in_ok-mem.ensures.mapped c.in_ok-runs.ensures.runs c.deref.ensures.value c.index.ensures c.in_ok-map_run.ensures

pub fill-requires : goal.fill-requires
fill-requires c =
    let start : StartPages c.args.job.now c.map_runs.new.mem =
    start_pages_are _ _ _ _ _ _ _ c.in_ok-mem.ensures.bytes c.in_ok-mem.ensures.mapped c.in_ok-mem.ensures.texts c.in_ok-runs.ensures.runs c.deref.ensures.value c.index.ensures c.in_ok-map_run.ensures c.in_ok-map_runs.ensures in
    let text : c.deref-2.result.now ≡ text_bytes c.args.job.now.words = c.deref-2.ensures.value ∙ c.in_ok-text.ensures ∙ ap text_bytes c.as_slice.ensures in
    subst (λ (xs : List ℕ). AllMapped (bytes c.map_runs.new.mem) 65536 (length xs)) (sym text) (text_is_mapped c.args.job.now (bytes c.map_runs.new.mem) start.bytes_are)

pub returns : goal.returns
returns c =
    let start : StartPages c.args.job.now c.map_runs.new.mem =
    start_pages_are _ _ _ _ _ _ _ c.in_ok-mem.ensures.bytes c.in_ok-mem.ensures.mapped c.in_ok-mem.ensures.texts c.in_ok-runs.ensures.runs c.deref.ensures.value c.index.ensures c.in_ok-map_run.ensures c.in_ok-map_runs.ensures in
    let text : c.deref-2.result.now ≡ text_bytes c.args.job.now.words = c.deref-2.ensures.value ∙ c.in_ok-text.ensures ∙ ap text_bytes c.as_slice.ensures in
    filled c.args.job.now c.map_runs.new.mem c.fill.new.self c.fill-2.new.self c.requires.few_words start
    (c.fill.ensures.bytes ∙ ap (written (bytes c.map_runs.new.mem) 65536) text) c.fill.ensures.mapped c.fill.ensures.texts
    (c.fill-2.ensures.bytes ∙ ap (written (bytes c.fill.new.self) 1048576) c.as_slice-2.ensures) c.fill-2.ensures.mapped c.fill-2.ensures.texts
