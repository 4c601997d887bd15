use Rattle.std.proofs.Common.{◌≡◌, ℕ, ◌<◌, ◌≤◌, List, slice_index, sym, subst}
use Rattle.std.proofs.Math.Logic.{∥∥₁_elim}
use denote.Struct.Props.{props}
use Rattle.pl_base.specs.declared.layout.TheConstants.{MAX_MAPPED_PAGES, PAGE_COUNT}
use Rattle.lifeguard.specs.Plain.{final_state}
use Rattle.report_text.specs.Runs.{runs_of}
use Rattle.shadow_frames.specs.Words.{WordsRepresent, directory_word}
use Rattle.watch_text.proofs.found.runs_found.Goals as goal

pub runs_of_words-requires-clause-low : goal.runs_of_words-requires-clause-low
runs_of_words-requires-clause-low c p lt =
    let w = c.args.watched.now.words.items in
    let bytes = (final_state c.requires.0 c.requires.1).bytes in
    let low : slice_index w (directory_word p) ≤ MAX_MAPPED_PAGES =
    ∥∥₁_elim c.requires.2.bytes (hlevel props) (λ (r : WordsRepresent (slice_index w) bytes). r.low p lt) in
    subst (λ (ws : List ℕ). slice_index ws (directory_word p) ≤ MAX_MAPPED_PAGES) (sym c.deref.ensures.value) low

pub returns : goal.returns
returns c rules log watched =
    let bytes = (final_state rules log).bytes in
    ∥∥₁_elim watched.bytes (hlevel props)
    (λ (r : WordsRepresent (slice_index c.args.watched.now.words.items) bytes).
    c.in_ok-runs.ensures.represented bytes
    (subst (λ (ws : List ℕ). WordsRepresent (slice_index ws) bytes) (sym c.deref.ensures.value) r))
