use Rattle.std.proofs.Common.{◌≤◌, List, [], ◌∷◌, sym, ◌∙◌, subst}
use Rattle.pl_event.specs.declared.log.PageRun.{PageRun}
use Rattle.pl_event.specs.OpeningPages.{RiseFrom, pages_in}
use Rattle.core_sim.specs.Start.{start_runs}
use Rattle.shadow_frames.specs.Opening.{opening_words, state_in}
use Rattle.shadow_frames.proofs.OpeningLemmas.{states_are}
use Rattle.log_plan.proofs.OpeningWords.{opening_is, opening_length}
use Rattle.log_plan.specs.Plans.{opening_list}
use Rattle.list_plan.proofs.OpeningTable.{same_list}
use Rattle.run_watch.proofs.opening.opening_words.Goals as goal

pub initial-requires-clause-rising : goal.initial-requires-clause-rising
initial-requires-clause-rising g c = subst (RiseFrom 0) (sym c.as_slice.ensures.value) c.in_ok-pages.ensures.rising

pub initial-requires-clause-room : goal.initial-requires-clause-room
initial-requires-clause-room g c = subst (λ (runs : List PageRun). pages_in runs ≤ 512) (sym c.as_slice.ensures.value) c.in_ok-pages.ensures.few

pub returns : goal.returns
returns g c =
    let rules = g.L.Lifeguard.rules c.args.guard in
    let laws = g.met.L.Lifeguard.lawful c.args.guard in
    let runs = start_runs c.args.job.now in
    let pages = c.as_slice.ensures.value ∙ c.in_ok-pages.ensures.runs in
    let rising = subst (RiseFrom 0) c.in_ok-pages.ensures.runs c.in_ok-pages.ensures.rising in
    let few = subst (λ (z : List PageRun). pages_in z ≤ 512) c.in_ok-pages.ensures.runs c.in_ok-pages.ensures.few in
    let opened = c.in_ok-words.ensures.words ∙ ((λ d. opening_words (state_in (c.page_state.ensures d ∷ c.page_state-2.ensures d ∷ c.page_state-3.ensures d ∷ [])) (pages d)) ∙ (λ d. opening_words (states_are rules d) runs)) in
    same_list c.in_ok-words.words.items (opening_list rules runs) (c.in_ok-words.ensures.size ∙ sym (opening_length rules runs)) (opened ∙ sym (opening_is rules laws runs rising few))
