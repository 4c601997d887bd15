use Rattle.std.proofs.Common.{◌≤◌, List, [], ◌∷◌, sym, ap, ◌∙◌, subst}
use Rattle.pl_event.specs.declared.log.Log.{Log}
use Rattle.pl_event.specs.declared.log.PageRun.{PageRun}
use Rattle.pl_event.specs.OpeningPages.{RiseFrom, pages_in}
use Rattle.shadow_frames.specs.Opening.{opening_words, state_in}
use Rattle.shadow_frames.proofs.OpeningLemmas.{states_are}
use Rattle.log_plan.proofs.OpeningWords.{opening_is, opening_length}
use Rattle.log_plan.specs.Plans.{opening_list}
use Rattle.list_plan.proofs.LineLemmas.{few_pages, rising}
use Rattle.list_plan.proofs.OpeningTable.{same_list}
use Rattle.log_watch.proofs.watch.opening_words.Goals as goal

pub initial-requires-clause-rising : goal.initial-requires-clause-rising
initial-requires-clause-rising g c = subst (RiseFrom 0) (sym (c.as_slice.ensures ∙ ap (λ (log : Log). log.pages) c.log.ensures)) (rising c.args.log.now.log c.args.log.now.lawful)

pub initial-requires-clause-room : goal.initial-requires-clause-room
initial-requires-clause-room g c = subst (λ (runs : List PageRun). pages_in runs ≤ 512) (sym (c.as_slice.ensures ∙ ap (λ (log : Log). log.pages) c.log.ensures)) (few_pages c.args.log.now.log c.args.log.now.lawful)

pub returns : goal.returns
returns g c =
    let rules = g.L.Lifeguard.rules c.args.guard in
    let laws = g.met.L.Lifeguard.lawful c.args.guard in
    let log = c.args.log.now.log in
    let pages = c.as_slice.ensures ∙ ap (λ (log : Log). log.pages) c.log.ensures in
    let opened = c.in_ok-words.ensures.words ∙ ((λ d. opening_words (state_in (c.page_state.ensures d ∷ c.page_state-2.ensures d ∷ c.page_state-3.ensures d ∷ [])) (pages d)) ∙ (λ d. opening_words (states_are (g.L.Lifeguard.rules c.args.guard) d) c.args.log.now.log.pages)) in
    same_list c.in_ok-words.words.items (opening_list rules log.pages) (c.in_ok-words.ensures.size ∙ sym (opening_length rules log.pages)) (opened ∙ sym (opening_is rules laws log.pages (rising log c.args.log.now.lawful) (few_pages log c.args.log.now.lawful)))
