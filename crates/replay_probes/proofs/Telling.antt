-- What probes tell as a run goes on.
use Rattle.std.proofs.Common.{◌≡◌, ℕ, zero, suc, ◌<◌, true, List, [], ◌∷◌, ◌++◌, length, map, get_or, refl, sym, ap, ◌∙◌, arith, append_assoc}
use Rattle.std.specs.Prelude.{All}
use Rattle.std.proofs.lemmas.List.{append-nil, same_lists, get_or_default, get_or-map, length-map}
use Rattle.std.proofs.lemmas.List.Elements.{All-head, All-tail}
use mathlib.Core.Path.{fun_ext}
use Rattle.pl_event.specs.declared.event.Event.{Event}
use Rattle.replay_probes.specs.declared.probe.Shown.{Shown}
use Rattle.replay_probes.specs.declared.watch.Watch.{Watch}
use Rattle.replay_probes.specs.declared.watch.Watch.TheVariants.{On}
use Rattle.replay_probes.specs.Meaning.{Meaning, line_behind, line_over, shown_behind, shown_from, shown_of}
use Rattle.replay_probes.specs.Watches.{WillTell, IsLineOf}
use Rattle.replay_probes.specs.Watched.{telling_behind}

-- the last event is shown last
shown_from-last : (before events : List Event) (event : Event) → shown_from before (events ++ event ∷ []) ≡ shown_from before events ++ shown_behind (before ++ events) event ∷ []
shown_from-last before [] event = ap (λ done. shown_behind done event ∷ []) (sym (append-nil before))
shown_from-last before (first ∷ events) event =
    ap (λ rest. shown_behind before first ∷ rest) (shown_from-last (before ++ first ∷ []) events event
    ∙ ap (λ done. shown_from (before ++ first ∷ []) events ++ shown_behind done event ∷ []) (append_assoc before (first ∷ []) events))

-- one event more is one shown event more, before the further ones
pub telling_behind-last : (meaning : Meaning) (events : List Event) (event : Event)
    → telling_behind meaning (events ++ event ∷ []) ≡ (λ further. telling_behind meaning events (shown_behind events event ∷ further))
telling_behind-last meaning events event = fun_ext (λ further. ap (line_behind meaning [])
    (ap (λ shown. shown ++ further) (shown_from-last [] events event) ∙ append_assoc (shown_of events) (shown_behind events event ∷ []) further))

-- no event comes any more
pub telling_behind-end : (meaning : Meaning) (events : List Event) → telling_behind meaning events [] ≡ line_over events meaning
telling_behind-end meaning events = ap (line_behind meaning []) (append-nil (shown_of events))

silent : Meaning
silent = record { name = []; line = λ seen. []; stops = λ seen. true }

module _ {B : Type 0} (meaning : B → Meaning) (has_seen : B → List Shown → Type 0) where
  -- probes that have seen nothing tell of the run from its start
  pub telling_first : (probes : List B) → All (λ probe. has_seen probe []) probes → (k : ℕ) (watch : Watch B) (other : Meaning) → k < length (map meaning probes)
      → WillTell meaning has_seen (telling_behind (get_or (map meaning probes) k other) []) (get_or (map On probes) k watch)
  telling_first [] fresh k watch other lt = absurd (omega arith)
  telling_first (probe ∷ probes) fresh zero watch other lt = record {
    seen = [];
    has = All-head (λ p. has_seen p []) probe probes fresh;
    told = λ further. refl;
  }
  telling_first (probe ∷ probes) fresh (suc k) watch other lt = telling_first probes (All-tail (λ p. has_seen p []) probe probes fresh) k watch other (omega arith)

  -- the lines of watches are those of their probes over the run
  pub told_lines : (watches : List (Watch B)) (meanings : List Meaning) (lines : List (List ℕ)) (events : List Event)
      → length lines ≡ length watches → length watches ≡ length meanings
      → ((k : ℕ) (watch : Watch B) → k < length watches → IsLineOf meaning has_seen (get_or watches k watch) (get_or lines k []))
      → ((k : ℕ) (watch : Watch B) (other : Meaning) → k < length meanings
      → WillTell meaning has_seen (telling_behind (get_or meanings k other) events) (get_or watches k watch))
      → lines ≡ map (line_over events) meanings
  told_lines [] meanings lines events long many told telling =
      same_lists lines (map (line_over events) meanings) (omega (arith, length-map meanings (line_over events))) (λ k d lt. absurd (omega arith))
  told_lines (first ∷ watches) meanings lines events long many told telling =
      same_lists lines (map (line_over events) meanings) (omega (arith, length-map meanings (line_over events))) (λ k d lt.
      get_or_default lines k d [] lt
      ∙ told k first (omega arith) (telling_behind (get_or meanings k silent) events) (telling k first silent (omega arith))
      ∙ telling_behind-end (get_or meanings k silent) events
      ∙ sym (get_or-map (line_over events) meanings k silent d (omega arith)))
