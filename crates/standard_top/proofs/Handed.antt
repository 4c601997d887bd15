-- The meanings of probes that are handed in one by one.
use Rattle.std.proofs.Common.{◌≡◌, List, [], ◌∷◌, ◌++◌, ap, ◌∙◌}
use Rattle.replay_probes.specs.Meaning.{Meaning}

-- one more, whose meaning is known
pub handed : (new old before : List Meaning) (m known : Meaning) → new ≡ old ++ m ∷ [] → old ≡ before → m ≡ known → new ≡ before ++ known ∷ []
handed new old before m known more so_far is = more ∙ ap (λ (ms : List Meaning). ms ++ m ∷ []) so_far ∙ ap (λ (n : Meaning). before ++ n ∷ []) is
