-- What is asked of a call, and what its input, its output and its notes tell before it and after it.
use Rattle.std.specs.Prelude.{ℕ, List}
use Rattle.std.specs.declared.option.Option.{Option}
use Rattle.replay_probes.specs.Meaning.{Meaning}

-- the words, and the probes that were handed in
pub record Asked : Type 0 where
  pub meanings : List Meaning
  pub words : List (List ℕ)

abbrev pub asks : List Meaning → List (List ℕ) → Asked
asks meanings words = record { meanings = meanings; words = words }

-- bytes, where they are told
abbrev pub Known : Type 0
Known = Option (List ℕ)

-- the bytes that a source has left, or that a sink was given, and the count of its faults
pub record Told : Type 0 where
  pub before : Known
  pub after : Known
  pub faults_before : ℕ
  pub faults_after : ℕ

abbrev pub told : Known → Known → ℕ → ℕ → Told
told before after faults_before faults_after =
    record { before = before; after = after; faults_before = faults_before; faults_after = faults_after }

-- what a source or a sink tells, as it was and as it is
abbrev pub tells : {X : Type 0} → (X → Known) → (X → ℕ) → X → X → Told
tells known faults old new = told (known old) (known new) (faults old) (faults new)
