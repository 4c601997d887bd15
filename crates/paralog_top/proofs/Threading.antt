-- Which words ask for more than one thread.
use Rattle.std.specs.Prelude.{◌≡◌, ℕ, ◌≤◌, List, [], ◌∷◌, codes}
use Rattle.std.proofs.Common.{refl, sym, ap, subst, ◌∙◌, drop, ⊎_elim}
use Rattle.lifeguard.specs.declared.guard.Name.{Name}
use Rattle.lifeguard.specs.Words.{guard_word}
use Rattle.std.specs.Fmt.{decimal}
use Rattle.paralog_top.specs.declared.command.Command.{Command}
use Rattle.paralog_top.specs.declared.command.Command.TheVariants as commands
use Rattle.paralog_top.specs.Commands.{AskThreads, IsOnThreads, IsThreaded, MayRun}
use Rattle.paralog_top.proofs.OneCommand.{one_command}

-- the threads of `watch`
abbrev threads_in : Command → ℕ
threads_in (commands.Watch guard threads) = threads
threads_in _ = 0

module _ (operands : List (List ℕ)) (guard : Name) (threads : ℕ) (may : MayRun threads)
    (is : operands ≡ guard_word guard ∷ decimal threads ∷ []) where
  abbrev words : List (List ℕ)
  words = codes "watch" ∷ operands

  pub asked : 2 ≤ threads → AskThreads operands
  asked more = (guard, threads, may, more, is)

  pub asking : AskThreads operands → 2 ≤ threads
  asking asks =
      let meant = commands.Watch guard threads in
      let other = commands.Watch asks.0 asks.1 in
      let same : other ≡ meant =
      one_command [] words other meant (ap (λ (rest : List (List ℕ)). codes "watch" ∷ rest) asks.4, asks.2)
      (ap (λ (rest : List (List ℕ)). codes "watch" ∷ rest) is, may) in
      subst (λ (n : ℕ). 2 ≤ n) (ap threads_in same) asks.3

-- a command of this name asks for them by its operands
pub threaded_by : (verb : List ℕ) (operands : List (List ℕ)) → IsOnThreads verb → AskThreads operands
    → IsThreaded (verb ∷ operands)
threaded_by verb operands is asks = (verb, operands, is, asks, refl)

pub operands_ask : (verb : List ℕ) (operands : List (List ℕ)) → IsThreaded (verb ∷ operands) → AskThreads operands
operands_ask verb operands asks = subst AskThreads (sym (ap (drop 1) asks.4)) asks.3

-- no other words do
pub not_asked : (verb : List ℕ) (operands : List (List ℕ)) → (verb ≡ codes "watch" → ⊥) → (verb ≡ codes "monitor" → ⊥)
    → IsThreaded (verb ∷ operands) → ⊥
not_asked verb operands no_watch no_monitor asks =
    let same : verb ≡ asks.0 = ap first asks.4 in
    ⊎_elim (λ e. no_watch (same ∙ e)) (λ e. no_monitor (same ∙ e)) asks.2
  where
    first : List (List ℕ) → List ℕ
    first [] = []
    first (word ∷ _) = word
