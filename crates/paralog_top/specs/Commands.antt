-- The commands: their words, and what they read.
use Rattle.std.specs.Prelude.{◌≡◌, ◌⊎◌, ℕ, ◌≤◌, List, [], ◌∷◌, codes}
use Rattle.std.specs.Fmt.{decimal}
use Rattle.pl_base.specs.declared.layout.TheConstants.{MAX_HARTS}
use Rattle.lifeguard.specs.declared.guard.Name.{Name}
use Rattle.lifeguard.specs.Words.{guard_word}
use Rattle.replay_probes.specs.Meaning.{Meaning}
use Rattle.paralog_top.specs.declared.command.Command.{Command}
use Rattle.paralog_top.specs.declared.command.Command.TheVariants as command
use Rattle.paralog_top.specs.declared.input.Input.{Input}
use Rattle.paralog_top.specs.declared.input.Input.TheVariants as input
use Rattle.paralog_top.specs.Asked.{Asked}
use Rattle.paralog_top.specs.Generating.{MayDraw}
use Rattle.paralog_top.specs.ProbeNames.{AreChosen, names_at}

-- 1 to 8 threads
pub record MayRun (threads : ℕ) : Type 0 where
  pub some : 1 ≤ threads
  pub few : threads ≤ MAX_HARTS

-- the words of a command, where these probes were handed in
abbrev pub words_of : List Meaning → Command → List (List ℕ)
words_of meanings (command.Replay guard) = codes "replay" ∷ guard_word guard ∷ []
words_of meanings (command.Probe guard places) = codes "probe" ∷ guard_word guard ∷ names_at meanings places
words_of meanings command.Check = codes "check" ∷ []
words_of meanings (command.Watch guard threads) = codes "watch" ∷ guard_word guard ∷ decimal threads ∷ []
words_of meanings (command.Monitor guard threads) = codes "monitor" ∷ guard_word guard ∷ decimal threads ∷ []
words_of meanings (command.Counts guard) = codes "counts" ∷ guard_word guard ∷ []
words_of meanings command.Run = codes "run" ∷ []
words_of meanings command.List = codes "list" ∷ []
words_of meanings command.Record = codes "record" ∷ []
words_of meanings command.Upgrade = codes "upgrade" ∷ []
words_of meanings (command.Generate seed size) = codes "gen" ∷ decimal seed ∷ decimal size ∷ []

-- the command asks for nothing but what there is
abbrev pub IsAllowed : List Meaning → Command → Type 0
IsAllowed meanings (command.Probe guard places) = AreChosen meanings places
IsAllowed meanings (command.Watch guard threads) = MayRun threads
IsAllowed meanings (command.Monitor guard threads) = MayRun threads
IsAllowed meanings (command.Generate seed size) = MayDraw seed size
IsAllowed meanings _ = Unit {0}

-- the words are this command
abbrev pub IsCommand : List Meaning → List (List ℕ) → Command → Type 0
IsCommand meanings words command = (words ≡ words_of meanings command) × IsAllowed meanings command

-- the words name a lifeguard and more than one thread
abbrev pub AskThreads : List (List ℕ) → Type 0
AskThreads words = (guard : Name) × (threads : ℕ) × MayRun threads × (2 ≤ threads)
    × (words ≡ guard_word guard ∷ decimal threads ∷ [])

-- a command of this name is run on as many threads as it asks for
abbrev pub IsOnThreads : List ℕ → Type 0
IsOnThreads verb = (verb ≡ codes "watch") ⊎ (verb ≡ codes "monitor")

-- the words are a command that asks for more than one thread
abbrev pub IsThreaded : List (List ℕ) → Type 0
IsThreaded words = (verb : List ℕ) × (operands : List (List ℕ)) × IsOnThreads verb × AskThreads operands
    × (words ≡ verb ∷ operands)

-- the words are in no form, or name a probe that was not handed in
abbrev pub IsNoCommand : List Meaning → List (List ℕ) → Type 0
IsNoCommand meanings words = (command : Command) → IsCommand meanings words command → ⊥

-- the words are a command, and P holds of it
abbrev pub IsOne : Asked → (Command → Type 0) → Type 0
IsOne asked P = (command : Command) × IsCommand asked.meanings asked.words command × P command

-- what a command reads
abbrev pub input_of : Command → Input
input_of (command.Replay guard) = input.Log
input_of (command.Probe guard places) = input.Log
input_of command.Check = input.Log
input_of (command.Watch guard threads) = input.Log
input_of (command.Monitor guard threads) = input.Job
input_of (command.Counts guard) = input.Log
input_of command.Run = input.Job
input_of command.List = input.Job
input_of command.Record = input.Job
input_of command.Upgrade = input.Log
input_of (command.Generate seed size) = input.Nothing
