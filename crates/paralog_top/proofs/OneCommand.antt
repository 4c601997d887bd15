-- Words are one command at most: they are taken apart into the command that they came from.
use Rattle.std.specs.Prelude.{◌≡◌, ℕ, ◌<◌, ◌^◌, Bool, List, [], ◌∷◌, All, codes, Option, bytes_eq}
use Rattle.std.specs.Prelude.{if◌then◌else◌}
use Rattle.std.specs.Fmt.{decimal}
use Rattle.std.specs.List.{cons_option, filter_map}
use Rattle.std.specs.Str.Parse.{digits_value}
use Rattle.std.proofs.Common.{zero, suc, refl, sym, ap, subst, ◌∙◌, drop, arith}
use Rattle.std.proofs.lemmas.Fmt.{decimal_is_IsNumeral}
use Rattle.std.proofs.lemmas.List.Elements.{All-head, All-tail}
use Rattle.lifeguard.specs.declared.guard.Name.{Name}
use Rattle.lifeguard.specs.declared.guard.Name.TheVariants as guards
use Rattle.lifeguard.specs.Words.{guard_word}
use Rattle.replay_probes.specs.Meaning.{Meaning}
use Rattle.paralog_top.specs.declared.command.Command.{Command}
use Rattle.paralog_top.specs.declared.command.Command.TheVariants as commands
use Rattle.paralog_top.specs.Commands.{IsAllowed, IsCommand, IsNoCommand, MayRun, words_of}
use Rattle.paralog_top.specs.Generating.{MayDraw}
use Rattle.paralog_top.specs.ProbeNames.{AreChosen, IsFirst, names_at, place_named}

-- the word at a place
abbrev word_at : ℕ → List (List ℕ) → List ℕ
word_at n [] = []
word_at zero (word ∷ words) = word
word_at (suc n) (word ∷ words) = word_at n words

abbrev begins : List (List ℕ) → List ℕ → Bool
begins words word = bytes_eq (word_at 0 words) word

abbrev guard_in : List ℕ → Name
guard_in word =
    if bytes_eq word (guard_word guards.Addr) then guards.Addr
    else if bytes_eq word (guard_word guards.Taint) then guards.Taint
    else guards.Mem

-- the command of words that are one
abbrev taken_apart : List Meaning → List (List ℕ) → Command
taken_apart meanings words =
    if begins words (codes "replay") then commands.Replay (guard_in (word_at 1 words))
    else if begins words (codes "probe") then
    commands.Probe (guard_in (word_at 1 words)) (filter_map (place_named meanings) (drop 2 words))
    else if begins words (codes "check") then commands.Check
    else if begins words (codes "watch") then
    commands.Watch (guard_in (word_at 1 words)) (digits_value 10 (word_at 2 words))
    else if begins words (codes "monitor") then
    commands.Monitor (guard_in (word_at 1 words)) (digits_value 10 (word_at 2 words))
    else if begins words (codes "counts") then commands.Counts (guard_in (word_at 1 words))
    else if begins words (codes "run") then commands.Run
    else if begins words (codes "list") then commands.List
    else if begins words (codes "record") then commands.Record
    else if begins words (codes "upgrade") then commands.Upgrade
    else commands.Generate (digits_value 10 (word_at 1 words)) (digits_value 10 (word_at 2 words))

same_guard : (guard : Name) → guard_in (guard_word guard) ≡ guard
same_guard guards.Addr = refl
same_guard guards.Taint = refl
same_guard guards.Mem = refl

-- a number is read from its text
same_number : (n : ℕ) → n < 2 ^ 64 → digits_value 10 (decimal n) ≡ n
same_number n low = (decimal_is_IsNumeral n low).1

-- each name means the place that it was taken from
same_places : (meanings : List Meaning) (places : List ℕ)
    → All (IsFirst meanings) places
    → filter_map (place_named meanings) (names_at meanings places) ≡ places
same_places meanings [] first = refl
same_places meanings (place ∷ places) first =
    let others = filter_map (place_named meanings) (names_at meanings places) in
    ap (λ (found : Option ℕ). cons_option found others) (All-head (IsFirst meanings) place places first)
    ∙ ap (λ (found : List ℕ). place ∷ found)
    (same_places meanings places (All-tail (IsFirst meanings) place places first))

same_command : (meanings : List Meaning) (command : Command) → IsAllowed meanings command
    → taken_apart meanings (words_of meanings command) ≡ command
same_command meanings (commands.Replay guard) may = ap commands.Replay (same_guard guard)
same_command meanings (commands.Probe guard places) may =
    ap (λ (g : Name). commands.Probe g (filter_map (place_named meanings) (names_at meanings places)))
    (same_guard guard)
    ∙ ap (commands.Probe guard) (same_places meanings places may.first)
same_command meanings commands.Check may = refl
same_command meanings (commands.Watch guard threads) may =
    ap (λ (g : Name). commands.Watch g (digits_value 10 (decimal threads))) (same_guard guard)
    ∙ ap (commands.Watch guard) (same_number threads (omega (arith, may.few)))
same_command meanings (commands.Monitor guard threads) may =
    ap (λ (g : Name). commands.Monitor g (digits_value 10 (decimal threads))) (same_guard guard)
    ∙ ap (commands.Monitor guard) (same_number threads (omega (arith, may.few)))
same_command meanings (commands.Counts guard) may = ap commands.Counts (same_guard guard)
same_command meanings commands.Run may = refl
same_command meanings commands.List may = refl
same_command meanings commands.Record may = refl
same_command meanings commands.Upgrade may = refl
same_command meanings (commands.Generate seed size) may =
    ap (λ (n : ℕ). commands.Generate n (digits_value 10 (decimal size))) (same_number seed (omega (arith, may.low)))
    ∙ ap (λ (n : ℕ). commands.Generate seed n) (same_number size (omega (arith, may.few)))

pub one_command : (meanings : List Meaning) (words : List (List ℕ)) (a b : Command)
    → IsCommand meanings words a → IsCommand meanings words b → a ≡ b
one_command meanings words a b is too =
    sym (same_command meanings a is.1) ∙ (ap (taken_apart meanings) (sym is.0 ∙ too.0) ∙ same_command meanings b too.1)

-- words that are a command are the one into which they are taken apart
is_taken : (meanings : List Meaning) (words : List (List ℕ)) (command : Command) → IsCommand meanings words command
    → IsCommand meanings words (taken_apart meanings words)
is_taken meanings words command is =
    let same : command ≡ taken_apart meanings words =
    sym (ap (taken_apart meanings) is.0 ∙ same_command meanings command is.1) in
    subst (IsCommand meanings words) same is

-- so words that begin with `probe` are no other command
pub no_probe : (meanings : List Meaning) (operands : List (List ℕ))
    → ((guard : Name) (places : List ℕ) → AreChosen meanings places
    → operands ≡ guard_word guard ∷ names_at meanings places → ⊥) → IsNoCommand meanings (codes "probe" ∷ operands)
no_probe meanings operands none command is =
    let probe = is_taken meanings (codes "probe" ∷ operands) command is in
    none (guard_in (word_at 0 operands)) (filter_map (place_named meanings) (drop 1 operands)) probe.1
    (ap (drop 1) probe.0)

-- and so are words that begin with `watch`
pub no_watch : (meanings : List Meaning) (operands : List (List ℕ))
    → ((guard : Name) (threads : ℕ) → MayRun threads → operands ≡ guard_word guard ∷ decimal threads ∷ [] → ⊥)
    → IsNoCommand meanings (codes "watch" ∷ operands)
no_watch meanings operands none command is =
    let watch = is_taken meanings (codes "watch" ∷ operands) command is in
    none (guard_in (word_at 0 operands)) (digits_value 10 (word_at 1 operands)) watch.1 (ap (drop 1) watch.0)

-- and with `monitor`
pub no_monitor : (meanings : List Meaning) (operands : List (List ℕ))
    → ((guard : Name) (threads : ℕ) → MayRun threads → operands ≡ guard_word guard ∷ decimal threads ∷ [] → ⊥)
    → IsNoCommand meanings (codes "monitor" ∷ operands)
no_monitor meanings operands none command is =
    let monitor = is_taken meanings (codes "monitor" ∷ operands) command is in
    none (guard_in (word_at 0 operands)) (digits_value 10 (word_at 1 operands)) monitor.1 (ap (drop 1) monitor.0)

-- and with `gen`
pub no_generated : (meanings : List Meaning) (operands : List (List ℕ))
    → ((seed size : ℕ) → MayDraw seed size → operands ≡ decimal seed ∷ decimal size ∷ [] → ⊥)
    → IsNoCommand meanings (codes "gen" ∷ operands)
no_generated meanings operands none command is =
    let drawn = is_taken meanings (codes "gen" ∷ operands) command is in
    none (digits_value 10 (word_at 0 operands)) (digits_value 10 (word_at 1 operands)) drawn.1 (ap (drop 1) drawn.0)
