use Rattle.std.proofs.Common.{ℕ, ◌<◌, List, length, sym, subst, arith}
use Rattle.pl_event.specs.declared.log.Line.{Line}
use Rattle.pl_event.specs.Numbers.{events_of}
use Rattle.lifeguard.specs.Plain.{plain_result}
use Rattle.order_core.specs.Filled.{words_after}
use Rattle.order_core.specs.Shapes.{AreSoundShapes}
use Rattle.shadow_frames.specs.Words.{WordsRepresent}
use Rattle.shadow_layout.specs.Logs.{log_shapes}
use Rattle.shadow_layout.proofs.LogLemmas.{moment, sound_at, take_all, zeros}
use Rattle.shadow_layout.proofs.laws.log_operations.Goals as goal

pub returns-clause-represented : goal.returns-clause-represented
returns-clause-represented _ rules log opening laws run is i le = (moment rules laws log run opening is i le).represents

pub returns-clause-last : goal.returns-clause-last
returns-clause-last _ rules log opening laws run is =
    subst (λ (lines : List Line). WordsRepresent (words_after (log_shapes rules log) opening (length log.lines)) (plain_result rules log.pages (events_of lines)).bytes) (take_all log.lines)
    (moment rules laws log run opening is (length log.lines) (omega arith)).represents

pub returns-clause-sound : goal.returns-clause-sound
returns-clause-sound _ rules log opening laws run is size i lt =
    let x = sound_at rules laws log run opening is i lt in
    let few : length (log_shapes rules log i (words_after (log_shapes rules log) opening i)) < 4294967295 = x.1 in
    (subst (λ (n : ℕ). AreSoundShapes n (log_shapes rules log i (words_after (log_shapes rules log) opening i))) (sym size) x.0, omega (arith, few))

pub returns-clause-table : goal.returns-clause-table
returns-clause-table _ rules log opening laws run is size = record {
  size = (omega (arith, size), omega (arith, size));
  zeros = zeros rules laws log run opening is;
}
