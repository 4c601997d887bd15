use Rattle.std.proofs.Common.{◌≡◌, ◌++◌, true, drop}
use Rattle.std.specs.Prelude.{string_bytes}
use Rattle.log_grammar.specs.Spelling.{points_from}
use Rattle.log_text.specs.Writing.{arcs_text}
use Rattle.log_text.proofs.write.write_arcs.Given as goal

-- the arcs that are left are still to be written
abbrev pub invariant-harts : goal.invariant-harts
invariant-harts l = string_bytes l.out ++ arcs_text l.first (points_from l.hart (drop l.hart l.arcs)) ≡ string_bytes l.initial.out ++ arcs_text true (points_from 0 l.arcs)
