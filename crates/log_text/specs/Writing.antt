-- The arcs of a line as they are written, one after the other.
use Rattle.std.specs.Prelude.{ℕ, Bool, true, false, List, [], ◌∷◌, ◌++◌, codes}
use Rattle.pl_event.specs.declared.log.Line.{Line}
use Rattle.pl_event.specs.declared.log.Log.{Log}
use Rattle.pl_event.specs.declared.log.PageRun.{PageRun}
use Rattle.pl_event.specs.declared.log.Point.{Point}
use Rattle.log_grammar.specs.Spelling.{point_word}

-- what comes before the first arc, and before each further one
abbrev pub arc_front : Bool → List ℕ
arc_front true = codes " < "
arc_front false = codes ","

-- arcs of which the foremost is the first, or none is
abbrev pub arcs_text : Bool → List Point → List ℕ
arcs_text first [] = []
arcs_text first (point ∷ points) = arc_front first ++ point_word point ++ arcs_text false points

-- a log by its parts
abbrev pub log_of : ℕ → ℕ → List PageRun → List Line → Log
log_of harts block pages lines = record { harts = harts; block = block; pages = pages; lines = lines }
