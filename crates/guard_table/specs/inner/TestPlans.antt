-- Plans of two harts with one record each, which are run as tests.
use Rattle.std.specs.Prelude.{ℕ, zero, suc, Bool, true, false, List, [], ◌∷◌, ◌++◌, replicate}
use Rattle.pl_event.specs.declared.event.Kind.TheVariants.{Im}
use Rattle.pl_event.specs.declared.log.Line.{Line}
use Rattle.pl_event.specs.declared.log.Record.TheVariants as entry
use Rattle.pl_event.specs.Edges.{no_arcs}
use Rattle.order_core.specs.declared.course.Op.{Op}
use Rattle.order_core.specs.Course.{Planned}

-- a record of hart h that touches no memory
abbrev pub plain_line : ℕ → Line
plain_line h = record { what = entry.Event (record { hart = h; kind = Im 5 }); arcs = no_arcs }

abbrev pub two_lines : List Line
two_lines = plain_line 0 ∷ plain_line 1 ∷ []

-- the operations of record 1
abbrev pub of_first : (ℕ → List Op) → ℕ → ℕ → List Op
of_first f h zero = []
of_first f h (suc zero) = f h
of_first f h (suc (suc m)) = []

-- two harts with one record each, nine words that are 0 and more words, and these operations
abbrev pub two_records : List ℕ → (ℕ → List Op) → Planned
two_records more f = record {
  log = record { harts = 2; block = 16; pages = []; lines = two_lines };
  opening = replicate 9 0 ++ more;
  operations = of_first f;
}

abbrev pub test_op : ℕ → ℕ → Bool → Bool → ℕ → Op
test_op word lanes write check value = record {
  word = word;
  lanes = lanes;
  write = write;
  check = check;
  value = value;
}

-- no operations
abbrev pub no_operations : Planned
no_operations = two_records [] (λ h. [])

-- hart 0 writes lane 0 of word 9 and reads it twice, hart 1 writes lane 1
abbrev pub lane_operations : ℕ → List Op
lane_operations zero = test_op 9 1 true false 7 ∷ test_op 9 1 false false 7 ∷ test_op 9 1 false true 7 ∷ []
lane_operations (suc h) = test_op 9 2 true false 196608 ∷ []

abbrev pub two_lanes : Planned
two_lanes = two_records (21474836482 ∷ []) lane_operations

-- n writes of a word, of the numbers from v on
abbrev pub counting : ℕ → ℕ → ℕ → List Op
counting word v zero = []
counting word v (suc n) = test_op word 15 true false v ∷ counting word (suc v) n

-- each of the two harts counts to n in a word of its own, 9 or 10
abbrev pub count_operations : ℕ → ℕ → List Op
count_operations n zero = counting 9 1 n
count_operations n (suc zero) = counting 10 1 n
count_operations n (suc (suc h)) = []

abbrev pub two_words : ℕ → Planned
two_words n = two_records (0 ∷ 0 ∷ []) (count_operations n)
