-- What each record needs of the other harts, as a function of the log.
use Rattle.std.specs.Prelude.{◌≡◌, ℕ, zero, suc, ◌-◌, ◌≤◌, ◌==◌, ◌&&◌, ◌||◌, Bool, false, List, [], ◌∷◌, length, map, Option, Some, None, is_some, if◌then◌else◌}
use Rattle.pl_event.specs.declared.log.Line.{Line}
use Rattle.pl_event.specs.declared.log.Record.{Record}
use Rattle.pl_event.specs.declared.log.Record.TheVariants as entry
use Rattle.pl_event.specs.Records.{records_before, record_of}
use Rattle.pl_event.specs.Edges.{arc_of}

abbrev pub is_number : ℕ → Option ℕ → Bool
is_number n None = false
is_number n (Some k) = k == n

abbrev pub has_arc : ℕ → ℕ → Option Line → Bool
has_arc u n None = false
has_arc u n (Some line) = is_number n (arc_of line u)

abbrev pub announces : ℕ → ℕ → Record → Bool
announces u n (entry.Event event) = false
announces u n (entry.Notice hart point) = (point.hart == u) && (point.number == n)

-- the record is there, and a notice of record n of hart u
abbrev pub is_notice : ℕ → ℕ → Option Line → Bool
is_notice u n None = false
is_notice u n (Some line) = announces u n line.what

-- record m of hart h has an arc from u:n, or follows a notice of it, or has a notice there
abbrev pub is_source : List Line → ℕ → ℕ → ℕ → ℕ → Bool
is_source lines u n h m =
    (has_arc u n (record_of lines h m) || (is_some (record_of lines h m) && is_notice u n (record_of lines h (m - 1))))
    || is_notice h m (record_of lines u n)

-- the greatest number from 1 to a bound that passes a test
abbrev pub greatest : (ℕ → Bool) → ℕ → Option ℕ
greatest test zero = None
greatest test (suc n) = if test (suc n) then Some (suc n) else greatest test n

-- the last record of hart u from which an edge leads to record m of hart h
abbrev pub need_of : List Line → ℕ → ℕ → ℕ → Option ℕ
need_of lines u h m = greatest (λ n. is_source lines u n h m) (records_before u lines (length lines))

-- record m of hart h needs record n of hart u
abbrev pub IsNeed : List Line → ℕ → ℕ → ℕ → ℕ → Type 0
IsNeed lines u n h m = need_of lines u h m ≡ Some n

abbrev pub eight_harts : List ℕ
eight_harts = 0 ∷ 1 ∷ 2 ∷ 3 ∷ 4 ∷ 5 ∷ 6 ∷ 7 ∷ []

-- what record m of hart h needs of each of eight harts
abbrev pub needs_of : List Line → ℕ → ℕ → List (Option ℕ)
needs_of lines h m = map (λ u. need_of lines u h m) eight_harts

-- the greatest number for which a fact holds, or none
abbrev pub IsMost : (ℕ → Type 0) → Option ℕ → Type 0
IsMost P None = (k : ℕ) → P k → ⊥
IsMost P (Some n) = P n × ((k : ℕ) → P k → k ≤ n)
