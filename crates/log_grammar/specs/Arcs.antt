-- The arcs of a line as they are read: no list of them is kept.
use Rattle.std.specs.Prelude.{◌≡◌, ℕ, suc, ◌<◌, ◌≤◌, max, ◌&&◌, Bool, true, false, nat_le, List, [], ◌∷◌, length, map, fold, Option, None, slice_index_or}
use Rattle.pl_event.specs.declared.log.Point.{Point}
use Rattle.pl_event.specs.Edges.{some_number}
use Rattle.log_grammar.specs.declared.points.ArcList.{ArcList}
use Rattle.log_grammar.specs.Spelling.{points_from}

-- each hart is at least `least`, and above the one before it
abbrev pub rises_from : ℕ → List Point → Bool
rises_from least [] = true
rises_from least (point ∷ points) = nat_le least point.hart && rises_from (suc point.hart) points

-- the harts rise strictly
abbrev pub is_rising : List Point → Bool
is_rising points = rises_from 0 points

abbrev pub highest_hart : List Point → ℕ
highest_hart points = fold (λ high point. max high point.hart) 0 points

-- the least hart that can follow
abbrev pub next_hart : List Point → ℕ
next_hart points = fold (λ least point. suc point.hart) 0 points

-- the arcs that numbers stand for, where 0 stands for none
abbrev pub arcs_in : List ℕ → List (Option ℕ)
arcs_in numbers = map some_number numbers

-- a summary of arcs: the harts that they name, whether they rise, and the arcs themselves where they do
pub record Sums (list : ArcList) (points : List Point) : Type 0 where
  pub eight : length list.numbers ≡ 8
  pub highest : list.highest ≡ highest_hart points
  pub next : list.next ≡ next_hart points
  pub rising : list.rising ≡ is_rising points
  pub kept : is_rising points ≡ true → highest_hart points < 8 → points_from 0 (arcs_in list.numbers) ≡ points
  pub clear : is_rising points ≡ true → (hart : ℕ) → next_hart points ≤ hart → slice_index_or list.numbers hart 0 ≡ 0

-- the arcs of a line, which are those of the list where it has some
abbrev pub ShowsPoints : Bool → ArcList → List Point → Type 0
ShowsPoints false list points = points ≡ []
ShowsPoints true list points = Sums list points
