-- How a machine finds the turn of its next step, from the turn that it keeps.
use Rattle.std.specs.Prelude.{◌≡◌, ◌≢◌, ℕ, ◌<◌, Option, Some, None, ◌+◌, ◌-◌, ◌/◌, ◌%◌, ◌&&◌, nat_le, nat_lt, if◌then◌else◌, List, [], ◌∷◌, length, drop, find, unwrap_or, slice_index}
use Rattle.core_sim.specs.declared.job.Item.{Item}
use Rattle.core_sim.specs.declared.job.Schedule.{Schedule}
use Rattle.core_sim.specs.declared.job.Schedule.TheVariants as schedule
use Rattle.core_sim.specs.declared.turn.Place.{Place}
use Rattle.core_sim.specs.declared.turn.Place.TheVariants.{Around, Listed, Drawn}
use Rattle.core_sim.specs.declared.turn.Turn.{Turn}
use Rattle.core_sim.specs.declared.hart.Standing.{Standing}
use Rattle.core_sim.specs.Draws.{drawn}
use Rattle.core_sim.specs.Harts.{live_harts, is_among_live}

-- the turns of a list
abbrev pub items_of : Schedule → List Item
items_of (schedule.Rr q) = []
items_of (schedule.List items) = items
items_of (schedule.Seed n q) = []

-- where a schedule is before its first turn
abbrev pub first_place : Schedule → Place
first_place (schedule.Rr q) = Around q 0
first_place (schedule.List items) = Listed 0
first_place (schedule.Seed n q) = Drawn n q

-- no turn yet
abbrev pub no_turn : Schedule → Turn
no_turn schedule = record { hart = 0; left = 0; place = first_place schedule }

-- the first live hart from a number on, and else the first of all
abbrev pub first_live : ℕ → List ℕ → ℕ
first_live from live = unwrap_or (find (λ hart. nat_le from hart) live) (slice_index live 0)

-- a turn of a round, in which the next turn goes to the first live hart after this one
abbrev pub round_turn : ℕ → ℕ → List ℕ → Turn
round_turn q from live = record { hart = first_live from live; left = q; place = Around q (first_live from live + 1) }

-- the turn of the first item of a hart that is live, each other item being passed over; after the list turns of one
-- step go round from hart 0
abbrev pub listed_turn : ℕ → List Item → List ℕ → Turn
listed_turn at [] live = round_turn 1 0 live
listed_turn at (item ∷ rest) live =
    if is_among_live live item.hart then record { hart = item.hart; left = item.count; place = Listed (at + 1) }
    else listed_turn (at + 1) rest live

-- the live hart at the place that a number names
abbrev pub drawn_turn : ℕ → ℕ → List ℕ → Turn
drawn_turn x q live = record { hart = slice_index live (x / 65536 % length live); left = q; place = Drawn x q }

-- the next turn, from where the schedule is and which harts are live
abbrev pub next_turn : List Item → Place → List ℕ → Turn
next_turn items (Around q from) live = round_turn q from live
next_turn items (Listed at) live = listed_turn at (drop at items) live
next_turn items (Drawn x q) live = drawn_turn (drawn x) q live

-- the turn that the next step belongs to: the one before goes on while it has steps left and its hart is live
abbrev pub turn_of_step : List Item → Turn → List ℕ → Turn
turn_of_step items turn live =
    if nat_lt 0 turn.left && is_among_live live turn.hart then turn else next_turn items turn.place live

-- a turn after one of its steps
abbrev pub stepped : Turn → Turn
stepped turn = record { hart = turn.hart; left = turn.left - 1; place = turn.place }

-- the turn that is wanted, of a live hart, and none exactly where no hart is live
pub record IsTurnHere (harts : List Standing) (wanted turn : Turn) : Type 0 where
  pub turn_is : turn ≡ wanted
  pub live : live_harts harts ≢ []
  pub within : turn.hart < length harts

abbrev pub IsTurnOf : List Standing → Turn → Option Turn → Type 0
IsTurnOf harts wanted None = live_harts harts ≡ []
IsTurnOf harts wanted (Some turn) = IsTurnHere harts wanted turn
