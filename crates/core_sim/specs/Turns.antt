-- Which hart a schedule names next: a function of the turns that were begun so far and of which harts are live.
use Rattle.std.specs.Prelude.{ℕ, ◌+◌, ◌/◌, ◌%◌, ◌==◌, ◌&&◌, Bool, false, nat_lt, if◌then◌else◌, List, [], ◌∷◌, Option, Some, None, length, map, find, unwrap_or, slice_index}
use Rattle.std.specs.List.{list_any}
use Rattle.core_sim.specs.declared.job.Item.{Item}
use Rattle.core_sim.specs.declared.job.Schedule.{Schedule}
use Rattle.core_sim.specs.declared.job.Schedule.TheVariants as schedule
use Rattle.core_sim.specs.Draws.{drawn_after}
use Rattle.core_sim.specs.Harts.{is_among_live}

-- a turn: its hart, how many steps it was given, and how many of them were taken
pub record Turned : Type 0 where
  pub hart : ℕ
  pub given : ℕ
  pub taken : ℕ

-- a turn of so many steps, none of them taken
abbrev pub begun : ℕ → ℕ → Turned
begun hart steps = record { hart = hart; given = steps; taken = 0 }

-- In what follows, `past` has the harts of the turns that were begun, the latest first, and `live` the live harts,
-- rising.

-- round and round: the first live hart above the one of the latest turn, and else the first live one
abbrev pub round_hart : List ℕ → List ℕ → ℕ
round_hart [] live = slice_index live 0
round_hart (latest ∷ past) live = unwrap_or (find (λ hart. nat_lt latest hart) live) (slice_index live 0)

-- the items after the first one of a hart
abbrev pub behind_item : ℕ → List Item → List Item
behind_item hart [] = []
behind_item hart (item ∷ items) = if item.hart == hart then items else behind_item hart items

-- the items of a list that the turns left: each turn used up the first item of its hart that was left; those before
-- that one were passed over
abbrev pub items_left : List Item → List ℕ → List Item
items_left items [] = items
items_left items (latest ∷ past) = behind_item latest (items_left items past)

-- the turns after the list: those for whose hart no item was left
abbrev pub behind_list : List Item → List ℕ → List ℕ
behind_list items [] = []
behind_list items (latest ∷ past) =
    if list_any (λ item. item.hart == latest) (items_left items past) then [] else latest ∷ behind_list items past

-- the first item that is left of a live hart
abbrev pub next_item : List Item → List ℕ → List ℕ → Option Item
next_item items past live = find (λ item. is_among_live live item.hart) (items_left items past)

-- the turn of that item; where there is none, one of one step, round and round over the turns after the list
abbrev pub listed : Option Item → List ℕ → List ℕ → Turned
listed (Some item) behind live = begun item.hart item.count
listed None behind live = begun (round_hart behind live) 1

-- the live hart at the place that a number names
abbrev pub drawn_hart : ℕ → List ℕ → ℕ
drawn_hart x live = slice_index live (x / 65536 % length live)

-- the turn that is begun next
abbrev pub next_begun : Schedule → List ℕ → List ℕ → Turned
next_begun (schedule.Rr q) past live = begun (round_hart past live) q
next_begun (schedule.List items) past live = listed (next_item items past live) (behind_list items past) live
next_begun (schedule.Seed n q) past live = begun (drawn_hart (drawn_after n (length past + 1)) live) q

-- steps are left of the latest turn, and its hart is live
abbrev pub goes_on : List Turned → List ℕ → Bool
goes_on [] live = false
goes_on (turn ∷ before) live = nat_lt turn.taken turn.given && is_among_live live turn.hart

abbrev pub harts_of : List Turned → List ℕ
harts_of turns = map (λ turn. turn.hart) turns

-- the turns, the one with which the next step is taken first
abbrev pub with_current : Schedule → List Turned → List ℕ → List Turned
with_current schedule turns live =
    if goes_on turns live then turns else next_begun schedule (harts_of turns) live ∷ turns

-- the turns after one more step of the latest one
abbrev pub one_more : List Turned → List Turned
one_more [] = []
one_more (turn ∷ before) = record turn { taken = turn.taken + 1 } ∷ before

abbrev pub latest_hart : List Turned → ℕ
latest_hart [] = 0
latest_hart (turn ∷ before) = turn.hart
