-- The turn that a machine keeps is the one that the schedule names from the turns so far.
use Rattle.std.proofs.Common.{◌≡◌, ◌≢◌, ◌==◌, ℕ, zero, suc, ◌+◌, ◌-◌, ◌&&◌, ◌⊎◌, inl, inr, Bool, true, false, List, [], ◌∷◌, length, drop, find, nat_lt, get_or, Option, Some, None, refl, arith, sym, ap, ◌∙◌, subst, add-one}
use Rattle.std.specs.List.{list_any}
use Rattle.std.proofs.lemmas.Bool.{cases_Bool, cases_lt, both_ways, eq-eqb, ne_eqb, le-leb, lt-ltb, le-ltb}
use Rattle.core_sim.specs.declared.job.Item.{Item}
use Rattle.core_sim.specs.declared.job.Job.{Job}
use Rattle.core_sim.specs.declared.job.Schedule.{Schedule}
use Rattle.core_sim.specs.declared.job.Schedule.TheVariants as schedule
use Rattle.core_sim.specs.declared.turn.Place.{Place}
use Rattle.core_sim.specs.declared.turn.Place.TheVariants.{Around, Listed, Drawn}
use Rattle.core_sim.specs.declared.turn.Turn.{Turn}
use Rattle.core_sim.specs.Entries.{Entry, harts_after, turns_of, scheduled}
use Rattle.core_sim.specs.Harts.{live_harts, is_among_live}
use Rattle.core_sim.specs.Runs.{IsPrefix, IsLive}
use Rattle.core_sim.specs.Draws.{drawn, drawn_after}
use Rattle.core_sim.specs.Schedules.{items_of, first_place, first_live, round_turn, listed_turn, next_turn, turn_of_step, stepped}
use Rattle.core_sim.specs.Stands.{turn_after}
use Rattle.core_sim.specs.Turns.{Turned, begun, round_hart, behind_item, items_left, behind_list, next_item, listed, drawn_hart, next_begun, goes_on, harts_of, with_current, one_more, latest_hart}

-- round and round
abbrev round_from : List ℕ → ℕ
round_from [] = 0
round_from (latest ∷ past) = latest + 1

first_is : (live : List ℕ) → first_live 0 live ≡ get_or live 0 0
first_is [] = refl
first_is (x ∷ xs) = rw (le-leb 0 x (omega arith)) refl

rounds_same : (past live : List ℕ) → first_live (round_from past) live ≡ round_hart past live
rounds_same [] live = first_is live
rounds_same (latest ∷ past) live = rw add-one refl

-- by a list: the first item of a live hart
abbrev live_item : List ℕ → Item → Bool
live_item live item = is_among_live live item.hart

abbrev of_hart : ℕ → Item → Bool
of_hart hart item = item.hart == hart

record TakesItem (all rest : List Item) (live : List ℕ) (turn : Turn) : Type 0 where
  item : Item
  at : ℕ
  found : find (live_item live) rest ≡ Some item
  turn_is : turn ≡ record { hart = item.hart; left = item.count; place = Listed at }
  live_one : is_among_live live item.hart ≡ true
  behind : behind_item item.hart rest ≡ drop at all
  there : list_any (of_hart item.hart) rest ≡ true

record PassesAll (rest : List Item) (live : List ℕ) (turn : Turn) : Type 0 where
  found : find (live_item live) rest ≡ None
  turn_is : turn ≡ round_turn 1 0 live
  behind : (hart : ℕ) → is_among_live live hart ≡ true → behind_item hart rest ≡ []
  there : (hart : ℕ) → is_among_live live hart ≡ true → list_any (of_hart hart) rest ≡ false

tail_of_drop : (at : ℕ) (all : List Item) (item : Item) (rest : List Item) → item ∷ rest ≡ drop at all → rest ≡ drop (suc at) all
tail_of_drop zero all item rest is = let e : drop 1 (item ∷ rest) ≡ drop 1 all = ap (drop 1) is in e
tail_of_drop (suc at) [] item rest is = absurd (cc)
tail_of_drop (suc at) (x ∷ all) item rest is = tail_of_drop at all item rest is

other_hart : (live : List ℕ) (a b : ℕ) → is_among_live live a ≡ false → is_among_live live b ≡ true → (a == b) ≡ false
other_hart live a b over holds = ne_eqb a b (λ same. both_ways _ over (ap (is_among_live live) same ∙ holds))

items_same : (all : List Item) (at : ℕ) (rest : List Item) (live : List ℕ) → rest ≡ drop at all →
    TakesItem all rest live (listed_turn at rest live) ⊎ PassesAll rest live (listed_turn at rest live)
items_same all at [] live is = inr (record { found = refl; turn_is = refl; behind = λ hart holds. refl; there = λ hart holds. refl })
items_same all at (item ∷ rest) live is =
    let deeper : rest ≡ drop (at + 1) all = rw add-one (tail_of_drop at all item rest is) in
    elim (cases_Bool (is_among_live live item.hart)) [
      | inl holds ↦
          let here : (item.hart == item.hart) ≡ true = eq-eqb item.hart item.hart refl in
          inl (record {
            item = item;
            at = at + 1;
            found = rw holds refl;
            turn_is = rw holds refl;
            live_one = holds;
            behind = rw here deeper;
            there = rw here refl;
          })
      | inr over ↦ elim (items_same all (at + 1) rest live deeper) [
        | inl t ↦
            let other : (item.hart == t.item.hart) ≡ false = other_hart live item.hart t.item.hart over t.live_one in
            inl (record {
              item = t.item;
              at = t.at;
              found = rw over t.found;
              turn_is = rw over t.turn_is;
              live_one = t.live_one;
              behind = rw other t.behind;
              there = rw other t.there;
            })
        | inr p ↦ inr (record {
          found = rw over p.found;
          turn_is = rw over p.turn_is;
          behind = λ hart holds. (let other : (item.hart == hart) ≡ false = other_hart live item.hart hart over holds in rw other (p.behind hart holds));
          there = λ hart holds. (let other : (item.hart == hart) ≡ false = other_hart live item.hart hart over holds in rw other (p.there hart holds));
        })
      ]
    ]

-- where the list is after some turns: at an item, or after the list
record OnList (items : List Item) (past : List ℕ) (place : Place) : Type 0 where
  at : ℕ
  place_is : place ≡ Listed at
  left : items_left items past ≡ drop at items
  none_behind : behind_list items past ≡ []

record BehindList (items : List Item) (past : List ℕ) (place : Place) : Type 0 where
  place_is : place ≡ Around 1 (round_from (behind_list items past))
  left : items_left items past ≡ []

-- the place of a schedule after some turns
abbrev Placed : Schedule → List ℕ → Place → Type 0
Placed (schedule.Rr q) past place = place ≡ Around q (round_from past)
Placed (schedule.List items) past place = OnList items past place ⊎ BehindList items past place
Placed (schedule.Seed n q) past place = place ≡ Drawn (drawn_after n (length past)) q

-- a turn that is begun on both sides
record Begins (s : Schedule) (past : List ℕ) (plain : Turned) (turn : Turn) : Type 0 where
  hart : turn.hart ≡ plain.hart
  left : turn.left ≡ plain.given
  taken : plain.taken ≡ 0
  placed : Placed s (plain.hart ∷ past) turn.place

first_among : (live : List ℕ) → live ≢ [] → is_among_live live (get_or live 0 0) ≡ true
first_among [] some = absurd (some refl)
first_among (x ∷ xs) some = let here : (x == x) ≡ true = eq-eqb x x refl in rw here refl

-- after the list turns of one step begin, or go on
rounds_begin : (items : List Item) (past live : List ℕ) (from : ℕ) → first_live from live ≡ round_hart (behind_list items past) live →
    next_item items past live ≡ None → list_any (of_hart (round_hart (behind_list items past) live)) (items_left items past) ≡ false →
    behind_item (round_hart (behind_list items past) live) (items_left items past) ≡ [] →
    Begins (schedule.List items) past (next_begun (schedule.List items) past live) (round_turn 1 from live)
rounds_begin items past live from hart_is none over left_is =
    let hart = round_hart (behind_list items past) live in
    let plain_is : next_begun (schedule.List items) past live ≡ begun hart 1 = ap (λ (found : Option Item). listed found (behind_list items past) live) none in
    let behind_is : behind_list items (hart ∷ past) ≡ hart ∷ behind_list items past = rw over refl in
    subst (λ (plain : Turned). Begins (schedule.List items) past plain (round_turn 1 from live)) (sym plain_is) (record {
      hart = hart_is;
      left = refl;
      taken = refl;
      placed = inr (record {
        place_is = ap (λ (h : ℕ). Around 1 (h + 1)) hart_is ∙ sym (ap (λ (behind : List ℕ). Around 1 (round_from behind)) behind_is);
        left = left_is;
      });
    })

-- an item begins, or the first turn after the list
item_begins : (items : List Item) (past live : List ℕ) (at : ℕ) → live ≢ [] → items_left items past ≡ drop at items → behind_list items past ≡ [] →
    Begins (schedule.List items) past (next_begun (schedule.List items) past live) (listed_turn at (drop at items) live)
item_begins items past live at some left none_behind = elim (items_same items at (drop at items) live refl) [
  | inl t ↦
      let found : next_item items past live ≡ Some t.item = ap (find (live_item live)) left ∙ t.found in
      let plain_is : next_begun (schedule.List items) past live ≡ begun t.item.hart t.item.count = ap (λ (o : Option Item). listed o (behind_list items past) live) found in
      let there : list_any (of_hart t.item.hart) (items_left items past) ≡ true = ap (list_any (of_hart t.item.hart)) left ∙ t.there in
      let turn : Turn = record { hart = t.item.hart; left = t.item.count; place = Listed t.at } in
      let begins : Begins (schedule.List items) past (begun t.item.hart t.item.count) turn = record {
        hart = refl;
        left = refl;
        taken = refl;
        placed = inl (record { at = t.at; place_is = refl; left = ap (behind_item t.item.hart) left ∙ t.behind; none_behind = rw there refl });
      } in
      subst (λ (plain : Turned). Begins (schedule.List items) past plain (listed_turn at (drop at items) live)) (sym plain_is)
      (subst (λ (u : Turn). Begins (schedule.List items) past (begun t.item.hart t.item.count) u) (sym t.turn_is) begins)
  | inr p ↦
      let none : next_item items past live ≡ None = ap (find (live_item live)) left ∙ p.found in
      let hart_is : round_hart (behind_list items past) live ≡ get_or live 0 0 = ap (λ (behind : List ℕ). round_hart behind live) none_behind in
      let holds : is_among_live live (round_hart (behind_list items past) live) ≡ true = ap (is_among_live live) hart_is ∙ first_among live some in
      let over : list_any (of_hart (round_hart (behind_list items past) live)) (items_left items past) ≡ false =
      ap (list_any (of_hart (round_hart (behind_list items past) live))) left ∙ p.there (round_hart (behind_list items past) live) holds in
      let left_is : behind_item (round_hart (behind_list items past) live) (items_left items past) ≡ [] =
      ap (behind_item (round_hart (behind_list items past) live)) left ∙ p.behind (round_hart (behind_list items past) live) holds in
      subst (λ (u : Turn). Begins (schedule.List items) past (next_begun (schedule.List items) past live) u) (sym p.turn_is)
      (rounds_begin items past live 0 (first_is live ∙ sym hart_is) none over left_is)
]

list_begins : (items : List Item) (past live : List ℕ) (place : Place) → live ≢ [] → (OnList items past place ⊎ BehindList items past place) →
    Begins (schedule.List items) past (next_begun (schedule.List items) past live) (next_turn items place live)
list_begins items past live place some placed = elim placed [
  | inl o ↦
      subst (λ (p : Place). Begins (schedule.List items) past (next_begun (schedule.List items) past live) (next_turn items p live)) (sym o.place_is)
      (item_begins items past live o.at some o.left o.none_behind)
  | inr b ↦
      let behind = behind_list items past in
      let hart = round_hart (behind_list items past) live in
      subst (λ (p : Place). Begins (schedule.List items) past (next_begun (schedule.List items) past live) (next_turn items p live)) (sym b.place_is)
      (rounds_begin items past live (round_from (behind_list items past)) (rounds_same (behind_list items past) live) (ap (find (live_item live)) b.left)
      (ap (list_any (of_hart (round_hart (behind_list items past) live))) b.left) (ap (behind_item (round_hart (behind_list items past) live)) b.left))
]

next_begins : (s : Schedule) (past live : List ℕ) (place : Place) → live ≢ [] → Placed s past place → Begins s past (next_begun s past live) (next_turn (items_of s) place live)
next_begins (schedule.Rr q) past live place some placed =
    subst (λ (p : Place). Begins (schedule.Rr q) past (next_begun (schedule.Rr q) past live) (next_turn [] p live)) (sym placed)
    (record { hart = rounds_same past live; left = refl; taken = refl; placed = ap (λ (h : ℕ). Around q (h + 1)) (rounds_same past live) })
next_begins (schedule.List items) past live place some placed = list_begins items past live place some placed
next_begins (schedule.Seed n q) past live place some placed =
    let next_is : drawn_after n (length past + 1) ≡ drawn (drawn_after n (length past)) = rw add-one refl in
    subst (λ (p : Place). Begins (schedule.Seed n q) past (next_begun (schedule.Seed n q) past live) (next_turn [] p live)) (sym placed)
    (record { hart = ap (λ (x : ℕ). drawn_hart x live) (sym next_is); left = refl; taken = refl; placed = refl })

-- how many steps are left of the latest turn
abbrev steps_left : List Turned → ℕ
steps_left [] = 0
steps_left (turn ∷ before) = turn.given - turn.taken

-- the turn that is kept is the latest one
record Same (s : Schedule) (turns : List Turned) (turn : Turn) : Type 0 where
  hart : turn.hart ≡ latest_hart turns
  left : turn.left ≡ steps_left turns
  placed : Placed s (harts_of turns) turn.place

lt_less : (a b : ℕ) → nat_lt 0 (b - a) ≡ nat_lt a b
lt_less a b = elim (cases_lt a b) [
  | inl below ↦ lt-ltb 0 (b - a) (omega arith) ∙ sym (lt-ltb a b below)
  | inr above ↦ le-ltb 0 (b - a) (omega arith) ∙ sym (le-ltb a b above)
]

goes_same : (turns : List Turned) (turn : Turn) (live : List ℕ) → turn.hart ≡ latest_hart turns → turn.left ≡ steps_left turns →
    (nat_lt 0 turn.left && is_among_live live turn.hart) ≡ goes_on turns live
goes_same [] turn live hart left = rw left refl
goes_same (t ∷ before) turn live hart left = rw (hart, left) (ap (λ (b : Bool). b && is_among_live live t.hart) (lt_less t.taken t.given))

of_begins : (s : Schedule) (turns : List Turned) (plain : Turned) (turn : Turn) → Begins s (harts_of turns) plain turn → Same s (plain ∷ turns) turn
of_begins s turns plain turn b = record { hart = b.hart; left = omega (arith, b.left, b.taken); placed = b.placed }

here_same : (s : Schedule) (turns : List Turned) (turn : Turn) (live : List ℕ) → live ≢ [] → Same s turns turn →
    Same s (with_current s turns live) (turn_of_step (items_of s) turn live)
here_same s turns turn live some same =
    let goes = goes_same turns turn live same.hart same.left in
    elim (cases_Bool (goes_on turns live)) [
      | inl holds ↦
          let keeps : (nat_lt 0 turn.left && is_among_live live turn.hart) ≡ true = goes ∙ holds in
          rw (holds, keeps) same
      | inr over ↦
          let ends : (nat_lt 0 turn.left && is_among_live live turn.hart) ≡ false = goes ∙ over in
          rw (over, ends) (of_begins s turns (next_begun s (harts_of turns) live) (next_turn (items_of s) turn.place live) (next_begins s (harts_of turns) live turn.place some same.placed))
    ]

more_same : (s : Schedule) (turns : List Turned) (turn : Turn) → Same s turns turn → Same s (one_more turns) (stepped turn)
more_same s [] turn same = record { hart = same.hart; left = omega (arith, same.left); placed = same.placed }
more_same s (t ∷ before) turn same = record { hart = same.hart; left = omega (arith, same.left); placed = same.placed }

start_placed : (s : Schedule) → Placed s [] (first_place s)
start_placed (schedule.Rr q) = refl
start_placed (schedule.List items) = inl (record { at = 0; place_is = refl; left = refl; none_behind = refl })
start_placed (schedule.Seed n q) = refl

turns_same : (job : Job) (entries : List Entry) → IsPrefix job entries → Same job.schedule (turns_of job entries) (turn_after job entries)
turns_same job [] prefix = record { hart = refl; left = refl; placed = start_placed job.schedule }
turns_same job (e ∷ before) prefix =
    more_same job.schedule (with_current job.schedule (turns_of job before) (live_harts (harts_after job before))) (turn_of_step (items_of job.schedule) (turn_after job before) (live_harts (harts_after job before)))
    (here_same job.schedule (turns_of job before) (turn_after job before) (live_harts (harts_after job before)) prefix.1.live (turns_same job before prefix.0))

-- after a prefix of a run, the turn of a machine's next step is of the hart that the schedule names
pub same_hart : (job : Job) (entries : List Entry) → IsPrefix job entries → IsLive job entries →
    (turn_of_step (items_of job.schedule) (turn_after job entries) (live_harts (harts_after job entries))).hart ≡ scheduled job entries
same_hart job entries prefix live =
    (here_same job.schedule (turns_of job entries) (turn_after job entries) (live_harts (harts_after job entries)) live (turns_same job entries prefix)).hart
