-- The slots of one hart after a change to it or to another.
use Rattle.std.proofs.Common.{◌≡◌, ◌≢◌, ℕ, ◌<◌, ◌≤◌, List, [], map, length, get_or, set, slice_index, max, sym, ◌∙◌, ap, arith, get_or-set_same, get_or-set_other, Vec, Global}
use Rattle.std.proofs.lemmas.List.{map-set, length-map, get_or-map, get_or_past}
use Rattle.log_clocks.specs.Clocks.{slots_in}

abbrev items : Vec ℕ Global → List ℕ
items v = v.items

pub slots-here : (vs : List (Vec ℕ Global)) (i : ℕ) (v : Vec ℕ Global) → i < length vs → slots_in (set vs i v) i ≡ v.items
slots-here vs i v low = ap (λ (xs : List (List ℕ)). get_or xs i []) (map-set items vs i v) ∙ get_or-set_same (map items vs) i v.items [] (omega (arith, length-map vs items))

pub slots-other : (vs : List (Vec ℕ Global)) (i j : ℕ) (v : Vec ℕ Global) → j ≢ i → slots_in (set vs i v) j ≡ slots_in vs j
slots-other vs i j v other = ap (λ (xs : List (List ℕ)). get_or xs j []) (map-set items vs i v) ∙ get_or-set_other (map items vs) i j v.items [] other

pub slots-read : (vs : List (Vec ℕ Global)) (i : ℕ) (v : Vec ℕ Global) → i < length vs → v ≡ get_or vs i v → v.items ≡ slots_in vs i
slots-read vs i v low is = ap items is ∙ sym (get_or-map items vs i v [] low)

-- past the end both are 0
pub raised_past : (old by : List ℕ) (n u : ℕ) → length old ≡ n → length by ≡ n → n ≤ u → slice_index old u ≡ max (slice_index old u) (slice_index by u)
raised_past old by n u a b l =
    let p : get_or old u 0 ≡ 0 = get_or_past old u 0 (omega arith) in
    let q : get_or by u 0 ≡ 0 = get_or_past by u 0 (omega arith) in
    omega arith
