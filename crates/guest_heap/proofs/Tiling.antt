-- How holes and blocks tile the heap, as blocks are taken and freed.
use Rattle.std.proofs.Common.{◌≡◌, ◌≢◌, ℕ, ◌+◌, ◌-◌, ◌*◌, ◌/◌, ◌<◌, ◌≤◌, ◌⊎◌, inl, inr, List, [], ◌∷◌, length, get_or, set, replicate, arith, sym, ap, ◌∙◌, subst}
use Rattle.std.proofs.lemmas.Bool.{cases_lt, cases_eq}
use Rattle.std.proofs.lemmas.List.{length-set, length-replicate, get_or-set_same, get_or-set_other}
use Rattle.guest_heap.specs.declared.holes.Hole.{Hole}
use Rattle.guest_heap.specs.Blocks.{IsLive}
use Rattle.guest_heap.specs.FirstFit.{IsPlace, IsFirstFit}
use Rattle.guest_heap.specs.Holes.{In, AllIn, Loses, Gains}
use Rattle.guest_heap.specs.Tiled.{units, Takes, IsTiled}
use Rattle.guest_heap.proofs.Blocks.{asked_at, asked_live, size_of_some, zero_everywhere}

-- other blocks take what they took
pub takes_other : (sizes : List ℕ) (changed size block unit : ℕ) → block ≢ changed → Takes (set sizes changed size) block unit → Takes sizes block unit
takes_other sizes changed size block unit other takes =
    let same = get_or-set_other sizes changed block size 0 other in
    record { live = omega (arith, takes.live, same); from = takes.from; before = omega (arith, takes.before, same, ap units same) }

pub takes_kept : (sizes : List ℕ) (changed size block unit : ℕ) → block ≢ changed → Takes sizes block unit → Takes (set sizes changed size) block unit
takes_kept sizes changed size block unit other takes =
    let same = get_or-set_other sizes changed block size 0 other in
    record { live = omega (arith, takes.live, same); from = takes.from; before = omega (arith, takes.before, same, ap units same) }

pub takes_changed : (sizes : List ℕ) (changed size block unit : ℕ) → changed < length sizes → block ≡ changed → Takes (set sizes changed size) block unit → (0 < size) × (changed ≤ unit) × (unit < changed + units size)
takes_changed sizes changed size block unit within is takes =
    let same : get_or (set sizes changed size) block 0 ≡ size = ap (λ k. get_or (set sizes changed size) k 0) is ∙ get_or-set_same sizes changed size 0 within in
    (omega (arith, takes.live, same), omega (arith, takes.from, is), omega (arith, takes.before, same, ap units same, is))

pub takes_new : (sizes : List ℕ) (changed size unit : ℕ) → changed < length sizes → 0 < size → changed ≤ unit → unit < changed + units size → Takes (set sizes changed size) changed unit
takes_new sizes changed size unit within some from before =
    let same : get_or (set sizes changed size) changed 0 ≡ size = get_or-set_same sizes changed size 0 within in
    record { live = omega (arith, some, same); from = from; before = omega (arith, before, same, ap units same) }

-- a live block takes the unit where it starts
pub takes_start : (sizes : List ℕ) (block : ℕ) → 0 < get_or sizes block 0 → Takes sizes block block
takes_start sizes block live = record { live = live; from = omega arith; before = omega arith }

pub tiled_new : (sizes : List ℕ) (holes : List Hole) (n : ℕ) → sizes ≡ replicate n 0 → n ≡ 65536 → holes ≡ (record { start = 0; end = 65536 }) ∷ [] → IsTiled sizes holes
tiled_new sizes holes n empty is one =
    let free : (block unit : ℕ) → Takes sizes block unit → ⊥ = λ block unit takes. omega (arith, takes.live, zero_everywhere sizes n block empty) in
    rw one record {
      all_units = ap length empty ∙ length-replicate n 0 ∙ is;
      apart = (omega arith, omega arith, tt);
      in_heap = λ unit is_in. elim is_in [ inl here ↦ here.1 | inr later ↦ elim later [ ] ];
      blocks_fit = λ block unit takes. absurd (free block unit takes);
      one_block = λ block other unit takes. absurd (free block unit takes);
      no_block = λ block unit is_in takes. free block unit takes;
      covered = λ unit below none. inl (omega arith, below);
    }

-- after a block was taken where its units were free
pub tiled_take : (sizes : List ℕ) (holes new : List Hole) (start size need : ℕ) → IsTiled sizes holes → need ≡ units size → 0 < size →
    AllIn holes start need → Loses holes new start need → IsTiled (set sizes start size) new
tiled_take sizes holes new start size need was is some all loses =
    let first : In holes start = all start (omega arith) (omega arith) in
    let within : start < length sizes = omega (arith, was.in_heap start first, was.all_units) in
    let idle : (unit : ℕ) → Takes sizes start unit → ⊥ = λ unit takes. was.no_block start start first (takes_start sizes start takes.live) in
    record {
      all_units = length-set sizes start size ∙ was.all_units;
      apart = loses.apart;
      in_heap = λ unit is_in. was.in_heap unit (loses.only unit is_in);
      blocks_fit = λ block unit takes. elim (cases_eq block start) [
        | inl same ↦ let known = takes_changed sizes start size block unit within same takes in was.in_heap unit (all unit known.1 (omega (arith, known.2, is)))
        | inr other ↦ was.blocks_fit block unit (takes_other sizes start size block unit other takes)
      ];
      one_block = λ block second unit takes also. elim (cases_eq block start) [
        | inl same ↦ elim (cases_eq second start) [
          | inl again ↦ same ∙ sym again
          | inr other ↦
              let known = takes_changed sizes start size block unit within same takes in
              absurd (was.no_block second unit (all unit known.1 (omega (arith, known.2, is))) (takes_other sizes start size second unit other also))
        ]
        | inr other ↦ elim (cases_eq second start) [
          | inl same ↦
              let known = takes_changed sizes start size second unit within same also in
              absurd (was.no_block block unit (all unit known.1 (omega (arith, known.2, is))) (takes_other sizes start size block unit other takes))
          | inr apart ↦ was.one_block block second unit (takes_other sizes start size block unit other takes) (takes_other sizes start size second unit apart also)
        ]
      ];
      no_block = λ block unit is_in takes. elim (cases_eq block start) [
        | inl same ↦ let known = takes_changed sizes start size block unit within same takes in loses.gone unit is_in known.1 (omega (arith, known.2, is))
        | inr other ↦ was.no_block block unit (loses.only unit is_in) (takes_other sizes start size block unit other takes)
      ];
      covered = λ unit below none.
          let out : (unit < start) ⊎ (start + need ≤ unit) =
          elim (cases_lt unit start) [
            | inl early ↦ inl early
            | inr from ↦ elim (cases_lt unit (start + need)) [
              | inl under ↦ absurd (none start (takes_new sizes start size unit within some from (omega (arith, under, is))))
              | inr past ↦ inr past
            ]
          ] in
          loses.kept unit (was.covered unit below (λ block takes. elim (cases_eq block start) [
            | inl same ↦ idle unit (subst (λ b. Takes sizes b unit) same takes)
            | inr other ↦ none block (takes_kept sizes start size block unit other takes)
          ])) out;
    }

-- after a live block was freed
pub tiled_give : (sizes : List ℕ) (holes new : List Hole) (start end : ℕ) → IsTiled sizes holes → 0 < get_or sizes start 0 → end ≡ start + units (get_or sizes start 0) →
    Gains holes new start end → IsTiled (set sizes start 0) new
tiled_give sizes holes new start end was live is gains =
    let within : start < length sizes = omega (arith, was.blocks_fit start start (takes_start sizes start live), was.all_units) in
    let takes_it : (unit : ℕ) → start ≤ unit → unit < end → Takes sizes start unit = λ unit from before. record { live = live; from = from; before = omega (arith, before, is) } in
    let idle : (block unit : ℕ) → block ≡ start → Takes (set sizes start 0) block unit → ⊥ = λ block unit same takes. omega (arith, (takes_changed sizes start 0 block unit within same takes).0) in
    record {
      all_units = length-set sizes start 0 ∙ was.all_units;
      apart = gains.apart;
      in_heap = λ unit is_in. elim (gains.only unit is_in) [
        | inl before ↦ was.in_heap unit before
        | inr added ↦ was.blocks_fit start unit (takes_it unit added.0 added.1)
      ];
      blocks_fit = λ block unit takes. elim (cases_eq block start) [
        | inl same ↦ absurd (idle block unit same takes)
        | inr other ↦ was.blocks_fit block unit (takes_other sizes start 0 block unit other takes)
      ];
      one_block = λ block second unit takes also. elim (cases_eq block start) [
        | inl same ↦ absurd (idle block unit same takes)
        | inr other ↦ elim (cases_eq second start) [
          | inl same ↦ absurd (idle second unit same also)
          | inr apart ↦ was.one_block block second unit (takes_other sizes start 0 block unit other takes) (takes_other sizes start 0 second unit apart also)
        ]
      ];
      no_block = λ block unit is_in takes. elim (cases_eq block start) [
        | inl same ↦ idle block unit same takes
        | inr other ↦
            let old = takes_other sizes start 0 block unit other takes in
            elim (gains.only unit is_in) [
              | inl before ↦ was.no_block block unit before old
              | inr added ↦ other (was.one_block block start unit old (takes_it unit added.0 added.1))
            ]
      ];
      covered = λ unit below none.
          elim (cases_lt unit start) [
            | inl early ↦ gains.kept unit (was.covered unit below (λ block takes. elim (cases_eq block start) [
              | inl same ↦ omega (arith, takes.from, same, early)
              | inr other ↦ none block (takes_kept sizes start 0 block unit other takes)
            ]))
            | inr from ↦ elim (cases_lt unit end) [
              | inl under ↦ gains.added unit from under
              | inr past ↦ gains.kept unit (was.covered unit below (λ block takes. elim (cases_eq block start) [
                | inl same ↦ let here : Takes sizes start unit = subst (λ b. Takes sizes b unit) same takes in omega (arith, here.before, is, past)
                | inr other ↦ none block (takes_kept sizes start 0 block unit other takes)
              ]))
            ]
          ];
    }

-- none of the units of a live block is free
pub none_free : (sizes : List ℕ) (holes : List Hole) (start end : ℕ) → IsTiled sizes holes → 0 < get_or sizes start 0 → end ≡ start + units (get_or sizes start 0) →
    (unit : ℕ) → start ≤ unit → unit < end → In holes unit → ⊥
none_free sizes holes start end was live is unit from before is_in = was.no_block start unit is_in (record { live = live; from = from; before = omega (arith, before, is) })

-- a place for a block is free units in a row
pub place_units : (sizes : List ℕ) (holes : List Hole) (size at : ℕ) → IsTiled sizes holes → IsPlace (IsLive sizes) size at → AllIn holes ((at - 4194304) / 16) (units size)
place_units sizes holes size at was place = λ unit from before.
    let aligned = place.aligned in
    let low = place.from in
    let high = place.within in
    was.covered unit (omega arith) (λ block takes.
    let its = get_or sizes block 0 in
    let above = takes.from in
    let under = takes.before in
    place.clear (4194304 + 16 * block) its (asked_at sizes block ∙ size_of_some its takes.live) (omega arith, omega arith))

-- the lowest free units in a row are the lowest place
pub first_place : (sizes : List ℕ) (holes : List Hole) (size unit need at : ℕ) → IsTiled sizes holes → need ≡ units size → 0 < size → at ≡ 4194304 + 16 * unit →
    AllIn holes unit need → ((other : ℕ) → AllIn holes other need → unit ≤ other) → IsFirstFit (IsLive sizes) size at
first_place sizes holes size unit need at was is some at_is all lowest = record {
  place = record {
    aligned = omega arith;
    from = omega arith;
    within = let last = was.in_heap (unit + need - 1) (all (unit + need - 1) (omega arith) (omega arith)) in omega arith;
    clear = λ other other_size live meet.
        let known = asked_live sizes other other_size live in
        let block = (other - 4194304) / 16 in
        let its : 0 < get_or sizes block 0 = omega (arith, known.2, known.3) in
        let covers : units (get_or sizes block 0) ≡ units other_size = ap units known.2 in
        let meets = meet.0 in
        let met = meet.1 in
        let even = known.1 in
        let low = known.0 in
        elim (cases_lt unit block) [
          | inl under ↦ was.no_block block block (all block (omega arith) (omega arith)) (takes_start sizes block its)
          | inr over ↦ was.no_block block unit (all unit (omega arith) (omega arith)) (record { live = its; from = over; before = omega arith })
        ];
  };
  lowest = λ lower below place.
      let least = lowest ((lower - 4194304) / 16) (subst (λ n. AllIn holes ((lower - 4194304) / 16) n) (sym is) (place_units sizes holes size lower was place)) in
      omega (arith, least, below, at_is, place.from, place.aligned);
}
