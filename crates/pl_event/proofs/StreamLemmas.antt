-- Positions, one line after the other.
use Rattle.std.proofs.Common.{◌≡◌, ℕ, suc, ◌+◌, ◌<◌, List, [], ◌∷◌, ◌++◌, length, get_or, drop, refl, sym, ap, ◌∙◌, arith, append_assoc}
use Rattle.std.proofs.lemmas.Bool.{eq-eqb, ne_eqb}
use Rattle.std.proofs.lemmas.List.{drop_more}
use Rattle.pl_event.specs.declared.log.Line.{Line}
use Rattle.pl_event.specs.declared.log.Record.{Record}
use Rattle.pl_event.specs.Numbers.{positions_from, hart_of}

-- a record of the hart
positions-yes : (hart at : ℕ) (lines : List Line) (r : Record) → at < length lines → ((d : Line) → r ≡ (get_or lines at d).what) → hart_of r ≡ hart
    → positions_from hart at (drop at lines) ≡ at ∷ positions_from hart (at + 1) (drop (at + 1) lines)
positions-yes hart at lines r lt is same =
    let d : Line = record { what = r; arcs = [] } in
    let of_hart : hart_of (get_or lines at d).what ≡ hart = ap hart_of (sym (is d)) ∙ same in
    let one : suc at ≡ at + 1 = omega arith in
    ap (positions_from hart at) (drop_more lines at d lt) ∙ rw (eq-eqb _ _ of_hart, one) refl

-- a record of another
positions-no : (hart at : ℕ) (lines : List Line) (r : Record) → at < length lines → ((d : Line) → r ≡ (get_or lines at d).what) → (hart_of r ≡ hart → ⊥)
    → positions_from hart at (drop at lines) ≡ positions_from hart (at + 1) (drop (at + 1) lines)
positions-no hart at lines r lt is other =
    let d : Line = record { what = r; arcs = [] } in
    let of_other : hart_of (get_or lines at d).what ≡ hart → ⊥ = λ same. other (ap hart_of (is d) ∙ same) in
    let one : suc at ≡ at + 1 = omega arith in
    ap (positions_from hart at) (drop_more lines at d lt) ∙ rw (ne_eqb _ _ of_other, one) refl

-- the positions told so far, with one more
pub told-yes : (hart at : ℕ) (lines : List Line) (r : Record) (told whole : List ℕ) → at < length lines → ((d : Line) → r ≡ (get_or lines at d).what) → hart_of r ≡ hart
    → told ++ positions_from hart at (drop at lines) ≡ whole → (told ++ at ∷ []) ++ positions_from hart (at + 1) (drop (at + 1) lines) ≡ whole
told-yes hart at lines r told whole lt is same e =
    append_assoc told (at ∷ []) (positions_from hart (at + 1) (drop (at + 1) lines)) ∙ ap (λ (xs : List ℕ). told ++ xs) (sym (positions-yes hart at lines r lt is same)) ∙ e

pub told-no : (hart at : ℕ) (lines : List Line) (r : Record) (told whole : List ℕ) → at < length lines → ((d : Line) → r ≡ (get_or lines at d).what) → (hart_of r ≡ hart → ⊥)
    → told ++ positions_from hart at (drop at lines) ≡ whole → told ++ positions_from hart (at + 1) (drop (at + 1) lines) ≡ whole
told-no hart at lines r told whole lt is other e = ap (λ (xs : List ℕ). told ++ xs) (sym (positions-no hart at lines r lt is other)) ∙ e
