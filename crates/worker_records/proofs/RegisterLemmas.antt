-- The states of the registers that there are.
use Rattle.std.proofs.Common.{◌≡◌, ◌≢◌, ℕ, ◌<◌, ◌≤◌, Bool, true, false, eqb, nat_lt, refl, sym, ap, ◌∙◌, arith, if◌then◌else◌}
use mathlib.Core.Logic.{dite}
use mathlib.Core.Path.{fun_ext}
use native.Mathlib.Decide.{dec_lt}
use Rattle.std.proofs.lemmas.Bool.{ne_eqb}
use Rattle.inherit_track.specs.declared.state.Held.{Held}
use Rattle.inherit_track.specs.declared.state.RegState.{RegState}
use Rattle.inherit_track.specs.declared.state.RegState.TheVariants as reg
use Rattle.inherit_track.specs.States.{IsResolved, with_state}
use Rattle.worker_records.specs.Registers.{registers_of}

pub is_below : (r : ℕ) → r < 34 → nat_lt r 34 ≡ true
is_below r lt = grind arith

pub is_past : (r : ℕ) → (r < 34 → ⊥) → nat_lt r 34 ≡ false
is_past r n = let f : r < 34 → ⊥ = n in let l : 34 ≤ r = omega arith in grind arith

pub there : (states : ℕ → RegState) (r : ℕ) → r < 34 → registers_of states r ≡ states r
there states r lt = ap (λ (b : Bool). if b then states r else reg.Known 0) (is_below r lt)

pub past : (states : ℕ → RegState) (r : ℕ) → (r < 34 → ⊥) → registers_of states r ≡ reg.Known 0
past states r n = ap (λ (b : Bool). if b then states r else reg.Known 0) (is_past r n)

not_held : (P : Type 0) (s : Held) → reg.Known 0 ≡ reg.Held s → P
not_held P s e = absurd (cc)

-- a held register is one that there is
pub held_there : (states : ℕ → RegState) (r : ℕ) (s : Held) → registers_of states r ≡ reg.Held s → (r < 34) × (states r ≡ reg.Held s)
held_there states r s e = dite (dec_lt r 34)
    (λ lt. (lt, sym (there states r lt) ∙ e))
    (λ n. not_held _ s (sym (past states r n) ∙ e))

-- one register takes a state
pub put_there : (old new : ℕ → RegState) (rd : ℕ) (x : RegState) → rd < 34 → ((r : ℕ) → new r ≡ with_state old rd x r) → (r : ℕ) → registers_of new r ≡ with_state (registers_of old) rd x r
put_there old new rd x low each r = dite (dec_lt r 34)
    (λ lt. there new r lt ∙ (each r ∙ ap (λ (z : RegState). if eqb rd 0 then z else if eqb r rd then x else z) (sym (there old r lt))))
    (λ n. let f : r < 34 → ⊥ = n in
    let other : r ≢ rd = λ e. (let g : r ≡ rd = e in absurd (omega arith)) in
    past new r n ∙ sym (ap (λ (b : Bool). if eqb rd 0 then registers_of old r else if b then x else registers_of old r) (ne_eqb r rd other)
    ∙ (same (eqb rd 0) (registers_of old r) ∙ past old r n)))
  where
    same : (b : Bool) (z : RegState) → (if b then z else z) ≡ z
    same true z = refl
    same false z = refl

pub put_states : (old new : ℕ → RegState) (rd : ℕ) (x : RegState) → rd < 34 → ((r : ℕ) → new r ≡ with_state old rd x r) → registers_of new ≡ with_state (registers_of old) rd x
put_states old new rd x low each = fun_ext (put_there old new rd x low each)

-- a source is resolved
pub resolved_there : (from : Held) (mask : ℕ) (old new : ℕ → RegState) → IsResolved from mask old new → IsResolved from mask (registers_of old) (registers_of new)
resolved_there from mask old new is = record {
  known = λ r e. let h = held_there old r from e in there new r h.0 ∙ is.known r h.1;
  others = λ r n. dite (dec_lt r 34)
      (λ lt. there new r lt ∙ (is.others r (λ e. n (there old r lt ∙ e)) ∙ sym (there old r lt)))
      (λ f. past new r f ∙ sym (past old r f));
}
