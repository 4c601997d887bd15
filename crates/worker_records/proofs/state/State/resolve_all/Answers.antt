use Rattle.std.proofs.Common.{rules, ◌≡◌, ℕ, ◌+◌, ◌<◌, None, refl, sym, ap, ◌∙◌, subst, arith}
use mathlib.Core.Logic.{dite}
use native.Mathlib.Decide.{ℕ_discrete}
use Rattle.guard_table.specs.declared.view.View.{View}
use Rattle.guard_table.specs.Seats.{seat_view}
use Rattle.inherit_track.specs.declared.state.Held.{Held}
use Rattle.inherit_track.specs.declared.state.RegState.{RegState}
use Rattle.inherit_track.specs.declared.state.RegState.TheVariants as reg
use Rattle.inherit_track.specs.States.{state_in}
use Rattle.worker_records.specs.declared.state.State.{State}
use Rattle.worker_records.specs.Registers.{KeepsKnown}
use Rattle.worker_records.specs.States.{IsKept}
use Rattle.worker_records.proofs.RegisterLemmas.{held_there}
use Rattle.worker_records.proofs.state.State.resolve_all.Goals as goal

known_not : (P : Type 0) (mask : ℕ) (s : Held) → reg.Known mask ≡ reg.Held s → P
known_not P mask s e = absurd (cc)

one_more : (r : ℕ) (old new : ℕ → RegState) (mask : ℕ) → KeepsKnown old new → new r ≡ reg.Known mask → ((q : ℕ) → q < r → (m : ℕ) × (old q ≡ reg.Known m)) → (q : ℕ) → q < r + 1 → (m : ℕ) × (new q ≡ reg.Known m)
one_more r old new mask keeps here each q lt = dite (ℕ_discrete q r)
    (λ e. (mask, ap new e ∙ here))
    (λ ne. let o : q ≡ r → ⊥ = ne in let t = each q (omega arith) in (t.0, keeps q t.0 t.1))

pub mask_of-requires-clause-at : goal.mask_of-requires-clause-at
mask_of-requires-clause-at g c = c.loop-r.invariant.at

pub mask_of-requires-clause-kept : goal.mask_of-requires-clause-kept
mask_of-requires-clause-kept g c = subst (λ (z : View). IsKept (g.L.Lifeguard.rules c.args.guard) z c.loop-r.self) (sym c.loop-r.invariant.view) c.loop-r.invariant.kept

pub loop-r-preserved : goal.loop-r-preserved
loop-r-preserved g c = record {
  at = c.mask_of.ensures.at;
  view = c.mask_of.ensures.view ∙ c.loop-r.invariant.view;
  kept = subst (λ (z : View). IsKept (g.L.Lifeguard.rules c.args.guard) z c.mask_of.new.self) c.loop-r.invariant.view c.mask_of.ensures.kept;
  keeps = λ q mask e. c.mask_of.ensures.keeps q mask (c.loop-r.invariant.keeps q mask e);
  known = one_more c.loop-r.r (state_in c.loop-r.self.tracker) (state_in c.mask_of.new.self.tracker) c.mask_of.result c.mask_of.ensures.keeps c.mask_of.ensures.known c.loop-r.invariant.known;
  others = c.mask_of.ensures.others ∙ ap (λ (z : State). record z { tracker = c.mask_of.new.self.tracker }) c.loop-r.invariant.others;
}

pub returns-clause-nothing : goal.returns-clause-nothing
returns-clause-nothing g c r from e =
    let h = held_there (state_in c.loop-r.self.tracker) r from e in
    let t = c.loop-r.invariant.known r (let l : r < 34 = h.0 in omega (arith, l, c.loop-r-test.false)) in
    known_not _ t.0 from (sym t.1 ∙ h.1)

pub returns-then-is_none-clause-nothing : goal.returns-then-is_none-clause-nothing
returns-then-is_none-clause-nothing g c r from e =
    let h = held_there (state_in c.args.self.now.tracker) r from e in
    let none : c.oldest.result ≡ None = (let empty = c.if-is_none.true in search rules) in
    c.oldest.ensures.none.0 none (r, from, h.1)
