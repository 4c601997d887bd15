use Rattle.std.proofs.Common.{◌≡◌, ℕ, ◌/◌, List, Option, true, false, Some, None, slice_index_or, ap, sym, ◌∙◌, subst}
use mathlib.Core.Logic.{dite}
use native.Mathlib.Decide.{ℕ_discrete}
use Rattle.pl_event.specs.Candidates.{Shares}
use Rattle.pl_event.specs.Conflicts.{access_of}
use Rattle.pl_event.specs.Needs.{IsMost}
use Rattle.pl_event.proofs.Before.{eight}
use Rattle.log_clocks.specs.declared.lasts.Row.{Row}
use Rattle.pl_event.specs.Edges.{some_number}
use Rattle.log_clocks.specs.inner.Rows.{newest}
use Rattle.log_clocks.proofs.Accesses.{own_none, no_candidate, candidate, no_access}
use Rattle.log_clocks.proofs.lasts.LastAccesses.candidates.Goals as goal

pub returns-in-Ld : goal.returns-in-Ld
returns-in-Ld c size lines i m has is u low =
    let b = c.args.event.now in
    let block : c.block.result ≡ c.in-Ld.addr / size = c.block.ensures.block ∙ ap (λ (z : ℕ). c.in-Ld.addr / z) has.sized in
    dite (ℕ_discrete u b.hart)
    (λ e. subst (λ (z : ℕ × Option ℕ). IsMost (λ k. Shares size lines z.0 k b.hart m) z.1) (λ d. (sym e d, sym (ap (λ (z : ℕ). slice_index_or c.conflicting.result z None) e ∙ c.conflicting.ensures.own) d)) (own_none c.args.self.now size lines i m has b is))
    (λ ne. subst (λ (o : Option ℕ). IsMost (λ k. Shares size lines u k b.hart m) o) (sym (c.conflicting.ensures.others u low ne ∙ ap (λ (z : Row). some_number (newest z false u)) c.row.ensures))
    (candidate c.args.self.now size lines i m has b is c.block.result false (ap (access_of size) c.in-Ld.is ∙ (λ d. Some (record { block = sym block d; store = false }))) u ne))

pub returns-in-St : goal.returns-in-St
returns-in-St c size lines i m has is u low =
    let b = c.args.event.now in
    let block : c.block-in-St.result ≡ c.in-St.addr / size = c.block-in-St.ensures.block ∙ ap (λ (z : ℕ). c.in-St.addr / z) has.sized in
    dite (ℕ_discrete u b.hart)
    (λ e. subst (λ (z : ℕ × Option ℕ). IsMost (λ k. Shares size lines z.0 k b.hart m) z.1) (λ d. (sym e d, sym (ap (λ (z : ℕ). slice_index_or c.conflicting-in-St.result z None) e ∙ c.conflicting-in-St.ensures.own) d)) (own_none c.args.self.now size lines i m has b is))
    (λ ne. subst (λ (o : Option ℕ). IsMost (λ k. Shares size lines u k b.hart m) o) (sym (c.conflicting-in-St.ensures.others u low ne ∙ ap (λ (z : Row). some_number (newest z true u)) c.row-in-St.ensures))
    (candidate c.args.self.now size lines i m has b is c.block-in-St.result true (ap (access_of size) c.in-St.is ∙ (λ d. Some (record { block = sym block d; store = true }))) u ne))

pub returns-in_default : goal.returns-in_default
returns-in_default c size lines i m has is u low =
    let b = c.args.event.now in
    subst (λ (o : Option ℕ). IsMost (λ k. Shares size lines u k b.hart m) o) (sym (ap (λ (z : List (Option ℕ)). slice_index_or z u None) c.none.ensures ∙ eight {A = Option ℕ} None u))
    (no_candidate c.args.self.now size lines i m has b is (no_access size b.kind c.in_default.not-Ld c.in_default.not-St) u)
