use Rattle.std.proofs.Common.{◌≡◌, ℕ, ◌/◌, true, false, Some, ap, sym, ◌∙◌, subst}
use mathlib.Core.Logic.{dite}
use native.Mathlib.Decide.{ℕ_discrete}
use Rattle.pl_event.specs.Candidates.{Shares}
use Rattle.pl_event.specs.Conflicts.{access_of}
use Rattle.log_clocks.specs.Clocks.{time}
use Rattle.log_clocks.proofs.Accesses.{own_none, no_candidate, no_access, all_known, one_unknown}
use Rattle.log_clocks.proofs.lasts.LastAccesses.are_known.Goals as goal

pub returns-in-Ld-clause-yes : goal.returns-in-Ld-clause-yes
returns-in-Ld-clause-yes c size lines i m has is known u k low shares =
    let b = c.args.event.now in
    let block : c.block.result ≡ c.in-Ld.addr / size = c.block.ensures.block ∙ ap (λ (z : ℕ). c.in-Ld.addr / z) has.sized in
    dite (ℕ_discrete u b.hart)
    (λ e. absurd (own_none c.args.self.now size lines i m has b is k (subst (λ (z : ℕ). Shares size lines z k b.hart m) e shares)))
    (λ ne. all_known c.args.self.now size lines i m has b is c.block.result false (ap (access_of size) c.in-Ld.is ∙ (λ d. Some (record { block = sym block d; store = false }))) u ne (time c.args.clock.now u)
    (c.is_known.ensures.yes known u low ne) k shares)

pub returns-in-St-clause-yes : goal.returns-in-St-clause-yes
returns-in-St-clause-yes c size lines i m has is known u k low shares =
    let b = c.args.event.now in
    let block : c.block-in-St.result ≡ c.in-St.addr / size = c.block-in-St.ensures.block ∙ ap (λ (z : ℕ). c.in-St.addr / z) has.sized in
    dite (ℕ_discrete u b.hart)
    (λ e. absurd (own_none c.args.self.now size lines i m has b is k (subst (λ (z : ℕ). Shares size lines z k b.hart m) e shares)))
    (λ ne. all_known c.args.self.now size lines i m has b is c.block-in-St.result true (ap (access_of size) c.in-St.is ∙ (λ d. Some (record { block = sym block d; store = true }))) u ne (time c.args.clock.now u)
    (c.is_known-in-St.ensures.yes known u low ne) k shares)

pub returns-in_default-clause-yes : goal.returns-in_default-clause-yes
returns-in_default-clause-yes c size lines i m has is known u k low shares =
    absurd (no_candidate c.args.self.now size lines i m has c.args.event.now is (no_access size c.args.event.now.kind c.in_default.not-Ld c.in_default.not-St) u k shares)

pub returns-in-Ld-clause-no : goal.returns-in-Ld-clause-no
returns-in-Ld-clause-no c size lines i m has is fails all =
    let b = c.args.event.now in
    let block : c.block.result ≡ c.in-Ld.addr / size = c.block.ensures.block ∙ ap (λ (z : ℕ). c.in-Ld.addr / z) has.sized in
    let t = c.is_known.ensures.no fails in
    one_unknown c.args.self.now size lines i m has b is c.block.result false (ap (access_of size) c.in-Ld.is ∙ (λ d. Some (record { block = sym block d; store = false }))) t.0 t.2 (time c.args.clock.now t.0)
    t.3 (λ k s. all t.0 k t.1 s)

pub returns-in-St-clause-no : goal.returns-in-St-clause-no
returns-in-St-clause-no c size lines i m has is fails all =
    let b = c.args.event.now in
    let block : c.block-in-St.result ≡ c.in-St.addr / size = c.block-in-St.ensures.block ∙ ap (λ (z : ℕ). c.in-St.addr / z) has.sized in
    let t = c.is_known-in-St.ensures.no fails in
    one_unknown c.args.self.now size lines i m has b is c.block-in-St.result true (ap (access_of size) c.in-St.is ∙ (λ d. Some (record { block = sym block d; store = true }))) t.0 t.2 (time c.args.clock.now t.0)
    t.3 (λ k s. all t.0 k t.1 s)
