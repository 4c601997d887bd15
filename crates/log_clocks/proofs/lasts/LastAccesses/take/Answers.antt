use Rattle.std.proofs.Common.{◌≡◌, ℕ, ◌/◌, true, false, Some, ap, sym, ◌∙◌}
use Rattle.std.proofs.lemmas.Result.{IfOk-weaker}
use Rattle.pl_event.specs.Conflicts.{access_of}
use Rattle.log_clocks.proofs.Accesses.{more_last, still_last, no_access, at_one}
use Rattle.pl_event.specs.declared.event.Event.{Event}
use Rattle.log_clocks.proofs.lasts.LastAccesses.take.Goals as goal

pub returns-in-Ld-clause-ok : goal.returns-in-Ld-clause-ok
returns-in-Ld-clause-ok c size lines i has is =
    let block : c.block.result ≡ c.in-Ld.addr / size = c.block.ensures.block ∙ ap (λ (z : ℕ). c.in-Ld.addr / z) has.sized in
    IfOk-weaker c.note.result _ _
    (λ _ noted. more_last size lines i c.args.self.now c.note.new.self has c.args.number c.args.event.now is c.block.result false
    (ap (access_of size) c.in-Ld.is ∙ (λ d. Some (record { block = sym block d; store = false }))) c.note.ensures.size noted)
    (c.note.ensures.noted has.indexed)

pub returns-in-St-clause-ok : goal.returns-in-St-clause-ok
returns-in-St-clause-ok c size lines i has is =
    let block : c.block-in-St.result ≡ c.in-St.addr / size = c.block-in-St.ensures.block ∙ ap (λ (z : ℕ). c.in-St.addr / z) has.sized in
    IfOk-weaker c.note-in-St.result _ _
    (λ _ noted. more_last size lines i c.args.self.now c.note-in-St.new.self has c.args.number c.args.event.now is c.block-in-St.result true
    (ap (access_of size) c.in-St.is ∙ (λ d. Some (record { block = sym block d; store = true }))) c.note-in-St.ensures.size noted)
    (c.note-in-St.ensures.noted has.indexed)

pub returns-in_default-clause-ok : goal.returns-in_default-clause-ok
returns-in_default-clause-ok c size lines i has is = still_last size lines i c.args.self.now has
    (λ n event x. ap (λ (z : Event). access_of size z.kind) (at_one lines i n c.args.number event c.args.event.now x is) ∙ no_access size c.args.event.now.kind c.in_default.not-Ld c.in_default.not-St)
