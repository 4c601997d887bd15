use Rattle.std.proofs.Common.{◌≡◌, ℕ, ◌+◌, ◌<◌, sym, ap, ◌∙◌, subst}
use Rattle.pl_event.specs.declared.event.Kind.{Kind}
use Rattle.pl_event.specs.declared.event.Kind.TheVariants.{Op}
use Rattle.guard_table.specs.declared.view.View.{View}
use Rattle.guard_table.specs.Seats.{seat_view}
use Rattle.worker_records.specs.declared.state.State.{State}
use Rattle.worker_records.specs.Plain.{found_none}
use Rattle.worker_records.specs.States.{IsKept, IsMade, IsNext}
use Rattle.worker_records.proofs.MadeLemmas.{made_from, still_next}
use Rattle.worker_records.proofs.PlainLemmas.{join_made}
use Rattle.worker_records.proofs.state.State.join_masks.Goals as goal

pub returns-clause-made : goal.returns-clause-made
returns-clause-made g c =
    let rules = g.L.Lifeguard.rules c.args.guard in
    let v = seat_view c.args.seat.now in
    let s = c.args.self.now in
    let s2 : State = c.mask_of-b.new.self in
    let kind : Kind = Op c.args.rd c.args.r1 c.args.r2 in
    let all : s2 ≡ record s { tracker = s2.tracker } = c.mask_of-b.ensures.others ∙ ap (λ (z : State). record z { tracker = s2.tracker }) c.mask_of-a.ensures.others in
    let same : s2.taken ≡ s.taken = ap (λ (z : State). z.taken) all in
    let kept2 : IsKept rules v s2 = subst (λ (z : View). IsKept rules z s2) c.mask_of-a.ensures.view c.mask_of-b.ensures.kept in
    let next2 : IsNext rules v s2 kind = still_next rules v s s2 kind c.requires.next kept2 same in
    let t : State = record s2 { tracker = c.set.new.self } in
    subst (λ (z : View). IsMade rules v z s t kind found_none) (sym (c.mask_of-b.ensures.view ∙ c.mask_of-a.ensures.view))
    (made_from rules v v s s2 t kind found_none same (ap (λ (z : State). z.reports) all)
    (join_made rules v s2 c.set.new.self c.args.rd c.args.r1 c.args.r2 c.mask_of-a.result c.mask_of-b.result c.requires.register c.requires.first c.requires.second (c.mask_of-b.ensures.keeps c.args.r1 c.mask_of-a.result c.mask_of-a.ensures.known) c.mask_of-b.ensures.known
    c.joins.result c.joins.ensures c.set.ensures next2))
