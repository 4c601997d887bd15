use Rattle.std.proofs.Common.{rules}
use Rattle.std.proofs.lemmas.Result.{on_ok_weaker}
use Rattle.whence_trail.proofs.TrailLemmas.{next_kept, number_is}
use Rattle.whence_trail.proofs.trail.Trail.take.Goals as goal

pub returns : goal.returns
returns c =
    on_ok_weaker c.follow.result
    (λ blocks pairs before few kept.
    let number = c.saturating_add-number.result in
    let is = number_is pairs before c.args.event.now c.args.pc number c.args.self.now kept c.requires few (search rules) in
    next_kept pairs before c.args.event.now c.args.pc number c.args.self.now kept _ c.requires is (search rules) (search rules) (search rules))
    c.follow.ensures
