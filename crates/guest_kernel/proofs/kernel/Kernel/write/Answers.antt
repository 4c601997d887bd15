use Rattle.std.proofs.Common.{inl, arith, refl}
use Rattle.guest_kernel.specs.Moves.{Appends}
use Rattle.guest_kernel.proofs.Moves.{after_write, mapped_of_list}
use Rattle.guest_kernel.proofs.kernel.Kernel.write.Goals as goal

pub returns-clause-answer : goal.returns-clause-answer
returns-clause-answer c =
    let appends : Appends c.self.inside.mem c.args.args.a1 c.args.args.a2 c.self.inside.output.items c.append_bytes.new.list.items = c.in_ok-append_bytes.ensures.moved in
    rw (← c.self.view_is) (inl (record { few = omega arith; all_mapped = mapped_of_list _ _ _ _ appends.held; room = omega arith }, c.moved.ensures))

pub returns-clause-after : goal.returns-clause-after
returns-clause-after c =
    let appends : Appends c.self.inside.mem c.args.args.a1 c.args.args.a2 c.self.inside.output.items c.append_bytes.new.list.items = c.in_ok-append_bytes.ensures.moved in
    rw c.moved.ensures (rw (← c.self.view_is) (after_write _ _ c.args.args.a1 c.args.args.a2 appends.moved (λ k within. appends.held.each k (omega (arith, appends.held.long))) appends.held.long refl refl refl appends.new_is))
