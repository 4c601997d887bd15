use Rattle.std.proofs.Common.{arith, ◌≡◌, ◌+◌, ◌-◌, refl}
use Rattle.pl_base.proofs.Known.{next_piece}
use Rattle.pl_base.proofs.unread.Unread.read.Goals as goal

pub returns-clause-bytes : goal.returns-clause-bytes
returns-clause-bytes c =
    let k : c.self.inside.at + c.min-count.result - c.self.inside.at ≡ c.min-count.result = omega arith in
    rw (← c.self.view_is) (next_piece c.self.inside.bytes.items c.copy_from_slice.new.self _ c.self.inside.at c.min-count.result (rw (c.copy_from_slice.ensures.after, k, c.deref.ensures.value) refl) (omega arith))
