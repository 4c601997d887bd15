use Rattle.std.proofs.Common.{◌≡◌, ◌-◌, length, take, drop, ap, sym, ◌∙◌, refl}
use Rattle.std.proofs.lemmas.List.{drop-drop}
use Rattle.guest_kernel.proofs.Moves.{after_read, behind}
use Rattle.guest_kernel.proofs.kernel.Kernel.read.Goals as goal

pub returns-clause-after : goal.returns-clause-after
returns-clause-after c =
    let count = c.min-count.result in
    let taken = c.self.inside.taken in
    let input = c.deref.result.now in
    let left : take (length input - taken) (drop taken input) ≡ drop taken c.self.inside.input.items = behind taken input ∙ ap (drop taken) c.deref.ensures.value in
    rw c.moved.ensures (rw (← c.self.view_is) (after_read _ _ c.args.args.a1 count _ c.fill.ensures.bytes c.fill.ensures.mapped c.fill.ensures.texts (ap (take count) left)
    refl (sym (drop-drop count taken c.self.inside.input.items)) refl))
