use Rattle.std.proofs.Common.{◌≡◌, ◌+◌, ◌-◌, [], length, drop, ap, ◌∙◌, arith}
use Rattle.std.proofs.lemmas.List.{length-drop, drop_all}
use Rattle.guest_kernel.proofs.Moves.{appended, behind}
use Rattle.guest_kernel.proofs.kernel.append_bytes.Goals as goal

pub returns-clause-moved : goal.returns-clause-moved
returns-clause-moved c =
    let before = c.len-before.result in
    let room = c.deref_mut.result.now in
    let size : length c.deref_mut.result.now ≡ c.len-before.result + c.args.count = c.deref_mut.ensures.len ∙ c.in_ok-resize.ensures.len in
    let long : length c.read_bytes.new.into ≡ c.args.count =
    omega (arith, c.read_bytes.auto.into ∙ ap length (behind c.len-before.result c.deref_mut.result.now), length-drop c.len-before.result c.deref_mut.result.now, size) in
    let none : drop (length room - before) (drop before room) ≡ [] = drop_all (length room - before) (drop before room) (omega (arith, length-drop before room)) in
    record {
      moved = c.read_bytes.new.into;
      held = record { long = long; each = λ k within. c.in-Ok.ensures.value k (omega (arith, long)) };
      new_is = appended c.args.list.now.items room c.read_bytes.new.into _ _ _ before c.args.count _ (c.len-before.ensures ∙ c.args.list.now.ok.0)
          (c.deref_mut.ensures.value ∙ c.in_ok-resize.ensures.items) none long c.in_ok-resize.ensures.len;
    }
