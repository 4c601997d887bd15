use Rattle.std.proofs.Common.{ℕ, drop, ◌≡◌, ◌+◌, ◌-◌, ◌%◌, ◌/◌, ◌≤◌, arith, sym, ◌∙◌, ap, true, false, length, Some, get_or}
use Rattle.std.proofs.lemmas.List.{length-take-le, length-drop}
use Rattle.guest_mem.specs.Memory.{bytes, mapped}
use Rattle.guest_mem.proofs.Pages.{mapped-bytes, not_mapped, bytes-page}
use Rattle.guest_mem.proofs.Numbers.{read_more, length-put_mid}
use Rattle.guest_mem.proofs.memory.PagedMem.read_bytes.Goals as goal

pub loop-done-preserved-in-Some-page : goal.loop-done-preserved-in-Some-page
loop-done-preserved-in-Some-page c =
    let at = c.args.addr + c.loop-done.done in
    let page = c.in-Some-page.page.now in
    let below : c.loop-done.done ≤ c.min-end.result = omega arith in
    let within : c.min-end.result ≤ length c.loop-done.into = omega arith in
    let room : c.min-end.result ≤ c.loop-done.done + (4096 - at % 4096) = omega arith in
    let long : length c.copy_out.new.into ≡ c.min-end.result - c.loop-done.done =
    c.copy_out.auto.into ∙ length-take-le (c.min-end.result - c.loop-done.done) (drop c.loop-done.done c.loop-done.into) (omega (arith, length-drop {A = ℕ})) in (
      omega (arith, length-put_mid c.loop-done.done c.min-end.result c.loop-done.into c.copy_out.new.into below within long),
      read_more (bytes c.args.self.now) c.args.addr c.loop-done.done c.min-end.result c.loop-done.into c.copy_out.new.into below within long c.loop-done.invariant.1 (λ k before.
          let same : (at + k) / 4096 ≡ at / 4096 = omega arith in
          bytes-page _ (at + k) page (rw same (sym c.in-Some-page.ensures.page))
          ∙ ap (λ i. Some (get_or page.bytes i 0)) (omega arith)
          ∙ ap Some (sym (c.copy_out.ensures k before))),
    )

pub loop-done-preserved : goal.loop-done-preserved
loop-done-preserved c =
    let at = c.args.addr + c.loop-done.done in
    let yes : mapped c.args.self.now (at / 4096) ≡ true = mapped-bytes _ at (c.in_default.ensures.first at (omega arith) (omega arith)) in
    let no : mapped c.args.self.now (at / 4096) ≡ false = not_mapped _ _ (sym c.in_default-page.ensures.page) in
    absurd (cc)
