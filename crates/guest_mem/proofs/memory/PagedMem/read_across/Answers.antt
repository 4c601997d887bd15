use Rattle.std.proofs.Common.{◌≡◌, ◌+◌, arith, ◌∙◌, ℕ, sym, ap, Option, length, get_or, unwrap_or}
use Rattle.std.proofs.lemmas.List.{length-take, get_or_append_left}
use Rattle.guest_mem.proofs.Numbers.{number_same, at_most_four}
use Rattle.guest_mem.proofs.memory.PagedMem.read_across.Goals as goal

pub returns-clause-value : goal.returns-clause-value
returns-clause-value c =
    let long : length c.read_bytes.new.into ≡ c.args.width =
    omega (arith, c.read_bytes.auto.into, c.from.ensures, length-take {A = ℕ}, at_most_four _ c.requires) in
    c.number.ensures.number
    ∙ number_same _ _ 0 c.args.addr c.args.width (λ k before.
    get_or_append_left c.read_bytes.new.into _ 0 (0 + k) (omega arith)
    ∙ ap (λ i. get_or c.read_bytes.new.into i 0) (omega arith)
    ∙ sym (ap (λ (byte : Option ℕ). unwrap_or byte 0) (c.in_ok-read_bytes.ensures.value k (omega arith))))
