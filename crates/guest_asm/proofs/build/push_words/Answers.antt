use Rattle.std.proofs.Common.{Bool, [], cond, map, Ok, ap, sym, ◌∙◌}
use Rattle.guest_asm.specs.declared.number.Number.{Number}
use Rattle.guest_asm.specs.Jobs.{raw}
use Rattle.guest_asm.proofs.Building.{raw_cells}
use Rattle.guest_asm.proofs.build.push_words.Goals as goal

pub returns-in_ok-push_numbers : goal.returns-in_ok-push_numbers
returns-in_ok-push_numbers c =
    let here = map (λ (n : Number). raw n.bits) c.args.numbers.now in
    record {
      cells = here;
      words = map (λ (n : Number). n.bits) c.args.numbers.now;
      is_emitted = ap (λ (t : Bool). Ok (cond t here [])) (sym c.is_text.ensures ∙ c.if-is_text.true);
      is_appended = c.in_ok-push_numbers.ensures;
      are_cells = raw_cells c.args.numbers.now;
    }
