use Rattle.std.proofs.Common.{◌∙◌, ap, sym, List}
use Rattle.std.specs.Option.{option_map}
use Rattle.guest_asm.specs.declared.scan.Row.{Row}
use Rattle.guest_asm.specs.Lines.{shown}
use Rattle.guest_asm.specs.Rules.{statements_in, lacks}
use Rattle.guest_asm.proofs.Reading.{read-push, read-form, read-broken, read-missing, read-complete, fits-unbroken, new-unbroken}
use Rattle.guest_asm.proofs.Whole.{first_fault}
use Rattle.guest_asm.proofs.scan.first_pass.Goals as goal

pub returns-in_default-clause-fault : goal.returns-in_default-clause-fault
returns-in_default-clause-fault c =
    rw c.refused.ensures
    (first_fault c.args.bytes.now _
    (read-form c.args.bytes.now c.lines.rest.now c.cut_at.result.0.now c.cut_at.result.1.now c.lines.number c.lines.scan c.lines.invariant
    (sym c.is_empty.ensures ∙ c.lines-test.true) c.cut_at.ensures.before c.cut_at.ensures.after
    (sym c.in_ok-line.ensures.value ∙ ap (option_map shown) c.in_default.is)))

pub returns-in-Some-broken-clause-fault : goal.returns-in-Some-broken-clause-fault
returns-in-Some-broken-clause-fault c =
    rw c.refused-in-Some-broken.ensures
    (first_fault c.args.bytes.now _
    (read-broken c.args.bytes.now c.lines.rest.now c.cut_at.result.0.now c.cut_at.result.1.now c.lines.number c.lines.scan c.lines.invariant
    (sym c.is_empty.ensures ∙ c.lines-test.true) c.cut_at.ensures.before c.cut_at.ensures.after
    (shown c.in-Some.line) c.in-Some-broken.cause (sym c.in_ok-line.ensures.value ∙ ap (option_map shown) c.in-Some.is)
    (sym (c.broken.ensures c.lines.invariant.before c.lines.invariant.keeps) ∙ c.in-Some-broken.is)))

pub add-requires-clause-fits : goal.add-requires-clause-fits
add-requires-clause-fits c =
    fits-unbroken c.lines.invariant.before c.lines.scan (shown c.in-Some.line) c.lines.invariant.keeps
    (sym (c.broken.ensures c.lines.invariant.before c.lines.invariant.keeps) ∙ c.in_default-broken.is)

pub add-requires-clause-new : goal.add-requires-clause-new
add-requires-clause-new c =
    new-unbroken c.lines.invariant.before c.lines.scan (shown c.in-Some.line) c.lines.invariant.keeps
    (sym (c.broken.ensures c.lines.invariant.before c.lines.invariant.keeps) ∙ c.in_default-broken.is)

pub lines-preserved : goal.lines-preserved
lines-preserved c =
    read-push c.args.bytes.now c.lines.rest.now c.cut_at.result.0.now c.cut_at.result.1.now c.lines.number c.lines.scan c.lines.invariant
    (sym c.is_empty.ensures ∙ c.lines-test.true) c.cut_at.ensures.before c.cut_at.ensures.after
    (shown c.in-Some.line) c.add.new.self (sym c.in_ok-line.ensures.value ∙ ap (option_map shown) c.in-Some.is)
    (sym (c.broken.ensures c.lines.invariant.before c.lines.invariant.keeps) ∙ c.in_default-broken.is)
    (c.in_ok-add.ensures.kept c.lines.invariant.before c.lines.invariant.at c.lines.invariant.keeps)

pub returns-then-is_incomplete-clause-fault : goal.returns-then-is_incomplete-clause-fault
returns-then-is_incomplete-clause-fault c =
    rw c.refused-then-is_incomplete.ensures
    (first_fault c.args.bytes.now _
    (read-missing c.args.bytes.now c.lines.rest.now c.lines.number c.lines.scan c.lines.invariant (sym c.is_empty.ensures ∙ c.lines-test.false)
    (ap (λ (rs : List Row). lacks (statements_in rs) c.lines.scan.place.words) (sym c.as_slice.ensures.value) ∙ sym c.is_incomplete.ensures ∙ c.if-is_incomplete.true)))

pub returns-clause-ok : goal.returns-clause-ok
returns-clause-ok c = (
  c.lines.invariant.before,
  read-complete c.args.bytes.now c.lines.rest.now c.lines.number c.lines.scan c.lines.invariant (sym c.is_empty.ensures ∙ c.lines-test.false)
      (ap (λ (rs : List Row). lacks (statements_in rs) c.lines.scan.place.words) (sym c.as_slice.ensures.value) ∙ sym c.is_incomplete.ensures ∙ c.if-is_incomplete.false),
  c.lines.invariant.keeps,
)
