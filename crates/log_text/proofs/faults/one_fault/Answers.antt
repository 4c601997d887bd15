use Rattle.log_text.proofs.OneFault.{over, on, one_of, none_of}
use Rattle.log_text.proofs.faults.one_fault.Goals as goal

pub lines-preserved : goal.lines-preserved
lines-preserved c = λ known.
    let found = c.in-Some-after_line.ensures.found in
    c.lines.invariant (on c.lines.rest.now c.in-Some-after_line.next.now found.0 found.1 known)

pub returns-clause-one : goal.returns-clause-one
returns-clause-one c =
    let none = c.in_default-after_line.ensures.none in
    one_of c.args.bytes.now c.in-Some.lines.now c.in-Some.field-0-0 c.in-Some.field-0-1 c.in-Some.ensures.found (c.lines.invariant (over c.lines.rest.now none.0 none.1))

pub returns-clause-none : goal.returns-clause-none
returns-clause-none c =
    let none = c.in_default-after_line.ensures.none in
    none_of c.args.bytes.now c.in-Some.lines.now c.in-Some.field-0-0 c.in-Some.field-0-1 c.in-Some.ensures.found (c.lines.invariant (over c.lines.rest.now none.0 none.1))
