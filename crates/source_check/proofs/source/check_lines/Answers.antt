use Rattle.std.proofs.Common.{◌≡◌, ◌∙◌, true, false, refl, sym}
use Rattle.source_check.proofs.source.check_lines.Goals as goal

pub lines-init : goal.lines-init
lines-init g c = record {
  going = λ _ limit began log follows. (log, follows);
  over = λ e. absurd cc;
  quiet = refl;
}

pub check_line-requires : goal.check_line-requires
check_line-requires g c =
    let limit = c.requires.0 in
    let began = c.requires.1 in
    let now = c.lines.invariant.going c.lines-test.true limit began c.requires.2 c.requires.3 in
    (limit, began, now.0, now.1)

pub lines-preserved-in-Ok-More : goal.lines-preserved-in-Ok-More
lines-preserved-in-Ok-More g c = record {
  going = λ more limit began log follows.
      let now = c.lines.invariant.going c.lines-test.true limit began log follows in
      let brings = c.in-Ok-More.ensures.step limit began now.0 now.1 in
      rw c.in-Ok-More.field-0-is at brings;
  over = λ done. let clash : true ≡ false = sym c.lines-test.true ∙ done in absurd cc;
  quiet = c.in-Ok-More.ensures.faults ∙ c.lines.invariant.quiet;
}

pub lines-preserved : goal.lines-preserved
lines-preserved g c = record {
  going = λ e. absurd cc;
  over = λ done limit began log follows.
      let now = c.lines.invariant.going c.lines-test.true limit began log follows in
      let brings = c.in-Ok-Over.ensures.step limit began now.0 now.1 in
      rw c.in-Ok-Over.field-0-is at brings;
  quiet = c.in-Ok-Over.ensures.faults ∙ c.lines.invariant.quiet;
}

pub returns-in-Ok-Found-clause-ok : goal.returns-in-Ok-Found-clause-ok
returns-in-Ok-Found-clause-ok g c = λ limit began log follows.
    let now = c.lines.invariant.going c.lines-test.true limit began log follows in
    let brings = c.in-Ok-Found.ensures.step limit began now.0 now.1 in
    let has = rw c.in-Ok-Found.field-0-is at brings in
    c.told_last.ensures.ok limit began has

pub returns-in-Ok-Found-clause-end : goal.returns-in-Ok-Found-clause-end
returns-in-Ok-Found-clause-end g c = λ limit began log follows.
    let now = c.lines.invariant.going c.lines-test.true limit began log follows in
    let brings = c.in-Ok-Found.ensures.step limit began now.0 now.1 in
    let has = rw c.in-Ok-Found.field-0-is at brings in
    c.told_last.ensures.end limit began has

pub returns-in-Err-clause-end : goal.returns-in-Err-clause-end
returns-in-Err-clause-end g c = λ limit began log follows.
    let now = c.lines.invariant.going c.lines-test.true limit began log follows in
    c.in-Err.ensures.end limit began now.0 now.1

pub returns-clause-ok : goal.returns-clause-ok
returns-clause-ok g c = c.lines.invariant.over c.lines-test.false
