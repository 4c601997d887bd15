use Rattle.std.proofs.Common.{rules, ℕ, ◌+◌, ◌<◌, refl, set, slice_index, subst, sym, arith}
use Rattle.arc_capture.proofs.Capturing.{next_fits, captured}
use Rattle.arc_capture.proofs.capture.Capture.take.Goals as goal

pub overflow_add-number : goal.overflow_add-number
overflow_add-number c =
    let r = c.record_hart-hart.result in
    let low : c.record_hart-hart.result < 8 = subst (λ (z : ℕ). z < 8) (sym c.record_hart-hart.ensures) c.requires.2.hart in
    let fits : slice_index c.args.self.now.records c.record_hart-hart.result + 1 < 4294967296 = next_fits c.args.self.now c.requires.0 c.requires.1 c.args.line.now c.requires.2 r low in
    omega arith

pub returns-clause-ok : goal.returns-clause-ok
returns-clause-ok c size lines may =
    let old = c.args.self.now in
    let r = c.record_hart-hart.result in
    let number = slice_index old.records r + 1 in (
      c.candidates-found.ensures size lines may,
      captured old (record { records = set old.records r number; lasts = c.pass.new.self }) size lines c.args.line.now r number may c.record_hart-hart.ensures (search rules) refl refl
          (λ z g i has is. c.in_ok-pass.ensures.ok z g i has is),
    )
