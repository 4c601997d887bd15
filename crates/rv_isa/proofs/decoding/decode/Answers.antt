use Rattle.std.proofs.Common.{◌∙◌}
use Rattle.rv_isa.proofs.Reading.{of_row, of_no_row, valid_where_read}
use Rattle.rv_isa.proofs.decoding.decode.Goals as goal

pub returns-clause-row : goal.returns-clause-row
returns-clause-row c = λ o h. c.by_opcode.ensures ∙ of_row c.args.word o h

pub returns-clause-none : goal.returns-clause-none
returns-clause-none c = rw c.by_opcode.ensures (of_no_row c.args.word)

pub returns-clause-valid : goal.returns-clause-valid
returns-clause-valid c = rw c.by_opcode.ensures (valid_where_read c.args.word)
