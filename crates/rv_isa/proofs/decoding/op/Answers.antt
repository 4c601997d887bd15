use Rattle.std.proofs.Common.{sym, ◌∙◌}
use Rattle.rv_isa.proofs.Lookup.{made_op, none}
use Rattle.rv_isa.proofs.decoding.op.Goals as goal

pub returns-in_err-op : goal.returns-in_err-op
returns-in_err-op c = c.from_residual.ensures ∙ sym (none c.args.word (sym c.in_err-op.ensures))

pub returns : goal.returns
returns c = made_op c.args.word c.in_ok-op.op c.rd.result c.rs1.result c.rs2.result (sym c.in_ok-op.ensures) c.rd.ensures c.rs1.ensures c.rs2.ensures
