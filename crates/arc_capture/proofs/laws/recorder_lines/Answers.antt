use Rattle.arc_capture.proofs.laws.recorder_lines.Goals as goal

pub returns-clause-lines : goal.returns-clause-lines
returns-clause-lines c placer marker size events lines has = record { full = has.marked.full; whole = has.marked.whole; reduced = has.marked.reduced; eight = has.marked.eight }

pub returns-clause-inside : goal.returns-clause-inside
returns-clause-inside c placer marker size events lines has = has.inside
