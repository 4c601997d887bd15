use Rattle.whence_top.proofs.ends.not_read.Goals as goal

pub returns-in-Fault-clause-noted : goal.returns-in-Fault-clause-noted
returns-in-Fault-clause-noted g c = rw c.in-Fault.is c.note.ensures

pub returns-in-TooLong-clause-noted : goal.returns-in-TooLong-clause-noted
returns-in-TooLong-clause-noted g c = rw c.in-TooLong.is c.note-in-TooLong.ensures
