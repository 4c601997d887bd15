use Rattle.order_core.specs.Course.{course_of}
use Rattle.order_core.proofs.Known.{known}
use Rattle.order_core.proofs.TurnLemmas.{first_turn, may_write, has_read, has_written, passes, next_turn}
use Rattle.order_core.proofs.laws.operations_in_turn.Goals as goal

pub returns-clause-write : goal.returns-clause-write
returns-clause-write _ plan lawful k h m i o turn writes = may_write plan (known (course_of plan) lawful) k h m i o turn writes

pub returns-clause-after_read : goal.returns-clause-after_read
returns-clause-after_read _ plan lawful k h m i o turn reads = has_read plan (known (course_of plan) lawful) k h m i o turn reads

pub returns-clause-after_write : goal.returns-clause-after_write
returns-clause-after_write _ plan lawful k h m i o turn writes n = has_written plan (known (course_of plan) lawful) k h m i o turn writes n

pub returns-clause-first : goal.returns-clause-first
returns-clause-first _ plan lawful h met = first_turn plan (known (course_of plan) lawful) h met

pub returns-clause-passed : goal.returns-clause-passed
returns-clause-passed _ plan lawful k h m i end = passes plan (known (course_of plan) lawful) h k m i end

pub returns-clause-next : goal.returns-clause-next
returns-clause-next _ plan lawful k h m i end met = next_turn plan (known (course_of plan) lawful) h k m i end met
