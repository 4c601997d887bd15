use Rattle.guard_table.proofs.SeatLemmas as seats
use Rattle.guard_table.proofs.laws.seat_steps_keep_core.Goals as goal

pub returns-clause-seat : goal.returns-clause-seat
returns-clause-seat _ c s id h v at inside new k r = seats.makes c s k r id v at.0 at.1 h inside new

pub returns-clause-note : goal.returns-clause-note
returns-clause-note _ c s id v at k r = seats.tells c s k r id v at.0 at.1

pub returns-clause-learn : goal.returns-clause-learn
returns-clause-learn _ c s id other v w at there k r = seats.learns c s k r id v at.0 other w there.0 at.1 there.1

pub returns-clause-give_back : goal.returns-clause-give_back
returns-clause-give_back _ c s id other v w at there full k r = seats.takes_back c s k r id v at.0 other w there.0 at.1 there.1 full
