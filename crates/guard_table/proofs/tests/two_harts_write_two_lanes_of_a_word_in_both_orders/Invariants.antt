use Rattle.guard_table.proofs.tests.two_harts_write_two_lanes_of_a_word_in_both_orders.Given as goal

abbrev pub ghosts-flipped : goal.ghosts-flipped
ghosts-flipped g a = record { name = a.blank.name; parts = a.blank.parts }
