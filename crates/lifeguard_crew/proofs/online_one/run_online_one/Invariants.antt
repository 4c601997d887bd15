use Rattle.lifeguard_crew.proofs.online_one.run_online_one.Given as goal

abbrev pub ghosts-fed_crew : goal.ghosts-fed_crew
ghosts-fed_crew g a = record { name = a.blank.name; parts = a.blank.parts }
