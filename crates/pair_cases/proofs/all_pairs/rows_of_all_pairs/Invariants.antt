use Rattle.pair_cases.proofs.all_pairs.rows_of_all_pairs.Given as goal

abbrev pub ghosts-counted : goal.ghosts-counted
ghosts-counted a = record { name = a.blank.name; parts = a.blank.parts }
