use Rattle.board_cases.proofs.tested.rows_on.Given as goal

abbrev pub ghosts-rows_of_pairs : goal.ghosts-rows_of_pairs
ghosts-rows_of_pairs a = record { name = a.blank.name; parts = a.blank.parts }
