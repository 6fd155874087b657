use Rattle.row_check.proofs.whole.rows_of_changed.Given as goal

abbrev pub ghosts-rows_counted : goal.ghosts-rows_counted
ghosts-rows_counted a = record { name = a.blank.name; parts = a.blank.parts }
