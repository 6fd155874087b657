use Rattle.tile_rows.proofs.work.rows_of_tile.Given as goal

abbrev pub ghosts-rows_counted : goal.ghosts-rows_counted
ghosts-rows_counted a = record { name = a.blank.name; parts = a.blank.parts }
