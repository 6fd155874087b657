-- Where entries begin.
use Rattle.std.specs.Prelude.{◌≤◌}
use Rattle.box_index.specs.declared.corners.Corner.{Corner}
use Rattle.box_index.specs.declared.entry.Entry.{Entry}
use Rattle.box_index.specs.Tiles.{lane}

-- the entry begins neither right of the column nor below the row
pub record BeginsBy (corner : Corner) (e : Entry) : Type 0 where
  pub left : lane e.bounds.left ≤ corner.column
  pub top : lane e.bounds.top ≤ corner.row
