use Rattle.std.proofs.Common.{◌≡◌, take}
use Rattle.std.specs.List.{filter}
use Rattle.box_index.specs.declared.entry.Entry.{Entry}
use Rattle.row_check.specs.RowsOfTile.{is_changed}
use Rattle.row_check.proofs.tile.touched_of.Given as goal

abbrev pub invariant-loop-entry : goal.invariant-loop-entry
invariant-loop-entry l = l.touched.items ≡ filter (λ (e : Entry). is_changed l.changed e.id) (take l.entry-index l.near)
