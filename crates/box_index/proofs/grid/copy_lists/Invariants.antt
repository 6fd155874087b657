use Rattle.std.proofs.Common.{take}
use Rattle.std.specs.List.{AllZip}
use Rattle.box_index.specs.SharedLists.{IsEqual}
use Rattle.box_index.proofs.grid.copy_lists.Given as goal

abbrev pub invariant-loop-list : goal.invariant-loop-list
invariant-loop-list l = AllZip IsEqual (take l.list-index l.list-items) l.copies.items
