use Rattle.std.proofs.Common.{◌≡◌, ◌++◌}
use Rattle.board_items.specs.BoardIterators.{unit_left}
use Rattle.board_edits.specs.Making.{ids_of}
use Rattle.board_edits.proofs.touching.ids_in.Given as goal

abbrev pub invariant-loop-id : goal.invariant-loop-id
invariant-loop-id l = l.ids.items ++ ids_of (unit_left l.id-iterator) ≡ ids_of (unit_left l.items)
