use Rattle.std.proofs.Common.{◌≡◌, ◌+◌, length}
use Rattle.board_items.specs.BoardIterators.{unit_left}
use Rattle.board_items.specs.Back.{entries_of}
use Rattle.board_items.proofs.board.Board.count_of.Given as goal

-- those that have passed, and those that are still to come
abbrev pub invariant-loop-item : goal.invariant-loop-item
invariant-loop-item l = l.count + length (unit_left l.item-iterator) ≡ length (entries_of l.unit l.self.items)
