use Rattle.std.proofs.Common.{◌≡◌, ◌++◌, map}
use Rattle.board_items.specs.BoardIterators.{items_left}
use Rattle.row_check.specs.Whole.{ids_of}
use Rattle.row_check.proofs.whole.ids_of.Given as goal

abbrev pub invariant-loop-id : goal.invariant-loop-id
invariant-loop-id l = l.ids.items ++ map (λ entry. entry.0) (items_left l.id-iterator) ≡ ids_of l.board
